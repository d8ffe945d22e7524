use Rattle.hub_program.proofs.store.OpenStore.close.Goals as goal

pub returns-clause-kept : goal.returns-clause-kept
returns-clause-kept g c = record {
  files = c.in_ok-files.files;
  copied = c.in_ok-files.ensures.copied;
}
