use Rattle.std.proofs.Common.{◌≡◌, ◌<◌, ◌∙◌, ap, arith, length, string_bytes, take}
use Rattle.std.proofs.lemmas.List.{take_all}
use Rattle.line_files.specs.Notes.{note_lines, notes}
use Rattle.line_files.proofs.NoteSteps.{empty_text}
use Rattle.line_files.proofs.TrialSteps.{posted_step, still_known, text_step}
use Rattle.line_files.proofs.trial.try_lines.Goals as goal

pub push_note-requires : goal.push_note-requires
push_note-requires c =
    still_known c.args.ledger.now c.loop-line.ledger c.args.station
    (take c.loop-line.line-index c.args.lines.now) c.loop-line.invariant.posted c.requires

pub post-requires : goal.post-requires
post-requires c =
    still_known c.args.ledger.now c.loop-line.ledger c.args.station
    (take c.loop-line.line-index c.args.lines.now) c.loop-line.invariant.posted c.requires

pub loop-line-preserved : goal.loop-line-preserved
loop-line-preserved c =
    let within : c.loop-line.line-index < length c.args.lines.now =
    omega (arith, c.loop-line-test.true, c.loop-line.auto.line-index-end) in record {
      posted =
          posted_step c.args.ledger.now c.loop-line.ledger c.post.new.ledger c.args.station
          c.loop-line.line-index c.args.lines.now c.line-item.result within c.line-item.is
          c.loop-line.invariant.posted c.in_ok-post.ensures.ok;
      text =
          text_step c.args.prefix.now (string_bytes c.loop-line.text)
          (string_bytes c.push_note.new.text) c.args.ledger.now c.loop-line.ledger
          c.args.station c.loop-line.line-index c.args.lines.now c.line-item.result within
          c.line-item.is c.loop-line.invariant.posted c.loop-line.invariant.text
          c.in_ok-push_note.ensures;
    }

pub returns-clause-applied : goal.returns-clause-applied
returns-clause-applied c =
    let whole : take c.loop-line.line-index c.args.lines.now ≡ c.args.lines.now =
    take_all c.loop-line.line-index c.args.lines.now (omega (arith, c.loop-line-test.false)) in
    empty_text c.is_empty-all_applied.result c.as_str.result.now (string_bytes c.loop-line.text)
    c.args.prefix.now (notes c.args.ledger.now c.args.station c.args.lines.now)
    c.is_empty-all_applied.ensures c.as_str.ensures.value
    (c.loop-line.invariant.text
    ∙ ap (λ lines. note_lines c.args.prefix.now (notes c.args.ledger.now c.args.station lines))
    whole)
