use Rattle.std.proofs.Common.{◌≡◌, IfOk, ap, subst, sym, ◌∙◌}
use Rattle.sqlite.specs.Files.{file_state}
use Rattle.register_sql.specs.Stores.{in_store}
use Rattle.hub_program.specs.Judging.{IsJudged}
use Rattle.hub_program.proofs.growing.grown_and_closed.Goals as goal

pub returns-in_ok-closed-in-Ok-added-clause-grown
    : goal.returns-in_ok-closed-in-Ok-added-clause-grown
returns-in_ok-closed-in-Ok-added-clause-grown g c =
    let read = c.setup_of.new.register in
    let opened = c.judged-register.result.0 in
    let ledger = c.in-Ok-judged.ledger in
    let judged = subst (λ r. IfOk r
    (IsJudged (λ k. in_store (file_state k.conn)) c.in-Ok.setup read opened))
    c.in-Ok-judged.is c.judged-register.ensures.judged in
    let museum : c.in-Ok.setup ≡ ledger.museum =
    sym judged.opened.setup ∙ ap (λ L. L.museum) (sym judged.book) in
    record {
      read = read;
      same = c.setup_of.ensures;
      opened = opened;
      judged = subst (λ S. IsJudged (λ k. in_store (file_state k.conn)) S read opened ledger) museum
          judged;
      after = c.add_rows-added.new.register;
      grows = c.in-Ok-added.ensures.grows;
      kept = c.in_ok-closed-in-Ok-added.ensures.kept;
    }
