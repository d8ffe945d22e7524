use Rattle.std.proofs.Common.{◌≡◌, ◌∙◌, ◌<◌, ap, sym, subst, All, length, filter, not}
use Rattle.nest_core.specs.Museum.{is_container}
use Rattle.posting_core.proofs.ledger.Ledger.judge_lines.Goals as goal

pub objects_among-requires : goal.objects_among-requires
objects_among-requires c = subst (λ n. All (λ y. y < n) c.args.carried.now)
    (ap (λ B. length B.museum.things) (sym c.self.view_is)) c.requires

pub returns-clause-verdict : goal.returns-clause-verdict
returns-clause-verdict c =
    let crossing : c.deref.result.now ≡ filter (λ o. not (is_container c.args.self.now.museum o))
    c.args.carried.now =
    c.deref.ensures ∙ c.in_ok-objects.ensures.objects
    ∙ ap (λ B. filter (λ o. not (is_container B.museum o)) c.args.carried.now) c.self.view_is in
    rw (← crossing) c.judge_objects.ensures
