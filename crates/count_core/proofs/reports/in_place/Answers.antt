use Rattle.std.proofs.Common.{ℕ, ◌<◌, Vec, Global, All, [], ◌∷◌, ◌++◌, ap, sym, subst, ◌∙◌, arith}
use Rattle.std.proofs.Common.{length}
use Rattle.std.proofs.lemmas.List.Elements.{All-push}
use Rattle.count_core.specs.Reports.{is_in}
use Rattle.count_core.proofs.Ranges.{filter_with, filter_without}
use Rattle.count_core.proofs.reports.in_place.Goals as goal
use Rattle.count_core.proofs.reports.in_place.Goals.{then-is_in+in_ok-push, else-is_in}

pub loop-thing-preserved : goal.loop-thing-preserved
loop-thing-preserved c =
    let test = is_in c.args.ledger.now c.args.place.now in
    let x = c.loop-thing.thing in
    let of_setup : ℕ → Type 0 = λ y. y < length c.args.ledger.now.museum.things in
    let below : of_setup x = search arith in
    elim c.if-is_in.branch [
      | then-is_in+in_ok-push w ↦
          let pushed = ap (λ (v : Vec ℕ Global). v.items) w.things-is
          ∙ w.in_ok-push.ensures.items in (
            pushed ∙ (ap (λ xs. xs ++ x ∷ []) c.loop-thing.invariant.0
                ∙ sym (filter_with test x (sym c.is_in.ensures ∙ w.if-is_in.true))),
            subst (All of_setup) (sym pushed)
                (All-push of_setup c.loop-thing.things.items x c.loop-thing.invariant.1 below),
          )
      | else-is_in w ↦
          let same = ap (λ (v : Vec ℕ Global). v.items) w.things-is in (
            same ∙ (c.loop-thing.invariant.0
                ∙ sym (filter_without test x (sym c.is_in.ensures ∙ w.if-is_in.false))),
            subst (All of_setup) (sym same) c.loop-thing.invariant.1,
          )
    ]
