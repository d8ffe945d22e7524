use Rattle.std.proofs.Common.{ℕ, ◌<◌, Option, Vec, Global, All, sym, ap, subst, map, [], ◌∷◌, ◌++◌}
use Rattle.std.proofs.Common.{◌∙◌, arith, filter, length}
use Rattle.std.specs.List.{range_with_len}
use Rattle.std.proofs.lemmas.List.{map-append}
use Rattle.std.proofs.lemmas.List.Elements.{All-push}
use Rattle.count_core.specs.declared.answer.AwayObject.{AwayObject}
use Rattle.count_core.specs.Reports.{is_away, away_object, IsAwayIn}
use Rattle.count_core.proofs.Ranges.{filter_with, filter_without}
use Rattle.count_core.proofs.reports.away.Goals as goal
use Rattle.count_core.proofs.reports.away.Goals.{then-is_away+in_ok-push, else-is_away}

pub loop-object-preserved : goal.loop-object-preserved
loop-object-preserved c =
    let B = c.args.ledger.now in
    let x = c.loop-object.object in
    let below : x < length B.museum.things = search arith in
    elim c.if-is_away.branch [
      | then-is_away+in_ok-push w ↦
          let p = w.place_of-place.result in
          let new : AwayObject = record { object = x; place = p } in
          let pushed = ap (λ (v : Vec AwayObject Global). v.items) w.objects-is
          ∙ w.in_ok-push.ensures.items in (
            pushed
                ∙ (ap (λ xs. xs ++ new ∷ []) c.loop-object.invariant.0
                ∙ (ap (λ (q : Option ℕ). map (away_object B)
                (filter (is_away B) (range_with_len 0 x)) ++ record { object = x; place = q }
                ∷ []) w.place_of-place.ensures.place
                ∙ sym (ap (map (away_object B))
                (filter_with (is_away B) x (sym c.is_away.ensures ∙ w.if-is_away.true))
                ∙ map-append (away_object B) (filter (is_away B) (range_with_len 0 x)) (x ∷ [])))),
            subst (All (IsAwayIn B.museum)) (sym pushed)
                (All-push (IsAwayIn B.museum) c.loop-object.objects.items new
                c.loop-object.invariant.1 (below, w.place_of-place.ensures.within)),
          )
      | else-is_away w ↦
          let same = ap (λ (v : Vec AwayObject Global). v.items) w.objects-is in (
            same ∙ (c.loop-object.invariant.0
                ∙ sym (ap (map (away_object B))
                (filter_without (is_away B) x (sym c.is_away.ensures ∙ w.if-is_away.false)))),
            subst (All (IsAwayIn B.museum)) (sym same) c.loop-object.invariant.1,
          )
    ]
