use Rattle.std.proofs.Common.{◌≡◌, Some, arith, rules, length, ℕ, Vec, Global, [], ◌∷◌, ◌++◌, ap}
use Rattle.std.proofs.Common.{sym, ◌∙◌}
use Rattle.std.proofs.lemmas.List.{append-nil}
use Rattle.std.specs.List.{filter_map, cons_option, range_with_len}
use Rattle.nest_core.specs.Museum.{place_code_of}
use Rattle.count_core.specs.Inside.{outer_place}
use Rattle.count_core.proofs.OuterPlaces.{fronts_more, itself_last}
use Rattle.count_core.proofs.outer.outer_places.Goals as goal
use Rattle.count_core.proofs.outer.outer_places.Goals.{in-Some+in_ok-push, in_default}

pub loop-end-preserved : goal.loop-end-preserved
loop-end-preserved c =
    let S = c.args.setup.now in
    let text = c.as_bytes-text.result.now in
    let end = c.loop-end.end in
    let before = filter_map (outer_place S text) (range_with_len 0 end) in
    elim c.match-outer_place.branch [
      | in-Some+in_ok-push w ↦
          ap (λ (v : Vec ℕ Global). v.items) w.places-is
          ∙ (w.in_ok-push.ensures.items ∙ (ap (λ xs. xs ++ w.in-Some.outer ∷ [])
          c.loop-end.invariant
          ∙ sym (fronts_more S text end ∙ ap (λ o. before ++ cons_option o [])
          (sym c.outer_place.ensures ∙ w.in-Some.is))))
      | in_default w ↦
          ap (λ (v : Vec ℕ Global). v.items) w.places-is
          ∙ (c.loop-end.invariant ∙ sym (fronts_more S text end
          ∙ (ap (λ o. before ++ cons_option o []) (sym c.outer_place.ensures ∙ w.in_default.is)
          ∙ append-nil before)))
    ]

pub returns : goal.returns
returns c =
    let S = c.args.setup.now in
    let text = c.as_bytes-text.result.now in
    let own : place_code_of S c.args.place ≡ Some text = search rules in
    let over : c.loop-end.end ≡ length text = omega (arith, c.loop-end-test.false) in
    c.in_ok-push-2.ensures.items
    ∙ (ap (λ xs. xs ++ c.args.place ∷ []) c.loop-end.invariant
    ∙ (ap (λ n. filter_map (outer_place S text) (range_with_len 0 n) ++ c.args.place ∷ []) over
    ∙ itself_last S text c.args.place c.is_museum.ensures own))
