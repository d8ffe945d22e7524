-- A setup that grows without a change is the same setup.
use Rattle.std.specs.Prelude.{ℕ, ◌≡◌, ◌+◌, ◌<◌, ◌∷◌, ◌++◌, ◌||◌, [], Bool, true, false, cond}
use Rattle.std.specs.Prelude.{List, Option, Some, None, filter, length, map, slice_get}
use Rattle.std.specs.Prelude.{zero, suc, nat_lt, refl}
use Rattle.std.specs.List.{range_with_len}
use Rattle.std.specs.Option.{option_and_then}
use Rattle.std.proofs.Common.{ap, arith, inl, inr, length-append, sym, ◌∙◌}
use Rattle.std.proofs.lemmas.Bool.{eqb-true, ltb-false, not-false, or_parts}
use Rattle.std.proofs.lemmas.Bool.Decides.{eqb_tells}
use Rattle.std.proofs.lemmas.List.{append-nil, length-map, nil_from_length}
use Rattle.nest_core.specs.Museum.{Museum, normal_of, thing_codes}
use Rattle.nest_core.specs.Nest.{is_same_place}
use Rattle.nest_core.specs.SetupGrowing.{Extends}
use Rattle.reports.specs.GrowthTexts.{counts, has_changes, is_rehomed, rehomed_things}
use Rattle.count_core.proofs.Ranges.{filter_more}

-- nothing is added
kept_whole : {X : Type 0} (xs ys more : List X) → ys ≡ xs ++ more → length ys ≡ length xs → ys ≡ xs
kept_whole xs ys more is same =
    let none : length more ≡ 0 = omega (arith, ap length is, length-append xs more, same) in
    is ∙ (ap (λ zs. xs ++ zs) (nil_from_length more none) ∙ append-nil xs)

fails : (n : ℕ) (b : Bool) → length (cond b (n ∷ []) []) ≡ 0 → b ≡ false
fails n false none = refl
fails n true none = absurd (omega (arith, none))

-- no number passes
none_passes : (p : ℕ → Bool) (n x : ℕ) → length (filter p (range_with_len 0 n)) ≡ 0 → x < n
    → p x ≡ false
none_passes p zero x none lt = absurd (omega (arith, lt))
none_passes p (suc n) x none lt =
    let next : suc n ≡ n + 1 = omega arith in
    let both : length (filter p (range_with_len 0 n)) + length (cond (p n) (n ∷ []) []) ≡ 0 =
    sym (ap (λ k. length (filter p (range_with_len 0 k))) next
    ∙ (ap length (filter_more p n)
    ∙ length-append (filter p (range_with_len 0 n)) (cond (p n) (n ∷ []) []))) ∙ none in
    elim (eqb_tells x n) [
      | inl here ↦ ap p here.1 ∙ fails n (p n) (omega (arith, both))
      | inr there ↦ none_passes p n x (omega (arith, both)) (omega (arith, lt, there.1))
    ]

same_place : (a b : Option ℕ) → is_same_place a b ≡ true → a ≡ b
same_place (Some a) (Some b) e = ap Some (eqb-true a b e)
same_place None None e = refl
same_place (Some a) None e = absurd (cc)
same_place None (Some b) e = absurd (cc)

-- equal codes and normal places
same_things : (xs ys : List (List ℕ × Option ℕ)) → map (λ row. row.0) ys ≡ map (λ row. row.0) xs
    → ((x : ℕ) → x < length xs
    → option_and_then (λ row. row.1) (slice_get xs x)
    ≡ option_and_then (λ row. row.1) (slice_get ys x))
    → ys ≡ xs
same_things [] [] codes normals = refl
same_things [] (y ∷ ys) codes normals = absurd (cc)
same_things (x ∷ xs) [] codes normals = absurd (cc)
same_things (x ∷ xs) (y ∷ ys) codes normals =
    let code : y.0 ≡ x.0 = cc in
    let normal : x.1 ≡ y.1 = normals 0 (omega arith) in
    let rest : map (λ row. row.0) ys ≡ map (λ row. row.0) xs = cc in
    ap (λ a. (a, y.1) ∷ ys) code
    ∙ (ap (λ b. (x.0, b) ∷ ys) (sym normal)
    ∙ ap (λ zs. x ∷ zs) (same_things xs ys rest (λ k lt. normals (suc k) (omega (arith, lt)))))

none_of : (a b c d : Bool) → (a || b || c || d) ≡ false
    → (a ≡ false) × (b ≡ false) × (c ≡ false) × (d ≡ false)
none_of a b c d none =
    let three = or_parts (a || b || c) d none in
    let two = or_parts (a || b) c three.0 in
    let one = or_parts a b two.0 in
    (one.0, one.1, two.1, three.1)

pub unchanged : (S T : Museum) → Extends S T → has_changes S T ≡ false → T ≡ S
unchanged S T kept none =
    let c = counts S T in
    let parts = none_of (nat_lt 0 c.places) (nat_lt 0 c.things) (nat_lt 0 c.stations)
    (nat_lt 0 c.normal_locations) none in
    let places : T.places ≡ S.places = kept_whole S.places T.places kept.more_places kept.places
    (omega (
      arith,
      ltb-false 0 c.places parts.0,
      ap length kept.places,
      length-append S.places kept.more_places,
    )) in
    let codes : thing_codes T ≡ thing_codes S =
    kept_whole (thing_codes S) (thing_codes T) kept.more_things kept.things
    (omega (
      arith,
      ltb-false 0 c.things parts.1,
      ap length kept.things,
      length-append (thing_codes S) kept.more_things,
      length-map S.things (λ row. row.0),
      length-map T.things (λ row. row.0),
    )) in
    let stations : T.stations ≡ S.stations =
    kept_whole S.stations T.stations kept.more_stations kept.stations
    (omega (
      arith,
      ltb-false 0 c.stations parts.2,
      ap length kept.stations,
      length-append S.stations kept.more_stations,
    )) in
    let no_rehomed : length (rehomed_things S T) ≡ 0 =
    omega (arith, ltb-false 0 c.normal_locations parts.3) in
    let normals : (x : ℕ) → x < length S.things → normal_of S x ≡ normal_of T x = λ x lt.
    same_place (normal_of S x) (normal_of T x)
    (not-false (is_same_place (normal_of S x) (normal_of T x))
    (none_passes (is_rehomed S T) (length S.things) x no_rehomed lt)) in
    let things : T.things ≡ S.things = same_things S.things T.things codes normals in
    ap (λ xs. record T { stations = xs }) stations
    ∙ (ap (λ xs. record T { stations = S.stations; places = xs }) places
    ∙ (ap (λ xs. record T { stations = S.stations; places = S.places; things = xs }) things
    ∙ ap (λ gs. record S { growths = gs }) kept.growths))
