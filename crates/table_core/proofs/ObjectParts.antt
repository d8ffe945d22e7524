-- The objects of a cell, one after the other.
use Rattle.std.proofs.Common.{◌≡◌, ℕ, ◌+◌, Bool, true, false, not, cond, List, [], ◌∷◌}
use Rattle.std.proofs.Common.{◌++◌, suc, length, drop, Option, None, Some, refl, sym, ap, ◌∙◌}
use Rattle.std.proofs.Common.{arith, length-append}
use Rattle.std.specs.Prelude.{take_while}
use Rattle.std.specs.Option.{option_or}
use Rattle.std.specs.List.{before_first, after_first, prefix_len, slice_split, onto_first}
use Rattle.std.proofs.lemmas.List.Sums.{take_while-cons}
use Rattle.codes_core.specs.declared.fault.CodeFault.{CodeFault}
use Rattle.codes_core.specs.Thing.{thing_fault}
use Rattle.table_core.specs.Cells.{has_bytes, is_separator, objects_among, object_texts}
use Rattle.table_core.specs.Cells.{first_object_fault}

-- the parts after the first
abbrev following : (ℕ → Bool) → List ℕ → List (List ℕ)
following p [] = []
following p (x ∷ xs) = cond (p x) (slice_split p xs) (following p xs)

parts-first : (p : ℕ → Bool) (t : List ℕ)
    → slice_split p t ≡ take_while (λ b. not (p b)) t ∷ following p t
parts-first p [] = refl
parts-first p (x ∷ xs) =
    rw (take_while-cons (λ b. not (p b)) x xs)
    (elim (p x) as (λ t. cond t ([] ∷ slice_split p xs) (onto_first x (slice_split p xs))
    ≡ cond (not t) (x ∷ take_while (λ b. not (p b)) xs) []
    ∷ cond t (slice_split p xs) (following p xs)) [
      | true ↦ refl
      | false ↦ ap (onto_first x) (parts-first p xs)
    ])

behind-following : (p : ℕ → Bool) (t : List ℕ)
    → objects_among (following p t) ≡ objects_among (slice_split p (after_first p t))
behind-following p [] = refl
behind-following p (x ∷ xs) =
    elim (p x) as (λ t. objects_among (cond t (slice_split p xs) (following p xs))
    ≡ objects_among (slice_split p
    (drop (cond (not t) (1 + prefix_len (λ b. not (p b)) xs) 0 + 1) (x ∷ xs)))) [
      | true ↦ refl
      | false ↦ let n = prefix_len (λ b. not (p b)) xs in
          let e : 1 + n + 1 ≡ suc (n + 1) = omega arith in rw e (behind-following p xs)
    ]

among-cons : (t : List ℕ) (ts : List (List ℕ))
    → objects_among (t ∷ ts) ≡ objects_among (t ∷ []) ++ objects_among ts
among-cons t ts = elim (has_bytes t) as (λ b. cond b (t ∷ objects_among ts) (objects_among ts)
    ≡ cond b (t ∷ []) [] ++ objects_among ts) [ true ↦ refl | false ↦ refl ]

-- the first part, and the objects behind it
pub objects-next : (rest object behind : List ℕ) → object ≡ before_first is_separator rest
    → behind ≡ after_first is_separator rest
    → object_texts rest ≡ objects_among (object ∷ []) ++ object_texts behind
objects-next rest object behind first after =
    rw (first, after)
    (ap objects_among (parts-first is_separator rest)
    ∙ among-cons (before_first is_separator rest) (following is_separator rest)
    ∙ ap (λ ts. objects_among (before_first is_separator rest ∷ []) ++ ts)
    (behind-following is_separator rest))

first-append : (ts us : List (List ℕ)) → first_object_fault (ts ++ us)
    ≡ option_or (first_object_fault ts) (first_object_fault us)
first-append [] us = refl
first-append (t ∷ ts) us =
    ap (option_or (thing_fault t)) (first-append ts us)
    ∙ or_assoc (thing_fault t) (first_object_fault ts) (first_object_fault us)
  where
    or_assoc : (a b c : Option CodeFault)
        → option_or a (option_or b c) ≡ option_or (option_or a b) c
    or_assoc None b c = refl
    or_assoc (Some x) b c = refl

-- the first fault, if the first object has none
pub fault-behind : (rest object behind : List ℕ) → object ≡ before_first is_separator rest
    → behind ≡ after_first is_separator rest
    → first_object_fault (objects_among (object ∷ [])) ≡ None
    → first_object_fault (object_texts rest) ≡ first_object_fault (object_texts behind)
fault-behind rest object behind first after right =
    ap first_object_fault (objects-next rest object behind first after)
    ∙ first-append (objects_among (object ∷ [])) (object_texts behind)
    ∙ ap (λ o. option_or o (first_object_fault (object_texts behind))) right

-- the first fault, if it is that of the first object
pub fault-here : (rest object : List ℕ) (fault : CodeFault)
    → object ≡ before_first is_separator rest
    → first_object_fault (objects_among (object ∷ [])) ≡ Some fault
    → first_object_fault (object_texts rest) ≡ Some fault
fault-here rest object fault first wrong =
    let behind = after_first is_separator rest in
    ap first_object_fault (objects-next rest object behind first refl)
    ∙ first-append (objects_among (object ∷ [])) (object_texts behind)
    ∙ ap (λ o. option_or o (first_object_fault (object_texts behind))) wrong

-- if there is no fault, the first object has none
pub right-here : (rest object : List ℕ) → object ≡ before_first is_separator rest
    → first_object_fault (object_texts rest) ≡ None
    → first_object_fault (objects_among (object ∷ [])) ≡ None
right-here rest object first right =
    let behind = after_first is_separator rest in
    no_first (first_object_fault (objects_among (object ∷ [])))
    (first_object_fault (object_texts behind))
    (sym (first-append (objects_among (object ∷ [])) (object_texts behind))
    ∙ sym (ap first_object_fault (objects-next rest object behind first refl)) ∙ right)
  where
    no_first : (a b : Option CodeFault) → option_or a b ≡ None → a ≡ None
    no_first None b none = refl
    no_first (Some x) b none = cc

pub count-next : (rest object behind : List ℕ) (here count : ℕ)
    → object ≡ before_first is_separator rest → behind ≡ after_first is_separator rest
    → here ≡ length (objects_among (object ∷ []))
    → count + length (object_texts rest) ≡ count + here + length (object_texts behind)
count-next rest object behind here count first after found =
    omega (
      arith,
      ap length (objects-next rest object behind first after),
      length-append (objects_among (object ∷ [])) (object_texts behind),
    )
