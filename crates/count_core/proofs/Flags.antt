-- For each thing a flag, set if a row names the thing.
use Rattle.std.proofs.Common.{◌≡◌, ℕ, zero, suc, ◌<◌, ◌==◌, ◌||◌, Bool, true, false, List, [], ◌∷◌}
use Rattle.std.proofs.Common.{◌++◌, length, Option, Some, None, refl, ap, ◌∙◌, sym, subst, arith}
use Rattle.std.proofs.Common.{replicate}
use Rattle.std.proofs.lemmas.Bool.Decides.{nat_tests}
use Rattle.std.proofs.Math.Bool.{or-false, or-true}
use Rattle.std.proofs.lemmas.List.Folds.{list_any-append}
use Rattle.std.specs.Prelude.{slice_set}
use Rattle.std.specs.Option.{option_map_or}
use Rattle.count_core.specs.Marks.{flagged, with_flag, names_by, AreNames}

pub by_bool : {P : Type 0} → (b : Bool) → (b ≡ true → P) → (b ≡ false → P) → P
by_bool true f g = f refl
by_bool false f g = g refl

abbrev is_flagged : List Bool → ℕ → Bool
is_flagged flags x = flagged flags (Some x)

set_length : (bs : List Bool) (i : ℕ) (b : Bool) → length (slice_set bs i b) ≡ length bs
set_length [] i b = refl
set_length (c ∷ bs) zero b = refl
set_length (c ∷ bs) (suc i) b = ap suc (set_length bs i b)

flag_here : (bs : List Bool) (i : ℕ) → i < length bs → is_flagged (slice_set bs i true) i ≡ true
flag_here [] i lt = absurd (omega arith)
flag_here (c ∷ bs) zero lt = refl
flag_here (c ∷ bs) (suc i) lt = flag_here bs i (omega arith)

flag_other : (bs : List Bool) (i x : ℕ) → (i == x) ≡ false
    → is_flagged (slice_set bs i true) x ≡ is_flagged bs x
flag_other [] i x ne = refl
flag_other (c ∷ bs) zero zero ne = absurd (grind (arith, nat_tests))
flag_other (c ∷ bs) zero (suc x) ne = refl
flag_other (c ∷ bs) (suc i) zero ne = refl
flag_other (c ∷ bs) (suc i) (suc x) ne = flag_other bs i x (grind (arith, nat_tests))

none_flagged : (n x : ℕ) → is_flagged (replicate n false) x ≡ false
none_flagged zero x = refl
none_flagged (suc n) zero = refl
none_flagged (suc n) (suc x) = none_flagged n x

replicate_length : (n : ℕ) → length (replicate n false) ≡ n
replicate_length zero = refl
replicate_length (suc n) = ap suc (replicate_length n)

-- for rows of any kind, each naming a thing or none
module _ {X : Type 0} (thing : X → Option ℕ) where
  -- at first no thing is named
  pub names_none : (n : ℕ) (flags : List Bool) → flags ≡ replicate n false
      → AreNames thing n [] flags
  names_none n flags is = subst (AreNames thing n []) (sym is)
      (record { many = replicate_length n; each = λ x lt. none_flagged n x })

  names_more : (before : List X) (r : X) (x : ℕ)
      → names_by thing (before ++ r ∷ []) x
      ≡ (names_by thing before x || (option_map_or (λ y. y == x) (thing r) false || false))
  names_more before r x = list_any-append (λ (q : X). option_map_or (λ y. y == x) (thing q) false)
      before (r ∷ [])

  flag_then : (before : List X) (flags : List Bool) (x : ℕ) (o : Option ℕ) → x < length flags
      → is_flagged flags x ≡ names_by thing before x
      → is_flagged (with_flag flags o) x
      ≡ (names_by thing before x || (option_map_or (λ y. y == x) o false || false))
  flag_then before flags x None lt is = is ∙ sym (or-false (names_by thing before x))
  flag_then before flags x (Some y) lt is = by_bool (y == x)
      (λ e. let same : y ≡ x = grind (arith, nat_tests) in
      let here : is_flagged (slice_set flags y true) x ≡ true =
      subst (λ (k : ℕ). is_flagged (slice_set flags y true) k ≡ true) same
      (flag_here flags y (omega (arith, same))) in
      here ∙ sym (rw e (or-true (names_by thing before x))))
      (λ n. flag_other flags y x n ∙ (is ∙ sym (rw n (or-false (names_by thing before x)))))

  -- one more row
  pub names_then : (things : ℕ) (before : List X) (r : X) (flags : List Bool)
      → AreNames thing things before flags
      → AreNames thing things (before ++ r ∷ []) (with_flag flags (thing r))
  names_then things before r flags are = record {
    many = with_length (thing r) ∙ are.many;
    each = λ x lt. flag_then before flags x (thing r) (let c = are.many in omega (arith, c))
        (are.each x lt) ∙ sym (names_more before r x);
  }
    where
      with_length : (o : Option ℕ) → length (with_flag flags o) ≡ length flags
      with_length None = refl
      with_length (Some y) = set_length flags y true

  -- the flag of the thing that a row names
  pub flag_is : (things : ℕ) (before : List X) (flags : List Bool)
      → AreNames thing things before flags → (o : Option ℕ) → ((x : ℕ) → o ≡ Some x → x < things)
      → flagged flags o ≡ option_map_or (names_by thing before) o false
  flag_is things before flags are None small = refl
  flag_is things before flags are (Some x) small = are.each x (small x refl)
