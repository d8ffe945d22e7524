-- The numbers of a loan's objects: different codes have different numbers, so no number is repeated
-- if no code is.
use Rattle.std.specs.Prelude.{◌≡◌, ℕ, ◌+◌, ◌<◌, ◌==◌, ◌||◌, Bool, true, false, not, List, [], ◌∷◌}
use Rattle.std.specs.Prelude.{◌++◌, length, map, Some, nat_eq, refl, zero, suc}
use Rattle.std.specs.Bool.{Decides}
use Rattle.std.specs.List.{list_any}
use Rattle.std.specs.Str.{bytes_eq}
use Rattle.std.proofs.Common.{arith, ap, sym, ◌∙◌, get_or, take}
use Rattle.std.proofs.lemmas.Bool.Decides.{nat_tests}
use Rattle.std.proofs.lemmas.Bool.{false_from_ne_true, or_parts, not-false, false≢true}
use Rattle.std.proofs.lemmas.List.{map-append, length-map, take_more, take-map, get_or-map}
use Rattle.std.proofs.lemmas.List.Folds.{list_any_at, list_any-append}
use Rattle.std.proofs.lemmas.Slice.Eq.{bytes_eq-Decides}
use Rattle.indexmap.specs.IndexSet.{insert_key}
use Rattle.nest_core.specs.Museum.{Museum, thing_code_of}
use Rattle.nest_core.specs.Puts.{is_among}
use Rattle.posting_core.specs.declared.entry.NewLine.{NewLine}
use Rattle.posting_core.specs.LoanRows.{AreOnce}
use Rattle.posting_core.specs.Messages.{thing_no}
use Rattle.posting_core.specs.Verdicts.{is_known, repeats}
use Rattle.posting_core.proofs.Among.{code_found}

-- two things of the setup with the same number are the same
same_thing : (S : Museum) (x y : List ℕ) → not (is_known S x) ≡ false → not (is_known S y) ≡ false
    → thing_no S x ≡ thing_no S y → x ≡ y
same_thing S x y known_x known_y same =
    let codes : Some x ≡ Some y = sym (code_found S x (not-false (is_known S x) known_x))
    ∙ ap (thing_code_of S) same ∙ code_found S y (not-false (is_known S y) known_y) in cc

-- a number is among others only if its code is
unlike : (S : Museum) (x : List ℕ) (ys : List (List ℕ)) → not (is_known S x) ≡ false
    → list_any (λ y. not (is_known S y)) ys ≡ false → list_any (bytes_eq x) ys ≡ false
    → is_among (thing_no S x) (map (thing_no S) ys) ≡ false
unlike S x [] known all apart = refl
unlike S x (y ∷ ys) known all apart =
    let both = or_parts (not (is_known S y)) (list_any (λ z. not (is_known S z)) ys) all in
    let two = or_parts (bytes_eq x y) (list_any (bytes_eq x) ys) apart in
    elim (thing_no S y == thing_no S x) as (λ b. (thing_no S y == thing_no S x) ≡ b
    → (b || is_among (thing_no S x) (map (thing_no S) ys)) ≡ false) [
      | true ↦ λ e. let same : thing_no S x ≡ thing_no S y = grind (arith, nat_tests) in
          absurd (false≢true (sym two.0 ∙ (bytes_eq-Decides x y).1
          (same_thing S x y known both.0 same)))
      | false ↦ λ e. unlike S x ys known both.1 two.1
    ] refl

pub numbers_once : (S : Museum) (xs : List (List ℕ)) → list_any (λ x. not (is_known S x)) xs ≡ false
    → repeats xs ≡ false → AreOnce (map (thing_no S) xs)
numbers_once S [] known once = tt
numbers_once S (x ∷ xs) known once =
    let both = or_parts (not (is_known S x)) (list_any (λ y. not (is_known S y)) xs) known in
    let two = or_parts (list_any (bytes_eq x) xs) (repeats xs) once in
    (unlike S x xs both.0 both.1 two.0, numbers_once S xs both.1 two.1)

-- and a code only if its number is
other_code : (S : Museum) (x : List ℕ) (ys : List (List ℕ))
    → is_among (thing_no S x) (map (thing_no S) ys) ≡ false → list_any (bytes_eq x) ys ≡ false
other_code S x [] apart = refl
other_code S x (y ∷ ys) apart =
    let both = or_parts (thing_no S y == thing_no S x)
    (is_among (thing_no S x) (map (thing_no S) ys)) apart in
    let other : bytes_eq x y ≡ false = false_from_ne_true (bytes_eq x y) (λ e.
    let same : thing_no S x ≡ thing_no S y = ap (thing_no S) ((bytes_eq-Decides x y).0 e) in
    let numbers : (thing_no S y == thing_no S x) ≡ true = grind (arith, nat_tests) in
    false≢true (sym both.0 ∙ numbers)) in
    rw other (other_code S x ys both.1)

codes_once : (S : Museum) (xs : List (List ℕ)) → AreOnce (map (thing_no S) xs) → repeats xs ≡ false
codes_once S [] once = refl
codes_once S (x ∷ xs) (apart, once) = rw (other_code S x xs apart) (codes_once S xs once)

-- so the numbers show whether a code is repeated
pub repeats_told : (S : Museum) (xs : List (List ℕ)) (once : Bool)
    → list_any (λ x. not (is_known S x)) xs ≡ false → Decides once (AreOnce (map (thing_no S) xs))
    → not once ≡ repeats xs
repeats_told S xs once known told = elim (repeats xs) as (λ r. repeats xs ≡ r → not once ≡ r) [
  | true ↦
      λ e. ap not (false_from_ne_true once
      (λ yes. false≢true (sym (codes_once S xs (told.0 yes)) ∙ e)))
  | false ↦ λ e. ap not (told.1 (numbers_once S xs known e))
] refl

-- one more number, which is not among those before it
pub once_more : (ns : List ℕ) (n : ℕ) → AreOnce ns → is_among n ns ≡ false → AreOnce (ns ++ n ∷ [])
once_more [] n once new = (refl, tt)
once_more (o ∷ os) n (apart, once) new =
    let both = or_parts (o == n) (is_among n os) new in
    let first = both.0 in
    let other : (n == o) ≡ false = grind (arith, nat_tests) in
    (rw (list_any-append (λ y. y == o) os (n ∷ []), apart, other) refl, once_more os n once both.1)

-- a test that fails for all fails for one
none_at : {X : Type 0} (p : X → Bool) (xs : List X) (i : ℕ) (d : X) → i < length xs
    → list_any p xs ≡ false → p (get_or xs i d) ≡ false
none_at p xs i d less none = false_from_ne_true (p (get_or xs i d))
    (λ passes. false≢true (sym none ∙ list_any_at p xs i d less passes))

-- if no number is repeated, none is among those before it
pub once_among : (ns : List ℕ) (i d : ℕ) → i < length ns → AreOnce ns
    → is_among (get_or ns i d) (take i ns) ≡ false
once_among [] i d less once = absurd (omega arith)
once_among (o ∷ os) zero d less once = refl
once_among (o ∷ os) (suc i) d less (apart, once) =
    let first = none_at (λ y. y == o) os i d (omega arith) apart in
    let other : (o == get_or os i d) ≡ false = grind (arith, nat_tests) in
    rw other (once_among os i d (omega arith) once)

among_turned : (n : ℕ) (ns : List ℕ) → is_among n ns ≡ false → list_any (nat_eq n) ns ≡ false
among_turned n [] apart = refl
among_turned n (o ∷ os) apart =
    let both = or_parts (o == n) (is_among n os) apart in
    let first = both.0 in
    let other : nat_eq n o ≡ false = grind (arith, nat_tests) in
    rw other (among_turned n os both.1)

-- one more element of a list
pub one_more_of : {X Y : Type 0} (f : X → Y) (xs : List X) (i : ℕ) (d : X) → i < length xs
    → map f (take i xs) ++ f (get_or xs i d) ∷ [] ≡ map f (take (i + 1) xs)
one_more_of f xs i d less =
    sym (ap (map f) (take_more xs i d less) ∙ map-append f (take i xs) (get_or xs i d ∷ []))

-- and the object of one more line, if no object has two lines
pub one_more_object : (lines : List NewLine) (i : ℕ) (d : NewLine) → i < length lines
    → AreOnce (map (λ l. l.object) lines) →
    insert_key nat_eq (map (λ l. l.object) (take i lines)) (get_or lines i d).object
    ≡ map (λ l. l.object) (take (i + 1) lines)
one_more_object lines i d less once =
    let object : NewLine → ℕ = λ l. l.object in
    let within : i < length (map object lines) = omega (arith, less, length-map lines object) in
    let among : is_among (get_or (map object lines) i d.object) (take i (map object lines))
    ≡ false = once_among (map object lines) i d.object within once in
    let here : is_among (get_or lines i d).object (map object (take i lines)) ≡ false =
    ap (λ n. is_among n (map object (take i lines)))
    (sym (get_or-map object lines i d d.object less))
    ∙ ap (is_among (get_or (map object lines) i d.object))
    (sym (take-map object i lines)) ∙ among in
    rw (among_turned (get_or lines i d).object (map object (take i lines)) here)
    (one_more_of object lines i d less)
