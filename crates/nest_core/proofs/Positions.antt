-- The position of a text in a list.
use Rattle.std.specs.Prelude.{◌≡◌, ℕ, ◌+◌, ◌<◌, ◌≤◌, ◌||◌, ◌⊎◌, Bool, true, false, cond, not, List}
use Rattle.std.specs.Prelude.{[], ◌∷◌, ◌++◌, length, map, Option, Some, None, nat_lt, is_some, refl}
use Rattle.std.specs.Prelude.{zero, suc, eqb}
use Rattle.std.specs.List.{position, position_or_len, list_all, list_any, slice_get}
use Rattle.std.specs.Str.{bytes_eq}
use Rattle.std.proofs.lemmas.Slice.Eq.{bytes_eq-Decides}
use Rattle.std.proofs.lemmas.Bool.{and_parts, false_from_ne_true}
use Rattle.std.proofs.Common.{arith, ap, sym, ◌∙◌, subst, inl, inr}
use Rattle.std.proofs.lemmas.Bool.Decides.{nat_tests}
use Rattle.std.proofs.lemmas.List.{length-append}
use Rattle.std.proofs.lemmas.List.Folds.{position_or_len_push}
use Rattle.std.proofs.lemmas.List.Sums.{prefix_len-le-length}
use Rattle.indexmap.specs.IndexMap.{insert_entry}
use Rattle.indexmap.specs.IndexSet.{insert_key}

-- a search for a test that no element passes runs to the end of the list
or_len_none : {X : Type 0} (p q : X → Bool) (xs : List X) → list_all q xs ≡ true
    → ((x : X) → q x ≡ true → p x ≡ false) → position_or_len p xs ≡ length xs
or_len_none p q [] h only = refl
or_len_none p q (x ∷ xs) h only =
    let both = and_parts (q x) (list_all q xs) h in
    rw (only x both.0) (omega (arith, or_len_none p q xs both.1 only))

pub position_none : {X : Type 0} (p q : X → Bool) (xs : List X) → list_all q xs ≡ true
    → ((x : X) → q x ≡ true → p x ≡ false) → position p xs ≡ None
position_none p q xs h only =
    let n : nat_lt (length xs) (length xs) ≡ false = grind (arith, nat_tests) in
    rw (or_len_none p q xs h only, n) refl

-- a property of all elements is true of one
pub passes_at : {X : Type 0} (q : X → Bool) (xs : List X) (i : ℕ) (x : X) → list_all q xs ≡ true
    → slice_get xs i ≡ Some x → q x ≡ true
passes_at q [] i x h e = absurd (cc)
passes_at q (y ∷ ys) zero x h e = let same : y ≡ x = cc in
    subst (λ z. q z ≡ true) same (and_parts (q y) (list_all q ys) h).0
passes_at q (y ∷ ys) (suc i) x h e = passes_at q ys i x (and_parts (q y) (list_all q ys) h).1 e

-- only a text that passes is among those that pass
pub position_unlike : (q : List ℕ → Bool) (texts : List (List ℕ)) (text : List ℕ)
    → list_all q texts ≡ true → q text ≡ false → position (bytes_eq text) texts ≡ None
position_unlike q texts text h no_pass =
    position_none (bytes_eq text) q texts h
    (λ x passes. false_from_ne_true (bytes_eq text x)
    (λ e. let same : text ≡ x = (bytes_eq-Decides text x).0 e in absurd
    (let e : q x ≡ false = subst (λ t. q t ≡ false) same no_pass in cc)))

pub test_true : (a b : ℕ) → a < b → nat_lt a b ≡ true
test_true a b h = grind (arith, nat_tests)

apart : (a b : ℕ) → a < b → eqb a b ≡ false
apart a b h = grind (arith, nat_tests)

same : (a : ℕ) → eqb a a ≡ true
same a = grind (arith, nat_tests)

found_is : (n len i : ℕ) → cond (nat_lt n len) (Some n) None ≡ Some i → (n < len) × (n ≡ i)
found_is n len i = elim (nat_lt n len) as (λ t. nat_lt n len ≡ t → cond t (Some n) None ≡ Some i
    → (n < len) × (n ≡ i)) [
      | true ↦ λ t e. ((grind (arith, nat_tests)), cc)
      | false ↦ λ t e. absurd (cc)
    ] refl

none_is : (n len : ℕ) → n ≤ len → cond (nat_lt n len) (Some n) None ≡ None → n ≡ len
none_is n len most = elim (nat_lt n len) as (λ t. nat_lt n len ≡ t → cond t (Some n) None ≡ None
    → n ≡ len) [
      | true ↦ λ t e. absurd (cc)
      | false ↦ λ t e. (grind (arith, nat_tests))
    ] refl

-- a search without a result runs to the end
pub absent : {X : Type 0} (p : X → Bool) (xs : List X) → position p xs ≡ None
    → position_or_len p xs ≡ length xs
absent p xs none = none_is (position_or_len p xs) (length xs)
    (prefix_len-le-length (λ x. not (p x)) xs) none

-- an element is still found after another is added at the end
pub position_push-found : {X : Type 0} (p : X → Bool) (xs : List X) (y : X) (i : ℕ)
    → position p xs ≡ Some i → position p (xs ++ y ∷ []) ≡ Some i
position_push-found p xs y i found =
    let at = found_is (position_or_len p xs) (length xs) i found in
    let stays : position_or_len p (xs ++ y ∷ []) ≡ position_or_len p xs =
    position_or_len_push p xs y ∙ rw (apart _ _ at.0) refl in
    let more : position_or_len p xs < length (xs ++ y ∷ []) =
    omega (arith, length-append xs (y ∷ [])) in
    rw (stays, test_true _ _ more) (ap Some at.1)

-- a new element is found at the end, where it was added
pub position_push-new : {X : Type 0} (p : X → Bool) (xs : List X) (y : X) → position p xs ≡ None
    → p y ≡ true → position p (xs ++ y ∷ []) ≡ Some (length xs)
position_push-new p xs y none passes =
    let at : position_or_len p xs ≡ length xs = absent p xs none in
    let new : position_or_len p (xs ++ y ∷ []) ≡ length xs =
    position_or_len_push p xs y ∙ rw (at, same (length xs), passes) (omega arith) in
    let more : length xs < length (xs ++ y ∷ []) = omega (arith, length-append xs (y ∷ [])) in
    rw (new, test_true _ _ more) refl

slice_get-push : {X : Type 0} (xs : List X) (y : X) (i : ℕ) (x : X)
    → slice_get (xs ++ y ∷ []) i ≡ Some x → (slice_get xs i ≡ Some x) ⊎ ((i ≡ length xs) × (y ≡ x))
slice_get-push [] y zero x e = inr (refl, cc)
slice_get-push [] y (suc i) x e = absurd (cc)
slice_get-push (z ∷ zs) y zero x e = inl e
slice_get-push (z ∷ zs) y (suc i) x e = elim (slice_get-push zs y i x e) [
  | inl there ↦ inl there
  | inr last ↦ inr (omega arith, last.1)
]

-- each text of the list is found at its own position
abbrev pub EachFound : List (List ℕ) → Type 0
EachFound texts = (i : ℕ) (text : List ℕ) → slice_get texts i ≡ Some text
    → position (bytes_eq text) texts ≡ Some i

-- and still is after a new text is added at the end
pub EachFound-push : (texts : List (List ℕ)) (new : List ℕ) → EachFound texts
    → position (bytes_eq new) texts ≡ None → EachFound (texts ++ new ∷ [])
EachFound-push texts new each none i text at = elim (slice_get-push texts new i text at) [
  | inl there ↦ position_push-found (bytes_eq text) texts new i (each i text there)
  | inr last ↦ subst (λ t. position (bytes_eq t) (texts ++ new ∷ []) ≡ Some i) last.1
      (position_push-new (bytes_eq new) texts new none ((bytes_eq-Decides new new).1 refl)
      ∙ ap Some (sym last.0))
]

-- a new key is inserted after the others
pub insert_new : {Y : Type 0} (entries : List (List ℕ × Y)) (code : List ℕ) (value : Y)
    → position (bytes_eq code) (map (λ e. e.0) entries) ≡ None
    → insert_entry bytes_eq entries code value ≡ entries ++ (code, value) ∷ []
insert_new {Y = Y} entries code value none =
    by entries (absent (bytes_eq code) (map (λ e. e.0) entries) none)
  where
    by : (es : List (List ℕ × Y)) → position_or_len (bytes_eq code) (map (λ e. e.0) es)
        ≡ length (map (λ e. e.0) es) → insert_entry bytes_eq es code value ≡ es
        ++ (code, value) ∷ []
    by [] h = refl
    by (e ∷ es) h = elim (bytes_eq code e.0) as
        (λ t. cond (not t) (1 + position_or_len (bytes_eq code) (map (λ q. q.0) es)) 0
        ≡ suc (length (map (λ q. q.0) es))
        → cond t ((e.0, value) ∷ es) (e ∷ insert_entry bytes_eq es code value) ≡ e
        ∷ (es ++ (code, value) ∷ [])) [
          | true ↦ λ k. absurd (omega arith)
          | false ↦ λ k. ap (λ rest. e ∷ rest) (by es (omega arith))
        ] h

-- and so is a new name
pub insert_key_new : (names : List (List ℕ)) (name : List ℕ) → position (bytes_eq name) names ≡ None
    → insert_key bytes_eq names name ≡ names ++ name ∷ []
insert_key_new names name none = rw (by names (absent (bytes_eq name) names none)) refl
  where
    by : (xs : List (List ℕ)) → position_or_len (bytes_eq name) xs ≡ length xs
        → list_any (bytes_eq name) xs ≡ false
    by [] h = refl
    by (x ∷ xs) h = elim (bytes_eq name x) as
        (λ t. cond (not t) (1 + position_or_len (bytes_eq name) xs) 0 ≡ suc (length xs)
        → (t || list_any (bytes_eq name) xs) ≡ false) [
          | true ↦ λ k. absurd (omega arith)
          | false ↦ λ k. by xs (omega arith)
        ] h

-- an element that a look-up did not find is not in the list
pub not_found : (o : Option ℕ) (found : Bool) → found ≡ is_some o → found ≡ false → o ≡ None
not_found None found e h = refl
not_found (Some i) found e h = absurd (cc)

pub all_push : {X : Type 0} (q : X → Bool) (xs : List X) (x : X) → list_all q xs ≡ true → q x ≡ true
    → list_all q (xs ++ x ∷ []) ≡ true
all_push q [] x h e = rw e refl
all_push q (y ∷ ys) x h e = let both = and_parts (q y) (list_all q ys) h in
    rw (both.0, all_push q ys x both.1 e) refl

pub all_more : {X : Type 0} (p q : X → Bool) (xs : List X) → ((x : X) → p x ≡ true → q x ≡ true)
    → list_all p xs ≡ true → list_all q xs ≡ true
all_more p q [] more h = refl
all_more p q (x ∷ xs) more h = let both = and_parts (p x) (list_all p xs) h in
    rw (more x both.0, all_more p q xs more both.1) refl
