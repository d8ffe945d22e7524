-- If each wanted pair is kept, and there are as many, the pairs that a map keeps are the wanted
-- ones.
use Rattle.std.specs.Prelude.{◌≡◌, zero, suc, Bool, true, false, cond, List, [], ◌∷◌, length, Some}
use Rattle.std.specs.Prelude.{refl}
use Rattle.std.proofs.Common.{ap, sym, ◌∙◌, arith, remove}
use Rattle.std.specs.Bool.{Decides}
use Rattle.std.specs.List.{list_all, AllByRecursion, Contains, IsDistinct}
use Rattle.std.specs.List.Sorted.{IsPermutation}
use Rattle.std.specs.Map.{keys_of, lookup}
use Rattle.std.specs.Option.{option_map_or}
use Rattle.std.proofs.lemmas.Bool.{and_parts}
use Rattle.std.proofs.lemmas.Bool.Decides.{not_from_Decides}
use Rattle.std.proofs.lemmas.List.Sorted.{IsPermutation-refl, IsPermutation-sym}
use Rattle.std.proofs.lemmas.List.Sorted.{IsPermutation-trans, IsPermutation-cons}
use Rattle.std.proofs.lemmas.List.Sorted.{IsPermutation-remove, Contains-permutation}
use Rattle.std.proofs.lemmas.List.Sorted.{length_permutation}
use Rattle.sqlite_trees.proofs.ListLemmas.{all-permutation}
use Rattle.register_store.specs.Plain.{is_kept}

module _ {K V : Type 0} (same : K → K → Bool) (alike : V → V → Bool) (keys : (a b : K)
    → Decides (same a b) (a ≡ b)) (values : (a b : V) → Decides (alike a b) (a ≡ b)) where
  turned : (a b : K) → same a b ≡ false → same b a ≡ false
  turned a b apart = by (same b a) refl
    where
      by : (t : Bool) → same b a ≡ t → t ≡ false
      by true h = absurd (not_from_Decides (same a b) (keys a b) apart (sym ((keys b a).0 h)))
      by false h = refl

  -- a kept pair is found
  from_lookup : (kept : List (K × V)) (p : K × V) → is_kept same alike kept p ≡ true
      → Contains kept p
  from_lookup [] p there = absurd (let both : true ≡ false = sym there in cc)
  from_lookup (e ∷ kept) p there =
      elim (same p.0 e.0) as (λ t. same p.0 e.0 ≡ t
      → option_map_or (λ value. alike value p.1) (cond t (Some e.1) (lookup (same p.0) kept)) false
      ≡ true → Contains (e ∷ kept) p) [
        | true ↦ λ h value.
            let key : p.0 ≡ e.0 = (keys p.0 e.0).0 h in
            let is : e ≡ p = ap (λ k. (k, e.1)) (sym key) ∙ ap (λ v. (p.0, v))
            ((values e.1 p.1).0 value) in
            (0, omega arith, is)
        | false ↦ λ h rest. let more = from_lookup kept p rest in
            (suc more.0, omega (arith, more.1), more.2)
      ] refl there

  -- each pair of a map is kept in it
  all_kept : (kept : List (K × V)) → IsDistinct same (keys_of kept)
      → AllByRecursion (λ p. is_kept same alike kept p ≡ true) kept
  unfolding IsDistinct
  all_kept [] distinct = tt
  all_kept (e ∷ kept) distinct = (
    (let key : same e.0 e.0 ≡ true = (keys e.0 e.0).1 refl in rw key ((values e.1 e.1).1 refl)),
    later kept distinct.0 (all_kept kept distinct.1),
  )
    where
      later : (ps : List (K × V)) → AllByRecursion (λ l. same e.0 l ≡ false) (keys_of ps)
          → AllByRecursion (λ p. is_kept same alike kept p ≡ true) ps
          → AllByRecursion (λ p. is_kept same alike (e ∷ kept) p ≡ true) ps
      later [] apart there = tt
      later (p ∷ ps) (other, apart) (here, there) =
          ((rw (turned e.0 p.0 other) here), later ps apart there)

  each_true : (test : K × V → Bool) (ps : List (K × V)) → list_all test ps ≡ true
      → AllByRecursion (λ p. test p ≡ true) ps
  each_true test [] h = tt
  each_true test (p ∷ ps) h = let both = and_parts (test p) (list_all test ps) h in
      (both.0, each_true test ps both.1)

  all_true : (test : K × V → Bool) (ps : List (K × V)) → AllByRecursion (λ p. test p ≡ true) ps
      → list_all test ps ≡ true
  all_true test [] h = refl
  all_true test (p ∷ ps) (h, more) = rw h (all_true test ps more)

  -- a member of a list is among those after the first, if it is another
  after_first : (p : K × V) (rest : List (K × V)) (q : K × V) → same p.0 q.0 ≡ false
      → Contains (p ∷ rest) q → Contains rest q
  after_first p rest q apart (zero, less, is) =
      absurd (not_from_Decides (same p.0 q.0) (keys p.0 q.0) apart (ap (λ z. z.0) is))
  after_first p rest q apart (suc k, less, is) = (k, omega (arith, less), is)

  -- as many different pairs of a list are the whole list
  are_all : (wanted kept : List (K × V)) → length kept ≡ length wanted
      → IsDistinct same (keys_of wanted) → AllByRecursion (λ p. Contains kept p) wanted
      → IsPermutation wanted kept
  unfolding IsDistinct
  are_all [] [] many distinct there = IsPermutation-refl []
  are_all [] (e ∷ kept) many distinct there = absurd (omega arith)
  are_all (p ∷ wanted) kept many distinct (here, there) =
      let split : IsPermutation kept (p ∷ remove kept here.0) =
      IsPermutation-remove kept here.0 p here.1 (sym here.2) in
      let count = length_permutation _ _ split in
      let rest = are_all wanted (remove kept here.0) (omega arith) distinct.1
      (left wanted distinct.0 there split) in
      IsPermutation-trans _ _ _ (IsPermutation-cons p _ _ rest) (IsPermutation-sym _ _ split)
    where
      left : (ps : List (K × V)) → AllByRecursion (λ l. same p.0 l ≡ false) (keys_of ps)
          → AllByRecursion (λ q. Contains kept q) ps → IsPermutation kept (p ∷ remove kept here.0)
          → AllByRecursion (λ q. Contains (remove kept here.0) q) ps
      left [] apart there split = tt
      left (q ∷ ps) (other, apart) (one, more) split = (
        after_first p (remove kept here.0) q other
            (Contains-permutation kept (p ∷ remove kept here.0) q split one),
        left ps apart more split,
      )

  weaker : (kept ps : List (K × V)) → AllByRecursion (λ p. is_kept same alike kept p ≡ true) ps
      → AllByRecursion (λ p. Contains kept p) ps
  weaker kept [] h = tt
  weaker kept (p ∷ ps) (h, more) = (from_lookup kept p h, weaker kept ps more)

  pub wanted_kept : (wanted kept : List (K × V)) → IsDistinct same (keys_of wanted)
      → length kept ≡ length wanted → list_all (is_kept same alike kept) wanted ≡ true
      → IsPermutation wanted kept
  wanted_kept wanted kept distinct many all =
      are_all wanted kept many distinct
      (weaker kept wanted (each_true (is_kept same alike kept) wanted all))

  pub kept_wanted : (wanted kept : List (K × V)) → IsDistinct same (keys_of kept)
      → IsPermutation wanted kept → list_all (is_kept same alike kept) wanted ≡ true
  kept_wanted wanted kept distinct perm =
      all_true (is_kept same alike kept) wanted
      (all-permutation (λ p. is_kept same alike kept p ≡ true) kept wanted
      (IsPermutation-sym _ _ perm) (all_kept kept distinct))
