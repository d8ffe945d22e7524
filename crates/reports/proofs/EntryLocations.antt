-- The new locations of a thing, entry by entry, are those of its history.
use Rattle.std.proofs.Common.{◌≡◌, ◌∙◌, ◌∷◌, ◌+◌, ◌++◌, ◌<◌, ◌≤◌, [], ℕ, List, Some, add-one, ap}
use Rattle.std.proofs.Common.{arith, drop, inl, inr, length, option_map, refl, slice_get, subst}
use Rattle.std.proofs.Common.{suc, sym, take, zero}
use Rattle.std.specs.Prelude.{reverse}
use Rattle.std.specs.List.{flat_map, range_with_len}
use Rattle.std.specs.Option.{option_map_or}
use Rattle.std.proofs.lemmas.List.{length-reverse, reverse-append, reverse-reverse}
use Rattle.std.proofs.lemmas.List.{take-append-drop, take_all, take_more}
use Rattle.std.proofs.lemmas.Option.{get_or_from_slice_get, slice_get_cases}
use Rattle.nest_core.specs.Museum.{Museum}
use Rattle.posting_core.specs.Book.{Book, changes_of, spots_in}
use Rattle.posting_core.specs.History.{spots}
use Rattle.posting_core.specs.Lawful.{IsLawful}
use Rattle.posting_core.specs.Onward.{GoesOn, spots_for}
use Rattle.posting_core.specs.Past.{upto}
use Rattle.posting_core.specs.declared.entry.Entry.{Entry}
use Rattle.posting_core.proofs.SpotsAfter.{spots_added}
use Rattle.reports.proofs.Ranges.{flat_more}
use Rattle.reports.specs.EntryChanges.{locations_at}

-- The older entries of a lawful list are lawful.
lawful_rest : (S : Museum) (depth : ℕ) (newer older : List Entry)
    → IsLawful S depth (newer ++ older) → IsLawful S depth older
lawful_rest S depth [] older h = h
lawful_rest S depth (e ∷ newer) older h = lawful_rest S depth newer older h.1

module _ (B : Book) (x : ℕ) (lawful : IsLawful B.museum B.depth B.posted)
    (less : x < length B.museum.things) where
  abbrev entries : List Entry
  entries = reverse B.posted

  -- one more entry adds what it moves
  moved : (n : ℕ) (e : Entry) → n < length entries → slice_get entries n ≡ Some e
      → spots_in (upto B (n + 1)) x
      ≡ spots_in (upto B n) x ++ spots_for (changes_of (upto B n) e.message) x
  moved n e within here =
      let next : (upto B (n + 1)).posted ≡ e ∷ (upto B n).posted =
      ap reverse (take_more entries n e within
      ∙ ap (λ f. take n entries ++ f ∷ []) (get_or_from_slice_get entries n e e here))
      ∙ reverse-append (take n entries) (e ∷ []) in
      let all : B.posted ≡ reverse (drop (n + 1) entries) ++ reverse (take (n + 1) entries) =
      sym (reverse-reverse B.posted)
      ∙ (ap reverse (sym (take-append-drop (n + 1) entries))
      ∙ reverse-append (take (n + 1) entries) (drop (n + 1) entries)) in
      let first : IsLawful B.museum B.depth (reverse (take (n + 1) entries)) =
      lawful_rest B.museum B.depth (reverse (drop (n + 1) entries))
      (reverse (take (n + 1) entries)) (subst (IsLawful B.museum B.depth) all lawful) in
      let goes : GoesOn (upto B n) (e ∷ []) = subst (IsLawful B.museum B.depth) next first in
      ap (λ P. spots B.museum P x) next ∙ spots_added (upto B n) e goes x less

  so_far : (n : ℕ) → n ≤ length B.posted
      → flat_map (locations_at B x) (range_with_len 0 n) ≡ spots_in (upto B n) x
  so_far zero within = refl
  so_far (suc n) within = elim (slice_get_cases entries n).1 [
    | inl (e, inside, here, same) ↦
        subst (λ k. flat_map (locations_at B x) (range_with_len 0 k) ≡ spots_in (upto B k) x)
        (add-one n)
        (flat_more (locations_at B x) n
        ∙ (ap (λ t. t ++ locations_at B x n) (so_far n (omega arith))
        ∙ (ap (λ t. spots_in (upto B n) x ++ t)
        (ap (λ o. option_map_or (λ c. spots_for c x)
        (option_map (λ (f : Entry). changes_of (upto B n) f.message) o) []) here)
        ∙ sym (moved n e inside here))))
    | inr (past, none) ↦ absurd (omega (arith, past, length-reverse B.posted, within))
  ]

  pub all_locations : flat_map (locations_at B x) (range_with_len 0 (length B.posted))
      ≡ spots_in B x
  all_locations =
      so_far (length B.posted) (omega arith)
      ∙ ap (λ P. spots B.museum P x)
      (ap reverse (take_all (length B.posted) entries
      (let few : length entries ≤ length B.posted = omega (arith, length-reverse B.posted) in few))
      ∙ reverse-reverse B.posted)
