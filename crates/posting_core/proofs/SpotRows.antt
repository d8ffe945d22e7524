-- The spots of each thing in the one list of all spots, and the effect of one more spot.
use Rattle.std.specs.Prelude.{ℕ, ◌≡◌, ◌+◌, ◌<◌, ◌≤◌, Some, List, [], ◌∷◌, ◌++◌, length, map, zero}
use Rattle.std.specs.Prelude.{suc, refl, slice_set, slice_get, replicate, All}
use Rattle.std.specs.Option.{option_map, option_map_or}
use Rattle.std.proofs.Common.{ap, ◌∙◌, sym, subst, arith, get_or, length-append}
use Rattle.std.proofs.Math.ListN.{get_or-append}
use Rattle.std.proofs.Math.Seq.{get_or-append_seam}
use Rattle.std.proofs.lemmas.List.{length-map, map-set}
use Rattle.std.proofs.lemmas.List.Elements.{All-head, All-tail, All-set, All-weaker, All-get_or}
use Rattle.std.proofs.lemmas.Option.{slice_get-map, slice_get_read, slice_get_within}
use Rattle.std.proofs.lemmas.Option.{get_or_from_slice_get}
use Rattle.posting_core.specs.declared.entry.Spot.{Spot}
use Rattle.posting_core.specs.declared.spot_rows.KeptSpot.{KeptSpot}
use Rattle.posting_core.specs.declared.spot_rows.LastSpot.{LastSpot}
use Rattle.posting_core.specs.Rows.{row_of}
use Rattle.posting_core.specs.SpotRows.{spots_at, LeadBack, IsLast}

-- the rows of these lasts
abbrev pub rows_of : List KeptSpot → List LastSpot → List (List Spot)
rows_of spots lasts = map (λ l. spots_at spots l.at l.count) lasts

-- the spot at an index comes after the thing's earlier spots
last_at : (spots : List KeptSpot) (at count : ℕ) (s : KeptSpot) → slice_get spots at ≡ Some s
    → spots_at spots at (suc count) ≡ spots_at spots s.before count ++ s.spot ∷ []
last_at spots at count s is =
    ap (λ o. option_map_or (λ (t : KeptSpot). spots_at spots t.before count ++ t.spot ∷ []) o []) is

-- a thing has as many spots as the links lead to
counted : (spots : List KeptSpot) (at count : ℕ) → LeadBack spots at count
    → length (spots_at spots at count) ≡ count
counted spots at zero back = refl
counted spots at (suc count) (s, is, back) =
    ap length (last_at spots at count s is) ∙ length-append (spots_at spots s.before count)
    (s.spot ∷ []) ∙ ap (λ n. n + 1) (counted spots s.before count back) ∙ omega arith

-- more spots change none of those before them
module _ (spots more : List KeptSpot) where
  read_on : (at : ℕ) (s : KeptSpot) → slice_get spots at ≡ Some s
      → slice_get (spots ++ more) at ≡ Some s
  read_on at s is =
      let within : at < length spots = slice_get_within spots at s is in
      slice_get_read (spots ++ more) (length (spots ++ more)) at s refl
      (omega (arith, length-append spots more))
      (sym (get_or-append spots more s at within ∙ get_or_from_slice_get spots at s s is))

  back_on : (at count : ℕ) → LeadBack spots at count → LeadBack (spots ++ more) at count
  back_on at zero back = tt
  back_on at (suc count) (s, is, back) = (s, read_on at s is, back_on s.before count back)

  spots_on : (at count : ℕ) → LeadBack spots at count
      → spots_at (spots ++ more) at count ≡ spots_at spots at count
  spots_on at zero back = refl
  spots_on at (suc count) (s, is, back) =
      last_at (spots ++ more) at count s (read_on at s is)
      ∙ ap (λ (row : List Spot). row ++ s.spot ∷ []) (spots_on s.before count back)
      ∙ sym (last_at spots at count s is)

  last_on : (l : LastSpot) → IsLast spots l → IsLast (spots ++ more) l
  last_on l is = record {
    back = back_on l.at l.count is.back;
    few = let few : l.count ≤ length spots = is.few in omega (arith, length-append spots more);
  }

  rows_on : (lasts : List LastSpot) → All (IsLast spots) lasts
      → rows_of (spots ++ more) lasts ≡ rows_of spots lasts
  rows_on [] h = refl
  rows_on (l ∷ ls) h =
      ap (λ (row : List Spot). row ∷ rows_of (spots ++ more) ls)
      (spots_on l.at l.count (All-head (IsLast spots) l ls h).back)
      ∙ ap (λ (rs : List (List Spot)). spots_at spots l.at l.count ∷ rs)
      (rows_on ls (All-tail (IsLast spots) l ls h))

-- the view of a thing's last spot
module _ {spots : List KeptSpot} (lasts : List LastSpot) {R : List (List Spot)}
    (kept : All (IsLast spots) lasts) (same : rows_of spots lasts ≡ R) (x : ℕ) (last : LastSpot)
    (within : x < length R) (at : last ≡ get_or lasts x last) where
  last_within : x < length lasts
  last_within = omega (arith, length-map lasts (λ l. spots_at spots l.at l.count), ap length same)

  pub is_last : IsLast spots last
  is_last = subst (IsLast spots) (sym at) (All-get_or (IsLast spots) lasts x last last_within kept)

  pub row_at : row_of R x ≡ spots_at spots last.at last.count
  row_at =
      ap (λ rs. row_of rs x) (sym same)
      ∙ ap (λ o. option_map_or (λ row. row) o [])
      (slice_get-map (λ (l : LastSpot). spots_at spots l.at l.count) lasts x
      ∙ ap (option_map (λ l. spots_at spots l.at l.count))
      (slice_get_read lasts (length lasts) x last refl last_within at))

  pub row_counted : last.count ≡ length (row_of R x)
  row_counted = sym (ap length row_at ∙ counted spots last.at last.count is_last.back)

-- the last spot of a thing without spots
abbrev none : LastSpot
none = record { at = 0; count = 0 }

no_rows : (n : ℕ) → rows_of [] (replicate n none) ≡ replicate n []
no_rows zero = refl
no_rows (suc n) = ap (λ (rs : List (List Spot)). [] ∷ rs) (no_rows n)

pub new_rows : {spots : List KeptSpot} {lasts : List LastSpot} (n : ℕ) → spots ≡ []
    → lasts ≡ replicate n none → rows_of spots lasts ≡ replicate n []
new_rows {spots} {lasts} n empty nones =
    ap (λ (ss : List KeptSpot). rows_of ss lasts) empty ∙ ap (rows_of []) nones ∙ no_rows n

-- one more spot of a thing, which is now its last
module _ {spots : List KeptSpot} {old : LastSpot} (was : IsLast spots old) (spot : Spot) where
  abbrev pushed : KeptSpot
  pushed = record { spot = spot; before = old.at }

  abbrev newest : LastSpot
  newest = record { at = length spots; count = old.count + 1 }

  stands_last : slice_get (spots ++ pushed ∷ []) (length spots) ≡ Some pushed
  stands_last = slice_get_read (spots ++ pushed ∷ []) (length (spots ++ pushed ∷ [])) (length spots)
      pushed refl (omega (arith, length-append spots (pushed ∷ [])))
      (sym (get_or-append_seam spots pushed [] pushed))

  one_more : suc old.count ≡ old.count + 1
  one_more = omega arith

  newest_spots : spots_at (spots ++ pushed ∷ []) newest.at newest.count ≡ spots_at spots old.at
      old.count ++ spot ∷ []
  newest_spots = ap (spots_at (spots ++ pushed ∷ []) (length spots)) (sym one_more)
      ∙ last_at (spots ++ pushed ∷ []) (length spots) old.count pushed stands_last
      ∙ ap (λ (row : List Spot). row ++ spot ∷ [])
      (spots_on spots (pushed ∷ []) old.at old.count was.back)

  newest_last : IsLast (spots ++ pushed ∷ []) newest
  newest_last = record {
    back = subst (LeadBack (spots ++ pushed ∷ []) (length spots)) one_more (
      pushed,
      stands_last,
      back_on spots (pushed ∷ []) old.at old.count was.back,
    );
    few = let few : old.count ≤ length spots = was.few in
        omega (arith, length-append spots (pushed ∷ []));
  }

  pub pushed_kept : (lasts : List LastSpot) (x : ℕ) → All (IsLast spots) lasts
      → All (IsLast (spots ++ pushed ∷ [])) (slice_set lasts x newest)
  pushed_kept lasts x kept = All-set (IsLast (spots ++ pushed ∷ [])) lasts x newest newest_last
      (All-weaker (IsLast spots) (IsLast (spots ++ pushed ∷ []))
      (last_on spots (pushed ∷ [])) lasts kept)

  pub pushed_rows : (lasts : List LastSpot) (x : ℕ) (R : List (List Spot))
      → All (IsLast spots) lasts → rows_of spots lasts ≡ R
      → row_of R x ≡ spots_at spots old.at old.count →
      rows_of (spots ++ pushed ∷ []) (slice_set lasts x newest) ≡ slice_set R x
      (row_of R x ++ spot ∷ [])
  pushed_rows lasts x R kept same row =
      map-set (λ (l : LastSpot). spots_at (spots ++ pushed ∷ []) l.at l.count) lasts x newest
      ∙ ap (λ rs. slice_set rs x (spots_at (spots ++ pushed ∷ []) newest.at newest.count))
      (rows_on spots (pushed ∷ []) lasts kept ∙ same)
      ∙ ap (slice_set R x) (newest_spots ∙ ap (λ (r : List Spot). r ++ spot ∷ []) (sym row))
