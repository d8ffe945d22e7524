-- A lawful list is short: it has no more entries than its stations have numbers, and a thing no
-- more spots than there are
-- entries.
use Rattle.std.specs.Prelude.{ℕ, ℤ, zero, suc, ◌≡◌, ◌<◌, ◌≤◌, ◌+◌, ◌*◌, ◌==◌, Bool, true, false}
use Rattle.std.specs.Prelude.{List, [], ◌∷◌, Option, None, Some, length, refl, if◌then◌else◌}
use Rattle.std.specs.Option.{option_to_list}
use Rattle.std.proofs.Common.{ap, ◌∙◌, arith}
use Rattle.std.proofs.lemmas.Bool.Decides.{nat_tests}
use Rattle.std.proofs.lemmas.List.{length-append}
use Rattle.nest_core.specs.Museum.{Museum, IsMuseum}
use Rattle.nest_core.specs.Nest.{Nested, is_same_place}
use Rattle.posting_core.specs.declared.TheConstants.{LAST_NUMBER, MOST_ENTRIES}
use Rattle.posting_core.specs.declared.entry.Entry.{Entry}
use Rattle.posting_core.specs.declared.entry.Spot.{Spot}
use Rattle.posting_core.specs.Messages.{day_of}
use Rattle.posting_core.specs.History.{place_at, spots, spot_from}
use Rattle.posting_core.specs.Lawful.{IsLawful, count_at}
use Rattle.posting_core.specs.LoanRows.{LoanRow}
use Rattle.posting_core.specs.Rows.{IsKept}
use Rattle.posting_core.specs.declared.standing.Standing.{Standing}

-- the entries of the stations below k
abbrev counted : ℕ → List Entry → ℕ
counted zero P = 0
counted (suc k) P = count_at k P + counted k P

abbrev one_if : Bool → ℕ
one_if b = if b then 1 else 0

same_count : (k : ℕ) (e : Entry) (P : List Entry) → k ≤ e.station → counted k (e ∷ P) ≡ counted k P
same_count zero e P above = refl
same_count (suc k) e P above =
    let other : (e.station == k) ≡ false = grind (arith, nat_tests) in
    let none : one_if (e.station == k) ≡ 0 = rw other refl in
    let rest : counted k (e ∷ P) ≡ counted k P = same_count k e P (omega arith) in
    let all : one_if (e.station == k) + count_at k P + counted k (e ∷ P) ≡ count_at k P + counted k
    P = omega (arith, none, rest) in
    all

one_more : (k : ℕ) (e : Entry) (P : List Entry) → e.station < k
    → counted k (e ∷ P) ≡ counted k P + 1
one_more zero e P below = elim below [ ]
one_more (suc k) e P below = elim (e.station == k) as (λ b. (e.station == k) ≡ b
    → (if b then 1 else 0) + count_at k P + counted k (e ∷ P) ≡ count_at k P + counted k P + 1) [
      | true ↦ λ is.
          let same : e.station ≡ k = grind (arith, nat_tests) in
          let rest : counted k (e ∷ P) ≡ counted k P = same_count k e P (omega arith) in
          omega (arith, rest)
      | false ↦ λ is.
          let less : e.station < k = grind (arith, nat_tests) in
          let rest : counted k (e ∷ P) ≡ counted k P + 1 = one_more k e P less in
          omega (arith, rest)
    ] refl

-- a lawful list has all its entries at the stations of the setup
all_counted : (S : Museum) (depth : ℕ) (P : List Entry) → IsLawful S depth P
    → length P ≡ counted (length S.stations) P
all_counted S depth [] lawful = none (length S.stations)
  where
    none : (k : ℕ) → 0 ≡ counted k []
    none zero = refl
    none (suc k) = let rest : 0 ≡ counted k [] = none k in omega (arith, rest)
all_counted S depth (e ∷ P) (follows, lawful) =
    let rest : length P ≡ counted (length S.stations) P = all_counted S depth P lawful in
    let more : counted (length S.stations) (e ∷ P) ≡ counted (length S.stations) P + 1 =
    one_more (length S.stations) e P follows.known in
    omega (arith, rest, more)

-- no station has more than the last number
pub few_at : (S : Museum) (depth : ℕ) (k : ℕ) (P : List Entry) → IsLawful S depth P
    → count_at k P ≤ LAST_NUMBER
few_at S depth k [] lawful = omega arith
few_at S depth k (e ∷ P) (follows, lawful) =
    elim (e.station == k) as (λ b. (e.station == k) ≡ b
    → (if b then 1 else 0) + count_at k P ≤ LAST_NUMBER) [
      | true ↦ λ is.
          let same : e.station ≡ k = grind (arith, nat_tests) in
          let number : e.n ≡ count_at k P + 1 =
          follows.next ∙ ap (λ (s : ℕ). count_at s P + 1) same in
          omega (arith, number, follows.few)
      | false ↦ λ is. let rest : count_at k P ≤ LAST_NUMBER = few_at S depth k P lawful in
          omega (arith, rest)
    ] refl

few_counted : (S : Museum) (depth : ℕ) (k : ℕ) (P : List Entry) → IsLawful S depth P
    → counted k P ≤ 999999 * k
few_counted S depth zero P lawful = omega arith
few_counted S depth (suc k) P lawful =
    let one : count_at k P ≤ 999999 = few_at S depth k P lawful in
    let rest : counted k P ≤ 999999 * k = few_counted S depth k P lawful in
    omega (arith, one, rest)

few_entries : (S : Museum) (depth : ℕ) (P : List Entry) → length S.stations ≤ 64
    → IsLawful S depth P → length P ≤ 63999936
few_entries S depth P few lawful =
    let all : length P ≡ counted (length S.stations) P = all_counted S depth P lawful in
    let bound : counted (length S.stations) P ≤ 999999 * length S.stations =
    few_counted S depth (length S.stations) P lawful in
    omega (arith, few, all, bound)

abbrev the_spot : ℕ → ℕ → ℤ → Spot
the_spot number p day = record { entry = number; place = p; day = day }

one_is_one : (s : Spot) → length (option_to_list (Some s)) ≤ 1
one_is_one s = omega arith

-- an entry adds at most one spot
one_spot : (number : ℕ) (before after : Option ℕ) (day : Option ℤ)
    → length (option_to_list (spot_from number before after day)) ≤ 1
one_spot number before None day = omega arith
one_spot number before (Some p) None = omega arith
one_spot number before (Some p) (Some day) =
    elim (is_same_place before (Some p)) as
    (λ b. length (option_to_list (if b then None else Some (the_spot number p day))) ≤ 1) [
      | true ↦ omega arith
      | false ↦ one_is_one (the_spot number p day)
    ]

few_spots : (S : Museum) (P : List Entry) (x : ℕ) → length (spots S P x) ≤ length P
few_spots S [] x = omega arith
few_spots S (e ∷ P) x =
    let rest : length (spots S P x) ≤ length P = few_spots S P x in
    let one = one_spot (length P + 1) (place_at S P x) (place_at S (e ∷ P) x) (day_of e.message) in
    let all = length-append (spots S P x)
    (option_to_list (spot_from (length P + 1) (place_at S P x) (place_at S (e ∷ P) x)
    (day_of e.message))) in
    omega (arith, rest, one, all)

-- the size of a ledger's fields
module _ {S : Museum} {P : List Entry} {N : Nested} {R : List (List Spot)} {L : List LoanRow}
    {A : List ℕ} {T : List Standing} (kept : IsKept S P N R L A T) (museum : IsMuseum S) where
  pub few_kept : length P ≤ MOST_ENTRIES
  few_kept = few_entries S N.depth P museum.few_stations kept.lawful

  pub few_spots_kept : (x : ℕ) → length (spots S P x) ≤ MOST_ENTRIES
  few_spots_kept x =
      let spots_few : length (spots S P x) ≤ length P = few_spots S P x in
      let few : length P ≤ 63999936 = few_kept in
      omega (arith, spots_few, few)
