-- How long replies are.
use Rattle.std.proofs.Common.{◌≡◌, ℕ, suc, ◌+◌, ◌<◌, ◌≤◌, ◌^◌, true, true≢false, List, [], ◌∷◌}
use Rattle.std.proofs.Common.{length, Some, Result, Ok, Err, refl, ap, sym, subst, arith}
use Rattle.std.proofs.Common.{length-append}
use Rattle.std.proofs.lemmas.Bool.{and_parts}
use Rattle.std.proofs.lemmas.Bool.Decides.{nat_tests}
use Rattle.std.proofs.lemmas.Fmt.{length-decimal-le}
use Rattle.std.specs.Prelude.{◌&&◌, nat_lt, nat_le, codes, flat_map, unwrap_or, IsOk, OnErr}
use Rattle.std.specs.Fmt.{decimal}
use Rattle.std.specs.List.{list_all}
use Rattle.nest_core.specs.Museum.{Museum, station_name_of, thing_code_of}
use Rattle.nest_core.specs.StationName.{is_station_name, is_station_byte}
use Rattle.nest_core.proofs.Positions.{passes_at}
use Rattle.station_core.specs.declared.Refusal.{Refusal}
use Rattle.station_core.specs.declared.Refusal.TheVariants.{UnknownStation, BadNumber, Double}
use Rattle.station_core.specs.declared.Refusal.TheVariants.{SignedOff, TooEarly}
use Rattle.station_core.specs.Refusals.{refusal_name}
use Rattle.hub_core.specs.declared.line.wording.TheConstants.{REPLY_ROOM}
use Rattle.hub_core.specs.LineText.{chain_text, container_text}
use Rattle.hub_core.specs.Replies.{refused_line, unknown_station_line, held_line, bad_line}

digits_few : (n : ℕ) → n < 2 ^ 64 → length (decimal n) ≤ 20
digits_few n small = length-decimal-le 20 n (omega arith) (omega (arith, small)) small

short_by_test : (name : List ℕ) → is_station_name name ≡ true → length name ≤ 16
short_by_test name h =
    let sized : (nat_lt 0 (length name) && nat_le (length name) 16) ≡ true =
    (and_parts _ (list_all is_station_byte name) h).0 in
    let short : nat_le (length name) 16 ≡ true = (and_parts (nat_lt 0 (length name)) _ sized).1 in
    grind (arith, nat_tests)

-- a station's name is short
pub name_short : (S : Museum) (s : ℕ) (name : List ℕ) → list_all is_station_name S.stations ≡ true
    → station_name_of S s ≡ Some name → length name ≤ 16
name_short S s name names is =
    short_by_test name (passes_at is_station_name S.stations s name names is)

-- and so is the name of a refusal
pub word_short : (refusal : Refusal) (word : List ℕ) → word ≡ refusal_name refusal
    → length word ≤ 14
word_short refusal word is = subst (λ (w : List ℕ). length w ≤ 14) (sym is) (by refusal)
  where
    by : (refusal : Refusal) → length (refusal_name refusal) ≤ 14
    by UnknownStation = omega arith
    by BadNumber = omega arith
    by Double = omega arith
    by SignedOff = omega arith
    by TooEarly = omega arith

-- there is room for each of these replies
module _ (used room : ℕ) (has : used + REPLY_ROOM ≤ room) (n : ℕ) (small : n < 2 ^ 64) where
  pub refused_fits : (name word : List ℕ) → length name ≤ 16 → length word ≤ 14
      → used + length (refused_line name n word) ≤ room
  refused_fits name word short brief = let digits = digits_few n small in
      simp length-append (omega (arith, has, short, brief, digits))

  pub held_fits : (name : List ℕ) → length name ≤ 16 → used + length (held_line name n) ≤ room
  held_fits name short = let digits = digits_few n small in
      simp length-append (omega (arith, has, short, digits))

  pub unknown_fits : used + length (unknown_station_line n) ≤ room
  unknown_fits = let digits = digits_few n small in simp length-append (omega (arith, has, digits))

  pub too_long_fits : used + length (bad_line n (codes "TooLong")) ≤ room
  too_long_fits = let digits = digits_few n small in simp length-append (omega (arith, has, digits))

-- a call that succeeds has no fault
pub no_fault : {T E : Type 0} (r : Result T E) (P : Type 0) → IsOk r → OnErr r P
no_fault (Ok x) P is = tt
no_fault (Err e) P is = absurd (true≢false (sym is))

-- the text of containers, if there are any
pub chain_length : (S : Museum) (cs : List ℕ) (i : ℕ) → i < length cs
    → length (chain_text S cs) ≡ suc (suc (suc (length (flat_map (container_text S) cs))))
chain_length S [] i within = absurd (omega arith)
chain_length S (c ∷ cs) i within = refl

-- the text of one container
pub container_length : (S : Museum) (x : ℕ) (code : List ℕ) → thing_code_of S x ≡ Some code
    → length (container_text S x) ≡ suc (length code)
container_length S x code is = ap (λ it. suc (length (unwrap_or it []))) is
