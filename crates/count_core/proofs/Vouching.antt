-- The containers that vouch for a thing, by flags.
use Rattle.std.specs.Prelude.{ℕ, ◌≡◌, ◌==◌, ◌||◌, ◌<◌, ◌≤◌, not, Bool, true, false, cond, List, []}
use Rattle.std.specs.Prelude.{◌∷◌, filter, length, Option, Some, None, refl, zero, suc, nat_lt}
use Rattle.std.specs.Prelude.{if◌then◌else◌}
use Rattle.std.proofs.Common.{arith, ap, sym, ◌∙◌}
use Rattle.std.proofs.lemmas.Bool.Decides.{nat_tests}
use Rattle.std.specs.List.{list_any}
use Rattle.std.specs.Option.{option_map_or}
use Rattle.nest_core.specs.Puts.{is_among}
use Rattle.posting_core.specs.Book.{Book, chain_in}
use Rattle.count_core.specs.declared.count_row.CountRow.{CountRow}
use Rattle.count_core.specs.declared.answer.MissingObject.{MissingObject}
use Rattle.count_core.specs.Counts.{look, missing, named}
use Rattle.count_core.specs.Marks.{AreNames, flagged, names_by}
use Rattle.count_core.specs.Sealed.{is_found, is_in_flagged, is_vouched_for, missing_sealed}
use Rattle.count_core.specs.Sealed.{seen_in_place}
use Rattle.count_core.proofs.Flags.{by_bool}
use Rattle.count_core.proofs.RowMarks.{named_below}

any_alike : (p q : ℕ → Bool) (cs : List ℕ) → ((c : ℕ) → p c ≡ q c) → list_any p cs ≡ list_any q cs
any_alike p q [] same = refl
any_alike p q (c ∷ cs) same = ap (λ b. b || list_any p cs) (same c)
    ∙ ap (λ b. q c || b) (any_alike p q cs same)

any_none : (cs : List ℕ) → list_any (λ (c : ℕ). false) cs ≡ false
any_none [] = refl
any_none (c ∷ cs) = any_none cs

or_parts : (a b x y : Bool) → ((a || b) || (x || y)) ≡ ((a || x) || (b || y))
or_parts true b x y = refl
or_parts false true true y = refl
or_parts false true false y = refl
or_parts false false x y = refl

any_or : (p q : ℕ → Bool) (cs : List ℕ)
    → list_any (λ c. p c || q c) cs ≡ (list_any p cs || list_any q cs)
any_or p q [] = refl
any_or p q (c ∷ cs) = ap (λ b. (p c || q c) || b) (any_or p q cs)
    ∙ or_parts (p c) (q c) (list_any p cs) (list_any q cs)

both_ways : (a b : ℕ) → (a == b) ≡ (b == a)
both_ways a b = grind (arith, nat_tests)

among : (y : ℕ) (cs : List ℕ) → list_any (λ c. y == c) cs ≡ is_among y cs
among y [] = refl
among y (c ∷ cs) = ap (λ b. b || list_any (λ d. y == d) cs) (both_ways y c)
    ∙ ap (λ b. (c == y) || b) (among y cs)

number_among : (o : Option ℕ) (cs : List ℕ) → list_any (λ c. option_map_or (λ y. y == c) o false) cs
    ≡ option_map_or (λ y. is_among y cs) o false
number_among None cs = any_none cs
number_among (Some y) cs = among y cs

-- one of these numbers is named by a row if a row names one of them
named_among : {X : Type 0} (number : X → Option ℕ) (rows : List X) (cs : List ℕ)
    → list_any (names_by number rows) cs
    ≡ list_any (λ r. option_map_or (λ y. is_among y cs) (number r) false) rows
named_among number [] cs = any_none cs
named_among number (r ∷ rows) cs =
    any_or (λ c. option_map_or (λ y. y == c) (number r) false) (names_by number rows) cs
    ∙ (ap (λ b. b || list_any (names_by number rows) cs) (number_among (number r) cs)
    ∙ ap (λ b. option_map_or (λ y. is_among y cs) (number r) false || b)
    (named_among number rows cs))

seen_below : (B : Book) (r : CountRow) (y : ℕ) → seen_in_place B r ≡ Some y
    → y < length B.museum.things
seen_below B r y = by (is_found (look B r))
  where
    by : (b : Bool) → (if b then named B.museum r else None) ≡ Some y → y < length B.museum.things
    by true is = named_below B.museum r.object y is
    by false is = absurd (cc)

-- no row names a number that no thing has
none_beyond : (B : Book) (rows : List CountRow) (c : ℕ) → length B.museum.things ≤ c
    → names_by (seen_in_place B) rows c ≡ false
none_beyond B [] c le = refl
none_beyond B (r ∷ rows) c le =
    ap (λ b. b || names_by (seen_in_place B) rows c) (by (seen_in_place B r) (seen_below B r))
    ∙ none_beyond B rows c le
  where
    by : (o : Option ℕ) → ((y : ℕ) → o ≡ Some y → y < length B.museum.things)
        → option_map_or (λ y. y == c) o false ≡ false
    by None small = refl
    by (Some y) small = let lt = small y refl in grind (arith, nat_tests)

no_flag_beyond : (flags : List Bool) (c : ℕ) → length flags ≤ c → flagged flags (Some c) ≡ false
no_flag_beyond [] c le = refl
no_flag_beyond (b ∷ flags) zero le = absurd (omega arith)
no_flag_beyond (b ∷ flags) (suc c) le = no_flag_beyond flags c (omega arith)

flag_of_each : (B : Book) (rows : List CountRow) (flags : List Bool)
    → AreNames (seen_in_place B) (length B.museum.things) rows flags → (c : ℕ)
    → flagged flags (Some c) ≡ names_by (seen_in_place B) rows c
flag_of_each B rows flags are c = by_bool (nat_lt c (length B.museum.things))
    (λ e. are.each c (grind (arith, nat_tests)))
    (λ e. let le : length B.museum.things ≤ c = grind (arith, nat_tests) in
    no_flag_beyond flags c (let m = are.many in omega (arith, m, le))
    ∙ sym (none_beyond B rows c le))

-- a thing in a flagged container is one that a row vouches for
flags_vouch : (B : Book) (rows : List CountRow) (flags : List Bool)
    → AreNames (seen_in_place B) (length B.museum.things) rows flags → (x : ℕ)
    → is_in_flagged B flags x ≡ is_vouched_for B rows x
flags_vouch B rows flags are x =
    any_alike (λ c. flagged flags (Some c)) (names_by (seen_in_place B) rows) (chain_in B x)
    (flag_of_each B rows flags are)
    ∙ named_among (seen_in_place B) rows (chain_in B x)

filter_alike : {X : Type 0} (p q : X → Bool) (xs : List X) → ((x : X) → p x ≡ q x)
    → filter p xs ≡ filter q xs
filter_alike p q [] same = refl
filter_alike p q (x ∷ xs) same =
    ap (λ b. cond b (x ∷ filter p xs) (filter p xs)) (same x)
    ∙ ap (λ ys. cond (q x) (x ∷ ys) ys) (filter_alike p q xs same)

pub flags_leave : (B : Book) (rows : List CountRow) (flags : List Bool)
    → AreNames (seen_in_place B) (length B.museum.things) rows flags
    → filter (λ m. not (is_in_flagged B flags m.object)) (missing B rows) ≡ missing_sealed B rows
flags_leave B rows flags are =
    filter_alike (λ (m : MissingObject). not (is_in_flagged B flags m.object))
    (λ (m : MissingObject). not (is_vouched_for B rows m.object)) (missing B rows)
    (λ m. ap not (flags_vouch B rows flags are m.object))
