-- A thing's spots and its locations, one entry after another.
use Rattle.std.proofs.Common.{◌≡◌, ◌∙◌, ℕ, ℤ, ◌+◌, ◌<◌, ◌≤◌, ◌==◌, Bool, true, false, List, []}
use Rattle.std.proofs.Common.{◌∷◌, ◌++◌, All, None, Option, Some, add-one, ap, arith, cond, filter}
use Rattle.std.proofs.Common.{length, map, refl, subst, suc, sym, take, zero}
use Rattle.std.specs.Prelude.{reverse}
use Rattle.std.specs.Option.{option_to_list}
use Rattle.std.proofs.lemmas.Bool.Decides.{nat_tests}
use Rattle.std.proofs.lemmas.List.{append-nil, length-reverse, length-take-le, map-append}
use Rattle.std.proofs.lemmas.List.{reverse-append}
use Rattle.std.proofs.lemmas.List.Elements.{All-append, All-cons, All-head, All-nil, All-pop}
use Rattle.std.proofs.lemmas.List.Elements.{All-tail, All-weaker}
use Rattle.std.proofs.lemmas.List.Elements.{filter-append}
use Rattle.nest_core.specs.Museum.{Museum}
use Rattle.nest_core.specs.Nest.{is_same_place}
use Rattle.posting_core.specs.declared.entry.Entry.{Entry}
use Rattle.posting_core.specs.declared.entry.Spot.{Spot}
use Rattle.posting_core.specs.Book.{Book, chain_in, spots_in}
use Rattle.posting_core.specs.History.{place_at, spot_from, spots}
use Rattle.posting_core.specs.Messages.{day_of}
use Rattle.posting_core.specs.Past.{upto}
use Rattle.reports.specs.declared.reports.long_history.Location.{Location}
use Rattle.reports.specs.LongHistory.{IsListed, location}

-- The entry of a spot is one of n entries.
abbrev pub IsUpTo : ℕ → Spot → Type 0
IsUpTo n s = (0 < s.entry) × (s.entry ≤ n)

-- The spot is one that entry n added.
abbrev pub IsFrom : ℕ → Spot → Type 0
IsFrom n s = s.entry ≡ n

-- A spot that an entry adds has that entry's number.
spot_numbered : (n : ℕ) (before after : Option ℕ) (day : Option ℤ)
    → All (IsFrom n) (option_to_list (spot_from n before after day))
spot_numbered n before None day = All-nil (IsFrom n)
spot_numbered n before (Some p) None = All-nil (IsFrom n)
spot_numbered n before (Some p) (Some day) =
    let s : Spot = record { entry = n; place = p; day = day } in
    elim (is_same_place before (Some p)) as
    (λ b. All (IsFrom n) (option_to_list (cond b None (Some s)))) [
      | true ↦ All-nil (IsFrom n)
      | false ↦ All-cons (IsFrom n) s [] refl (All-nil (IsFrom n))
    ]

-- Spots of earlier entries are among those of more entries.
more : (n : ℕ) (s : Spot) → IsUpTo n s → IsUpTo (n + 1) s
more n s h = (h.0, omega (arith, h.1))

newer : (n : ℕ) (s : Spot) → s.entry ≡ n + 1 → IsUpTo (n + 1) s
newer n s e = (omega (arith, e), omega (arith, e))

-- The entry of each spot is posted.
pub spots_numbered : (S : Museum) (P : List Entry) (x : ℕ) → All (IsUpTo (length P)) (spots S P x)
spots_numbered S [] x = All-nil _
spots_numbered S (e ∷ P) x =
    let n = length P in
    subst (λ k. All (IsUpTo k) (spots S (e ∷ P) x)) (add-one n)
    (All-append (IsUpTo (n + 1)) _ _
    (All-weaker (IsUpTo n) (IsUpTo (n + 1)) (more n) (spots S P x) (spots_numbered S P x))
    (All-weaker (IsFrom (n + 1)) (IsUpTo (n + 1)) (newer n) _
    (spot_numbered (n + 1) (place_at S P x) (place_at S (e ∷ P) x) (day_of e.message))))

-- The test for the spots of one entry.
abbrev pub is_of : ℕ → Spot → Bool
is_of n s = s.entry == n

none_of_later : (n : ℕ) (xs : List Spot) → All (IsUpTo n) xs → filter (is_of (n + 1)) xs ≡ []
none_of_later n [] h = refl
none_of_later n (s ∷ xs) h =
    let here : IsUpTo n s = All-head (IsUpTo n) s xs h in
    let other : (s.entry == n + 1) ≡ false = grind (arith, nat_tests, here.1) in
    rw other (none_of_later n xs (All-tail (IsUpTo n) s xs h))

all_of_one : (n : ℕ) (xs : List Spot) → All (IsFrom n) xs → filter (is_of n) xs ≡ xs
all_of_one n [] h = refl
all_of_one n (s ∷ xs) h =
    let same : s.entry ≡ n = All-head (IsFrom n) s xs h in
    let here : (s.entry == n) ≡ true = grind (arith, nat_tests, same) in
    rw here (ap (λ ys. s ∷ ys) (all_of_one n xs (All-tail (IsFrom n) s xs h)))

-- The spots of a record's last entry are those that it added.
last_spots : (S : Museum) (e : Entry) (P : List Entry) (x : ℕ)
    → filter (is_of (length P + 1)) (spots S (e ∷ P) x)
    ≡ option_to_list
    (spot_from (length P + 1) (place_at S P x) (place_at S (e ∷ P) x) (day_of e.message))
last_spots S e P x =
    let n = length P in
    let added = option_to_list
    (spot_from (n + 1) (place_at S P x) (place_at S (e ∷ P) x) (day_of e.message)) in
    filter-append (is_of (n + 1)) (spots S P x) added
    ∙ (ap (λ xs. xs ++ filter (is_of (n + 1)) added)
    (none_of_later n (spots S P x) (spots_numbered S P x))
    ∙ all_of_one (n + 1) added
    (spot_numbered (n + 1) (place_at S P x) (place_at S (e ∷ P) x) (day_of e.message)))

-- The spots of a record are those before its last entry, and then those of this entry.
spots_split : (S : Museum) (e : Entry) (P : List Entry) (x : ℕ) → spots S (e ∷ P) x
    ≡ spots S P x ++ filter (is_of (length (e ∷ P))) (spots S (e ∷ P) x)
spots_split S e P x =
    subst (λ n. spots S (e ∷ P) x ≡ spots S P x ++ filter (is_of n) (spots S (e ∷ P) x))
    (add-one (length P)) (ap (λ xs. spots S P x ++ xs) (sym (last_spots S e P x)))

snoc_last : {X : Type 0} (xs ys : List X) (a b : X) → xs ++ a ∷ [] ≡ ys ++ b ∷ [] → a ≡ b
snoc_last [] [] a b e = cc
snoc_last [] (y ∷ []) a b e = absurd (cc)
snoc_last [] (y ∷ (z ∷ ys)) a b e = absurd (cc)
snoc_last (x ∷ []) [] a b e = absurd (cc)
snoc_last (x ∷ (z ∷ xs)) [] a b e = absurd (cc)
snoc_last (x ∷ xs) (y ∷ ys) a b e =
    let rest : xs ++ a ∷ [] ≡ ys ++ b ∷ [] = cc in snoc_last xs ys a b rest

newest_of : (n : ℕ) (xs : List Spot) (added : Option Spot) (front : List Spot) (s : Spot)
    → All (IsUpTo n) xs → All (IsFrom (n + 1)) (option_to_list added)
    → xs ++ option_to_list added ≡ front ++ s ∷ []
    → option_to_list added ≡ option_to_list (cond (s.entry == n + 1) (Some s) None)
newest_of n xs None front s older own e =
    let old : IsUpTo n s =
    (All-pop (IsUpTo n) xs front (Some s) (sym (append-nil xs) ∙ e) older).1 in
    let other : (s.entry == n + 1) ≡ false = grind (arith, nat_tests, old.1) in
    rw other refl
newest_of n xs (Some t) front s older own e =
    let same : t ≡ s = snoc_last xs front t s e in
    let number : t.entry ≡ n + 1 = All-head (IsFrom (n + 1)) t [] own in
    let here : (s.entry == n + 1) ≡ true =
    subst (λ (r : Spot). (r.entry == n + 1) ≡ true) same (grind (arith, nat_tests, number)) in
    rw here (ap (λ r. r ∷ []) same)

-- The last spot of a record is of its last entry, or none is.
pub newest_is : (S : Museum) (P : List Entry) (x : ℕ) (front : List Spot) (s : Spot)
    → spots S P x ≡ front ++ s ∷ []
    → option_to_list (cond (s.entry == length P) (Some s) None)
    ≡ filter (is_of (length P)) (spots S P x)
newest_is S [] x [] s e = absurd (cc)
newest_is S [] x (t ∷ front) s e = absurd (cc)
newest_is S (e ∷ P) x front s is =
    let n = length P in
    let added = spot_from (n + 1) (place_at S P x) (place_at S (e ∷ P) x) (day_of e.message) in
    subst (λ k. option_to_list (cond (s.entry == k) (Some s) None)
    ≡ filter (is_of k) (spots S (e ∷ P) x)) (add-one n)
    (sym (newest_of n (spots S P x) added front s (spots_numbered S P x)
    (spot_numbered (n + 1) (place_at S P x) (place_at S (e ∷ P) x) (day_of e.message)) is)
    ∙ sym (last_spots S e P x))

next_entry : (xs : List Entry) (i : ℕ) → i < length xs
    → (e : Entry) × (take (suc i) xs ≡ take i xs ++ e ∷ [])
next_entry [] i h = absurd (omega (arith, h))
next_entry (x ∷ xs) zero h = (x, refl)
next_entry (x ∷ xs) (suc i) h =
    let r = next_entry xs i (omega (arith, h)) in (r.0, ap (λ ys. x ∷ ys) r.1)

-- The record after one more entry has this entry before the earlier ones.
upto_next : (B : Book) (i : ℕ) → i < length B.posted
    → (e : Entry) × ((upto B (i + 1)).posted ≡ e ∷ (upto B i).posted)
upto_next B i h =
    let older = reverse B.posted in
    let r = next_entry older i (subst (λ n. i < n) (sym (length-reverse B.posted)) h) in (
      r.0,
      ap (λ k. reverse (take k older)) (add-one i)
          ∙ (ap reverse r.1 ∙ reverse-append (take i older) (r.0 ∷ [])),
    )

-- The number of entries of an earlier record.
upto_count : (B : Book) (i : ℕ) → i ≤ length B.posted → length (upto B i).posted ≡ i
upto_count B i h =
    length-reverse (take i (reverse B.posted))
    ∙ length-take-le i (reverse B.posted)
    (subst (λ n. i ≤ n) (sym (length-reverse B.posted)) h)

same_where : {X Y : Type 0} (p : X → Bool) (f g : X → Y) (xs : List X)
    → ((x : X) → p x ≡ true → f x ≡ g x) → map f (filter p xs) ≡ map g (filter p xs)
same_where p f g [] same = refl
same_where p f g (x ∷ xs) same =
    elim (p x) as (λ b. p x ≡ b → map f (cond b (x ∷ filter p xs) (filter p xs))
    ≡ map g (cond b (x ∷ filter p xs) (filter p xs))) [
      | true ↦ λ e. ap (λ y. y ∷ map f (filter p xs)) (same x e)
          ∙ ap (λ ys. g x ∷ ys) (same_where p f g xs same)
      | false ↦ λ e. same_where p f g xs same
    ] refl

-- The location of a thing at this spot, in the containers that it is in.
abbrev pub here : Book → ℕ → Spot → Location
here B x s = record { spot = s; containers = chain_in B x }

-- The locations that the last entry made for a thing.
abbrev pub newest : Book → ℕ → List Location
newest B x = map (here B x) (filter (is_of (length B.posted)) (spots_in B x))

-- The locations through one more entry are those before it, and then those that it made.
pub locations_more : (B : Book) (x i : ℕ) → i < length B.posted
    → map (location B x) (spots_in (upto B (i + 1)) x)
    ≡ map (location B x) (spots_in (upto B i) x) ++ newest (upto B (i + 1)) x
locations_more B x i h =
    let S = B.museum in
    let now = upto B (i + 1) in
    let r = upto_next B i h in
    let P = (upto B i).posted in
    let own = filter (is_of (length now.posted)) (spots_in now x) in
    let split : spots_in now x ≡ spots S P x ++ own =
    subst (λ Q. spots S Q x ≡ spots S P x ++ filter (is_of (length Q)) (spots S Q x)) (sym r.1)
    (spots_split S r.0 P x) in
    let count : length now.posted ≡ i + 1 = upto_count B (i + 1) (omega (arith, h)) in
    ap (map (location B x)) split
    ∙ (map-append (location B x) (spots S P x) own
    ∙ ap (λ ys. map (location B x) (spots S P x) ++ ys)
    (same_where (is_of (length now.posted)) (location B x) (here now x) (spots_in now x)
    (λ s is. let number : s.entry ≡ i + 1 = grind (arith, nat_tests, count, is) in
    ap (λ k. here (upto B k) x s) number)))

-- A location of an earlier record is one of the record.
pub listed_later : (B : Book) (i : ℕ) (l : Location) → i ≤ length B.posted
    → IsListed (upto B i) l → IsListed B l
listed_later B i l h listed =
    let few : l.spot.entry ≤ length B.posted =
    omega (arith, h, upto_count B i h, listed.0.1) in
    ((listed.0.0, few, listed.0.2), listed.1)
