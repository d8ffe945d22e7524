-- The text of several entries' rows. An entry may have no row.
use Rattle.std.proofs.Common.{◌≡◌, ◌∙◌, ℕ, ◌+◌, ◌<◌, List, [], ◌∷◌, ◌++◌, map, take, ap, sym}
use Rattle.std.proofs.Common.{drop}
use Rattle.std.proofs.Common.{refl, subst, Option, arith}
use Rattle.std.proofs.lemmas.Grind.{flat_map-append}
use Rattle.std.proofs.lemmas.List.{append-nil, map-append, take-append-drop, take_all}
use Rattle.std.specs.Io.KnownBytes.{Appends}
use Rattle.std.proofs.lemmas.List.FromFn.{length-map-range_with_len}
use Rattle.std.specs.List.{flat_map, range_with_len, slice_get}
use Rattle.std.specs.Option.{option_to_list}
use Rattle.std.specs.Prelude.{IsTrue}
use Rattle.reports.specs.declared.fault.PrintFault.{PrintFault}
use Rattle.reports.specs.Forms.{Stops, ends_line}
use Rattle.reports.proofs.NumberedRows.{numbered}
use Rattle.reports.proofs.WrittenText.{lines_end, lines_more, stops_after, stops_at}

-- The rows of n entries.
abbrev pub each : {X : Type 0} → (ℕ → List X) → ℕ → List (List X)
each rows n = map rows (range_with_len 0 n)

-- The text of all rows is that of each entry's rows.
pub each_text : {X : Type 0} (text : X → List ℕ) (rows : ℕ → List X) (numbers : List ℕ)
    → flat_map text (flat_map rows numbers) ≡ flat_map (flat_map text) (map rows numbers)
each_text text rows [] = refl
each_text text rows (n ∷ numbers) =
    flat_map-append text (rows n) (flat_map rows numbers)
    ∙ ap (λ t. flat_map text (rows n) ++ t) (each_text text rows numbers)

-- The text of entry i alone.
pub text_at : {X : Type 0} (text : X → List ℕ) (rows : ℕ → List X) (n i : ℕ) → i < n
    → flat_map (flat_map text) (option_to_list (slice_get (each rows n) i)) ≡ flat_map text (rows i)
text_at text rows n i within =
    ap (λ r. flat_map (flat_map text) (option_to_list r)) (numbered rows n i within)
    ∙ append-nil (flat_map text (rows i))

-- The text through entry i.
pub text_more : {X : Type 0} (text : X → List ℕ) (rows : ℕ → List X) (n i : ℕ) → i < n
    → flat_map (flat_map text) (take (i + 1) (each rows n))
    ≡ flat_map (flat_map text) (take i (each rows n)) ++ flat_map text (rows i)
text_more text rows n i within =
    lines_more (flat_map text) (each rows n) i
    ∙ ap (λ t. flat_map (flat_map text) (take i (each rows n)) ++ t) (text_at text rows n i within)

-- What is made of the rows through entry i.
pub pieces_more : {X Y : Type 0} (f : List X → List Y) (rows : ℕ → List X) (n i : ℕ) → i < n
    → flat_map f (take (i + 1) (each rows n)) ≡ flat_map f (take i (each rows n)) ++ f (rows i)
pieces_more f rows n i within =
    lines_more f (each rows n) i
    ∙ ap (λ t. flat_map f (take i (each rows n)) ++ t)
    (ap (λ r. flat_map f (option_to_list r)) (numbered rows n i within) ∙ append-nil (f (rows i)))

mapped : {X Y : Type 0} (g : X → Y) (rows : ℕ → List X) (numbers : List ℕ)
    → flat_map (map g) (map rows numbers) ≡ map g (flat_map rows numbers)
mapped g rows [] = refl
mapped g rows (n ∷ numbers) =
    ap (λ t. map g (rows n) ++ t) (mapped g rows numbers)
    ∙ sym (map-append g (rows n) (flat_map rows numbers))

-- What is made of each row of all entries.
pub pieces_all : {X Y : Type 0} (g : X → Y) (rows : ℕ → List X) (n i : ℕ) → n ≡ i
    → flat_map (map g) (take i (each rows n)) ≡ map g (flat_map rows (range_with_len 0 n))
pieces_all g rows n i is =
    ap (flat_map (map g)) (take_all i (each rows n)
    (omega (arith, is, length-map-range_with_len rows 0 n)))
    ∙ mapped g rows (range_with_len 0 n)

-- The text of all entries.
pub text_all : {X : Type 0} (text : X → List ℕ) (rows : ℕ → List X) (n i : ℕ) → n ≡ i
    → flat_map (flat_map text) (take i (each rows n))
    ≡ flat_map text (flat_map rows (range_with_len 0 n))
text_all text rows n i is =
    ap (flat_map (flat_map text)) (take_all i (each rows n)
    (omega (arith, is, length-map-range_with_len rows 0 n)))
    ∙ sym (each_text text rows (range_with_len 0 n))

-- A fault after the entries before k.
pub stops_through : {X : Type 0} (a b : Option (List ℕ)) (fault : PrintFault) (text : X → List ℕ)
    → ((x : X) → IsTrue (ends_line (text x))) → (rows : ℕ → List X) (n k : ℕ)
    → Appends a b (flat_map (flat_map text) (take k (each rows n)))
    → Stops a b fault (flat_map text (flat_map rows (range_with_len 0 n)))
stops_through a b fault text ends rows n k p =
    let whole : flat_map text (flat_map rows (range_with_len 0 n))
    ≡ flat_map (flat_map text) (take k (each rows n))
    ++ flat_map (flat_map text) (drop k (each rows n))
    = each_text text rows (range_with_len 0 n)
    ∙ (ap (flat_map (flat_map text)) (sym (take-append-drop k (each rows n)))
    ∙ flat_map-append (flat_map text) (take k (each rows n)) (drop k (each rows n))) in
    subst (Stops a b fault) (sym whole)
    (stops_after a b fault _ _
    (lines_end (flat_map text) (lines_end text ends) (take k (each rows n))) p)

-- A fault at entry i.
pub stops_at_entry : {X : Type 0} (a b c : Option (List ℕ)) (fault : PrintFault)
    (text : X → List ℕ) → ((x : X) → IsTrue (ends_line (text x))) → (rows : ℕ → List X) (n i : ℕ)
    → i < n → Appends a b (flat_map (flat_map text) (take i (each rows n)))
    → Stops b c fault (flat_map text (rows i))
    → Stops a c fault (flat_map text (flat_map rows (range_with_len 0 n)))
stops_at_entry a b c fault text ends rows n i within p q =
    subst (Stops a c fault) (sym (each_text text rows (range_with_len 0 n)))
    (stops_at a b c fault (flat_map text) (lines_end text ends) (each rows n) i p
    (subst (Stops b c fault) (sym (text_at text rows n i within)) q))
