-- The text of a section, and of one after another.
use Rattle.std.proofs.Common.{◌≡◌, ◌<◌, ◌∙◌, ℕ, ◌+◌, ◌-◌, ◌++◌, ◌∷◌, [], List, Option, Result}
use Rattle.std.proofs.Common.{ap, arith, map, refl, subst, sym}
use Rattle.std.specs.Io.KnownBytes.{Appends}
use Rattle.std.specs.List.{flat_map, range_with_len}
use Rattle.std.proofs.lemmas.Grind.{flat_map-append}
use Rattle.std.proofs.lemmas.List.{append-nil}
use Rattle.page_core.specs.Pieces.{Piece, page_text, piece_text}
use Rattle.page_core.specs.Pieces.Piece.{markup}
use Rattle.page_core.specs.Pages.{section}
use Rattle.reports.specs.declared.fault.PrintFault.{PrintFault}
use Rattle.reports.specs.Writes.{Stops, Writes, rows_text}
use Rattle.reports.proofs.WrittenSections.{stops_longer, stops_within, writes_after}
use Rattle.reports.proofs.Ranges.{flat_more, range_parts}

rows-text : (rows : List (List Piece))
    → page_text (flat_map (λ row. row) rows) ≡ rows_text (map page_text rows)
rows-text [] = refl
rows-text (row ∷ rows) =
    flat_map-append piece_text row (flat_map (λ r. r) rows)
    ∙ ap (λ t. page_text row ++ t) (rows-text rows)

pub section-text : (before : List ℕ) (rows : List (List Piece)) (after : List ℕ)
    → page_text (section before rows after)
    ≡ before ++ (rows_text (map page_text rows) ++ after)
section-text before rows after =
    ap (λ t. before ++ t)
    (flat_map-append piece_text (flat_map (λ row. row) rows) (markup after ∷ [])
    ∙ (ap (λ t. t ++ (after ++ [])) (rows-text rows)
    ∙ ap (λ t. rows_text (map page_text rows) ++ t) (append-nil after)))

pub sections-text : (one other : List Piece)
    → page_text (one ++ other) ≡ page_text one ++ page_text other
sections-text one other = flat_map-append piece_text one other

-- the texts of rows, each made of an element
pub texts-of : {X : Type 0} (row : X → List Piece) (xs : List X)
    → map page_text (map row xs) ≡ map (λ x. page_text (row x)) xs
texts-of row [] = refl
texts-of row (x ∷ xs) = ap (λ ts. page_text (row x) ∷ ts) (texts-of row xs)

-- A section with a row for each element.
pub section-texts : {X : Type 0} (before after : List ℕ) (row : X → List Piece) (xs : List X)
    → before ++ (rows_text (map (λ x. page_text (row x)) xs) ++ after)
    ≡ page_text (section before (map row xs) after)
section-texts before after row xs =
    ap (λ ts. before ++ (rows_text ts ++ after)) (sym (texts-of row xs))
    ∙ sym (section-text before (map row xs) after)

-- The text of rows in rows.
pub rows_within : {X : Type 0} (row : X → List Piece) (xs : List X)
    → page_text (flat_map row xs) ≡ flat_map (λ x. page_text (row x)) xs
rows_within row [] = refl
rows_within row (x ∷ xs) =
    flat_map-append piece_text (row x) (flat_map row xs)
    ∙ ap (λ t. page_text (row x) ++ t) (rows_within row xs)

-- The end of the page.
pub end-text : (m : List ℕ) → page_text (markup m ∷ []) ≡ m
end-text m = append-nil m

-- Sections that are written one after another.

-- the first fails
pub first_fails : (a b : Option (List ℕ)) (one rest : List Piece)
    → Stops a b (page_text one) → Stops a b (page_text (one ++ rest))
first_fails a b one rest p =
    subst (Stops a b) (sym (sections-text one rest))
    (stops_longer a b (page_text one) (page_text rest) p)

-- a later one fails
pub later_fails : (a b c : Option (List ℕ)) (one rest : List Piece)
    → Appends a b (page_text one) → Stops b c (page_text rest)
    → Stops a c (page_text (one ++ rest))
later_fails a b c one rest p q =
    subst (Stops a c) (sym (sections-text one rest))
    (stops_within a b c (page_text one) (page_text rest) p q)

-- the first is written
pub then_rest : (a b c : Option (List ℕ)) (r : Result Unit PrintFault) (one rest : List Piece)
    → Appends a b (page_text one) → Writes b c r (page_text rest)
    → Writes a c r (page_text (one ++ rest))
then_rest a b c r one rest p q =
    subst (Writes a c r) (sym (sections-text one rest))
    (writes_after a b c r (page_text one) (page_text rest) p q)

-- The fault comes at the text of number i.
pub stops_in_range : (a b c : Option (List ℕ)) (text : ℕ → List ℕ) (n i : ℕ) → i < n
    → Appends a b (flat_map text (range_with_len 0 i)) → Stops b c (text i)
    → Stops a c (flat_map text (range_with_len 0 n))
stops_in_range a b c text n i lt p q =
    let later = range_with_len (0 + (i + 1)) (n - (i + 1)) in
    let whole : flat_map text (range_with_len 0 n)
    ≡ (flat_map text (range_with_len 0 i) ++ text i) ++ flat_map text later
    = ap (flat_map text) (range_parts 0 n (i + 1) (n - (i + 1)) (omega (arith, lt)))
    ∙ (flat_map-append text (range_with_len 0 (i + 1)) later
    ∙ ap (λ t. t ++ flat_map text later) (flat_more text i)) in
    subst (Stops a c) (sym whole)
    (stops_longer a c (flat_map text (range_with_len 0 i) ++ text i) (flat_map text later)
    (stops_within a b c (flat_map text (range_with_len 0 i)) (text i) p q))
