-- Defines how a text is written in a page of HTML.
use Rattle.std.specs.Prelude.{ℕ, ◌∷◌, [], ◌==◌, ◌&&◌, ◌||◌, Bool, List, codes}
use Rattle.std.specs.Prelude.{nat_eq, true, if◌then◌else◌}
use Rattle.std.specs.List.{find, flat_map, list_any, starts_with}
use Rattle.std.specs.Option.{option_map_or}

-- The bytes that mean something in HTML, & < > " and ', each with its character reference.
abbrev pub references : List (ℕ × List ℕ)
references =
    (38, codes "&amp;")
    ∷ (60, codes "&lt;")
    ∷ (62, codes "&gt;")
    ∷ (34, codes "&quot;")
    ∷ (39, codes "&#39;") ∷ []

-- A byte as it is written in the page.
abbrev pub escaped_byte : ℕ → List ℕ
escaped_byte b = option_map_or (λ r. r.1) (find (λ r. b == r.0) references) (b ∷ [])

-- A text as it is written in the page, between tags or in a quoted attribute.
abbrev pub escaped : List ℕ → List ℕ
escaped text = flat_map escaped_byte text

-- The byte can begin or end a tag or an attribute: < > " or '.
abbrev pub is_mark : ℕ → Bool
is_mark b = (b == 60) || (b == 62) || (b == 34) || (b == 39)

-- The text begins with a reference.
abbrev pub begins_reference : List ℕ → Bool
begins_reference text = list_any (λ r. starts_with nat_eq text r.1) references

-- Each & in the text begins a reference.
abbrev pub has_whole_references : List ℕ → Bool
has_whole_references [] = true
has_whole_references (b ∷ bs) =
    (if b == 38 then begins_reference (b ∷ bs) else true) && has_whole_references bs
