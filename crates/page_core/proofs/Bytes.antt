-- The text of a byte in a page, by cases of the byte.
use Rattle.std.proofs.Common.{◌≡◌, ℕ, ◌+◌, ◌%◌, ◌/◌, ◌==◌, Bool, true}
use Rattle.std.proofs.Common.{false, List, [], ◌∷◌, ◌++◌, cond, zero, suc, refl, ap}
use Rattle.std.proofs.Common.{◌∙◌, arith, nat_lt}
use Rattle.std.specs.Prelude.{◌&&◌, ◌||◌, None, Some, codes, decimal, if◌then◌else◌}
use Rattle.std.specs.Fmt.{digit_glyph, digits, digits_onto}
use Rattle.std.specs.List.{flat_map}
use Rattle.std.specs.Option.{option_map_or}
use Rattle.std.proofs.lemmas.List.Elements.{filter-append}
use Rattle.page_core.specs.Escapes.{begins_reference, escaped, escaped_byte, has_whole_references}
use Rattle.page_core.specs.Escapes.{is_mark}
use Rattle.page_core.specs.Pieces.{Piece, marks, own_marks, page_text, piece_text}
use Rattle.page_core.specs.Pieces.Piece.{markup, text, number}

-- the text of a byte, by which of the five it is
abbrev by_kind : Bool → Bool → Bool → Bool → Bool → ℕ → List ℕ
by_kind a l g q s b = option_map_or (λ (r : ℕ × List ℕ). r.1)
    (cond a (Some (38, codes "&amp;")) (cond l (Some (60, codes "&lt;"))
    (cond g (Some (62, codes "&gt;")) (cond q (Some (34, codes "&quot;"))
    (cond s (Some (39, codes "&#39;")) None))))) (b ∷ [])

no_marks : (a l g q s : Bool) (b : ℕ)
    → marks (b ∷ []) ≡ cond (l || g || q || s) (b ∷ []) []
    → marks (by_kind a l g q s b) ≡ []
no_marks true l g q s b h = refl
no_marks false true g q s b h = refl
no_marks false false true q s b h = refl
no_marks false false false true s b h = refl
no_marks false false false false true b h = refl
no_marks false false false false false b h = h

-- an escaped text has no marks
pub marks-escaped : (t : List ℕ) → marks (escaped t) ≡ []
marks-escaped [] = refl
marks-escaped (b ∷ t) =
    filter-append is_mark (escaped_byte b) (escaped t)
    ∙ (ap (λ m. m ++ marks (escaped t))
    (no_marks (b == 38) (b == 60) (b == 62) (b == 34) (b == 39) b refl)
    ∙ marks-escaped t)

whole : (a l g q s : Bool) (b : ℕ) (rest : List ℕ) → has_whole_references (b ∷ rest)
    ≡ ((if a then begins_reference (b ∷ rest) else true) && has_whole_references rest)
    → has_whole_references (by_kind a l g q s b ++ rest) ≡ has_whole_references rest
whole true l g q s b rest h = refl
whole false true g q s b rest h = refl
whole false false true q s b rest h = refl
whole false false false true s b rest h = refl
whole false false false false true b rest h = refl
whole false false false false false b rest h = h

-- each & of an escaped text begins a reference
pub references-escaped : (t : List ℕ) → has_whole_references (escaped t) ≡ true
references-escaped [] = refl
references-escaped (b ∷ t) =
    whole (b == 38) (b == 60) (b == 62) (b == 34) (b == 39) b (escaped t) refl
    ∙ references-escaped t

-- a digit is no mark
glyph : (d : ℕ) → is_mark (digit_glyph false d) ≡ false
glyph d = below (nat_lt d 10) refl
  where
    below : (b : Bool) → nat_lt d 10 ≡ b → is_mark (cond b (48 + d) (87 + d)) ≡ false
    below true e = digit
      where
        digit : is_mark (48 + d) ≡ false
        digit = grind arith
    below false e = letter
      where
        letter : is_mark (87 + d) ≡ false
        letter = grind arith

pick : (b : Bool) (x y : List ℕ) → marks x ≡ [] → marks y ≡ []
    → marks (cond b x y) ≡ []
pick true x y p q = p
pick false x y p q = q

first : (d : ℕ) (acc : List ℕ) → marks acc ≡ []
    → marks (digit_glyph false d ∷ acc) ≡ []
first d acc p =
    ap (λ (b : Bool). cond b (digit_glyph false d ∷ marks acc) (marks acc)) (glyph d) ∙ p

digits-marks : (k n : ℕ) (acc : List ℕ) → marks acc ≡ []
    → marks (digits_onto k 10 false n acc) ≡ []
digits-marks zero n acc p = p
digits-marks (suc k) n acc p =
    pick (n / 10 == 0) _ _ (first (n % 10) acc p)
    (digits-marks k (n / 10) (digit_glyph false (n % 10) ∷ acc) (first (n % 10) acc p))

marks-decimal : (n : ℕ) → marks (decimal n) ≡ []
unfolding digits
marks-decimal n = digits-marks 64 n [] refl

piece-marks : (p : Piece) → marks (piece_text p) ≡ own_marks p
piece-marks (markup m) = refl
piece-marks (text t) = marks-escaped t
piece-marks (number n) = marks-decimal n

-- the marks of a page are those of its markup
pub marks-page : (ps : List Piece) → marks (page_text ps) ≡ flat_map own_marks ps
marks-page [] = refl
marks-page (p ∷ ps) =
    filter-append is_mark (piece_text p) (page_text ps)
    ∙ (ap (λ m. m ++ marks (page_text ps)) (piece-marks p)
    ∙ ap (λ m. own_marks p ++ m) (marks-page ps))
