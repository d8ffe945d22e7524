-- The parts of a seal's line.
use Rattle.std.proofs.Common.{◌≡◌, ℕ, ◌-◌, true, List, ◌++◌, length, take}
use Rattle.std.proofs.Common.{drop, refl, sym, ap, ◌∙◌, arith, append_assoc, decimal}
use Rattle.std.proofs.Math.Seq.{take-append_seam, drop-append_seam}
use Rattle.std.proofs.lemmas.Bool.Decides.{Decides-eqb}
use Rattle.std.proofs.lemmas.List.{length-append, take-append-drop}
use Rattle.std.proofs.lemmas.Slice.Eq.{starts_is}
use Rattle.hex.specs.Hex.{encode_lower, lower_digits}
use Rattle.hex.proofs.HexLemmas.{length-encode_with}
use Rattle.seal_core.specs.declared.seal.Seal.{Seal}
use Rattle.seal_core.specs.Readings.{mark, number_part, after_number, digits_part, has_mark, IsSeal}
use Rattle.seal_core.specs.Seals.{seal_text}

-- a line with this number and these digits
abbrev line_of : List ℕ → List ℕ → List ℕ
line_of number digits = number ++ mark ++ digits

cut_at : (number digits : List ℕ) → length digits ≡ 64
    → length (line_of number digits) - 72 ≡ length number
cut_at number digits few =
    let whole = length-append (number ++ mark) digits in
    let front = length-append number mark in
    omega (arith, whole, front, few)

pub cut_number : (number digits : List ℕ) → length digits ≡ 64
    → number_part (line_of number digits) ≡ number
cut_number number digits few =
    ap (λ n. take n (line_of number digits)) (cut_at number digits few)
    ∙ ap (take (length number)) (append_assoc number mark digits)
    ∙ take-append_seam number (mark ++ digits)

pub cut_rest : (number digits : List ℕ) → length digits ≡ 64
    → after_number (line_of number digits) ≡ mark ++ digits
cut_rest number digits few =
    ap (λ n. drop n (line_of number digits)) (cut_at number digits few)
    ∙ ap (drop (length number)) (append_assoc number mark digits)
    ∙ drop-append_seam number (mark ++ digits)

pub cut_digits : (number digits : List ℕ) → length digits ≡ 64
    → digits_part (line_of number digits) ≡ digits
cut_digits number digits few = ap (drop 8) (cut_rest number digits few)

pub cut_mark : (number digits : List ℕ) → length digits ≡ 64
    → has_mark (line_of number digits) ≡ true
cut_mark number digits few =
    (starts_is Decides-eqb (after_number (line_of number digits)) mark _ refl).1 digits
    (cut_rest number digits few)

-- a line with a mark has these parts
pub whole : (line : List ℕ) → has_mark line ≡ true
    → line_of (number_part line) (digits_part line) ≡ line
whole line marked =
    let n = length line - 72 in
    let rest : after_number line ≡ mark ++ digits_part line =
    (starts_is Decides-eqb (after_number line) mark _ refl).0 marked in
    append_assoc (number_part line) mark (digits_part line)
    ∙ ap (λ after. number_part line ++ after) (sym rest)
    ∙ take-append-drop n line

digits_length : (seal : Seal) → IsSeal seal → length (encode_lower seal.head) ≡ 64
digits_length seal is =
    let twice = length-encode_with lower_digits seal.head in omega (arith, twice, is.few)

-- the parts of a seal's text

pub number_of_seal : (seal : Seal) (line : List ℕ) → IsSeal seal → seal_text seal ≡ line
    → number_part line ≡ decimal seal.entries
number_of_seal seal line is text = ap number_part (sym text)
    ∙ cut_number (decimal seal.entries) (encode_lower seal.head) (digits_length seal is)

pub digits_of_seal : (seal : Seal) (line : List ℕ) → IsSeal seal → seal_text seal ≡ line
    → digits_part line ≡ encode_lower seal.head
digits_of_seal seal line is text = ap digits_part (sym text)
    ∙ cut_digits (decimal seal.entries) (encode_lower seal.head) (digits_length seal is)

pub mark_of_seal : (seal : Seal) (line : List ℕ) → IsSeal seal → seal_text seal ≡ line
    → has_mark line ≡ true
mark_of_seal seal line is text = ap has_mark (sym text)
    ∙ cut_mark (decimal seal.entries) (encode_lower seal.head) (digits_length seal is)
