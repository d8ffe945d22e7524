-- Bytes cut at their first line feed.
use Rattle.std.proofs.Common.{◌≡◌, ℕ, ◌+◌, ◌<◌, ◌≤◌, List, [], ◌∷◌, ◌++◌, length, take, drop, map}
use Rattle.std.proofs.Common.{sym, ap, ◌∙◌, subst, arith, inl, inr, append_assoc, append-nil, Bor}
use Rattle.std.proofs.lemmas.Bool.{cases_lt}
use Rattle.std.proofs.lemmas.List.{map-append, take-append-drop}
use Rattle.std.proofs.Math.ListN.{drop_of_length-le}
use Rattle.hub_core.specs.Reading.{HasNoFeed}
use Rattle.hub_core.specs.Lines.{lines, line_of, without_return}
use Rattle.hub_core.proofs.LineLemmas.{line_fed, line_last, pieces_fed, pieces_last}

fed : (rest : List ℕ) (feed : ℕ) → HasNoFeed (take feed rest)
    → take (feed + 1) rest ≡ take feed rest ++ 10 ∷ []
    → lines rest ≡ without_return (take feed rest) ∷ lines (drop (feed + 1) rest)
fed rest feed none cut =
    let p = take feed rest in
    let more = drop (feed + 1) rest in
    let whole : rest ≡ p ++ 10 ∷ more = sym (take-append-drop (feed + 1) rest)
    ∙ ap (λ first. first ++ more) cut ∙ append_assoc p (10 ∷ []) more in
    ap lines whole
    ∙ (ap (map line_of) (pieces_fed p more none)
    ∙ ap (λ first. first ∷ lines more) (line_fed p none))

all_taken : (n : ℕ) (xs : List ℕ) → length xs ≤ n → take n xs ≡ xs
all_taken n xs short =
    sym (append-nil (take n xs))
    ∙ (ap (λ more. take n xs ++ more) (sym (drop_of_length-le xs short)) ∙ take-append-drop n xs)

last_line : (rest : List ℕ) → 0 < length rest → HasNoFeed rest
    → lines rest ≡ without_return rest ∷ []
last_line [] some none = absurd (omega arith)
last_line (x ∷ p) some none =
    ap (map line_of) (pieces_last x p none)
    ∙ ap (λ first. first ∷ []) (line_last (x ∷ p) none)

open_end : (rest : List ℕ) (feed : ℕ) → 0 < length rest → length rest ≤ feed
    → HasNoFeed (take feed rest)
    → lines rest ≡ without_return (take feed rest) ∷ lines (drop (feed + 1) rest)
open_end rest feed some short none =
    let all = all_taken feed rest short in
    let gone : drop (feed + 1) rest ≡ [] = drop_of_length-le rest (omega arith) in
    last_line rest some (subst HasNoFeed all none)
    ∙ (ap (λ line. without_return line ∷ []) (sym all)
    ∙ ap (λ more. without_return (take feed rest) ∷ lines more) (sym gone))

pub first_line : (rest : List ℕ) (feed : ℕ) → 0 < length rest → HasNoFeed (take feed rest)
    → (feed < length rest → take (feed + 1) rest ≡ take feed rest ++ 10 ∷ [])
    → lines rest ≡ without_return (take feed rest) ∷ lines (drop (feed + 1) rest)
first_line rest feed some none cut = elim (cases_lt feed (length rest)) [
  | inl within ↦ fed rest feed none (cut within)
  | inr short ↦ open_end rest feed some short none
]

abbrev Lines : Type 0
Lines = List (Bor (List ℕ))

-- one more line
pub line_more : (before after : Lines) (line : Bor (List ℕ)) (text rest next : List ℕ)
    (all : List (List ℕ)) → map (λ (l : Bor (List ℕ)). l.now) before ++ lines rest ≡ all
    → after ≡ before ++ line ∷ [] → line.now ≡ text → lines rest ≡ text ∷ lines next
    → map (λ (l : Bor (List ℕ)). l.now) after ++ lines next ≡ all
line_more before after line text rest next all so_far by is first =
    let texts : Lines → List (List ℕ) = map (λ (l : Bor (List ℕ)). l.now) in
    ap (λ ls. texts ls ++ lines next) by
    ∙ (ap (λ ls. ls ++ lines next) (map-append (λ (l : Bor (List ℕ)). l.now) before (line ∷ []))
    ∙ (append_assoc (texts before) (line.now ∷ []) (lines next)
    ∙ (ap (λ t. texts before ++ t ∷ lines next) is
    ∙ (ap (λ ls. texts before ++ ls) (sym first) ∙ so_far))))
