-- A text, part by part.
use Rattle.std.specs.Prelude.{◌≡◌, ℕ, ◌+◌, ◌-◌, ◌<◌, ◌≤◌, ◌==◌, ◌&&◌, Bool, true, false, nat_le}
use Rattle.std.specs.Prelude.{not, cond, List, [], ◌∷◌, length, suc, zero, take, drop, take_while}
use Rattle.std.specs.Prelude.{refl}
use Rattle.std.specs.List.{list_all}
use Rattle.std.specs.Str.{IsAscii}
use Rattle.std.proofs.Math.Seq.{take-length}
use Rattle.std.proofs.Common.{arith, length-drop, ap, ◌∙◌}
use Rattle.std.proofs.lemmas.Bool.{and_parts, eqb-true}
use Rattle.std.proofs.lemmas.Bool.Decides.{nat_tests}
use Rattle.std.proofs.lemmas.List.Folds.{length-prefix_len}
use Rattle.std.proofs.lemmas.List.Sums.{prefix_len-le-length, take_while-cons}
use Rattle.std.proofs.lemmas.Str.Ascii.{IsAscii-nil, IsAscii-cons}
use Rattle.codes_core.specs.Grammar.{in_first, parts, are_few}

abbrev pub is_plain : ℕ → ℕ → Bool
is_plain mark b = not (b == mark)

-- the bytes before the first mark, and those from it on
abbrev pub front : ℕ → List ℕ → List ℕ
front mark text = take_while (is_plain mark) text

abbrev pub rest : ℕ → List ℕ → List ℕ
rest mark text = drop (length (front mark text)) text

-- the parts after the first
abbrev pub following : ℕ → List ℕ → List (List ℕ)
following mark [] = []
following mark (b ∷ bs) = parts mark bs

pub parts-front : (mark : ℕ) (text : List ℕ)
    → parts mark text ≡ front mark text ∷ following mark (rest mark text)
parts-front mark [] = refl
parts-front mark (b ∷ bs) =
    rw (take_while-cons (is_plain mark) b bs)
    (elim (b == mark) as (λ t. cond t ([] ∷ parts mark bs) (in_first b (parts mark bs))
    ≡ cond (not t) (b ∷ front mark bs) [] ∷ following mark
    (drop (length (cond (not t) (b ∷ front mark bs) [])) (b ∷ bs))) [
      | true ↦ refl
      | false ↦ ap (in_first b) (parts-front mark bs)
    ])

-- a text that may follow the first part
abbrev pub goes_on : (List ℕ → Bool) → ℕ → ℕ → List ℕ → Bool
goes_on p mark n [] = true
goes_on p mark n (b ∷ bs) = are_few p n (parts mark bs)

le_step : (a n : ℕ) → nat_le (suc a) (suc n) ≡ nat_le a n
le_step a n = grind (arith, nat_tests)

swapped : (a b c : Bool) → a && (b && c) ≡ b && (a && c)
swapped true b c = refl
swapped false true c = refl
swapped false false c = refl

no_less : (a : ℕ) → nat_le (suc a) 0 ≡ false
no_less a = grind (arith, nat_tests)

tail_few : (p : List ℕ → Bool) (mark n : ℕ) (bs : List ℕ)
    → are_few p n (following mark bs) ≡ goes_on p mark n bs
tail_few p mark n [] = let none : nat_le 0 n ≡ true = grind (arith, nat_tests) in rw none refl
tail_few p mark n (b ∷ bs) = refl

-- a text has at least one part
pub are_few-zero : (p : List ℕ → Bool) (mark n : ℕ) (text : List ℕ) → n ≡ 0
    → are_few p n (parts mark text) ≡ false
are_few-zero p mark n text none =
    rw (none, parts-front mark text, no_less (length (following mark (rest mark text)))) refl

pub first_then : (p : List ℕ → Bool) (mark n : ℕ) (text : List ℕ)
    → are_few p (suc n) (parts mark text) ≡ p (front mark text) && goes_on p mark n (rest mark text)
first_then p mark n text =
    rw (parts-front mark text, le_step (length (following mark (rest mark text))) n)
    (swapped (nat_le (length (following mark (rest mark text))) n) (p (front mark text))
    (list_all p (following mark (rest mark text)))
    ∙ ap (λ t. p (front mark text) && t) (tail_few p mark n (rest mark text)))

pub front_taken : (mark : ℕ) (text : List ℕ)
    → take (length (front mark text)) text ≡ front mark text
front_taken mark text = rw (length-prefix_len (is_plain mark) text) refl

-- A text cut before its first mark: whether the first part passes, and then the rest.
pub few_by : (p : List ℕ → Bool) (mark n count : ℕ) (text first behind : List ℕ) (is_one : Bool)
    → (n ≡ 0 → ⊥) → count ≡ length (front mark text) → first ≡ take count text
    → behind ≡ drop count text → p first ≡ is_one
    → are_few p n (parts mark text) ≡ is_one && goes_on p mark (n - 1) behind
few_by p mark zero count text first behind is_one some at cut rest_is told = absurd (some refl)
few_by p mark (suc n) count text first behind is_one some at cut rest_is told =
    let less : suc n - 1 ≡ n = omega arith in
    rw (← told, cut, rest_is, at, less, front_taken mark text) (first_then p mark n text)

pub goes_on-nil : (p : List ℕ → Bool) (mark n : ℕ) (bs : List ℕ) → length bs < 1
    → goes_on p mark n bs ≡ true
goes_on-nil p mark n [] none = refl
goes_on-nil p mark n (b ∷ bs) none = absurd (omega arith)

pub goes_on-cons : (p : List ℕ → Bool) (mark n : ℕ) (bs : List ℕ) → 1 ≤ length bs
    → goes_on p mark n bs ≡ are_few p n (parts mark (drop 1 bs))
goes_on-cons p mark n [] some = absurd (omega arith)
goes_on-cons p mark n (b ∷ bs) some = refl

-- the text after the first part, by the bytes from the first mark on
pub following-nil : (mark : ℕ) (bs : List ℕ) → length bs < 1 → following mark bs ≡ []
following-nil mark [] none = refl
following-nil mark (b ∷ bs) none = absurd (omega arith)

pub following-cons : (mark : ℕ) (bs : List ℕ) → 1 ≤ length bs
    → following mark bs ≡ parts mark (drop 1 bs)
following-cons mark [] some = absurd (omega arith)
following-cons mark (b ∷ bs) some = refl

pub cut_by : (mark count : ℕ) (text first behind : List ℕ) → count ≡ length (front mark text)
    → first ≡ take count text → behind ≡ drop count text
    → parts mark text ≡ first ∷ following mark behind
cut_by mark count text first behind at cut rest_is =
    rw (cut, rest_is, at, front_taken mark text) (parts-front mark text)

-- a slice from n on is the whole rest
pub all_taken : (n : ℕ) (bs : List ℕ) → take (length bs - n) (drop n bs) ≡ drop n bs
all_taken n bs = rw (← length-drop n bs) (take-length (drop n bs))

pub front_and_rest : (mark : ℕ) (bs : List ℕ)
    → length (front mark bs) + length (rest mark bs) ≡ length bs
front_and_rest mark bs = omega (
  arith,
  length-prefix_len (is_plain mark) bs,
  length-drop (length (front mark bs)) bs,
  prefix_len-le-length (is_plain mark) bs,
)

-- parts whose bytes pass a test that only ASCII passes
pub ascii_parts : (mark : ℕ) (p : ℕ → Bool) → mark < 128 → ((b : ℕ) → p b ≡ true → b < 128)
    → (text : List ℕ) → list_all (list_all p) (parts mark text) ≡ true → IsAscii text
ascii_parts mark p low only [] h = IsAscii-nil
ascii_parts mark p low only (b ∷ bs) h =
    elim (b == mark) as (λ t. b == mark ≡ t
    → list_all (list_all p) (cond t ([] ∷ parts mark bs) (in_first b (parts mark bs))) ≡ true
    → IsAscii (b ∷ bs)) [
      | true ↦ λ e g. let is_mark = eqb-true b mark e in
          IsAscii-cons b bs (omega arith) (ascii_parts mark p low only bs g)
      | false ↦ λ e g.
          let both : ((p b && list_all p (front mark bs)) ≡ true)
          × (list_all (list_all p) (following mark (rest mark bs)) ≡ true) =
          and_parts _ _ (rw (parts-front mark bs) at g) in
          let first : (p b ≡ true) × (list_all p (front mark bs) ≡ true) = and_parts _ _ both.0 in
          IsAscii-cons b bs (only b first.0)
          (ascii_parts mark p low only bs (rw (parts-front mark bs, first.1, both.1) refl))
    ] refl h
