-- How the first group of a code's text decides the result for the whole text.
use Rattle.std.specs.Prelude.{◌≡◌, ℕ, ◌-◌, ◌<◌, ◌≤◌, ◌&&◌, Bool, true, false, nat_lt, List, suc}
use Rattle.std.specs.Prelude.{length, take, drop, refl, Option, Some}
use Rattle.std.specs.Option.{option_map}
use Rattle.std.specs.List.{list_all}
use Rattle.std.proofs.Common.{arith}
use Rattle.std.proofs.lemmas.Bool.Decides.{nat_tests}
use Rattle.codes_core.specs.Grammar.{is_digits, is_right_number, is_year, are_few, groups}
use Rattle.codes_core.specs.Grammar.{are_groups, has_right_groups, numbers_of}
use Rattle.codes_core.proofs.Parts.{front, rest, following, parts-front, cut_by, few_by}
use Rattle.codes_core.proofs.Parts.{goes_on-nil, goes_on-cons, following-nil, following-cons}

never : (t : Bool) → t && false ≡ false
never true = refl
never false = refl

-- a text without a dot
pub one_group : (n count : ℕ) (text first behind : List ℕ) → count ≡ length (front 46 text)
    → first ≡ take count text → behind ≡ drop count text → length behind < 1
    → are_groups n (groups text) ≡ false
one_group n count text first behind at cut rest_is none =
    rw (cut_by 46 count text first behind at cut rest_is, following-nil 46 behind none)
    (never (is_year first))

some_groups : (text : List ℕ) → nat_lt 0 (length (groups text)) ≡ true
some_groups text = let some : (n : ℕ) → nat_lt 0 (suc n) ≡ true = λ n. grind (arith, nat_tests) in
    rw (parts-front 46 text) (some (length (following 46 (rest 46 text))))

-- a text with a dot
pub more_groups : (n count : ℕ) (text first behind : List ℕ) (is_one : Bool)
    → count ≡ length (front 46 text) → first ≡ take count text → behind ≡ drop count text
    → 1 ≤ length behind → is_year first ≡ is_one
    → are_groups n (groups text) ≡ is_one && are_few is_digits n (groups (drop 1 behind))
more_groups n count text first behind is_one at cut rest_is some told =
    rw (
      cut_by 46 count text first behind at cut rest_is,
      following-cons 46 behind some,
      some_groups (drop 1 behind),
      told,
    ) refl

-- the same for valid numbers
right_first : (count : ℕ) (text first behind : List ℕ) (is_one : Bool)
    → count ≡ length (front 46 text) → first ≡ take count text → behind ≡ drop count text
    → is_right_number first ≡ is_one
    → list_all is_right_number (groups text) ≡ is_one && list_all is_right_number
    (following 46 behind)
right_first count text first behind is_one at cut rest_is told =
    rw (cut_by 46 count text first behind at cut rest_is, told) refl

right_behind : (count : ℕ) (text behind : List ℕ) → count ≡ length (front 46 text)
    → behind ≡ drop count text → has_right_groups (groups text) ≡ list_all is_right_number
    (following 46 behind)
right_behind count text behind at rest_is =
    rw (cut_by 46 count text (take count text) behind at refl rest_is) refl

-- the result of `numbers_of` for a text of at most n groups
abbrev pub told : ℕ → List ℕ → Option Bool
told n text = numbers_of (are_few is_digits n (groups text))
    (list_all is_right_number (groups text))

with_one : (shape right is_right : Bool)
    → numbers_of shape (is_right && right) ≡ option_map (λ o. is_right && o)
    (numbers_of shape right)
with_one true right is_right = refl
with_one false right is_right = refl

alone : (is_right : Bool) → Some is_right ≡ Some (is_right && true)
alone true = refl
alone false = refl

-- the last group
pub told_alone : (n count : ℕ) (text first behind : List ℕ) (is_right : Bool) → (n ≡ 0 → ⊥)
    → count ≡ length (front 46 text) → first ≡ take count text → behind ≡ drop count text
    → is_digits first ≡ true → is_right_number first ≡ is_right → length behind < 1
    → Some is_right ≡ told n text
told_alone n count text first behind is_right some at cut rest_is digits right none =
    rw (
      few_by is_digits 46 n count text first behind true some at cut rest_is digits,
      goes_on-nil is_digits 46 (n - 1) behind none,
      right_first count text first behind is_right at cut rest_is right,
      following-nil 46 behind none,
    ) (alone is_right)

-- a group with others after it
pub told_more : (n count : ℕ) (text first behind : List ℕ) (is_right : Bool) → (n ≡ 0 → ⊥)
    → count ≡ length (front 46 text) → first ≡ take count text → behind ≡ drop count text
    → is_digits first ≡ true → is_right_number first ≡ is_right → 1 ≤ length behind
    → told n text ≡ option_map (λ o. is_right && o) (told (n - 1) (drop 1 behind))
told_more n count text first behind is_right some at cut rest_is digits right more =
    rw (
      few_by is_digits 46 n count text first behind true some at cut rest_is digits,
      goes_on-cons is_digits 46 (n - 1) behind more,
      right_first count text first behind is_right at cut rest_is right,
      following-cons 46 behind more,
    )
    (with_one (are_few is_digits (n - 1) (groups (drop 1 behind)))
    (list_all is_right_number (groups (drop 1 behind))) is_right)

-- the result for the text after four digits
pub told_behind : (n count : ℕ) (text first behind : List ℕ) → count ≡ length (front 46 text)
    → first ≡ take count text → behind ≡ drop count text → 1 ≤ length behind → is_year first ≡ true
    → told n (drop 1 behind) ≡ numbers_of (are_groups n (groups text))
    (has_right_groups (groups text))
told_behind n count text first behind at cut rest_is some year =
    rw (
      more_groups n count text first behind true at cut rest_is some year,
      right_behind count text behind at rest_is,
      following-cons 46 behind some,
    ) refl
