-- A command line of the first word, the options that are filled in, and the other words.
use Rattle.std.proofs.Common.{◌≡◌, ◌++◌, ◌∙◌, ◌∷◌, List, [], ap, ap₂, arith, drop, length, refl}
use Rattle.std.proofs.Common.{take}
use Rattle.std.proofs.Common.{ℕ}
use Rattle.std.specs.Prelude.{min}
use Rattle.std.specs.Borrow.{Bor}
use Rattle.clap.specs.Words.{Text}
use Rattle.command_words.specs.Words.{texts_of}

-- the number of words before the options
is_one : (n : ℕ) (w : Bor Text) (words : List (Bor Text)) → n ≡ min (length (w ∷ words)) 1 → n ≡ 1
is_one n w words e = omega (arith, e)

pub front_is : (n : ℕ) (words : List (Bor Text)) → n ≡ min (length words) 1
    → texts_of (take n words) ≡ take 1 (texts_of words)
front_is n [] e = ap (λ k. texts_of (take k [])) e
front_is n (w ∷ words) e = ap (λ k. texts_of (take k (w ∷ words))) (is_one n w words e)

pub back_is : (n : ℕ) (words : List (Bor Text)) → n ≡ min (length words) 1
    → texts_of (drop n words) ≡ drop 1 (texts_of words)
back_is n [] e = ap (λ k. texts_of (drop k [])) e
back_is n (w ∷ words) e = ap (λ k. texts_of (drop k (w ∷ words))) (is_one n w words e)

appended : (xs ys : List (Bor Text)) → texts_of (xs ++ ys) ≡ texts_of xs ++ texts_of ys
appended [] ys = refl
appended (x ∷ xs) ys = ap (λ texts. x.now ∷ texts) (appended xs ys)

grouped : (xs ys zs : List Text) → (xs ++ ys) ++ zs ≡ xs ++ (ys ++ zs)
grouped [] ys zs = refl
grouped (x ∷ xs) ys zs = ap (λ texts. x ∷ texts) (grouped xs ys zs)

-- the whole line, by its parts
pub assembled : (first once twice rest whole : List (Bor Text)) (front back one other : List Text)
    → texts_of first ≡ front → texts_of rest ≡ back
    → texts_of once ≡ texts_of first ++ one → texts_of twice ≡ texts_of once ++ other
    → whole ≡ twice ++ rest → texts_of whole ≡ front ++ (one ++ (other ++ back))
assembled first once twice rest whole front back one other is_first is_rest is_once is_twice
    is_whole =
    ap texts_of is_whole
    ∙ (appended twice rest
    ∙ (ap₂ ◌++◌ (is_twice ∙ ap (λ t. t ++ other) (is_once ∙ ap (λ t. t ++ one) is_first)) is_rest
    ∙ (grouped (front ++ one) other back ∙ grouped front one (other ++ back))))

-- one word is added
pub pushed : (line more : List (Bor Text)) (word : Bor Text) → more ≡ line ++ (word ∷ [])
    → texts_of more ≡ texts_of line ++ (word.now ∷ [])
pushed line more word is_more = ap texts_of is_more ∙ appended line (word ∷ [])
