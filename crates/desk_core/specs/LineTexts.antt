-- Defines how a text falls into words.
use Rattle.std.specs.Prelude.{ℕ, zero, suc, ◌-◌, ◌==◌, ◌||◌, ◌∷◌, [], Bool, false, List, drop}
use Rattle.std.specs.Prelude.{if◌then◌else◌, length, not, take, take_while}
use Rattle.std.specs.List.{prefix_len, suffix_len}
use Rattle.codes_core.specs.Grammar.{in_first}

-- A space, a tab or a carriage return. Blanks separate words.
abbrev pub is_blank : ℕ → Bool
is_blank b = (b == 32) || (b == 9) || (b == 13)

-- A byte of a word.
abbrev pub is_ink : ℕ → Bool
is_ink b = not (is_blank b)

-- The text without the blanks before it.
abbrev pub without_front : List ℕ → List ℕ
without_front text = drop (prefix_len is_blank text) text

abbrev pub without_end : List ℕ → List ℕ
without_end text = take (length text - suffix_len is_blank text) text

-- The text without the blanks at its ends.
abbrev pub trimmed : List ℕ → List ℕ
trimmed text = without_end (without_front text)

-- The first word of a text that begins with one.
abbrev pub first_word : List ℕ → List ℕ
first_word text = take_while is_ink text

-- The text after its first word and the blanks behind that.
abbrev pub after_word : List ℕ → List ℕ
after_word text = without_front (drop (prefix_len is_ink text) text)

-- The text after this many words.
abbrev pub after : ℕ → List ℕ → List ℕ
after zero text = text
after (suc n) text = after n (after_word text)

-- The word behind this many others.
abbrev pub word : ℕ → List ℕ → List ℕ
word n text = first_word (after n text)

abbrev pub begins_with_word : List ℕ → Bool
begins_with_word [] = false
begins_with_word (b ∷ bs) = is_ink b

-- The words of a text. A byte that is no blank belongs to the word that begins right behind it, if
-- one does.
abbrev pub words : List ℕ → List (List ℕ)
words [] = []
words (b ∷ bs) =
    if is_blank b then words bs
    else (if begins_with_word bs then in_first b (words bs) else (b ∷ []) ∷ words bs)
