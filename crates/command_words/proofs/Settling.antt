-- One more word decides whether an option is filled in, or leaves that to the words after it.
use Rattle.std.proofs.Common.{◌≡◌, ◌<◌, ◌≤◌, ◌+◌, ◌∷◌, ◌∙◌, Bool, List, ap, codes, drop, false}
use Rattle.std.proofs.Common.{get_or, length, not, refl, sym, take, true, ℕ}
use Rattle.std.proofs.Math.Numerals.{one-add}
use Rattle.std.specs.Prelude.{◌||◌, if◌then◌else◌}
use Rattle.std.specs.Borrow.{Bor}
use Rattle.std.specs.List.{list_any}
use Rattle.std.specs.Str.{bytes_eq}
use Rattle.std.proofs.lemmas.List.{at_drop_all, at_drop_more}
use Rattle.clap.specs.Words.{Text}
use Rattle.command_words.specs.Completion.{is_settled, settles}
use Rattle.command_words.specs.Words.{texts_of}
use Rattle.command_words.specs.declared.completion.FileOption.{FileOption}

step : (test : Text → Bool) (ends : Bool) (n : ℕ) (word : Text) (words : List Text)
    → list_any test (take (if not ends then 1 + n else 0) (word ∷ words))
    ≡ (if ends then false else (test word || list_any test (take n words)))
step test true n word words = refl
step test false n word words = ap (λ k. list_any test (take k (word ∷ words))) (one-add n)

next : (option : FileOption) (word : Text) (words : List Text)
    → is_settled option (word ∷ words)
    ≡ (if bytes_eq word (codes "--") then false
    else (settles option word || is_settled option words))
next option word words = step (settles option) (bytes_eq word (codes "--")) _ word words

at_dashes : (option : FileOption) (word : Text) (words : List Text)
    → bytes_eq word (codes "--") ≡ true → is_settled option (word ∷ words) ≡ false
at_dashes option word words dashes = next option word words ∙ rw (dashes) refl

at_once : (option : FileOption) (word : Text) (words : List Text)
    → bytes_eq word (codes "--") ≡ false → settles option word ≡ true
    → is_settled option (word ∷ words) ≡ true
at_once option word words dashes here = next option word words ∙ rw (dashes, here) refl

later : (option : FileOption) (word : Text) (words : List Text)
    → bytes_eq word (codes "--") ≡ false → settles option word ≡ false
    → is_settled option (word ∷ words) ≡ is_settled option words
later option word words dashes here = next option word words ∙ rw (dashes, here) refl

-- the result for the words from the i-th on, by whether this one is --, is the option, or is
-- neither
module _ (option : FileOption) (words : List (Bor Text)) (i : ℕ) (d : Bor Text)
    (below : i < length words)
    (so_far : is_settled option (texts_of (drop i words)) ≡ is_settled option (texts_of words))
  where
    from_here : is_settled option ((get_or words i d).now ∷ texts_of (drop (i + 1) words))
        ≡ is_settled option (texts_of words)
    from_here = sym (at_drop_more (λ ws. is_settled option (texts_of ws)) words i d below) ∙ so_far

    pub ends_here : bytes_eq (get_or words i d).now (codes "--") ≡ true
        → is_settled option (texts_of words) ≡ false
    ends_here dashes = sym from_here
        ∙ at_dashes option (get_or words i d).now (texts_of (drop (i + 1) words)) dashes

    pub settled_here : bytes_eq (get_or words i d).now (codes "--") ≡ false
        → settles option (get_or words i d).now ≡ true → is_settled option (texts_of words) ≡ true
    settled_here dashes here = sym from_here
        ∙ at_once option (get_or words i d).now (texts_of (drop (i + 1) words)) dashes here

    pub goes_on : bytes_eq (get_or words i d).now (codes "--") ≡ false
        → settles option (get_or words i d).now ≡ false
        → is_settled option (texts_of (drop (i + 1) words)) ≡ is_settled option (texts_of words)
    goes_on dashes here =
        sym (later option (get_or words i d).now (texts_of (drop (i + 1) words)) dashes here)
        ∙ from_here

-- no word is left
pub none_left : (option : FileOption) (words : List (Bor Text)) (i : ℕ) → length words ≤ i
    → is_settled option (texts_of (drop i words)) ≡ is_settled option (texts_of words)
    → is_settled option (texts_of words) ≡ false
none_left option words i all so_far =
    sym so_far ∙ at_drop_all (λ ws. is_settled option (texts_of ws)) words i all
