-- The text of a number that is the first lexeme.
use Rattle.std.proofs.Common.{◌≡◌, ℕ, ◌+◌, ◌-◌, ◌<◌, ◌^◌, min, ◌==◌}
use Rattle.std.proofs.Common.{nat_eq}
use Rattle.std.proofs.Common.{Bool, true, false, cond, ◌&&◌, ◌||◌, List, [], ◌∷◌}
use Rattle.std.proofs.Common.{◌++◌, length, take, drop, Option, Some, None, option_and_then}
use Rattle.std.proofs.Common.{is_some}
use Rattle.std.proofs.Common.{refl, sym, ap, ap₂, ◌∙◌, arith, take-append-drop}
use Rattle.std.proofs.lemmas.List.{drop-drop, drop_min, length-drop, take_at, drop_at}
use Rattle.std.proofs.lemmas.List.Folds.{prefix_len-append}
use Rattle.std.proofs.lemmas.Bool.{and_parts, false≢true, true≢false, eq-eqb, ltb-true}
use Rattle.std.proofs.lemmas.Bool.Decides.{nat_tests}
use Rattle.std.specs.Prelude.{⊤}
use Rattle.std.specs.List.{prefix_len, list_all, starts_with}
use Rattle.std.specs.Char.{is_ascii_digit}
use Rattle.std.specs.Str.Parse.{AllDigits, IsNumeral, digits_value}
use Rattle.json.specs.Token.{Token, begin_object, end_object, begin_array, end_array, key, string}
use Rattle.json.specs.Token.{number, boolean, null, bad}
use Rattle.json.specs.Ascii.{true_text, false_text, null_text}
use Rattle.json.specs.Text.{content, plain}
use Rattle.json.specs.Word.{head, ends_word, after_digits, after_minus, after_sign, after_whole}
use Rattle.json.specs.Word.{after_fraction, after_exponent, after_number, number_before, literal}
use Rattle.json.specs.Word.{word, is_operator}
use Rattle.json.specs.Print.{IsNumber}
use Rattle.json.specs.Align.{is_blank}
use Rattle.json.specs.Lex.{Lexeme, token, Class, quote, backslash, operator, space}
use Rattle.json.specs.Lex.{other, class, string_token, between, lex}
use Rattle.json.proofs.Printed.Numbers.{number_alone}
use Rattle.borrowed_json.specs.Plain.{IsPlain, is_whole_number, is_plain_lexeme}
use Rattle.borrowed_json.proofs.Lacking.{first, first_is, none, not_blank, mark_of, mark-operator}
use Rattle.borrowed_json.proofs.Lacking.{operator-class}

-- ---- what a part of a number leaves is an end of the text

abbrev EndOf : List ℕ → List ℕ → Type 0
EndOf t r = (k : ℕ) × (r ≡ drop k t)

abbrev Leaves : List ℕ → Option (List ℕ) → Type 0
Leaves t None = ⊤
Leaves t (Some r) = EndOf t r

further : (t u : List ℕ) (o : Option (List ℕ)) → EndOf t u → Leaves u o → Leaves t o
further t u None e h = tt
further t u (Some r) e h = (e.0 + h.0, h.1 ∙ ap (drop h.0) e.1 ∙ drop-drop h.0 e.0 t)

either : (t : List ℕ) (b : Bool) (x y : Option (List ℕ)) → Leaves t x → Leaves t y
    → Leaves t (cond b x y)
either t true x y p q = p
either t false x y p q = q

optional : (t : List ℕ) (b : Bool) → EndOf t (cond b (drop 1 t) t)
optional t true = (1, refl)
optional t false = (0, refl)

digits : (t : List ℕ) → Leaves t (after_digits t)
digits t =
    either t (prefix_len is_ascii_digit t == 0) None (Some (drop (prefix_len is_ascii_digit t) t))
    tt (prefix_len is_ascii_digit t, refl)

then : (t : List ℕ) (f : List ℕ → Option (List ℕ)) → ((u : List ℕ) → Leaves u (f u))
    → (o : Option (List ℕ)) → Leaves t o → Leaves t (option_and_then f o)
then t f g None h = tt
then t f g (Some r) h = further t r (f r) h (g r)

fraction : (t : List ℕ) → Leaves t (after_fraction t)
fraction t =
    either t (head t == 46) (after_digits (drop 1 t)) (Some t)
    (further t (drop 1 t) (after_digits (drop 1 t)) (1, refl) (digits (drop 1 t))) (0, refl)

exponent : (t : List ℕ) → Leaves t (after_exponent t)
exponent t =
    let u = drop 1 t in
    either t ((head t == 101) || (head t == 69)) (after_digits (after_sign u)) (Some t)
    (further t u (after_digits (after_sign u)) (1, refl)
    (further u (after_sign u) (after_digits (after_sign u))
    (optional u ((head u == 45) || (head u == 43))) (digits (after_sign u)))) (0, refl)

whole : (t : List ℕ) → Leaves t (after_whole t)
whole t = either t (head t == 48) (Some (drop 1 t)) (after_digits t) (1, refl) (digits t)

leaves_number : (t : List ℕ) → Leaves t (after_number t)
unfolding after_number
leaves_number t =
    let u = after_minus t in
    then t after_exponent exponent (option_and_then after_fraction (after_whole u))
    (then t after_fraction fraction (after_whole u)
    (further t u (after_whole u) (optional t (head t == 45)) (whole u)))

front_and_rest : (t r : List ℕ) → EndOf t r → take (length t - length r) t ++ r ≡ t
front_and_rest t r e =
    let n : length t - length r ≡ min e.0 (length t) =
    omega (arith, ap length e.1, length-drop e.0 t) in
    ap (λ x. take (length t - length r) t ++ x) (e.1 ∙ sym (drop_min e.0 t)
    ∙ ap (λ k. drop k t) (sym n)) ∙ take-append-drop (length t - length r) t

-- ---- the number of a word

abbrev is_number_token : Token → Bool
is_number_token begin_object = false
is_number_token end_object = false
is_number_token begin_array = false
is_number_token end_array = false
is_number_token (key s) = false
is_number_token (string s) = false
is_number_token (number s) = true
is_number_token (boolean b) = false
is_number_token null = false
is_number_token bad = false

abbrev text_or : Token → List ℕ
text_or begin_object = []
text_or end_object = []
text_or begin_array = []
text_or end_array = []
text_or (key s) = []
text_or (string s) = []
text_or (number s) = s
text_or (boolean b) = []
text_or null = []
text_or bad = []

no_number : (u : Token) (s : List ℕ) → is_number_token u ≡ false → u ≡ number s → ⊥
no_number u s h e = false≢true (sym h ∙ ap is_number_token e)

picked : (b : Bool) (x y : Token) (s : List ℕ) → is_number_token x ≡ false
    → cond b x y ≡ number s
    → y ≡ number s
picked true x y s h e = absurd (no_number x s h e)
picked false x y s h e = e

neither : (b : Bool) (u : Token) → is_number_token u ≡ false
    → is_number_token (cond b u bad) ≡ false
neither true u h = h
neither false u h = refl

no_literal : (t name : List ℕ) (u : Token) → is_number_token u ≡ false
    → is_number_token (literal name u t) ≡ false
no_literal t name u h = neither (starts_with nat_eq t name && ends_word (drop (length name) t)) u h

-- the text is that of the number and a rest that ends a word
record Split (t s : List ℕ) : Type 0 where
  rest : List ℕ
  parts : t ≡ s ++ rest
  ended : ends_word rest ≡ true
  numbered : IsNumber s

ended_number : (b : Bool) (s u : List ℕ) → cond b (number u) bad ≡ number s
    → (b ≡ true) × (u ≡ s)
ended_number true s u e = (refl, ap text_or e)
ended_number false s u e = absurd (no_number bad s refl e)

split_before : (t s : List ℕ) (o : Option (List ℕ)) → after_number t ≡ o → Leaves t o
    → number_before t o ≡ number s → Split t s
split_before t s None n l e = absurd (no_number bad s refl e)
split_before t s (Some r) n l e =
    let both = ended_number (ends_word r) s (take (length t - length r) t) e in
    let parts : t ≡ s ++ r = sym (front_and_rest t r l) ∙ ap (λ k. k ++ r) both.1 in
    record {
      rest = r;
      parts = parts;
      ended = both.0;
      numbered = number_alone s r both.0 (ap after_number (sym parts) ∙ n);
    }

split_word : (t s : List ℕ) → word t ≡ number s → Split t s
unfolding word
split_word t s e =
    let on = no_literal t in
    let in_false = picked (head t == 116) (literal true_text (boolean true) t) _ s
    (on true_text (boolean true) refl) e in
    let in_null = picked (head t == 102) (literal false_text (boolean false) t) _ s
    (on false_text (boolean false) refl) in_false in
    let in_number = picked (head t == 110) (literal null_text null t) _ s
    (on null_text null refl) in_null in
    split_before t s (after_number t) refl (leaves_number t) in_number

-- ---- digits

digits_pass : (s : List ℕ) → list_all is_ascii_digit s ≡ true
    → prefix_len is_ascii_digit s ≡ length s
digits_pass [] h = refl
digits_pass (x ∷ xs) h =
    let both = and_parts (is_ascii_digit x) (list_all is_ascii_digit xs) h in
    let rest = digits_pass xs both.1 in
    rw both.0 (omega (arith, rest))

stops : (r : List ℕ) → ends_word r ≡ true → prefix_len is_ascii_digit r ≡ 0
stops [] h = refl
stops (x ∷ xs) h =
    let no : is_ascii_digit x ≡ false = grind (arith, nat_tests) in
    rw no refl

all_digits : (s : List ℕ) → list_all is_ascii_digit s ≡ true → AllDigits 10 s
all_digits [] h = tt
all_digits (x ∷ xs) h =
    let both = and_parts (is_ascii_digit x) (list_all is_ascii_digit xs) h in
    (grind (arith, nat_tests), all_digits xs both.1)

some_digits : (s : List ℕ) → IsNumber s → 0 < length s
unfolding after_number
some_digits [] h = absurd (let e = ap is_some h in false≢true e)
some_digits (x ∷ xs) h = omega arith

-- ---- the number that is the first lexeme

pub record Numbered (t s : List ℕ) : Type 0 where
  pub front : take (prefix_len is_ascii_digit t) t ≡ s
  pub ended : ends_word (drop (prefix_len is_ascii_digit t) t) ≡ true
  pub numbered : IsNumber s
  pub numeral : IsNumeral 10 s
  pub fits : digits_value 10 s < 2 ^ 64

from_split : (t s : List ℕ) → is_whole_number s ≡ true → Split t s → Numbered t s
from_split t s whole h =
    let both = and_parts (list_all is_ascii_digit s) _ whole in
    let all = digits_pass s both.0 in
    let none = stops h.rest h.ended in
    let long : prefix_len is_ascii_digit t ≡ length s =
    ap (prefix_len is_ascii_digit) h.parts ∙ prefix_len-append is_ascii_digit s h.rest
    ∙ ap (λ b. cond b (length s + prefix_len is_ascii_digit h.rest)
    (prefix_len is_ascii_digit s))
    (eq-eqb _ _ all)
    ∙ omega (arith, none) in
    record {
      front = ap₂ take long h.parts ∙ take_at s h.rest (length s) refl;
      ended = ap ends_word (ap₂ drop long h.parts ∙ drop_at s h.rest (length s) refl)
          ∙ h.ended;
      numbered = h.numbered;
      numeral = (some_digits s h.numbered, all_digits s both.0);
      fits = ltb-true (digits_value 10 s) (2 ^ 64) both.1;
    }

number_word : (k : Class) (x : ℕ) (xs s : List ℕ) → class x ≡ k
    → first k x xs ≡ token (number s)
    → word (x ∷ xs) ≡ number s
number_word quote x xs s e m = absurd (by (content plain xs) m)
  where
    by : (o : Option (List ℕ)) → token (string_token o) ≡ token (number s) → ⊥
    by None m = cc
    by (Some u) m = cc
number_word backslash x xs s e m = absurd (cc)
number_word operator x xs s e m =
    let is = operator-class x e in
    let zero_is : x ≡ 0 = sym (mark-operator x is) ∙ ap mark_of m in
    absurd (true≢false (sym is ∙ ap is_operator zero_is))
number_word space x xs s e m = absurd (cc)
number_word other x xs s e m = cc

pub number_first : (t s : List ℕ) (ls : List Lexeme)
    → (is_blank (class (head t)) ≡ true → t ≡ [])
    → IsPlain t → lex between t ≡ token (number s) ∷ ls → Numbered t s
number_first [] s ls begins h e = absurd (none (token (number s)) ls e)
number_first (x ∷ xs) s ls begins h e =
    let spaced = not_blank (is_blank (class x)) x xs begins in
    let found = first_is x xs (token (number s)) ls spaced e in
    let plain_words = sym (ap (list_all is_plain_lexeme) e) ∙ h.plain_tokens in
    let all = and_parts (is_whole_number s) (list_all is_plain_lexeme ls) plain_words in
    from_split (x ∷ xs) s all.0
    (split_word (x ∷ xs) s (number_word (class x) x xs s refl found))
