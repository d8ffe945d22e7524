-- The first lexeme of a text, and what is left after it.
use Rattle.std.proofs.Common.{◌≡◌, ℕ, suc, ◌+◌, ◌<◌, ◌≤◌, Bool, true, false}
use Rattle.std.proofs.Common.{not}
use Rattle.std.proofs.Common.{◌||◌, ◌==◌, nat_lt, List, [], ◌∷◌, ◌++◌, length}
use Rattle.std.proofs.Common.{take, drop}
use Rattle.std.proofs.Common.{refl, sym, ap, ◌∙◌, subst, arith, length-append}
use Rattle.std.proofs.Common.{take-append-drop, append_assoc}
use Rattle.std.specs.Str.{IsCharBoundary}
use Rattle.std.proofs.lemmas.Str.{IsCharBoundary-before_ascii, IsCharBoundary-end}
use Rattle.std.proofs.lemmas.List.Sums.{prefix_len_stops, prefix_len-le-length}
use Rattle.std.specs.List.{list_all, prefix_len}
use Rattle.std.proofs.lemmas.Bool.{or_parts, and_parts, false≢true, eqb-false}
use Rattle.std.proofs.lemmas.Bool.{ltb-true, ltb-false, not-true}
use Rattle.std.proofs.lemmas.Bool.Decides.{nat_tests}
use Rattle.std.proofs.lemmas.List.Folds.{list_all-append}
use Rattle.json.specs.Token.{string}
use Rattle.json.specs.Text.{content, plain}
use Rattle.json.specs.Word.{is_operator}
use Rattle.json.specs.Print.{escape}
use Rattle.json.specs.Run.{is_plain}
use Rattle.json.specs.Align.{is_blank}
use Rattle.json.specs.Lex.{Lexeme, token, Class, quote, backslash, operator, space}
use Rattle.json.specs.Lex.{other, class, operator_lexeme, string_token, between, in_string, lex}
use Rattle.json.proofs.Printed.Strings.{escape_byte_plain, content-escape, lex-escape}
use Rattle.borrowed_json.specs.Plain.{IsPlain, is_plain_lexeme}
use Rattle.borrowed_json.specs.Steps.{Takes}

-- ---- what is left of a plain text is plain

pub rest_plain : (front rest : List ℕ) → IsPlain (front ++ rest)
    → list_all is_plain_lexeme (lex between rest) ≡ true → IsPlain rest
rest_plain front rest h words =
    let kept = sym (list_all-append (λ b. not (b == 92)) front rest) ∙ h.no_backslash in
    record { no_backslash = (and_parts _ _ kept).1; plain_tokens = words }

pub taken : (text front rest : List ℕ) (l : Lexeme) → text ≡ front ++ rest
    → 0 < length front
    → lex between text ≡ l ∷ lex between rest → Takes text l rest
taken text front rest l parts some first = record {
  lexeme = first;
  plain = λ h. rest_plain front rest (subst IsPlain parts h)
      (and_parts (is_plain_lexeme l) _ (sym (ap (list_all is_plain_lexeme) first)
      ∙ h.plain_tokens)).1;
  shorter = omega (arith, ap length parts, length-append front rest);
}

pub skipped : (text start rest : List ℕ) (l : Lexeme) → lex between start ≡ lex between text
    → (IsPlain text → IsPlain start) → length start ≤ length text → Takes start l rest
    → Takes text l rest
skipped text start rest l same kept short t = record {
  lexeme = sym same ∙ t.lexeme;
  plain = λ h. t.plain (kept h);
  shorter = omega (arith, t.shorter);
}

-- ---- spaces

pub lex-space : (x : ℕ) (xs : List ℕ) → class x ≡ space
    → lex between (x ∷ xs) ≡ lex between xs
unfolding lex
lex-space x xs e = rw e

blank_is : (k : Class) → is_blank k ≡ true → k ≡ space
blank_is quote h = absurd (false≢true h)
blank_is backslash h = absurd (false≢true h)
blank_is operator h = absurd (false≢true h)
blank_is space h = refl
blank_is other h = absurd (false≢true h)

-- a space was passed
pub record Passes (text rest : List ℕ) : Type 0 where
  pub lexemes : lex between rest ≡ lex between text
  pub plain : IsPlain text → IsPlain rest
  pub shorter : length rest < length text

pub passed : (text rest : List ℕ) (x : ℕ) → text ≡ x ∷ rest
    → is_blank (class x) ≡ true
    → Passes text rest
passed text rest x parts blank =
    let same = sym (lex-space x rest (blank_is (class x) blank)) ∙ ap (lex between) (sym parts) in
    record {
      lexemes = same;
      plain = λ h. rest_plain (x ∷ []) rest (subst IsPlain parts h)
          (ap (list_all is_plain_lexeme) same ∙ h.plain_tokens);
      shorter = omega (arith, ap length parts);
    }

-- ---- brackets, commas and colons

pub class-operator : (c : ℕ) → is_operator c ≡ true → class c ≡ operator
class-operator c h = grind (arith, nat_tests)

pub lex-operator : (c : ℕ) (rest : List ℕ) → is_operator c ≡ true
    → lex between (c ∷ rest) ≡ operator_lexeme c ∷ lex between rest
unfolding lex
lex-operator c rest h = rw (class-operator c h)

pub takes_operator : (c : ℕ) (rest : List ℕ) → is_operator c ≡ true
    → Takes (c ∷ rest) (operator_lexeme c) rest
takes_operator c rest h =
    taken (c ∷ rest) (c ∷ []) rest (operator_lexeme c) refl (omega arith)
    (lex-operator c rest h)

-- ---- strings

pub escape-plain : (s : List ℕ) → list_all is_plain s ≡ true → escape s ≡ s
escape-plain [] h = refl
escape-plain (x ∷ xs) h =
    let both = and_parts (is_plain x) _ h in
    let none = or_parts ((x == 34) || (x == 92)) _ (not-true _ both.0) in
    let tests = or_parts (x == 34) _ none.0 in
    (λ i. escape_byte_plain x (eqb-false x 34 tests.0) (eqb-false x 92 tests.1)
    (ltb-false x 32 none.1) i ++ escape-plain xs both.1 i)

pub lex-string : (s rest : List ℕ) → list_all is_plain s ≡ true
    → lex between (34 ∷ (s ++ 34 ∷ rest)) ≡ token (string s) ∷ lex between rest
unfolding lex
lex-string s rest h =
    let same = ap (λ e. e ++ 34 ∷ rest) (sym (escape-plain s h)) in
    ap (λ t. token (string_token (content plain t)) ∷ lex in_string t) same
    ∙ (λ i. token (string_token (content-escape s rest i)) ∷ lex-escape s rest i)

pub plain_front : (xs : List ℕ) → list_all is_plain (take (prefix_len is_plain xs) xs) ≡ true
plain_front [] = refl
plain_front (x ∷ xs) = by (plain_front xs) (is_plain x) refl
  where
    by : list_all is_plain (take (prefix_len is_plain xs) xs) ≡ true → (b : Bool)
        → is_plain x ≡ b
        → list_all is_plain (take (prefix_len is_plain (x ∷ xs)) (x ∷ xs)) ≡ true
    by rest true e =
        let on : 1 + prefix_len is_plain xs ≡ suc (prefix_len is_plain xs) = omega arith in
        let whole : take (prefix_len is_plain (x ∷ xs)) (x ∷ xs)
        ≡ x ∷ take (prefix_len is_plain xs) xs = rw e (ap (λ k. take k (x ∷ xs)) on) in
        ap (list_all is_plain) whole ∙ rw (e, rest) refl
    by rest false e = rw e refl

pub takes_string : (t inside rest : List ℕ) → t ≡ 34 ∷ inside
    → drop (prefix_len is_plain inside) inside ≡ 34 ∷ rest
    → Takes t (token (string (take (prefix_len is_plain inside) inside))) rest
takes_string t inside rest parts closing =
    let n = prefix_len is_plain inside in
    let s = take n inside in
    let whole : inside ≡ s ++ 34 ∷ rest =
    sym (take-append-drop n inside) ∙ ap (λ k. s ++ k) closing in
    let all : t ≡ (34 ∷ (s ++ 34 ∷ [])) ++ rest =
    parts ∙ ap (λ k. 34 ∷ k) (whole ∙ sym (append_assoc s (34 ∷ []) rest)) in
    taken t (34 ∷ (s ++ 34 ∷ [])) rest (token (string s)) all (omega arith)
    (ap (lex between) (parts ∙ ap (λ k. 34 ∷ k) whole)
    ∙ lex-string s rest (plain_front inside))

stop_ascii : (x : ℕ) → is_plain x ≡ false → x < 128
stop_ascii x h = grind (arith, nat_tests)

pub boundary : (xs : List ℕ) → IsCharBoundary xs (prefix_len is_plain xs)
boundary xs = by (nat_lt (prefix_len is_plain xs) (length xs)) refl
  where
    by : (b : Bool) → nat_lt (prefix_len is_plain xs) (length xs) ≡ b
        → IsCharBoundary xs (prefix_len is_plain xs)
    by true e =
        let less = ltb-true _ _ e in
        IsCharBoundary-before_ascii xs (prefix_len is_plain xs) less
        (stop_ascii _ (prefix_len_stops is_plain xs 0 less))
    by false e =
        let most = ltb-false _ _ e in
        let end : length xs ≡ prefix_len is_plain xs =
        omega (arith, prefix_len-le-length is_plain xs) in
        subst (IsCharBoundary xs) end (IsCharBoundary-end xs)
