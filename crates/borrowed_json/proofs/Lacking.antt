-- A text doesn't begin with a lexeme if the first byte differs.
use Rattle.std.proofs.Common.{◌≡◌, ◌≢◌, ℕ, suc, ◌+◌, ◌-◌, take, drop, nat_eq}
use Rattle.std.proofs.Common.{Bool, true, false}
use Rattle.std.proofs.Common.{not, cond, ◌&&◌}
use Rattle.std.proofs.Common.{◌==◌, nat_lt, List, [], ◌∷◌, length, Option, Some, None}
use Rattle.std.proofs.Common.{refl}
use Rattle.std.proofs.Common.{sym, ap, ◌∙◌, subst, arith}
use Rattle.std.specs.List.{list_all, prefix_len, starts_with}
use Rattle.std.proofs.lemmas.Bool.{and_parts, true≢false, eqb-true, not-true}
use Rattle.std.proofs.lemmas.Bool.Decides.{nat_tests}
use Rattle.json.specs.Token.{Token, begin_object, end_object, begin_array, end_array, key, string}
use Rattle.json.specs.Token.{number, boolean, null, bad}
use Rattle.json.specs.Text.{content, plain}
use Rattle.json.specs.Word.{is_operator, head, word, literal, number_before, after_number}
use Rattle.json.specs.Word.{ends_word}
use Rattle.json.specs.Ascii.{true_text, false_text, null_text}
use Rattle.json.specs.Run.{is_plain}
use Rattle.json.specs.Align.{is_blank}
use Rattle.json.specs.Lex.{Lexeme, token, comma, colon, Class, quote, backslash, operator, space}
use Rattle.json.specs.Lex.{other, class, operator_lexeme, string_token, Mode, between, lex_byte}
use Rattle.json.specs.Lex.{lex}
use Rattle.borrowed_json.specs.Plain.{IsPlain}
use Rattle.borrowed_json.specs.Steps.{Lacks}

-- the byte that a lexeme begins with, if it is a bracket, a comma, a colon or a quote
abbrev mark : Token → ℕ
mark begin_object = 123
mark end_object = 125
mark begin_array = 91
mark end_array = 93
mark (key s) = 34
mark (string s) = 34
mark (number s) = 0
mark (boolean b) = 0
mark null = 0
mark bad = 0

abbrev pub mark_of : Lexeme → ℕ
mark_of (token t) = mark t
mark_of comma = 44
mark_of colon = 58

pub mark-operator : (c : ℕ) → is_operator c ≡ true → mark_of (operator_lexeme c) ≡ c
mark-operator c h = grind (arith, nat_tests)

either : (b : Bool) (t u : Token) → mark t ≡ 0 → mark u ≡ 0 → mark (cond b t u) ≡ 0
either true t u h k = h
either false t u h k = k

mark-number : (t : List ℕ) (o : Option (List ℕ)) → mark (number_before t o) ≡ 0
mark-number t None = refl
mark-number t (Some rest) =
    either (ends_word rest) (number (take (length t - length rest) t)) bad refl refl

mark-literal : (t name : List ℕ) (u : Token) → mark u ≡ 0 → mark (literal name u t) ≡ 0
mark-literal t name u h =
    either (starts_with nat_eq t name && ends_word (drop (length name) t)) u bad h refl

mark-word : (t : List ℕ) → mark (word t) ≡ 0
unfolding word
mark-word t =
    let on = mark-literal t in
    either (head t == 116) _ _ (on true_text (boolean true) refl)
    (either (head t == 102) _ _ (on false_text (boolean false) refl)
    (either (head t == 110) _ _ (on null_text null refl) (mark-number t (after_number t))))

-- ---- the first lexeme, by the class of the first byte

abbrev pub first : Class → ℕ → List ℕ → Lexeme
first quote x xs = token (string_token (content plain xs))
first backslash x xs = token bad
first operator x xs = operator_lexeme x
first space x xs = token bad
first other x xs = token (word (x ∷ xs))

abbrev head_or : Lexeme → List Lexeme → Lexeme
head_or l [] = l
head_or l (m ∷ ms) = m

first_byte : (k : Class) (x : ℕ) (xs : List ℕ) (next : Mode → List Lexeme)
    → is_blank k ≡ false
    → head_or comma (lex_byte between k x xs next) ≡ first k x xs
first_byte quote x xs next h = refl
first_byte backslash x xs next h = refl
first_byte operator x xs next h = refl
first_byte space x xs next h = absurd (true≢false h)
first_byte other x xs next h = refl

pub first_is : (x : ℕ) (xs : List ℕ) (l : Lexeme) (ls : List Lexeme)
    → is_blank (class x) ≡ false
    → lex between (x ∷ xs) ≡ l ∷ ls → first (class x) x xs ≡ l
unfolding lex
first_is x xs l ls h e =
    sym (first_byte (class x) x xs (λ m. lex m xs) h) ∙ ap (head_or comma) e

-- ---- brackets, commas and colons

pub operator-class : (x : ℕ) → class x ≡ operator → is_operator x ≡ true
operator-class x h = grind (arith, nat_tests)

quote-class : (x : ℕ) → class x ≡ quote → x ≡ 34
quote-class x h = grind (arith, nat_tests)

operator_mark : (c n : ℕ) → is_operator c ≡ true → is_operator n ≡ false
    → n ≡ c → ⊥
operator_mark c n h k e = true≢false (sym h ∙ ap is_operator (sym e) ∙ k)

no_operator : (k : Class) (x : ℕ) (xs : List ℕ) (c : ℕ) → class x ≡ k
    → is_operator c ≡ true
    → (x ≡ c → ⊥) → is_blank k ≡ false → mark_of (first k x xs) ≡ c → ⊥
no_operator quote x xs c e h apart b m = in_quotes (content plain xs) m
  where
    in_quotes : (o : Option (List ℕ)) → mark (string_token o) ≡ c → ⊥
    in_quotes None m = operator_mark c 0 h refl m
    in_quotes (Some s) m = operator_mark c 34 h refl m
no_operator backslash x xs c e h apart b m = operator_mark c 0 h refl m
no_operator operator x xs c e h apart b m = apart (sym (mark-operator x (operator-class x e)) ∙ m)
no_operator space x xs c e h apart b m = true≢false b
no_operator other x xs c e h apart b m =
    operator_mark c 0 h refl (sym (mark-word (x ∷ xs)) ∙ m)

pub none : (l : Lexeme) (ls : List Lexeme) → lex between [] ≡ l ∷ ls → ⊥
unfolding lex
none l ls e = cc

cons_apart : (x c : ℕ) (xs : List ℕ) → ((rest : List ℕ) → x ∷ xs ≢ c ∷ rest)
    → x ≡ c → ⊥
cons_apart x c xs h e = h xs (ap (λ y. y ∷ xs) e)

pub not_blank : (b : Bool) (x : ℕ) (xs : List ℕ) → (b ≡ true → x ∷ xs ≡ [])
    → b ≡ false
not_blank true x xs h = absurd (let e = h refl in cc)
not_blank false x xs h = refl

pub lacks_operator : (t : List ℕ) (c : ℕ) → is_operator c ≡ true
    → (is_blank (class (head t)) ≡ true → t ≡ [])
    → ((rest : List ℕ) → t ≢ c ∷ rest)
    → Lacks t (operator_lexeme c)
lacks_operator [] c h begins apart ls e = none (operator_lexeme c) ls e
lacks_operator (x ∷ xs) c h begins apart ls e =
    let spaced = not_blank (is_blank (class x)) x xs begins in
    no_operator (class x) x xs c refl h (cons_apart x c xs apart) spaced
    (ap mark_of (first_is x xs (operator_lexeme c) ls spaced e) ∙ mark-operator c h)

pub lacks_there : (text start : List ℕ) (l : Lexeme) → lex between start ≡ lex between text
    → Lacks start l → Lacks text l
lacks_there text start l same lacking ls e = lacking ls (same ∙ e)

-- ---- strings

no_mark : ◌≡◌ {A = ℕ} 0 34 → ⊥
no_mark e = omega arith

no_string : (k : Class) (x : ℕ) (xs : List ℕ) → class x ≡ k → (x ≡ 34 → ⊥)
    → is_blank k ≡ false
    → mark_of (first k x xs) ≡ 34 → ⊥
no_string quote x xs e apart b m = apart (quote-class x e)
no_string backslash x xs e apart b m = no_mark m
no_string operator x xs e apart b m = apart (sym (mark-operator x (operator-class x e)) ∙ m)
no_string space x xs e apart b m = true≢false b
no_string other x xs e apart b m = no_mark (sym (mark-word (x ∷ xs)) ∙ m)

pub lacks_string : (t s : List ℕ) → (is_blank (class (head t)) ≡ true → t ≡ [])
    → ((rest : List ℕ) → t ≢ 34 ∷ rest) → Lacks t (token (string s))
lacks_string [] s begins apart ls e = none (token (string s)) ls e
lacks_string (x ∷ xs) s begins apart ls e =
    let spaced = not_blank (is_blank (class x)) x xs begins in
    no_string (class x) x xs refl (cons_apart x 34 xs apart) spaced
    (ap mark_of (first_is x xs (token (string s)) ls spaced e))

unclosed : (xs : List ℕ) → list_all (λ b. not (b == 92)) xs ≡ true
    → ((rest : List ℕ) → drop (prefix_len is_plain xs) xs ≢ 34 ∷ rest)
    → content plain xs ≡ None
unfolding content
unclosed [] h apart = refl
unclosed (x ∷ xs) h apart = at_quote (unclosed xs) (x == 34) refl
  where
    Inner : Type 0
    Inner = list_all (λ b. not (b == 92)) xs ≡ true
        → ((rest : List ℕ) → drop (prefix_len is_plain xs) xs ≢ 34 ∷ rest)
        → content plain xs ≡ None

    both : (not (x == 92) ≡ true) × (list_all (λ b. not (b == 92)) xs ≡ true)
    both = and_parts _ _ h

    no_backslash : (x == 92) ≡ false
    no_backslash = not-true (x == 92) both.0

    at_control : Inner → (b : Bool) → nat_lt x 32 ≡ b → (x == 34) ≡ false
        → content plain (x ∷ xs) ≡ None
    at_control inner true e q = rw (q, no_backslash, e) refl
    at_control inner false e q =
        let passes : is_plain x ≡ true = rw (q, no_backslash, e) refl in
        let on : 1 + prefix_len is_plain xs ≡ suc (prefix_len is_plain xs) = omega arith in
        let over : drop (prefix_len is_plain (x ∷ xs)) (x ∷ xs)
        ≡ drop (prefix_len is_plain xs) xs =
        rw passes (ap (λ k. drop k (x ∷ xs)) on) in
        let none = inner both.1 (λ rest f. apart rest (over ∙ f)) in
        rw (q, no_backslash, e, none) refl

    at_quote : Inner → (b : Bool) → (x == 34) ≡ b → content plain (x ∷ xs) ≡ None
    at_quote inner true e =
        let is : x ≡ 34 = eqb-true x 34 e in
        absurd (apart xs (rw is refl))
    at_quote inner false e = at_control inner (nat_lt x 32) refl e

pub lacks_unclosed : (t inside s : List ℕ) → t ≡ 34 ∷ inside
    → ((rest : List ℕ) → drop (prefix_len is_plain inside) inside ≢ 34 ∷ rest)
    → IsPlain t
    → Lacks t (token (string s))
lacks_unclosed t inside s parts apart h ls e =
    let clean : list_all (λ b. not (b == 92)) inside ≡ true =
    subst (λ u. list_all (λ b. not (b == 92)) u ≡ true) parts h.no_backslash in
    let found = first_is 34 inside (token (string s)) ls refl
    (ap (lex between) (sym parts) ∙ e) in
    let closed : token (string_token (content plain inside)) ≡ token bad =
    ap (λ o. token (string_token o)) (unclosed inside clean apart) in
    no_mark (ap mark_of (sym closed ∙ found))
