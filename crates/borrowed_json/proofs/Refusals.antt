-- Plain texts that begin with no value, no items or no members.
use Rattle.std.proofs.Common.{◌≡◌, ◌≢◌, ℕ, ◌-◌, ◌<◌, Bool, true, false, List}
use Rattle.std.proofs.Common.{[], ◌∷◌, length}
use Rattle.std.proofs.Common.{None, refl, sym, ap, ap₂, ◌∙◌, arith}
use Rattle.std.specs.List.{list_all}
use Rattle.std.proofs.lemmas.Bool.{and_parts, false≢true, true≢false}
use Rattle.json.specs.Token.{Token, begin_object, end_object, begin_array, end_array, key, string}
use Rattle.json.specs.Token.{number, boolean, null, bad}
use Rattle.json.specs.Json.{value, items, members, parse_map, read_key}
use Rattle.json.specs.Lex.{Lexeme, token, comma, colon, between, lex, Place, fresh, after_value}
use Rattle.json.specs.Lex.{after_comma, after_key, may_begin, may_close, punctuate, if_allowed}
use Rattle.json.specs.Lex.{place_token, begins_colon}
use Rattle.json.proofs.Grammar.{value_is, value-begin_array, value-begin_object}
use Rattle.serde_json.specs.Data as seen
use Rattle.serde_json.specs.Read.{of_json, converted}
use Rattle.borrowed_json.specs.Plain.{IsPlain, is_plain_lexeme}
use Rattle.borrowed_json.specs.Steps.{Takes, Lacks, LacksName, tokens_at, Begins, Lasts, HasNone}
use Rattle.borrowed_json.specs.Steps.{HasNoItems, HasNoMembers}
use Rattle.borrowed_json.proofs.Reading.{converted-array, converted-object}
use Rattle.borrowed_json.proofs.Places.{at_token}
use Rattle.borrowed_json.proofs.Lacking.{not_blank}
use Rattle.json.specs.Text.{content, plain}
use Rattle.json.specs.Word.{head, word}
use Rattle.json.specs.Align.{is_blank}
use Rattle.json.specs.Lex.{Class, quote, backslash, operator, space, other, class, Mode, in_string}
use Rattle.json.specs.Lex.{in_word, lex_byte, operator_lexeme, string_token}
use Rattle.std.specs.Prelude.{⊤}

-- ---- values

pub name_none : (depth : ℕ) (t rest more s : List ℕ) → Takes t (token (string s)) rest
    → Takes rest colon more → HasNone depth t
name_none depth t rest more s h k p b =
    let ls = lex between more in
    let placed : place_token p (string s) true (λ next. punctuate next (colon ∷ ls))
    ≡ key s ∷ punctuate after_key (colon ∷ ls) = rw b refl in
    ap (λ l. converted of_json (value depth (punctuate p l)))
    (h.lexeme ∙ ap (λ l. token (string s) ∷ l) k.lexeme)
    ∙ ap (λ ts. converted of_json (value depth ts)) (at_token p (string s) (colon ∷ ls) b
    ∙ placed)
    ∙ ap (converted of_json) (value_is depth (key s ∷ punctuate after_key (colon ∷ ls)))

pub deep_object : (depth : ℕ) (t inside : List ℕ) → depth ≡ 0
    → Takes t (token begin_object) inside
    → HasNone depth t
unfolding value
deep_object depth t inside none h p b =
    let ls = lex between inside in
    let placed : place_token p begin_object (begins_colon ls) (λ next. punctuate next ls)
    ≡ begin_object ∷ punctuate fresh ls = rw b refl in
    ap₂ (λ d l. converted of_json (value d (punctuate p l))) none h.lexeme
    ∙ ap (λ ts. converted of_json (value 0 ts)) (at_token p begin_object ls b ∙ placed)

pub deep_array : (depth : ℕ) (t inside : List ℕ) → depth ≡ 0
    → Takes t (token begin_array) inside
    → HasNone depth t
unfolding value
deep_array depth t inside none h p b =
    let ls = lex between inside in
    let placed : place_token p begin_array (begins_colon ls) (λ next. punctuate next ls)
    ≡ begin_array ∷ punctuate fresh ls = rw b refl in
    ap₂ (λ d l. converted of_json (value d (punctuate p l))) none h.lexeme
    ∙ ap (λ ts. converted of_json (value 0 ts)) (at_token p begin_array ls b ∙ placed)

pub array_none : (depth : ℕ) (t inside : List ℕ) → 0 < depth
    → Takes t (token begin_array) inside
    → HasNoItems (depth - 1) inside → HasNone depth t
array_none depth t inside some h r p b =
    let ts = tokens_at false inside in
    ap (λ l. converted of_json (value depth (punctuate p l))) h.lexeme
    ∙ ap (λ us. converted of_json (value depth us))
    (at_token p begin_array (lex between inside) b ∙ rw b refl)
    ∙ ap (converted of_json) (value-begin_array depth ts some)
    ∙ converted-array (items (value (depth - 1)) (length ts) ts)
    ∙ ap (parse_map seen.array) r

pub object_none : (depth : ℕ) (t inside : List ℕ) → 0 < depth
    → Takes t (token begin_object) inside → HasNoMembers (depth - 1) inside → HasNone depth t
object_none depth t inside some h r p b =
    let ts = tokens_at false inside in
    ap (λ l. converted of_json (value depth (punctuate p l))) h.lexeme
    ∙ ap (λ us. converted of_json (value depth us))
    (at_token p begin_object (lex between inside) b ∙ rw b refl)
    ∙ ap (converted of_json) (value-begin_object depth ts some)
    ∙ converted-object (members (value (depth - 1)) (length ts) ts)
    ∙ ap (parse_map seen.object) r

-- the first lexeme begins no value
record Barren (ls : List Lexeme) : Type 0 where
  no_string : (s : List ℕ) (ms : List Lexeme) → ls ≢ token (string s) ∷ ms
  no_object : (ms : List Lexeme) → ls ≢ token begin_object ∷ ms
  no_array : (ms : List Lexeme) → ls ≢ token begin_array ∷ ms
  no_number : (s : List ℕ) (ms : List Lexeme) → ls ≢ token (number s) ∷ ms

closing : (depth : ℕ) (b : Bool) (u : Token) (k : Place → List Token)
    → ((ts : List Token) → value depth (u ∷ ts) ≡ None)
    → value depth (if_allowed b u k after_value) ≡ None
closing depth true u k h = h (k after_value)
closing depth false u k h = value_is depth (bad ∷ [])

barren_token : (depth : ℕ) (p : Place) (t : Token) (ls : List Lexeme) (b : Bool)
    (k : Place → List Token) → Barren (token t ∷ ls) → is_plain_lexeme (token t) ≡ true
    → value depth (place_token p t b k) ≡ None
barren_token depth p begin_object ls b k h fine = absurd (h.no_object ls refl)
barren_token depth p end_object ls b k h fine =
    closing depth (may_close p) end_object k (λ ts. value_is depth (end_object ∷ ts))
barren_token depth p begin_array ls b k h fine = absurd (h.no_array ls refl)
barren_token depth p end_array ls b k h fine =
    closing depth (may_close p) end_array k (λ ts. value_is depth (end_array ∷ ts))
barren_token depth p (key s) ls b k h fine = value_is depth (bad ∷ [])
barren_token depth p (string s) ls b k h fine = absurd (h.no_string s ls refl)
barren_token depth p (number s) ls b k h fine = absurd (h.no_number s ls refl)
barren_token depth p (boolean v) ls b k h fine = absurd (false≢true fine)
barren_token depth p null ls b k h fine = absurd (false≢true fine)
barren_token depth p bad ls b k h fine = value_is depth (bad ∷ [])

barren : (depth : ℕ) (p : Place) (ls : List Lexeme) → Barren ls
    → list_all is_plain_lexeme ls ≡ true → may_begin p ≡ true
    → value depth (punctuate p ls) ≡ None
unfolding punctuate
barren depth fresh [] h fine b = value_is depth []
barren depth after_comma [] h fine b = value_is depth (bad ∷ [])
barren depth fresh (comma ∷ ls) h fine b = value_is depth (bad ∷ [])
barren depth after_comma (comma ∷ ls) h fine b = value_is depth (bad ∷ [])
barren depth fresh (colon ∷ ls) h fine b = value_is depth (bad ∷ [])
barren depth after_comma (colon ∷ ls) h fine b = value_is depth (bad ∷ [])
barren depth fresh (token t ∷ ls) h fine b =
    barren_token depth fresh t ls (begins_colon ls) (λ next. punctuate next ls) h
    (and_parts (is_plain_lexeme (token t)) (list_all is_plain_lexeme ls) fine).0
barren depth after_comma (token t ∷ ls) h fine b =
    barren_token depth after_comma t ls (begins_colon ls) (λ next. punctuate next ls) h
    (and_parts (is_plain_lexeme (token t)) (list_all is_plain_lexeme ls) fine).0
barren depth after_value ls h fine b = absurd (false≢true b)
barren depth after_key ls h fine b = absurd (false≢true b)

pub nothing : (depth : ℕ) (t : List ℕ) → IsPlain t
    → ((s : List ℕ) → Lacks t (token (string s))) → Lacks t (token begin_object)
    → Lacks t (token begin_array) → ((s : List ℕ) → Lacks t (token (number s)))
    → HasNone depth t
nothing depth t fine no_s no_o no_a no_n p b =
    ap (converted of_json) (barren depth p (lex between t) (record {
      no_string = no_s;
      no_object = no_o;
      no_array = no_a;
      no_number = no_n;
    }) fine.plain_tokens b)

-- ---- no comma

later_token : (depth : ℕ) (t : Token) (b : Bool) (k : Place → List Token)
    → value depth (place_token after_value t b k) ≡ None
later_token depth begin_object b k = value_is depth (bad ∷ [])
later_token depth end_object b k = value_is depth (end_object ∷ k after_value)
later_token depth begin_array b k = value_is depth (bad ∷ [])
later_token depth end_array b k = value_is depth (end_array ∷ k after_value)
later_token depth (key s) b k = value_is depth (bad ∷ [])
later_token depth (string s) true k = value_is depth (bad ∷ [])
later_token depth (string s) false k = value_is depth (bad ∷ [])
later_token depth (number s) b k = value_is depth (bad ∷ [])
later_token depth (boolean v) b k = value_is depth (bad ∷ [])
later_token depth null b k = value_is depth (bad ∷ [])
later_token depth bad b k = value_is depth (bad ∷ [])

later_value : (depth : ℕ) (ls : List Lexeme) → ((ms : List Lexeme) → ls ≢ comma ∷ ms)
    → value depth (punctuate after_value ls) ≡ None
unfolding punctuate
later_value depth [] h = value_is depth []
later_value depth (token t ∷ ls) h =
    later_token depth t (begins_colon ls) (λ next. punctuate next ls)
later_value depth (comma ∷ ls) h = absurd (h ls refl)
later_value depth (colon ∷ ls) h = value_is depth (bad ∷ [])

pub lasts_value : (depth : ℕ) (later : Bool) (t : List ℕ) → Lasts later t
    → value depth (tokens_at later t) ≡ None
lasts_value depth later t h =
    ap (λ l. value depth (tokens_at l t)) h.later_is
    ∙ later_value depth (lex between t) h.no_comma

later_key_token : (t : Token) (b : Bool) (k : Place → List Token) → t ≢ end_object
    → read_key (place_token after_value t b k) ≡ None
later_key_token begin_object b k h = refl
later_key_token end_object b k h = absurd (h refl)
later_key_token begin_array b k h = refl
later_key_token end_array b k h = refl
later_key_token (key s) b k h = refl
later_key_token (string s) true k h = refl
later_key_token (string s) false k h = refl
later_key_token (number s) b k h = refl
later_key_token (boolean v) b k h = refl
later_key_token null b k h = refl
later_key_token bad b k h = refl

later_key : (ls : List Lexeme) → ((ms : List Lexeme) → ls ≢ comma ∷ ms)
    → ((ms : List Lexeme) → ls ≢ token end_object ∷ ms)
    → read_key (punctuate after_value ls) ≡ None
unfolding punctuate
later_key [] h o = refl
later_key (token t ∷ ls) h o =
    later_key_token t (begins_colon ls) (λ next. punctuate next ls)
    (λ e. o ls (ap (λ u. token u ∷ ls) e))
later_key (comma ∷ ls) h o = absurd (h ls refl)
later_key (colon ∷ ls) h o = refl

pub lasts_key : (later : Bool) (t : List ℕ) → Lasts later t → Lacks t (token end_object)
    → read_key (tokens_at later t) ≡ None
lasts_key later t h o =
    ap (λ l. read_key (tokens_at l t)) h.later_is ∙ later_key (lex between t) h.no_comma o

-- ---- no name

key_allowed : (b : Bool) (u : Token) (k : Place → List Token) (next : Place)
    → ((ts : List Token) → read_key (u ∷ ts) ≡ None)
    → read_key (if_allowed b u k next) ≡ None
key_allowed true u k next h = h (k next)
key_allowed false u k next h = refl

no_key_token : (p : Place) (t : Token) (ls : List Lexeme) (k : Place → List Token)
    → (may_close p ≡ true → t ≢ end_object)
    → ((s : List ℕ) (ms : List Lexeme) → token t ∷ ls ≢ token (string s) ∷ colon ∷ ms)
    → read_key (place_token p t (begins_colon ls) k) ≡ None
no_key_token p begin_object ls k c h =
    key_allowed (may_begin p) begin_object k fresh (λ ts. refl)
no_key_token p end_object ls k c h = by (may_close p) c
  where
    by : (b : Bool) → (b ≡ true → end_object ≢ end_object)
        → read_key (if_allowed b end_object k after_value) ≡ None
    by true c = absurd (c refl refl)
    by false c = refl
no_key_token p begin_array ls k c h =
    key_allowed (may_begin p) begin_array k fresh (λ ts. refl)
no_key_token p end_array ls k c h =
    key_allowed (may_close p) end_array k after_value (λ ts. refl)
no_key_token p (key s) ls k c h = refl
no_key_token p (string s) [] k c h =
    key_allowed (may_begin p) (string s) k after_value (λ ts. refl)
no_key_token p (string s) (token u ∷ ls) k c h =
    key_allowed (may_begin p) (string s) k after_value (λ ts. refl)
no_key_token p (string s) (comma ∷ ls) k c h =
    key_allowed (may_begin p) (string s) k after_value (λ ts. refl)
no_key_token p (string s) (colon ∷ ls) k c h = absurd (h s ls refl)
no_key_token p (number s) ls k c h =
    key_allowed (may_begin p) (number s) k after_value (λ ts. refl)
no_key_token p (boolean v) ls k c h =
    key_allowed (may_begin p) (boolean v) k after_value (λ ts. refl)
no_key_token p null ls k c h = key_allowed (may_begin p) null k after_value (λ ts. refl)
no_key_token p bad ls k c h = refl

no_key : (p : Place) (ls : List Lexeme) → may_begin p ≡ true
    → (may_close p ≡ true → (ms : List Lexeme) → ls ≢ token end_object ∷ ms)
    → ((s : List ℕ) (ms : List Lexeme) → ls ≢ token (string s) ∷ colon ∷ ms)
    → read_key (punctuate p ls) ≡ None
unfolding punctuate
no_key fresh [] b c h = refl
no_key after_comma [] b c h = refl
no_key fresh (comma ∷ ls) b c h = refl
no_key after_comma (comma ∷ ls) b c h = refl
no_key fresh (colon ∷ ls) b c h = refl
no_key after_comma (colon ∷ ls) b c h = refl
no_key fresh (token t ∷ ls) b c h =
    no_key_token fresh t ls (λ next. punctuate next ls)
    (λ e f. c e ls (ap (λ u. token u ∷ ls) f)) h
no_key after_comma (token t ∷ ls) b c h =
    no_key_token after_comma t ls (λ next. punctuate next ls)
    (λ e f. c e ls (ap (λ u. token u ∷ ls) f)) h
no_key after_value ls b c h = absurd (false≢true b)
no_key after_key ls b c h = absurd (false≢true b)

pub name_missing : (later : Bool) (t start : List ℕ) (b : Begins later t start)
    → Lacks t (token end_object) → LacksName start → read_key (tokens_at later t) ≡ None
name_missing later t start b o h =
    ap read_key b.tokens
    ∙ no_key b.place (lex between start) b.begins
    (λ c ms e. o ms (ap (lex between) (sym (b.closes c)) ∙ e)) h

-- ---- the end of the text

no_text : (t : List ℕ) → length t ≡ 0 → t ≡ []
no_text [] e = refl
no_text (x ∷ xs) e = absurd (omega arith)

pub no_tokens : (later : Bool) (t : List ℕ) → length t ≡ 0 → tokens_at later t ≡ []
unfolding lex punctuate
no_tokens true t e = ap (tokens_at true) (no_text t e)
no_tokens false t e = ap (tokens_at false) (no_text t e)

abbrev pub Starts : List Token → Type 0
Starts [] = ⊥
Starts (t ∷ ts) = ⊤

allowed_starts : (b : Bool) (u : Token) (k : Place → List Token) (next : Place)
    → Starts (if_allowed b u k next)
allowed_starts true u k next = tt
allowed_starts false u k next = tt

token_starts : (p : Place) (t : Token) (b : Bool) (k : Place → List Token)
    → Starts (place_token p t b k)
token_starts p begin_object b k = allowed_starts (may_begin p) begin_object k fresh
token_starts p end_object b k = allowed_starts (may_close p) end_object k after_value
token_starts p begin_array b k = allowed_starts (may_begin p) begin_array k fresh
token_starts p end_array b k = allowed_starts (may_close p) end_array k after_value
token_starts p (key s) b k = tt
token_starts p (string s) true k = allowed_starts (may_begin p) (key s) k after_key
token_starts p (string s) false k = allowed_starts (may_begin p) (string s) k after_value
token_starts p (number s) b k = allowed_starts (may_begin p) (number s) k after_value
token_starts p (boolean v) b k = allowed_starts (may_begin p) (boolean v) k after_value
token_starts p null b k = allowed_starts (may_begin p) null k after_value
token_starts p bad b k = tt

comma_starts : (ls : List Lexeme) → Starts (punctuate after_comma ls)
unfolding punctuate
comma_starts [] = tt
comma_starts (token t ∷ ls) =
    token_starts after_comma t (begins_colon ls) (λ next. punctuate next ls)
comma_starts (comma ∷ ls) = tt
comma_starts (colon ∷ ls) = tt

value_starts : (l : Lexeme) (ls : List Lexeme) → Starts (punctuate after_value (l ∷ ls))
unfolding punctuate
value_starts (token t) ls =
    token_starts after_value t (begins_colon ls) (λ next. punctuate next ls)
value_starts comma ls = comma_starts ls
value_starts colon ls = tt

class_starts : (k : Class) (x : ℕ) (xs : List ℕ) (next : Mode → List Lexeme)
    → is_blank k ≡ false
    → Starts (punctuate after_value (lex_byte between k x xs next))
class_starts quote x xs next h =
    value_starts (token (string_token (content plain xs))) (next in_string)
class_starts backslash x xs next h = value_starts (token bad) (next in_word)
class_starts operator x xs next h = value_starts (operator_lexeme x) (next between)
class_starts space x xs next h = absurd (true≢false h)
class_starts other x xs next h = value_starts (token (word (x ∷ xs))) (next in_word)

-- a text that goes on has a token
pub text_starts : (t : List ℕ) → (is_blank (class (head t)) ≡ true → t ≡ [])
    → (length t ≡ 0 → ⊥) → Starts (punctuate after_value (lex between t))
unfolding lex
text_starts [] begins some = absurd (some refl)
text_starts (x ∷ xs) begins some =
    class_starts (class x) x xs (λ m. lex m xs) (not_blank (is_blank (class x)) x xs begins)
