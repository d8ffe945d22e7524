-- The tokens of a text at a place for an item, a member or a closing bracket.
use Rattle.std.proofs.Common.{◌≡◌, ◌≢◌, ℕ, ◌-◌, ◌<◌, Bool, true, false, List}
use Rattle.std.proofs.Common.{[], ◌∷◌, length}
use Rattle.std.proofs.Common.{Some, None, refl, ap, ◌∙◌, arith}
use Rattle.std.proofs.lemmas.Bool.{false≢true}
use Rattle.json.specs.Token.{Token, begin_object, end_object, begin_array, end_array, key, string}
use Rattle.json.specs.Token.{number, boolean, null, bad}
use Rattle.json.specs.Json.{value, items, members, parse_map, after_end_array, read_key}
use Rattle.json.specs.Lex.{Lexeme, token, comma, colon, between, lex, Place, fresh, after_value}
use Rattle.json.specs.Lex.{after_comma, after_key, may_begin, may_close, punctuate, if_allowed}
use Rattle.json.specs.Lex.{place_token, begins_colon}
use Rattle.json.proofs.Grammar.{value_is, value-begin_array, value-begin_object}
use Rattle.serde_json.specs.Data.{Num, Items, Members}
use Rattle.serde_json.specs.Data as seen
use Rattle.serde_json.specs.Read.{number_of, of_json, converted}
use Rattle.borrowed_json.specs.Steps.{Takes, Lacks, TakesName, tokens_at, Begins, Reads, ReadsItems}
use Rattle.borrowed_json.specs.Steps.{ReadsMembers}
use Rattle.borrowed_json.proofs.Reading.{converted-array, converted-object}

pub begins_after : (later : Bool) (t rest : List ℕ) → later ≡ true → Takes t comma rest
    → Begins later t rest
unfolding punctuate
begins_after later t rest e h = record {
  place = after_comma;
  begins = refl;
  tokens = rw (e, h.lexeme) refl;
  closes = λ c. absurd (false≢true c);
  plain = h.plain;
  no_longer = omega (arith, h.shorter);
}

-- ---- values

pub at_token : (p : Place) (t : Token) (ls : List Lexeme) → may_begin p ≡ true
    → punctuate p (token t ∷ ls)
    ≡ place_token p t (begins_colon ls) (λ next. punctuate next ls)
unfolding punctuate
at_token fresh t ls h = refl
at_token after_value t ls h = absurd (false≢true h)
at_token after_comma t ls h = refl
at_token after_key t ls h = absurd (false≢true h)

no_colon : (ls : List Lexeme) → ((ms : List Lexeme) → ls ≢ colon ∷ ms)
    → begins_colon ls ≡ false
no_colon [] h = refl
no_colon (token t ∷ ls) h = refl
no_colon (comma ∷ ls) h = refl
no_colon (colon ∷ ls) h = absurd (h ls refl)

-- a text that begins with one token, which stands for a value
alone : (depth : ℕ) (t rest : List ℕ) (u : Token) (d : seen.Data) → Takes t (token u) rest
    → ((p : Place) (k : Place → List Token) → may_begin p ≡ true
    → place_token p u (begins_colon (lex between rest)) k ≡ u ∷ k after_value)
    → ((ts : List Token) → converted of_json (value depth (u ∷ ts)) ≡ Some (d, ts))
    → Reads depth t d rest
alone depth t rest u d h placed is = record {
  reads = λ p b. ap (λ l. converted of_json (value depth (punctuate p l))) h.lexeme
      ∙ ap (λ ts. converted of_json (value depth ts)) (at_token p u (lex between rest) b
      ∙ placed p (λ next. punctuate next (lex between rest)) b)
      ∙ is (punctuate after_value (lex between rest));
  plain = h.plain;
  shorter = h.shorter;
}

pub string_reads : (depth : ℕ) (t rest s : List ℕ) → Takes t (token (string s)) rest
    → Lacks rest colon → Reads depth t (seen.string s) rest
string_reads depth t rest s h lacks =
    let none = no_colon (lex between rest) lacks in
    alone depth t rest (string s) (seen.string s) h (λ p k b. rw (none, b) refl)
    (λ ts. ap (converted of_json) (value_is depth (string s ∷ ts)))

pub number_reads : (depth : ℕ) (t rest s : List ℕ) (n : Num) → Takes t (token (number s)) rest
    → number_of s ≡ Some n → Reads depth t (seen.number n) rest
number_reads depth t rest s n h e =
    alone depth t rest (number s) (seen.number n) h (λ p k b. rw b refl)
    (λ ts. ap (converted of_json) (value_is depth (number s ∷ ts)) ∙ rw e refl)

pub array_reads : (depth : ℕ) (t inside rest : List ℕ) (ds : Items) → 0 < depth
    → Takes t (token begin_array) inside → ReadsItems (depth - 1) inside ds rest
    → Reads depth t (seen.array ds) rest
array_reads depth t inside rest ds some h r =
    let ts = tokens_at false inside in
    record {
      reads = λ p b. ap (λ l. converted of_json (value depth (punctuate p l))) h.lexeme
          ∙ ap (λ us. converted of_json (value depth us))
          (at_token p begin_array (lex between inside) b ∙ rw b refl)
          ∙ ap (converted of_json) (value-begin_array depth ts some)
          ∙ converted-array (items (value (depth - 1)) (length ts) ts)
          ∙ ap (parse_map seen.array) r.reads;
      plain = λ k. r.plain (h.plain k);
      shorter = omega (arith, h.shorter, r.no_longer);
    }

pub object_reads : (depth : ℕ) (t inside rest : List ℕ) (ms : Members) → 0 < depth
    → Takes t (token begin_object) inside → ReadsMembers (depth - 1) inside ms rest
    → Reads depth t (seen.object ms) rest
object_reads depth t inside rest ms some h r =
    let ts = tokens_at false inside in
    record {
      reads = λ p b. ap (λ l. converted of_json (value depth (punctuate p l))) h.lexeme
          ∙ ap (λ us. converted of_json (value depth us))
          (at_token p begin_object (lex between inside) b ∙ rw b refl)
          ∙ ap (converted of_json) (value-begin_object depth ts some)
          ∙ converted-object (members (value (depth - 1)) (length ts) ts)
          ∙ ap (parse_map seen.object) r.reads;
      plain = λ k. r.plain (h.plain k);
      shorter = omega (arith, h.shorter, r.no_longer);
    }

-- ---- names

pub name_reads : (later : Bool) (t start inside name : List ℕ) (b : Begins later t start)
    → TakesName start name inside
    → read_key (tokens_at later t) ≡ Some (Some name, punctuate fresh (lex between inside))
unfolding punctuate
name_reads later t start inside name b h =
    ap read_key (b.tokens ∙ ap (punctuate b.place) h.lexemes)
    ∙ at_name b.place b.begins
  where
    at_name : (p : Place) → may_begin p ≡ true
        → read_key (punctuate p (token (string name) ∷ colon ∷ lex between inside))
        ≡ Some (Some name, punctuate fresh (lex between inside))
    at_name fresh e = refl
    at_name after_value e = absurd (false≢true e)
    at_name after_comma e = refl
    at_name after_key e = absurd (false≢true e)

-- ---- closing brackets

pub close_array : (later : Bool) (t rest : List ℕ)
    → lex between t ≡ token end_array ∷ lex between rest
    → after_end_array (tokens_at later t) ≡ Some (tokens_at true rest)
unfolding punctuate
close_array true t rest e = rw e refl
close_array false t rest e = rw e refl

pub close_object : (later : Bool) (t rest : List ℕ)
    → lex between t ≡ token end_object ∷ lex between rest
    → read_key (tokens_at later t) ≡ Some (None, tokens_at true rest)
unfolding punctuate
close_object true t rest e = rw e refl
close_object false t rest e = rw e refl

-- ---- no closing bracket

abbrev StaysOpen : Token → Type 0
StaysOpen t = (ts : List Token) → after_end_array (t ∷ ts) ≡ None

open_still : (b : Bool) (t : Token) (k : Place → List Token) (next : Place) → StaysOpen t
    → after_end_array (if_allowed b t k next) ≡ None
open_still true t k next h = h (k next)
open_still false t k next h = refl

open_string : (p : Place) (s : List ℕ) (b : Bool) (k : Place → List Token)
    → after_end_array (place_token p (string s) b k) ≡ None
open_string p s true k = open_still (may_begin p) (key s) k after_key (λ ts. refl)
open_string p s false k = open_still (may_begin p) (string s) k after_value (λ ts. refl)

open_token : (p : Place) (t : Token) (b : Bool) (k : Place → List Token)
    → (may_close p ≡ true → t ≢ end_array)
    → after_end_array (place_token p t b k) ≡ None
open_token p begin_object b k h = open_still (may_begin p) begin_object k fresh (λ ts. refl)
open_token p end_object b k h = open_still (may_close p) end_object k after_value (λ ts. refl)
open_token p begin_array b k h = open_still (may_begin p) begin_array k fresh (λ ts. refl)
open_token p end_array b k h = by (may_close p) h
  where
    by : (c : Bool) → (c ≡ true → end_array ≢ end_array)
        → after_end_array (if_allowed c end_array k after_value) ≡ None
    by true h = absurd (h refl refl)
    by false h = refl
open_token p (key s) b k h = refl
open_token p (string s) b k h = open_string p s b k
open_token p (number s) b k h = open_still (may_begin p) (number s) k after_value (λ ts. refl)
open_token p (boolean v) b k h = open_still (may_begin p) (boolean v) k after_value (λ ts. refl)
open_token p null b k h = open_still (may_begin p) null k after_value (λ ts. refl)
open_token p bad b k h = refl

-- after a comma nothing closes
open_comma : (ls : List Lexeme) → after_end_array (punctuate after_comma ls) ≡ None
unfolding punctuate
open_comma [] = refl
open_comma (token t ∷ ls) =
    open_token after_comma t (begins_colon ls) (λ next. punctuate next ls)
    (λ c. absurd (false≢true c))
open_comma (comma ∷ ls) = refl
open_comma (colon ∷ ls) = refl

open_fresh : (ls : List Lexeme) → ((ms : List Lexeme) → ls ≢ token end_array ∷ ms)
    → after_end_array (punctuate fresh ls) ≡ None
unfolding punctuate
open_fresh [] h = refl
open_fresh (token t ∷ ls) h =
    open_token fresh t (begins_colon ls) (λ next. punctuate next ls)
    (λ c e. h ls (ap (λ u. token u ∷ ls) e))
open_fresh (comma ∷ ls) h = refl
open_fresh (colon ∷ ls) h = refl

open_later : (ls : List Lexeme) → ((ms : List Lexeme) → ls ≢ token end_array ∷ ms)
    → after_end_array (punctuate after_value ls) ≡ None
unfolding punctuate
open_later [] h = refl
open_later (token t ∷ ls) h =
    open_token after_value t (begins_colon ls) (λ next. punctuate next ls)
    (λ c e. h ls (ap (λ u. token u ∷ ls) e))
open_later (comma ∷ ls) h = open_comma ls
open_later (colon ∷ ls) h = refl

pub open_array : (later : Bool) (t : List ℕ) → Lacks t (token end_array)
    → after_end_array (tokens_at later t) ≡ None
open_array true t h = open_later (lex between t) h
open_array false t h = open_fresh (lex between t) h
