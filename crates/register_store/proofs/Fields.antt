-- The values that the texts at an object's keys spell.
use Rattle.std.proofs.Common.{◌≡◌, ℕ, Bool, true, List, [], Option, Some, None, option_and_then}
use Rattle.std.proofs.Common.{unwrap_or, if◌then◌else◌, Result, Ok, Err, MatchResult, ok_or}
use Rattle.std.proofs.Common.{is_none, refl, sym, ap, ◌∙◌, lt-ltb, le-leb}
use Rattle.std.specs.Str.{is_utf8}
use Rattle.std.specs.Result.{result_ok}
use Rattle.std.proofs.lemmas.Bool.{and_from}
use Rattle.std.proofs.lemmas.Str.{is_utf8-from_IsUtf8}
use Rattle.serde_json.specs.Data.{Data}
use Rattle.serde_json.specs.Find.{as_str}
use Rattle.serde_json.specs.Read.{read}
use Rattle.codes_core.specs.declared.fault.CodeFault.{CodeFault}
use Rattle.codes_core.specs.Name.{IsName}
use Rattle.codes_core.specs.Day.{day_number}
use Rattle.register_store.specs.declared.fault.ReadFault.TheVariants.{BadField}
use Rattle.register_store.specs.declared.key.Key.{Key}
use Rattle.register_store.specs.Spelling.{is_name}
use Rattle.register_store.specs.Kinds.{◌spells◌, text_of, value_fault, of_json, of_bytes}

-- a string's fault is that of its text
pub text_fault : (key : Key) (test : List ℕ → Bool) (o : Option Data) (text : List ℕ)
    → option_and_then as_str o ≡ Some text
    → value_fault (key spells test) o ≡ (if test text then None else Some (BadField key))
text_fault key test None text e = cc
text_fault key test (Some value) text e = rw e

-- the day that a text spells
pub day_there : (o : Option (List ℕ)) (text : List ℕ) → o ≡ Some text
    → day_number (unwrap_or o []) ≡ day_number text
day_there o text e = ap (λ (found : Option (List ℕ)). day_number (unwrap_or found [])) e

-- a name passes its test
pub name_passes : (text : List ℕ) → IsName text → is_name text ≡ true
name_passes text h =
    and_from _ _ (and_from _ _ (and_from _ _ (is_utf8-from_IsUtf8 text h.utf8) (lt-ltb _ _ h.some))
    (le-leb _ _ h.few)) h.plain

-- the value read from the text at a key, by a reader with a test for whether there is one
pub read_there : {T : Type 0} (key : Key) (fault_of : List ℕ → Option CodeFault) (Is : T → Type 0)
    (read : Result T CodeFault) (o : Option Data) (text : List ℕ)
    → option_and_then as_str o ≡ Some text
    → MatchResult read (λ x. Is x × (fault_of text ≡ None)) (λ fault. fault_of text ≡ Some fault)
    → MatchResult (ok_or (result_ok read) (BadField key))
    (λ x. (value_fault (key spells (λ t. is_none (fault_of t))) o ≡ None) × Is x)
    (λ fault. value_fault (key spells (λ t. is_none (fault_of t))) o ≡ Some fault)
read_there key fault_of Is (Ok x) o text e h =
    (text_fault key (λ t. is_none (fault_of t)) o text e ∙ rw h.1, h.0)
read_there key fault_of Is (Err fault) o text e h =
    text_fault key (λ t. is_none (fault_of t)) o text e ∙ rw h

-- the same for a reader that returns the text itself
pub read_text_there : (key : Key) (fault_of : List ℕ → Option CodeFault)
    (read : Result (List ℕ) CodeFault) (o : Option Data) (text : List ℕ)
    → option_and_then as_str o ≡ Some text
    → MatchResult read (λ x. (x ≡ text) × (fault_of text ≡ None))
    (λ fault. fault_of text ≡ Some fault)
    → MatchResult (ok_or (result_ok read) (BadField key))
    (λ x. (value_fault (key spells (λ t. is_none (fault_of t))) o ≡ None) × (x ≡ text_of o))
    (λ fault. value_fault (key spells (λ t. is_none (fault_of t))) o ≡ Some fault)
read_text_there key fault_of (Ok x) o text e h = (
  text_fault key (λ t. is_none (fault_of t)) o text e ∙ rw h.1,
  h.0 ∙ sym (ap (λ (found : Option (List ℕ)). unwrap_or found []) e),
)
read_text_there key fault_of (Err fault) o text e h =
    text_fault key (λ t. is_none (fault_of t)) o text e ∙ rw h

-- UTF-8 that is JSON spells what its value spells
pub of_value : (bytes : List ℕ) (d : Data) → is_utf8 bytes ≡ true → read bytes ≡ Some d
    → of_bytes bytes ≡ of_json d
of_value bytes d utf8 value = rw (utf8, value) refl
