-- The requests of lines.
use Rattle.std.proofs.Common.{◌≡◌, ℕ, Bool, true, false, List, Some, None, option_and_then, is_some}
use Rattle.std.proofs.Common.{Ok, Err, if◌then◌else◌, refl, ap}
use Rattle.std.specs.Str.{is_utf8, IsUtf8}
use Rattle.std.proofs.lemmas.Str.{IsUtf8-from_is_utf8}
use Rattle.serde_json.specs.Data.{Data}
use Rattle.serde_json.specs.Find.{get, as_str, as_object}
use Rattle.serde_json.specs.Read.{read}
use Rattle.nest_core.specs.Museum.{Museum, find_station}
use Rattle.register_store.specs.declared.fault.ReadFault.TheVariants.{NotJson}
use Rattle.register_store.specs.declared.key.Key.TheVariants.{Station}
use Rattle.register_store.specs.Spelling.{key_name}
use Rattle.register_store.specs.Kinds.{◌spells◌, fault_at}
use Rattle.register_store.proofs.Fields.{text_fault}
use Rattle.hub_core.specs.declared.line.request.Request.{Request}
use Rattle.hub_core.specs.Requests.{request_of, object_of, request_read, request_in, line_of}
use Rattle.hub_core.specs.Requests.{line_read, line_in}

-- UTF-8 that is JSON has the request of its value
pub of_value : (S : Museum) (bytes : List ℕ) (d : Data) → is_utf8 bytes ≡ true → read bytes ≡ Some d
    → line_in S bytes ≡ line_of S d
of_value S bytes d utf8 value = rw (utf8, value) refl

-- bytes that aren't UTF-8 or JSON are rejected
pub of_none : (S : Museum) (bytes : List ℕ) → (IsUtf8 bytes → read bytes ≡ None)
    → line_in S bytes ≡ Err NotJson
of_none S bytes none = refused (is_utf8 bytes) (λ utf8. none (IsUtf8-from_is_utf8 bytes utf8))
  where
    refused : (b : Bool) → (b ≡ true → read bytes ≡ None)
        → (if b then line_read S (read bytes) else Err NotJson) ≡ Err NotJson
    refused true unread = ap (line_read S) (unread refl)
    refused false unread = refl

-- an object with a station's text has its own request, of that station
pub of_object : (S : Museum) (d : Data) (text : List ℕ) (request : Request)
    → is_some (as_object d) ≡ true → option_and_then as_str (get (key_name Station) d) ≡ Some text
    → request_of d ≡ Ok request
    → line_of S d ≡ Ok (record { station = find_station S text; request = request })
of_object S d text request is there asked =
    let none : fault_at d (Station spells (λ _. true)) ≡ None =
    text_fault Station (λ _. true) (get (key_name Station) d) text there in
    rw (is, none, asked, there) refl

-- the same, whatever the station
pub request_of_value : (bytes : List ℕ) (d : Data) → is_utf8 bytes ≡ true → read bytes ≡ Some d
    → request_in bytes ≡ object_of d
request_of_value bytes d utf8 value = rw (utf8, value) refl

pub request_of_none : (bytes : List ℕ) → (IsUtf8 bytes → read bytes ≡ None)
    → request_in bytes ≡ Err NotJson
request_of_none bytes none = refused (is_utf8 bytes) (λ utf8. none (IsUtf8-from_is_utf8 bytes utf8))
  where
    refused : (b : Bool) → (b ≡ true → read bytes ≡ None)
        → (if b then request_read (read bytes) else Err NotJson) ≡ Err NotJson
    refused true unread = ap request_read (unread refl)
    refused false unread = refl
