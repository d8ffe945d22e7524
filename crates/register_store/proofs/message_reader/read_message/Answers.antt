use Rattle.std.proofs.Common.{◌≡◌, List, ℕ, Bool, true, false, refl, ap, None, Err, if◌then◌else◌}
use Rattle.std.specs.Str.{is_utf8, IsUtf8}
use Rattle.std.proofs.lemmas.Str.{is_utf8-from_IsUtf8, IsUtf8-from_is_utf8}
use Rattle.serde_json.specs.Read.{read}
use Rattle.register_store.specs.declared.fault.ReadFault.TheVariants.{NotJson}
use Rattle.register_store.specs.Kinds.{of_bytes, of_read}
use Rattle.register_store.proofs.Fields.{of_value}
use Rattle.register_store.proofs.message_reader.read_message.Goals as goal

refused : (b : Bool) (bytes : List ℕ) → (b ≡ true → read bytes ≡ None)
    → (if b then of_read (read bytes) else Err NotJson) ≡ Err NotJson
refused true bytes none = ap of_read (none refl)
refused false bytes none = refl

-- bytes that aren't UTF-8 or JSON are rejected
of_none : (bytes : List ℕ) → (IsUtf8 bytes → read bytes ≡ None) → of_bytes bytes ≡ Err NotJson
of_none bytes none = refused (is_utf8 bytes) bytes (λ utf8. none (IsUtf8-from_is_utf8 bytes utf8))

pub returns-in-Ok : goal.returns-in-Ok
returns-in-Ok c =
    let same = of_value _ _ (is_utf8-from_IsUtf8 _ c.in-Ok.ensures.ok.0) c.in-Ok.ensures.ok.1 in
    record { exact = rw same c.message_in.ensures.exact }

pub returns-in-Err-NotJson : goal.returns-in-Err-NotJson
returns-in-Err-NotJson c =
    let is = c.in-Err-NotJson.field-0-is in
    record { exact = λ _. of_none _ (c.in-Err-NotJson.ensures.not_json (ap Err is)) }
