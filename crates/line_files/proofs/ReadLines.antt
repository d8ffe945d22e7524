-- How lines are read: as sent, and with the same fault for every setup.
use Rattle.std.proofs.Common.{◌≡◌, ℕ, Bool, true, false, List, Option, Some, None, Result, Ok, Err}
use Rattle.std.proofs.Common.{if◌then◌else◌, is_some, option_and_then, refl, ap, ◌∙◌}
use Rattle.std.specs.Str.{is_utf8}
use Rattle.serde_json.specs.Data.{Data}
use Rattle.serde_json.specs.Find.{get, as_object, as_str}
use Rattle.serde_json.specs.Read.{read}
use Rattle.nest_core.specs.Museum.{Museum, find_station}
use Rattle.posting_core.specs.declared.message.Message as messages
use Rattle.register_store.specs.declared.fault.ReadFault.{ReadFault}
use Rattle.register_store.specs.declared.fault.ReadFault.TheVariants.{NotJson}
use Rattle.register_store.specs.declared.key.Key.TheVariants.{Station}
use Rattle.register_store.specs.Kinds.{◌spells◌, text_at, fault_at}
use Rattle.register_store.specs.Spelling.{key_name}
use Rattle.register_store.specs.SentLines.{IsLine, ReadsAs}
use Rattle.hub_core.specs.declared.line.request.Line.{Line}
use Rattle.hub_core.specs.declared.line.request.Request.{Request}
use Rattle.hub_core.specs.declared.line.request.Request.TheVariants.{Scan}
use Rattle.hub_core.specs.Requests.{unless, request_of, line_with, line_of, line_read, line_in}
use Rattle.hub_core.proofs.RequestLemmas.{of_value, of_object}
use Rattle.line_files.specs.Checked.{read_fault}

scanned : (station : List ℕ) (n : ℕ) (m : messages.Message) (d : Data) → IsLine station n m d
    → request_of d ≡ Ok (Scan n m)
scanned station n m d line =
    let no_question = line.no_question in
    let has_number = line.has_number in
    let has_message = line.has_message in
    let is_object = line.is_message.is_object in
    let spelled = line.is_message.spells in
    rw (no_question, has_number, has_message, is_object, spelled) refl

from : (station : List ℕ) (n : ℕ) (m : messages.Message) (d : Data) → IsLine station n m d
    → option_and_then as_str (get (key_name Station) d) ≡ Some station
from station n m d line = ap (option_and_then as_str) line.has_station

pub as_sent : (S : Museum) (s n : ℕ) (station : List ℕ) (m : messages.Message) (bytes : List ℕ)
    → find_station S station ≡ Some s → ReadsAs station n m bytes
    → line_in S bytes ≡ Ok (record { station = Some s; request = Scan n m })
as_sent S s n station m bytes known reads =
    of_value S bytes reads.value reads.utf8 reads.json
    ∙ (of_object S reads.value station (Scan n m) reads.is_line.is_object
    (from station n m reads.value reads.is_line) (scanned station n m reads.value reads.is_line)
    ∙ ap (λ (found : Option ℕ). let line : Result Line ReadFault =
    Ok (record { station = found; request = Scan n m }) in line) known)

-- the station is in no fault
same_with : (x y : Option ℕ) (request : Result Request ReadFault)
    → read_fault (line_with x request) ≡ read_fault (line_with y request)
same_with x y (Ok request) = refl
same_with x y (Err fault) = refl

same_unless : (o : Option ReadFault) (x y : Option ℕ) (request : Result Request ReadFault)
    → read_fault (unless o (line_with x request)) ≡ read_fault (unless o (line_with y request))
same_unless None x y request = same_with x y request
same_unless (Some fault) x y request = refl

same_object : (b : Bool) (l k : Result Line ReadFault) → read_fault l ≡ read_fault k
    → read_fault (if b then l else Err NotJson) ≡ read_fault (if b then k else Err NotJson)
same_object true l k h = h
same_object false l k h = refl

module _ (S T : Museum) where
  same_of : (d : Data) → read_fault (line_of S d) ≡ read_fault (line_of T d)
  same_of d =
      same_object (is_some (as_object d)) _ _
      (same_unless (fault_at d (Station spells (λ text. true))) (find_station S (text_at d Station))
      (find_station T (text_at d Station)) (request_of d))

  same_read : (o : Option Data) → read_fault (line_read S o) ≡ read_fault (line_read T o)
  same_read None = refl
  same_read (Some d) = same_of d

  pub same_faults : (bytes : List ℕ) → read_fault (line_in S bytes) ≡ read_fault (line_in T bytes)
  same_faults bytes = same_object (is_utf8 bytes) _ _ (same_read (read bytes))
