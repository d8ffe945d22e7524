-- No message is known under a number above the last.
use Rattle.std.proofs.Common.{◌≡◌, ℕ, ◌<◌, ◌≤◌, ◌==◌, ◌++◌}
use Rattle.std.proofs.Common.{Bool, true, false, List, [], ◌∷◌, Option}
use Rattle.std.proofs.Common.{Some, None, Ok, Err, Result}
use Rattle.std.proofs.Common.{if◌then◌else◌, refl, ap, ◌∙◌, arith, nat_le}
use Rattle.std.specs.Option.{option_or}
use Rattle.std.proofs.lemmas.Bool.{and_parts, leb-true, ne_eqb}
use Rattle.nest_core.specs.Museum.{Museum}
use Rattle.posting_core.specs.declared.TheConstants.{LAST_NUMBER}
use Rattle.posting_core.specs.declared.entry.Entry.{Entry}
use Rattle.posting_core.specs.declared.message.Message.{Message}
use Rattle.posting_core.specs.Lawful.{IsLawful, count_at}
use Rattle.register_store.specs.declared.fault.ReadFault.{ReadFault}
use Rattle.station_core.specs.Runs.{message_at}
use Rattle.hub_core.specs.declared.line.request.Line.{Line}
use Rattle.hub_core.specs.declared.line.request.Request.{Request}
use Rattle.hub_core.specs.declared.line.request.Request.TheVariants.{Scan, Ask}
use Rattle.hub_core.specs.Lines.{is_empty}
use Rattle.hub_core.specs.LineText.{is_too_long}
use Rattle.hub_core.specs.Requests.{line_in}
use Rattle.hub_core.proofs.OpenLemmas.{lawful_start}
use Rattle.line_files.specs.declared.line_fault.LineFault.TheVariants.{BadNumber, OtherStation}
use Rattle.line_files.specs.declared.line_fault.LineFault.TheVariants.{TooLong}
use Rattle.line_files.specs.declared.reading.Reading.{Reading}
use Rattle.line_files.specs.declared.reading.Reading.TheVariants.{Numbered, Bad}
use Rattle.line_files.specs.Known.{recorded, message_of, line_messages, file_messages}
use Rattle.line_files.specs.Readings.{is_number, requested, sent_by, read_as, reading}
use Rattle.line_files.proofs.Numbers.{message_at-append, message_at-one}

module _ (S : Museum) (s q : ℕ) (above : LAST_NUMBER < q) where
  -- the reading has no message under the number
  abbrev IsFree : Reading → Type 0
  IsFree read = message_at (message_of s read) s q ≡ None

  within : (n : ℕ) → is_number n ≡ true → n ≤ LAST_NUMBER
  within n h = leb-true n LAST_NUMBER (and_parts (nat_le 1 n) (nat_le n LAST_NUMBER) h).1

  free_number : (b : Bool) (n : ℕ) (m : Message) → (b ≡ true → n ≤ LAST_NUMBER)
      → IsFree (if b then Numbered n m else Bad BadNumber)
  free_number true n m small =
      let le = small refl in
      let apart : (n == q) ≡ false = ne_eqb n q (λ e. omega (arith, above, le, e)) in
      message_at-one s n m q ∙ ap (λ b. if b then Some m else None) apart
  free_number false n m small = refl

  free_request : (request : Request) → IsFree (requested request)
  free_request (Scan n m) = free_number (is_number n) n m (within n)
  free_request (Ask code) = refl

  free_other : (b : Bool) (request : Request)
      → IsFree (if b then requested request else Bad OtherStation)
  free_other true request = free_request request
  free_other false request = refl

  free_sent : (station : Option ℕ) (request : Request) → IsFree (sent_by s station request)
  free_sent None request = refl
  free_sent (Some t) request = free_other (t == s) request

  free_read : (read : Result Line ReadFault) → IsFree (read_as s read)
  free_read (Ok line) = free_sent line.station line.request
  free_read (Err fault) = refl

  free_long : (b : Bool) (read : Result Line ReadFault)
      → IsFree (if b then Bad TooLong else read_as s read)
  free_long true read = refl
  free_long false read = free_read read

  free_line : (b : Bool) (read : Reading) → IsFree read
      → message_at (if b then [] else message_of s read) s q ≡ None
  free_line true read free = refl
  free_line false read free = free

  file_free : (ls : List (List ℕ)) → message_at (file_messages S s ls) s q ≡ None
  file_free [] = refl
  file_free (line ∷ ls) =
      let here : message_at (line_messages S s line) s q ≡ None =
      free_line (is_empty line) (reading S s line)
      (free_long (is_too_long line) (line_in S line)) in
      message_at-append (line_messages S s line) (file_messages S s ls) s q
      ∙ (ap (λ o. option_or o (message_at (file_messages S s ls) s q)) here ∙ file_free ls)

  pub all_free : (depth : ℕ) (P : List Entry) (ls : List (List ℕ)) → IsLawful S depth P
      → count_at s P ≤ LAST_NUMBER → message_at (recorded P ++ file_messages S s ls) s q ≡ None
  all_free depth P ls law few =
      let start = lawful_start S depth P s law in
      let none : message_at (recorded P) s q ≡ None =
      start.none_above q (omega (arith, few, above)) in
      message_at-append (recorded P) (file_messages S s ls) s q
      ∙ (ap (λ o. option_or o (message_at (file_messages S s ls) s q)) none ∙ file_free ls)
