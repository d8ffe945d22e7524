-- The definitions computed on worked rows.
use Rattle.std.specs.Fmt.{digits}
use Rattle.std.specs.Prelude.{ℕ, pos, ◌≡◌, true, false, List, [], ◌∷◌, None, Some, refl, codes}
use Rattle.posting_core.specs.declared.message.Message.{Message}
use Rattle.posting_core.specs.declared.message.Message.TheVariants.{Move, SignOff}
use Rattle.register_store.specs.declared.fault.ReadFault.TheVariants as fault
use Rattle.register_store.specs.declared.key.Key.TheVariants as key
use Rattle.station_core.specs.Runs.{Arrived, arrived, message_at}
use Rattle.hub_core.specs.declared.line.request.Request.TheVariants.{Scan, Ask}
use Rattle.line_files.specs.declared.finding.Finding.TheVariants.{New}
use Rattle.line_files.specs.declared.finding.Found.{Found}
use Rattle.line_files.specs.declared.line_fault.LineFault.TheVariants.{Unread, UnknownStation}
use Rattle.line_files.specs.declared.line_fault.LineFault.TheVariants.{OtherStation, Question}
use Rattle.line_files.specs.declared.line_fault.LineFault.TheVariants.{BadNumber, SignedOff}
use Rattle.line_files.specs.declared.reading.Reading.TheVariants as readings
use Rattle.line_files.specs.declared.standing.Standing.TheVariants.{Next, Waits, Bad}
use Rattle.line_files.specs.Checked.{found_text}
use Rattle.line_files.specs.Known.{Messages}
use Rattle.line_files.specs.Readings.{sent_by}
use Rattle.line_files.specs.Standings.{finding, new_standing, progress_of}
use Rattle.line_files.specs.Texts.{row_text}

-- an object is moved to a place
abbrev to_place : List ℕ → Message
to_place place = Move (pos 19844) (codes "2001.4.1") place

abbrev moved : ℕ → Arrived Message
moved n = arrived 0 n (to_place (codes "S1"))

-- numbers 1 to 3, 5 and 6 of station 0
abbrev known : Messages
known = moved 1 ∷ moved 2 ∷ moved 3 ∷ moved 6 ∷ moved 5 ∷ []

abbrev new : ℕ → Found
new n = record { row = n; finding = New n }

pub unknown : finding (message_at known 0) (readings.Numbered 4 (to_place (codes "S2"))) ≡ New 4
unknown = refl

-- another station's message under the number is no message of this one
pub apart : finding (message_at known 1) (readings.Numbered 2 (to_place (codes "S1"))) ≡ New 2
apart = refl

pub progress : progress_of 0 known (new 3 ∷ new 6 ∷ new 5 ∷ [])
    ≡ record { last = 3; signed = false; resumes = 5 }
progress = refl

pub signed : progress_of 0 (moved 1 ∷ arrived 0 2 (SignOff (codes "Ann")) ∷ moved 3 ∷ [])
    (new 3 ∷ []) ≡ record { last = 2; signed = true; resumes = 3 }
signed = refl

pub next : new_standing (record { last = 3; signed = false; resumes = 5 }) 3 ≡ Next
next = refl

pub waits : new_standing (record { last = 3; signed = false; resumes = 8 }) 9 ≡ Waits 4 7
waits = refl

pub signed_off : new_standing (record { last = 3; signed = true; resumes = 8 }) 9 ≡ Bad SignedOff
signed_off = refl

pub own_line : sent_by 1 (Some 1) (Scan 7 (to_place (codes "S1")))
    ≡ readings.Numbered 7 (to_place (codes "S1"))
own_line = refl

pub number_0 : sent_by 1 (Some 1) (Scan 0 (to_place (codes "S1"))) ≡ readings.Bad BadNumber
number_0 = refl

pub high_number : sent_by 1 (Some 1) (Scan 1000000 (to_place (codes "S1")))
    ≡ readings.Bad BadNumber
high_number = refl

pub question : sent_by 1 (Some 1) (Ask (codes "2001.4.1")) ≡ readings.Bad Question
question = refl

pub other_station : sent_by 1 (Some 0) (Scan 7 (to_place (codes "S1"))) ≡ readings.Bad OtherStation
other_station = refl

pub unknown_station : sent_by 1 None (Scan 7 (to_place (codes "S1")))
    ≡ readings.Bad UnknownStation
unknown_station = refl

pub waits_row : row_text (record { row = 12; standing = Waits 8 11 })
    ≡ codes "12 waits for 8 to 11\n"
unfolding digits
waits_row = refl

pub waits_for_one : row_text (record { row = 12; standing = Waits 8 8 }) ≡ codes "12 waits for 8\n"
unfolding digits
waits_for_one = refl

pub bad_row : row_text (record { row = 7; standing = Bad (Unread (fault.Missing key.N)) })
    ≡ codes "7 bad Missing n\n"
unfolding digits
bad_row = refl

pub checked : found_text 120 [] ≡ codes "ok: 120 lines\n"
unfolding digits
checked = refl

pub faults : found_text 120
    (record { row = 7; fault = Unread fault.NotJson } ∷ record { row = 9; fault = BadNumber } ∷ [])
    ≡ codes "fault lines NotJson row 7\nfault lines BadNumber row 9\n"
unfolding digits
faults = refl
