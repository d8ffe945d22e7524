-- Worked examples: lines at a desk, each proved by computing.
use Rattle.std.specs.Prelude.{◌≡◌, ◌∷◌, [], ℤ, true, None, Some, codes, refl}
use lib.Utf8.{encode}
use Rattle.std.specs.Str.{chars, is_utf8}
use Rattle.codes_core.specs.Day.{day_number}
use Rattle.posting_core.specs.declared.message.Message.TheVariants as message
use Rattle.posting_core.proofs.WorkedRows.{may, museum}
use Rattle.desk_core.specs.declared.desk.Desk.{Desk}
use Rattle.desk_core.specs.declared.desk.Target.TheVariants.{Back, Container, Out, Place}
use Rattle.desk_core.specs.declared.said.Code.TheVariants as code
use Rattle.desk_core.specs.declared.said.Rejection.TheVariants.{NoTarget, NotListed}
use Rattle.desk_core.specs.declared.said.Rejection.TheVariants.{Ambiguous, OtherCase}
use Rattle.desk_core.specs.declared.said.Said.TheVariants as says
use Rattle.desk_core.specs.Codes.{day_rejection, loan_rejection}
use Rattle.desk_core.specs.Codes.{name_rejection, objects_rejection, place_rejection}
use Rattle.desk_core.specs.Codes.{thing_rejection, things_rejection}
use Rattle.desk_core.specs.DeskStep.{code_said, crossing_rejection, desk_step, is_ambiguous}
use Rattle.desk_core.specs.DeskStep.{means_place, report_said, text_said}
use Rattle.desk_core.specs.Messages.{agreed, authorised, parties_rejection, scanned}
use Rattle.desk_core.specs.Messages.{term_rejection}
use Rattle.desk_core.specs.Verbs.{find_verb}

-- On 2024-05-01, a desk without a target.
abbrev start : Desk
start = record { target = None; day = Some may }

abbrev at_s2 : Desk
at_s2 = record { target = Some (Place (codes "S2")); day = Some may }

abbrev into_c1 : Desk
into_c1 = record { target = Some (Container (codes "C1")); day = Some may }

abbrev out : Desk
out = record { target = Some (Out (codes "LO2024.1")); day = Some may }

-- A place is scanned. The scanner ends the line with a carriage return.
place_scanned : desk_step museum start (codes " S2\r")
    ≡ (at_s2, says.Target (Some (Place (codes "S2"))))
unfolding text_said code_said is_ambiguous means_place place_rejection find_verb
place_scanned = refl

-- An object is moved to it.
object_moved : desk_step museum at_s2 (codes "2001.4.1")
    ≡ (at_s2, says.Message (message.Move may (codes "2001.4.1") (codes "S2")))
unfolding text_said code_said is_ambiguous means_place thing_rejection scanned find_verb
object_moved = refl

-- A crate is moved to it, too: it becomes the target only if there is none.
crate_moved : desk_step museum at_s2 (codes "C1")
    ≡ (at_s2, says.Message (message.Move may (codes "C1") (codes "S2")))
unfolding text_said code_said is_ambiguous means_place thing_rejection scanned find_verb
crate_moved = refl

no_target : desk_step museum at_s2 (codes ".") ≡ (start, says.Target None)
unfolding text_said find_verb
no_target = refl

crate_opened : desk_step museum start (codes "C1")
    ≡ (into_c1, says.Target (Some (Container (codes "C1"))))
unfolding text_said code_said is_ambiguous means_place thing_rejection scanned find_verb
crate_opened = refl

-- An object without a target.
nowhere : desk_step museum start (codes "2001.4.1") ≡ (start, says.Rejected NoTarget)
unfolding text_said code_said is_ambiguous means_place thing_rejection scanned find_verb
nowhere = refl

-- The setup doesn't list the object. It is sent only if the line begins with `!`.
not_listed : desk_step museum at_s2 (codes "2001.9.9")
    ≡ (at_s2, says.Rejected (NotListed (code.Thing (codes "2001.9.9"))))
unfolding text_said code_said is_ambiguous means_place thing_rejection find_verb
not_listed = refl

forced : desk_step museum at_s2 (codes "! 2001.9.9")
    ≡ (at_s2, says.Message (message.Move may (codes "2001.9.9") (codes "S2")))
unfolding text_said code_said is_ambiguous means_place thing_rejection scanned find_verb
forced = refl

-- A code in lower case.
other_case : desk_step museum at_s2 (codes "to s1-a")
    ≡ (at_s2, says.Rejected (OtherCase (code.Place (codes "S1-A"))))
unfolding text_said place_rejection find_verb
other_case = refl

abbrev may_2 : ℤ
may_2 = day_number (codes "2024-05-02")

-- The next morning.
next_day : desk_step museum out (codes "day 2024-05-02")
    ≡ (record { target = Some (Out (codes "LO2024.1")); day = Some may_2 }, says.Day may_2)
unfolding text_said day_rejection find_verb
next_day = refl

leaves : desk_step museum out (codes "2001.4.1")
    ≡ (out, says.Message (message.Exit may (codes "2001.4.1") (codes "LO2024.1")))
unfolding text_said code_said is_ambiguous means_place thing_rejection scanned find_verb
leaves = refl

-- Things come back under a loan, to a place.
back : desk_step museum start (codes "back LO2024.1 S1")
    ≡ (
      record { target = Some (Back (codes "LO2024.1") (codes "S1")); day = Some may },
      says.Target (Some (Back (codes "LO2024.1") (codes "S1"))),
    )
unfolding text_said crossing_rejection loan_rejection place_rejection find_verb
back = refl

-- A loan of two objects is agreed, for one day.
agreed_loan : desk_step museum start
    (codes "agree LO2024.1 MUSEUM-X 2024-05-02 2024-05-02 2001.4.1 2001.4.2") ≡ (
      start,
      says.Message (message.Agree may_2 may_2 (codes "LO2024.1") (codes "MUSEUM-X")
          (codes "2001.4.1" ∷ codes "2001.4.2" ∷ [])),
    )
unfolding text_said agreed parties_rejection term_rejection objects_rejection things_rejection
    loan_rejection place_rejection day_rejection thing_rejection find_verb
agreed_loan = refl

-- A name is the rest of the line.
authorised_loan : desk_step museum start (codes "authorise LO2024.1 Ann  Lee")
    ≡ (start, says.Message (message.Authorise (codes "Ann  Lee") (codes "LO2024.1")))
unfolding text_said authorised loan_rejection name_rejection find_verb is_utf8 chars encode
authorised_loan = refl

-- Where is it?
asked : desk_step museum start (codes "? 2001.4.1")
    ≡ (start, says.Report (codes "where" ∷ codes "2001.4.1" ∷ []))
unfolding text_said report_said find_verb is_utf8 chars encode
asked = refl

-- A crate whose code is also a place's.
two_meanings : desk_step (record museum { places = (codes "C1", true) ∷ [] }) at_s2 (codes "C1")
    ≡ (at_s2, says.Rejected Ambiguous)
unfolding text_said code_said is_ambiguous find_verb
two_meanings = refl

remark : desk_step museum at_s2 (codes "# lunch") ≡ (at_s2, says.Nothing)
unfolding text_said
remark = refl

json_line : desk_step museum at_s2 (codes "{}") ≡ (at_s2, says.Line)
json_line = refl
