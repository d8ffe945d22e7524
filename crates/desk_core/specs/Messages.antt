-- Defines the messages that a desk makes.
use Rattle.std.specs.Prelude.{ℕ, ℤ, ◌∷◌, [], Bool, List, Option, None, Some, if◌then◌else◌}
use Rattle.codes_core.specs.Day.{day_number}
use Rattle.nest_core.specs.Museum.{Museum}
use Rattle.posting_core.specs.declared.message.Message.{Message}
use Rattle.posting_core.specs.declared.message.Message.TheVariants as message
use Rattle.posting_core.specs.Verdicts.{is_container_code}
use Rattle.desk_core.specs.declared.desk.Desk.{Desk}
use Rattle.desk_core.specs.declared.desk.Target.{Target}
use Rattle.desk_core.specs.declared.desk.Target.TheVariants.{Back, Container, In, Out, Place}
use Rattle.desk_core.specs.declared.said.Rejection.{Rejection}
use Rattle.desk_core.specs.declared.said.Rejection.TheVariants.{NoDay, NoTarget}
use Rattle.desk_core.specs.declared.said.Said.{Said}
use Rattle.desk_core.specs.declared.said.Said.TheVariants as says
use Rattle.desk_core.specs.Codes.{day_rejection, loan_rejection, name_rejection}
use Rattle.desk_core.specs.Codes.{objects_rejection, place_rejection}
use Rattle.desk_core.specs.Desks.{first_rejection, unless}
use Rattle.desk_core.specs.LineTexts.{after, word, words}

-- What happens to a thing at this target. Under a loan out it leaves, and comes back; under a loan
-- in it is received, and leaves again.
abbrev pub message_at : Target → ℤ → List ℕ → Message
message_at (Place place) day thing = message.Move day thing place
message_at (Container container) day thing = message.Pack day thing container
message_at (Out loan) day thing = message.Exit day thing loan
message_at (Back loan place) day thing = message.Return day thing loan place
message_at (In loan place) day thing = message.Receive day thing loan place

-- A thing is scanned. Without a target, a container becomes the target.
abbrev pub scanned_at : Option Target → Option ℤ → List ℕ → Said
scanned_at None day thing =
    if is_container_code thing then says.Target (Some (Container thing))
    else says.Rejected NoTarget
scanned_at (Some target) None thing = says.Rejected NoDay
scanned_at (Some target) (Some day) thing = says.Message (message_at target day thing)

unfoldable pub scanned : Desk → List ℕ → Said
scanned d thing = scanned_at d.target d.day thing

-- Why the words aren't LOAN PARTNER.
unfoldable pub parties_rejection : Museum → Bool → List ℕ → Option Rejection
parties_rejection S forced rest =
    first_rejection (loan_rejection (word 0 rest) ∷ place_rejection S forced (word 1 rest) ∷ [])

-- Why the words aren't FIRST LAST.
unfoldable pub term_rejection : List ℕ → Option Rejection
term_rejection rest =
    first_rejection (day_rejection (word 0 rest) ∷ day_rejection (word 1 rest) ∷ [])

-- agree LOAN PARTNER FIRST LAST THING ..
unfoldable pub agreed : Museum → Bool → List ℕ → Said
agreed S forced rest =
    unless (parties_rejection S forced rest)
    (unless (term_rejection (after 2 rest))
    (unless (objects_rejection S forced (words (after 4 rest)))
    (says.Message (message.Agree (day_number (word 2 rest)) (day_number (word 3 rest))
    (word 0 rest) (word 1 rest) (words (after 4 rest))))))

-- authorise LOAN NAME
unfoldable pub authorised : List ℕ → Said
authorised rest =
    unless (loan_rejection (word 0 rest)) (unless (name_rejection (after 1 rest))
    (says.Message (message.Authorise (after 1 rest) (word 0 rest))))

-- extend LOAN DAY
unfoldable pub extended : List ℕ → Said
extended rest =
    unless (loan_rejection (word 0 rest)) (unless (day_rejection (after 1 rest))
    (says.Message (message.Extend (day_number (after 1 rest)) (word 0 rest))))

-- signoff NAME
unfoldable pub signed_off : List ℕ → Said
signed_off rest = unless (name_rejection rest) (says.Message (message.SignOff rest))
