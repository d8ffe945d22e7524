-- Defines how a ledger keeps a message: in 40 bytes if it puts a thing and its codes are short
-- enough, otherwise whole.
use Rattle.std.specs.Prelude.{◌≡◌, None, ⊤}
use Rattle.codes_core.specs.Loan.{loan_fault}
use Rattle.codes_core.specs.Place.{place_fault}
use Rattle.codes_core.specs.Thing.{thing_fault}
use Rattle.posting_core.specs.declared.kept_message.Form.{Form}
use Rattle.posting_core.specs.declared.kept_message.Form.TheVariants.{Move, Pack, Exit, Return}
use Rattle.posting_core.specs.declared.kept_message.Form.TheVariants.{Receive, Whole}
use Rattle.posting_core.specs.declared.message.Message.{Message}
use Rattle.posting_core.specs.declared.message.Message.TheVariants as says

-- The message that the form stands for.
abbrev pub said : Form → Message
said (Move day thing place) = says.Move day thing place
said (Pack day thing container) = says.Pack day thing container
said (Exit day thing loan) = says.Exit day thing loan
said (Return day thing loan place) = says.Return day thing loan place
said (Receive day thing loan place) = says.Receive day thing loan place
said (Whole m) = m.value

-- The short texts are codes, so that they determine the message.
abbrev pub HasCodes : Form → Type 0
HasCodes (Move day thing place) = (thing_fault thing ≡ None) × (place_fault place ≡ None)
HasCodes (Pack day thing container) = (thing_fault thing ≡ None) × (thing_fault container ≡ None)
HasCodes (Exit day thing loan) = thing_fault thing ≡ None
HasCodes (Return day thing loan place) =
    (thing_fault thing ≡ None) × (loan_fault loan ≡ None) × (place_fault place ≡ None)
HasCodes (Receive day thing loan place) =
    (thing_fault thing ≡ None) × (loan_fault loan ≡ None) × (place_fault place ≡ None)
HasCodes (Whole m) = ⊤
