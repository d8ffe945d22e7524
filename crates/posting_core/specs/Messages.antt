-- Defines what a message refers to: its thing and place by number, its day, its loan, and whether
-- it is a sign-off.
use Rattle.std.specs.Prelude.{ℕ, ℤ, Bool, true, false, List, length, Option, Some, None, unwrap_or}
use Rattle.nest_core.specs.Museum.{Museum, find_thing, find_place}
use Rattle.posting_core.specs.declared.message.Message.{Message}
use Rattle.posting_core.specs.declared.message.Message.TheVariants.{Move, Pack, Authorise, Exit}
use Rattle.posting_core.specs.declared.message.Message.TheVariants.{Return, Receive, SignOff}
use Rattle.posting_core.specs.declared.message.Message.TheVariants.{Extend}

-- The number of a thing's code. For a code that the setup doesn't have, the number of things, which
-- is no thing's own.
abbrev pub thing_no : Museum → List ℕ → ℕ
thing_no S code = unwrap_or (find_thing S code) (length S.things)

-- The number of a place's code. For a code that the setup doesn't have, the number of places, which
-- is no place's own.
abbrev pub place_no : Museum → List ℕ → ℕ
place_no S code = unwrap_or (find_place S code) (length S.places)

-- The location date that the message carries, if its kind has one.
abbrev pub day_of : Message → Option ℤ
day_of (Move day x p) = Some day
day_of (Pack day x c) = Some day
day_of (Exit day x loan) = Some day
day_of (Return day x loan p) = Some day
day_of (Receive day x loan p) = Some day
day_of _ = None

-- The loan, agreed by an earlier message, that the message continues.
abbrev pub loan_of : Message → Option (List ℕ)
loan_of (Authorise name loan) = Some loan
loan_of (Exit day x loan) = Some loan
loan_of (Return day x loan p) = Some loan
loan_of (Receive day x loan p) = Some loan
loan_of (Extend last loan) = Some loan
loan_of _ = None

-- The message is the last of its station.
abbrev pub is_sign_off : Message → Bool
is_sign_off (SignOff name) = true
is_sign_off _ = false
