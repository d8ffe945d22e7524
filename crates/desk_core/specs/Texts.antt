-- Defines the words of the answers that need no hub.
use Rattle.std.specs.Prelude.{ℕ, ℤ, ◌++◌, ◌&&◌, Bool, List, Option, None, Some, codes}
use Rattle.std.specs.Prelude.{if◌then◌else◌, length, nat_le}
use Rattle.std.specs.List.{list_all}
use Rattle.std.specs.Str.{is_utf8}
use Rattle.codes_core.specs.Day.{day_text}
use Rattle.posting_core.specs.Book.{Book, last_day_in}
use Rattle.reports.specs.Cells.{joined_words}
use Rattle.reports.specs.LoanLists.{partner_of}
use Rattle.reports.specs.Things.{where_row}
use Rattle.reports.specs.declared.form.Form.TheVariants.{Plain}
use Rattle.desk_core.specs.declared.desk.Target.{Target}
use Rattle.desk_core.specs.declared.desk.Target.TheVariants as target
use Rattle.desk_core.specs.declared.said.Code.{Code}
use Rattle.desk_core.specs.declared.said.Code.TheVariants.{Place, Thing}
use Rattle.desk_core.specs.declared.said.Rejection.{Rejection}
use Rattle.desk_core.specs.declared.said.Rejection.TheVariants.{Ambiguous, NoDay, NotListed}
use Rattle.desk_core.specs.declared.said.Rejection.TheVariants.{NotUnderstood, NoTarget}
use Rattle.desk_core.specs.declared.said.Rejection.TheVariants.{OtherCase}
use Rattle.desk_core.specs.declared.texts.TheConstants.{MOST_SHOWN}

-- The end of an answer: the bell, byte 7, if it rings, and a line feed.
abbrev pub line_end : Bool → List ℕ
line_end rings = if rings then codes "\u{7}\n" else codes "\n"

-- Where a thing is: 2001.4.1 at S2 in C2 C1
abbrev pub where_words : Book → List ℕ → List ℕ
where_words B code = joined_words (where_row B Plain code)

-- out LO2024.1 to MUSEUM-X until 2024-05-31
abbrev pub terms_line : List ℕ → Option (List ℕ) → Option ℤ → List ℕ
terms_line loan (Some partner) (Some last) =
    codes "out " ++ loan ++ codes " to " ++ partner ++ codes " until " ++ day_text last
    ++ codes "\n"
terms_line loan _ _ = codes "out " ++ loan ++ codes ", which is not agreed\n"

abbrev pub out_line : Book → List ℕ → List ℕ
out_line B loan = terms_line loan (partner_of B loan) (last_day_in B loan)

abbrev pub to_line : List ℕ → List ℕ
to_line place = codes "to " ++ place ++ codes "\n"

-- into C1 at S1
abbrev pub into_line : Book → List ℕ → List ℕ
into_line B container = codes "into " ++ where_words B container ++ codes "\n"

abbrev pub back_line : List ℕ → List ℕ → List ℕ
back_line loan place = codes "back " ++ loan ++ codes " to " ++ place ++ codes "\n"

abbrev pub in_line : List ℕ → List ℕ → List ℕ
in_line loan place = codes "in " ++ loan ++ codes " at " ++ place ++ codes "\n"

abbrev pub aim_line : Book → Target → List ℕ
aim_line B (target.Place place) = to_line place
aim_line B (target.Container container) = into_line B container
aim_line B (target.Out loan) = out_line B loan
aim_line B (target.Back loan place) = back_line loan place
aim_line B (target.In loan place) = in_line loan place

-- The answer to a new target.
abbrev pub target_line : Book → Option Target → List ℕ
target_line B None = codes "no target\n"
target_line B (Some target) = aim_line B target

-- day 2024-05-01
abbrev pub day_line : ℤ → List ℕ
day_line day = codes "day " ++ day_text day ++ codes "\n"

abbrev pub code_text : Code → List ℕ
code_text (Thing code) = code
code_text (Place code) = code

-- A space, or another printable byte of ASCII.
abbrev pub is_printable : ℕ → Bool
is_printable b = nat_le 32 b && nat_le b 126

abbrev pub is_shown : List ℕ → Bool
is_shown line = nat_le (length line) MOST_SHOWN && list_all is_printable line

-- The line as an answer shows it: as it is, if it is short and has only printable ASCII.
abbrev pub shown : List ℕ → List ℕ
shown line = if is_shown line && is_utf8 line then line else codes "this line"

-- What is said of a code that the setup doesn't list. It may list the code for the other kind.
abbrev pub not_listed : Code → List ℕ
not_listed (Thing code) = codes " is not in the setup: not sent"
not_listed (Place code) = codes " is not a place of the setup: not sent"

-- Why a line isn't done: 2001.99.1 is not in the setup: not sent
abbrev pub rejection_words : Rejection → List ℕ → List ℕ
rejection_words (NotListed code) line = code_text code ++ not_listed code
rejection_words (OtherCase code) line =
    code_text code ++ codes " differs only in case: not sent"
rejection_words Ambiguous line =
    codes "a place and a container have this code: type to or into before it"
rejection_words NoTarget line = codes "no target: scan a place or a container first"
rejection_words NoDay line = codes "no day: type day 2024-05-01"
rejection_words NotUnderstood line = codes "not understood: " ++ shown line ++ codes "; type help"

abbrev pub rejection_line : Bool → Rejection → List ℕ → List ℕ
rejection_line has_bell rejection line = rejection_words rejection line ++ line_end has_bell
