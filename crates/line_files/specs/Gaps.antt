-- Defines the line that fills a station's next number. Its message authorises a loan that no museum
-- makes, so it is refused as UnknownLoan and changes nothing.
use Rattle.std.specs.Prelude.{ℕ, ◌+◌, ◌∷◌, ◌++◌, [], nat_le, List, Result, Ok, Err, codes}
use Rattle.std.specs.Prelude.{if◌then◌else◌, unwrap_or}
use Rattle.nest_core.specs.Museum.{station_name_of}
use Rattle.posting_core.specs.declared.TheConstants.{LAST_NUMBER}
use Rattle.posting_core.specs.declared.message.Message.{Message}
use Rattle.posting_core.specs.declared.message.Message.TheVariants.{Authorise}
use Rattle.posting_core.specs.Agreements.{is_agreed}
use Rattle.posting_core.specs.Book.{Book}
use Rattle.posting_core.specs.Lawful.{count_at, is_signed_off}
use Rattle.register_store.specs.SentLines.{sent_line}
use Rattle.line_files.specs.declared.gap_fault.GapFault.{GapFault}
use Rattle.line_files.specs.declared.gap_fault.GapFault.TheVariants.{SignedOff, Full, KnownLoan}

-- The loan: a loan out of the year 0.
abbrev pub gap_loan : List ℕ
gap_loan = codes "LO0000.1"

-- The message: an authorisation of that loan by a person.
abbrev pub gap_message : List ℕ → Message
gap_message by = Authorise by gap_loan

-- The number that a station has to send next. There is none after its sign-off, and none after the
-- last number that a message may have.
abbrev pub next_number : Book → ℕ → Result ℕ GapFault
next_number B s =
    if is_signed_off s B.posted then Err SignedOff
    else (if nat_le LAST_NUMBER (count_at s B.posted) then Err Full
    else Ok (count_at s B.posted + 1))

-- The line under this number, with its line feed.
abbrev pub numbered_gap : List ℕ → List ℕ → Result ℕ GapFault → Result (List ℕ) GapFault
numbered_gap station by (Ok n) = Ok (sent_line station n (gap_message by) ++ 10 ∷ [])
numbered_gap station by (Err fault) = Err fault

-- KnownLoan if the loan was agreed, since then the message could authorise it.
abbrev pub unknown_gap : Book → Result (List ℕ) GapFault → Result (List ℕ) GapFault
unknown_gap B (Ok line) = if is_agreed B.posted gap_loan then Err KnownLoan else Ok line
unknown_gap B (Err fault) = Err fault

-- The line that fills the next number of station s, or its first fault: SignedOff, Full, KnownLoan.
abbrev pub gap_in : Book → ℕ → List ℕ → Result (List ℕ) GapFault
gap_in B s by =
    unknown_gap B
    (numbered_gap (unwrap_or (station_name_of B.museum s) []) by (next_number B s))
