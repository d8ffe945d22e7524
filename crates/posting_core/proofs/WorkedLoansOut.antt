-- Loans out computed on worked rows: objects leave in a crate, and come back.
use Rattle.std.specs.Prelude.{ℕ, ℤ, pos, ◌≡◌, true, false, List, [], ◌∷◌, ◌++◌, Some, None, map}
use Rattle.std.specs.Prelude.{refl, codes}
use Rattle.posting_core.specs.declared.message.Message.{Message}
use Rattle.posting_core.specs.declared.message.Message.TheVariants.{Move, Pack, Agree, Authorise}
use Rattle.posting_core.specs.declared.message.Message.TheVariants.{Exit, Return, Extend}
use Rattle.posting_core.specs.declared.verdict.Verdict.TheVariants.{Applied, UnknownLoan}
use Rattle.posting_core.specs.declared.verdict.Verdict.TheVariants.{NotAuthorised, NotHere}
use Rattle.posting_core.specs.declared.verdict.Verdict.TheVariants.{NotWithPartner, NotListed}
use Rattle.posting_core.specs.declared.verdict.Verdict.TheVariants.{WrongStage, TermOver, NotLater}
use Rattle.posting_core.specs.declared.stage.LineStage.TheVariants.{Awaiting, Away, Back}
use Rattle.posting_core.specs.declared.stage.LoanState.TheVariants.{Draft, Authorised, Running}
use Rattle.posting_core.specs.declared.stage.LoanState.TheVariants.{Closed}
use Rattle.posting_core.specs.declared.entry.Entry.{Entry}
use Rattle.posting_core.specs.declared.entry.NewLine.{NewLine}
use Rattle.posting_core.specs.declared.entry.NewSpot.{NewSpot}
use Rattle.posting_core.specs.declared.entry.Spot.{Spot}
use Rattle.posting_core.specs.declared.stage.LineStage.{LineStage}
use Rattle.posting_core.specs.Book.{place_in, chain_in, spots_in, loans_in, objects_of_loan}
use Rattle.posting_core.specs.Book.{line_in, state_in, last_day_in, changes_of, crosses_with}
use Rattle.posting_core.specs.Book.{asks_lines, asks_memory}
use Rattle.posting_core.specs.History.{takes_along}
use Rattle.posting_core.proofs.WorkedRows.{museum, museum_x, pack, s1, s2, crate_1, object_1}
use Rattle.posting_core.proofs.WorkedRows.{object_2, object_3, may, moved, run, verdicts, book}
use Rattle.posting_core.proofs.WorkedRows.{spot, put_at}

-- other days: the last of the term, and those after it
abbrev pub may_31 : ℤ
may_31 = pos 19874

abbrev pub june_1 : ℤ
june_1 = pos 19875

abbrev june_2 : ℤ
june_2 = pos 19876

abbrev june_10 : ℤ
june_10 = pos 19884

abbrev pub june_30 : ℤ
june_30 = pos 19904

-- two loans out
abbrev pub loan_1 : List ℕ
loan_1 = codes "LO2024.1"

abbrev loan_2 : List ℕ
loan_2 = codes "LO2024.2"

-- a loan out to MUSEUM-X, in May
abbrev pub agreed : List ℕ → List (List ℕ) → Message
agreed loan objects = Agree may may_31 loan (codes "MUSEUM-X") objects

abbrev pub authorised : List ℕ → Message
authorised loan = Authorise (codes "Ada") loan

abbrev pub leaves : List ℕ → List ℕ → ℤ → Message
leaves x loan day = Exit day x loan

abbrev returned : List ℕ → List ℕ → List ℕ → ℤ → Message
returned x loan p day = Return day x loan p

abbrev extended : List ℕ → ℤ → Message
extended loan last = Extend last loan

-- a spot of another day
abbrev pub spot_on : ℕ → ℕ → ℤ → Spot
spot_on number p day = record { entry = number; place = p; day = day }

-- a thing's next spot
abbrev new : ℕ → ℕ → Spot → NewSpot
new x k s = record { thing = x; k = k; spot = s }

-- a line of the first loan
abbrev new_line : ℕ → LineStage → NewLine
new_line o stage = record { loan = loan_1; object = o; stage = stage }

-- loan_out: two of three objects in a crate are agreed; the third is taken out, and the crate
-- leaves on the last day

abbrev pub three_packed : List Entry
three_packed = run [] (
    (pack, moved (codes "C1") (codes "S1"))
    ∷ (pack, Pack may (codes "2001.4.1") (codes "C1"))
    ∷ (pack, Pack may (codes "2001.4.2") (codes "C1"))
    ∷ (pack, Pack may (codes "2001.4.3") (codes "C1"))
    ∷ [])

abbrev pub two_agreed : Message
two_agreed = agreed loan_1 (codes "2001.4.1" ∷ codes "2001.4.2" ∷ [])

abbrev pub refused_unauthorised : List Entry
refused_unauthorised = run three_packed
    ((pack, two_agreed) ∷ (pack, leaves (codes "C1") loan_1 may) ∷ [])

abbrev pub now_authorised : List Entry
now_authorised = run refused_unauthorised ((pack, authorised loan_1) ∷ [])

abbrev pub ready : List Entry
ready = run now_authorised (
    (pack, leaves (codes "C1") loan_1 may_31)
    ∷ (pack, moved (codes "2001.4.3") (codes "S2"))
    ∷ (pack, leaves (codes "C1") loan_1 june_1)
    ∷ [])

abbrev pub loan_out : List Entry
loan_out = run ready ((pack, leaves (codes "C1") loan_1 may_31) ∷ [])

loan_out-verdicts : verdicts loan_out ≡
    Applied ∷ Applied ∷ Applied ∷ Applied ∷ Applied ∷ NotAuthorised ∷ Applied ∷ NotListed ∷ Applied
    ∷ TermOver ∷ Applied ∷ []
loan_out-verdicts = refl

loan_out-lines : map (line_in (book loan_out) loan_1)
    (object_1 ∷ object_2 ∷ object_3 ∷ crate_1 ∷ []) ≡ Some Away ∷ Some Away ∷ None ∷ None ∷ []
loan_out-lines = refl

-- before the crate leaves, each line is awaited
loan_out-lines_before : map (line_in (book ready) loan_1) (object_1 ∷ object_2 ∷ object_3 ∷ [])
    ≡ Some Awaiting ∷ Some Awaiting ∷ None ∷ []
loan_out-lines_before = refl

loan_out-states : map (λ P. state_in (book P) loan_1)
    (three_packed ∷ refused_unauthorised ∷ now_authorised ∷ ready ∷ loan_out ∷ []) ≡
    None ∷ Some Draft ∷ Some Authorised ∷ Some Authorised ∷ Some Running ∷ []
loan_out-states = refl

loan_out-loans : loans_in (book loan_out) ≡ loan_1 ∷ []
loan_out-loans = refl

loan_out-objects : objects_of_loan (book loan_out) loan_1 ≡ object_1 ∷ object_2 ∷ []
loan_out-objects = refl

loan_out-last_day : map (last_day_in (book loan_out)) (loan_1 ∷ loan_2 ∷ [])
    ≡ Some may_31 ∷ None ∷ []
loan_out-last_day = refl

-- the objects that left are at the partner's place, in their crate; the one taken out is here
loan_out-places : map (place_in (book loan_out)) (crate_1 ∷ object_1 ∷ object_2 ∷ object_3 ∷ [])
    ≡ Some museum_x ∷ Some museum_x ∷ Some museum_x ∷ Some s2 ∷ []
loan_out-places = refl

loan_out-chains : map (chain_in (book loan_out)) (object_1 ∷ object_2 ∷ object_3 ∷ [])
    ≡ (crate_1 ∷ []) ∷ (crate_1 ∷ []) ∷ [] ∷ []
loan_out-chains = refl

loan_out-spots : map (spots_in (book loan_out)) (object_1 ∷ object_3 ∷ []) ≡
    (spot 2 s1 ∷ spot_on 11 museum_x may_31 ∷ []) ∷ (spot 4 s1 ∷ spot 9 s2 ∷ []) ∷ []
loan_out-spots = refl

-- an agreement makes its lines, in the order of its list, and writes no spot
loan_out-agreeing : changes_of (book three_packed)
    (agreed loan_1 (codes "2001.4.2" ∷ codes "2001.4.1" ∷ [])) ≡
    record {
      entry = 5;
      verdict = Applied;
      put = None;
      carried = [];
      spots = [];
      loan = None;
      lines = new_line object_2 Awaiting ∷ new_line object_1 Awaiting ∷ [];
    }
loan_out-agreeing = refl

-- an exit changes the lines of all objects that cross, in ascending order, and writes a spot for
-- each thing
loan_out-leaving : changes_of (book ready) (leaves (codes "C1") loan_1 may_31) ≡ record {
  entry = 11;
  verdict = Applied;
  put = put_at crate_1 museum_x;
  carried = crate_1 ∷ object_1 ∷ object_2 ∷ [];
  spots = new crate_1 2 (spot_on 11 museum_x may_31) ∷ new object_1 2 (spot_on 11 museum_x may_31)
      ∷ new object_2 2 (spot_on 11 museum_x may_31) ∷ [];
  loan = Some 0;
  lines = new_line object_1 Away ∷ new_line object_2 Away ∷ [];
}
loan_out-leaving = refl

-- a refused one changes neither
loan_out-refused : changes_of (book ready) (leaves (codes "C1") loan_1 june_1)
    ≡ record {
      entry = 11;
      verdict = TermOver;
      put = None;
      carried = [];
      spots = [];
      loan = None;
      lines = [];
    }
loan_out-refused = refl

-- an authorisation changes no line
loan_out-authorising : changes_of (book refused_unauthorised) (authorised loan_1)
    ≡ record {
      entry = 7;
      verdict = Applied;
      put = None;
      carried = [];
      spots = [];
      loan = Some 0;
      lines = [];
    }
loan_out-authorising = refl

-- a thing crosses with other things in it if a crate crosses
loan_out-crosses_with : map (crosses_with (book ready))
    (leaves (codes "C1") loan_1 may_31 ∷ leaves (codes "2001.4.3") loan_1 may_31
    ∷ moved (codes "C1") (codes "S1") ∷ authorised loan_1 ∷ []) ≡ true ∷ false ∷ false ∷ false ∷ []
loan_out-crosses_with = refl

-- the verdict depends on the lines if the crate leaves, in time or late, but not if it isn't with
-- the partner, nor for an object alone
loan_out-asks_lines : map (asks_lines (book ready))
    (leaves (codes "C1") loan_1 may_31 ∷ leaves (codes "C1") loan_1 june_1 ∷ returned (codes "C1")
    loan_1 (codes "S1") may_31 ∷ leaves (codes "2001.4.3") loan_1 may_31 ∷ []) ≡ true ∷ true ∷ false
    ∷ false ∷ []
loan_out-asks_lines = refl

-- planning also needs memory if lines are made, but not if an object alone is refused or nothing is
-- put
loan_out-asks_memory : map (asks_memory (book ready))
    (leaves (codes "C1") loan_1 may_31 ∷ agreed loan_2 (codes "2001.4.1" ∷ [])
    ∷ leaves (codes "2001.4.3") loan_1 may_31 ∷ authorised loan_1 ∷ []) ≡ true ∷ true ∷ false
    ∷ false ∷ []
loan_out-asks_memory = refl

-- a crate's contents move with it; an object has none
loan_out-takes_along : map (takes_along museum ready)
    (put_at crate_1 s2 ∷ put_at object_3 s1 ∷ None ∷ []) ≡ true ∷ false ∷ false ∷ []
loan_out-takes_along = refl

-- returned_piece_by_piece: each object comes back alone, and then the crate, empty

abbrev pub first_back : List Entry
first_back = run loan_out (
    (pack, Move june_2 (codes "2001.4.1") (codes "S1"))
    ∷ (pack, returned (codes "2001.4.1") loan_1 (codes "S1") june_2)
    ∷ [])

abbrev pub both_back : List Entry
both_back = run first_back ((pack, returned (codes "2001.4.2") loan_1 (codes "S1") june_2) ∷ [])

abbrev pub returned_piece_by_piece : List Entry
returned_piece_by_piece = run both_back (
    (pack, returned (codes "C1") loan_1 (codes "S2") june_2)
    ∷ (pack, returned (codes "C1") loan_1 (codes "S2") june_2)
    ∷ [])

returned_piece_by_piece-verdicts : verdicts returned_piece_by_piece ≡ verdicts loan_out ++ NotHere
    ∷ Applied ∷ Applied ∷ Applied ∷ NotWithPartner ∷ []
returned_piece_by_piece-verdicts = refl

returned_piece_by_piece-lines : map (λ P. map (line_in (book P) loan_1) (object_1 ∷ object_2 ∷ []))
    (first_back ∷ both_back ∷ returned_piece_by_piece ∷ []) ≡
    (Some Back ∷ Some Away ∷ []) ∷ (Some Back ∷ Some Back ∷ []) ∷ (Some Back ∷ Some Back ∷ []) ∷ []
returned_piece_by_piece-lines = refl

returned_piece_by_piece-states : map (λ P. state_in (book P) loan_1)
    (first_back ∷ both_back ∷ returned_piece_by_piece ∷ []) ≡ Some Running ∷ Some Closed
    ∷ Some Closed ∷ []
returned_piece_by_piece-states = refl

returned_piece_by_piece-places : map (place_in (book returned_piece_by_piece))
    (crate_1 ∷ object_1 ∷ object_2 ∷ []) ≡ Some s2 ∷ Some s1 ∷ Some s1 ∷ []
returned_piece_by_piece-places = refl

returned_piece_by_piece-chain : chain_in (book returned_piece_by_piece) object_1 ≡ []
returned_piece_by_piece-chain = refl

-- return_under_another_loan: a second agreement doesn't bring back an object that is away

abbrev return_under_another_loan : List Entry
return_under_another_loan = run loan_out (
    (pack, agreed loan_2 (codes "2001.4.1" ∷ []))
    ∷ (pack, authorised loan_2)
    ∷ (pack, returned (codes "2001.4.1") loan_2 (codes "S1") may)
    ∷ [])

return_under_another_loan-verdicts : verdicts return_under_another_loan ≡ verdicts loan_out
    ++ Applied ∷ Applied ∷ WrongStage ∷ []
return_under_another_loan-verdicts = refl

return_under_another_loan-lines : map
    (λ loan. line_in (book return_under_another_loan) loan object_1) (loan_1 ∷ loan_2 ∷ [])
    ≡ Some Away ∷ Some Awaiting ∷ []
return_under_another_loan-lines = refl

return_under_another_loan-loans : loans_in (book return_under_another_loan) ≡ loan_1 ∷ loan_2 ∷ []
return_under_another_loan-loans = refl

-- crate_returns: the crate comes back with all that is in it

abbrev crate_returns : List Entry
crate_returns = run loan_out ((pack, returned (codes "C1") loan_1 (codes "S2") june_2) ∷ [])

crate_returns-verdicts : verdicts crate_returns ≡ verdicts loan_out ++ Applied ∷ []
crate_returns-verdicts = refl

crate_returns-lines : map (line_in (book crate_returns) loan_1) (object_1 ∷ object_2 ∷ [])
    ≡ Some Back ∷ Some Back ∷ []
crate_returns-lines = refl

crate_returns-state : state_in (book crate_returns) loan_1 ≡ Some Closed
crate_returns-state = refl

crate_returns-spots : spots_in (book crate_returns) object_1 ≡ spot 2 s1 ∷ spot_on 11 museum_x
    may_31 ∷ spot_on 12 s2 june_2 ∷ []
crate_returns-spots = refl

crate_returns-chain : chain_in (book crate_returns) object_1 ≡ crate_1 ∷ []
crate_returns-chain = refl

-- extend_tour: a loan's last day only becomes later

abbrev pub extend_tour : List Entry
extend_tour = run loan_out (
    (pack, extended loan_1 may_31)
    ∷ (pack, extended (codes "LO2024.9") june_30)
    ∷ (pack, extended loan_1 june_30)
    ∷ (pack, extended loan_1 june_10)
    ∷ [])

extend_tour-verdicts : verdicts extend_tour ≡ verdicts loan_out ++ NotLater ∷ UnknownLoan ∷ Applied
    ∷ NotLater ∷ []
extend_tour-verdicts = refl

extend_tour-last_day : last_day_in (book extend_tour) loan_1 ≡ Some june_30
extend_tour-last_day = refl

-- an extension changes no line and writes no spot
extend_tour-extending : changes_of (book loan_out) (extended loan_1 june_30)
    ≡ record {
      entry = 12;
      verdict = Applied;
      put = None;
      carried = [];
      spots = [];
      loan = Some 0;
      lines = [];
    }
extend_tour-extending = refl

-- extend_unauthorised: a draft isn't extended

abbrev one_agreed : Message
one_agreed = agreed loan_1 (codes "2001.4.1" ∷ [])

abbrev extend_unauthorised : List Entry
extend_unauthorised = run [] ((pack, one_agreed) ∷ (pack, extended loan_1 june_30) ∷ [])

extend_unauthorised-verdicts : verdicts extend_unauthorised ≡ Applied ∷ NotAuthorised ∷ []
extend_unauthorised-verdicts = refl

extend_unauthorised-last_day : last_day_in (book extend_unauthorised) loan_1 ≡ Some may_31
extend_unauthorised-last_day = refl

-- extend_then_exit: an exit that was refused after the term is applied once the term is longer

abbrev extend_then_exit : List Entry
extend_then_exit = run [] (
    (pack, moved (codes "2001.4.1") (codes "S1"))
    ∷ (pack, one_agreed)
    ∷ (pack, authorised loan_1)
    ∷ (pack, leaves (codes "2001.4.1") loan_1 june_1)
    ∷ (pack, extended loan_1 june_1)
    ∷ (pack, leaves (codes "2001.4.1") loan_1 june_1)
    ∷ [])

extend_then_exit-verdicts : verdicts extend_then_exit ≡ Applied ∷ Applied ∷ Applied ∷ TermOver
    ∷ Applied ∷ Applied ∷ []
extend_then_exit-verdicts = refl

extend_then_exit-spots : spots_in (book extend_then_exit) object_1 ≡ spot 1 s1
    ∷ spot_on 6 museum_x june_1 ∷ []
extend_then_exit-spots = refl

-- extend_closed: a loan that is closed may be extended, and stays closed

abbrev extend_closed : List Entry
extend_closed = run returned_piece_by_piece ((pack, extended loan_1 june_30) ∷ [])

extend_closed-verdicts : verdicts extend_closed ≡ verdicts returned_piece_by_piece ++ Applied ∷ []
extend_closed-verdicts = refl

extend_closed-state : state_in (book extend_closed) loan_1 ≡ Some Closed
extend_closed-state = refl

extend_closed-last_day : last_day_in (book extend_closed) loan_1 ≡ Some june_30
extend_closed-last_day = refl
