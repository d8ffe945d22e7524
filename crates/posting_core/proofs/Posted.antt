-- The invariant of a ledger's fields, before and after an entry.
use Rattle.std.specs.Prelude.{ℕ, ◌≡◌, ◌+◌, ◌<◌, ◌≤◌, Bool, true, false, if◌then◌else◌, List, []}
use Rattle.std.specs.Prelude.{◌∷◌, ◌++◌, Option, None, Some, length, All, Result, Ok, Err, IfOk}
use Rattle.std.specs.Prelude.{OnErr, map, replicate, zero, suc, refl, IfSome, slice_get, is_some}
use Rattle.std.specs.Borrow.{Bor}
use Rattle.std.specs.List.{find, position}
use Rattle.std.specs.Str.{bytes_eq}
use Rattle.std.specs.Option.{option_map, option_map_or, option_and_then, option_to_list}
use Rattle.std.proofs.Common.{ap, ◌∙◌, sym, subst, arith}
use Rattle.std.proofs.lemmas.Bool.{false≢true}
use Rattle.std.proofs.lemmas.Result.{on_err_weaker}
use Rattle.std.proofs.lemmas.List.{append-nil, length-replicate, length-map}
use Rattle.std.proofs.lemmas.List.Elements.{All-nil}
use Rattle.std.proofs.lemmas.Option.{IfSome_then}
use Rattle.nest_core.specs.declared.put.Put.{Put}
use Rattle.codes_core.specs.declared.fault.NoMemory.{NoMemory}
use Rattle.nest_core.specs.Museum.{Museum}
use Rattle.nest_core.specs.Nest.{Nested, StandsFor, MayGo, target_kept}
use Rattle.nest_core.specs.Puts.{with_put, place, chain, carried, carried_by, holds_things}
use Rattle.posting_core.specs.declared.message.Message.{Message}
use Rattle.posting_core.specs.declared.message.Message.TheVariants.{Agree}
use Rattle.posting_core.specs.declared.verdict.Verdict.{Verdict}
use Rattle.posting_core.specs.declared.entry.Entry.{Entry}
use Rattle.posting_core.specs.declared.entry.Spot.{Spot}
use Rattle.posting_core.specs.declared.entry.NewSpot.{NewSpot}
use Rattle.posting_core.specs.declared.entry.NewLine.{NewLine}
use Rattle.posting_core.specs.declared.entry.Changes.{Changes}
use Rattle.posting_core.specs.declared.stage.LineStage.TheVariants.{Awaiting}
use Rattle.posting_core.specs.Messages.{day_of, loan_of}
use Rattle.posting_core.specs.History.{puts, put_in, put_by, spots, spot_from, place_at, carried_at}
use Rattle.posting_core.specs.History.{carried_with, holds_at}
use Rattle.posting_core.specs.VerdictNames.{is_applied}
use Rattle.posting_core.specs.Loans.{crossing_in, objects_of}
use Rattle.posting_core.specs.Lawful.{Follows, IsLawful}
use Rattle.posting_core.specs.Book.{Book, chain_in, spots_in, loans_in, objects_of_loan}
use Rattle.posting_core.specs.Book.{place_after, new_spot, new_spots, lines_of_agreement}
use Rattle.posting_core.specs.Book.{lines_of_crossing, new_lines, changes_of}
use Rattle.posting_core.specs.Agreements.{Agreement, agreed_entries, agreement_in, agreement_by}
use Rattle.posting_core.specs.Agreements.{agreements, agreement, loan_no, loan_by, is_agreed}
use Rattle.posting_core.specs.LoanRows.{LoanRow, loan_row, loan_rows, rows_with, row_by, AreOnce}
use Rattle.posting_core.specs.LoanRows.{MayAgree}
use Rattle.posting_core.specs.Rows.{row_of, rows_after, IsKept}
use Rattle.posting_core.specs.Standings.{no_standing, standing_at, standings_with}
use Rattle.posting_core.specs.declared.standing.Standing.{Standing}
use Rattle.posting_core.proofs.AppliedRows.{applied_is}
use Rattle.posting_core.proofs.Agreed.{IsSound, agree_applied}
use Rattle.posting_core.proofs.Bounds.{short, spots_within}
use Rattle.posting_core.proofs.Lined.{rows_after_entry, objects_told}
use Rattle.posting_core.proofs.ObjectNumbers.{numbers_once}
use Rattle.posting_core.proofs.LoanAnswers.{IsRowOf, row_is, row_missing, codes_told, code_at}
use Rattle.posting_core.proofs.LoanAnswers.{objects_at}
use Rattle.posting_core.proofs.Placed.{put_allowed, may_go, chain_below}
use Rattle.posting_core.proofs.Stations.{as_many_standings, standing_first, standing_next}
use Rattle.posting_core.proofs.Spotted.{carried_below}
use Rattle.posting_core.proofs.Written.{rows_written, chosen_spot, own_spot, same_place}
use Rattle.posting_core.proofs.Written.{rows_length, own_within}

-- the ledger's view, by its fields
abbrev pub book_of : Museum → List Entry → Nested → Book
book_of S P N = record { museum = S; depth = N.depth; posted = P }

-- the fields agree with looking back through the ledger's entries
module _ {S : Museum} {P : List Entry} {N : Nested} {R : List (List Spot)} {L : List LoanRow}
    {A : List ℕ} {T : List Standing} {B : Book} (kept : IsKept S P N R L A T)
    (same : book_of S P N ≡ B) where
  pub lawful_kept : IsLawful B.museum B.depth B.posted
  lawful_kept = subst (λ (C : Book). IsLawful C.museum C.depth C.posted) same kept.lawful

  carried_kept : (x : ℕ) (ys : List ℕ)
      → ((Q : List Put) → StandsFor N Q → ys ≡ carried N.things Q x)
      → ys ≡ carried_at B.museum B.posted x
  carried_kept x ys from = subst (λ (C : Book). ys ≡ carried_at C.museum C.posted x) same
      (from (puts S P) kept.nest ∙ ap (λ n. carried n (puts S P) x) kept.things)

  pub carried_told : (x : ℕ) (r : Result (List ℕ) NoMemory)
      → IfOk r (λ ys. (Q : List Put) → StandsFor N Q → ys ≡ carried N.things Q x)
      → IfOk r (λ ys. ys ≡ carried_at B.museum B.posted x)
  carried_told x (Ok ys) from = carried_kept x ys from
  carried_told x (Err fault) from = tt

  pub carried_there : (x : ℕ) (r : Result (List ℕ) NoMemory)
      → IfOk r (λ ys. (Q : List Put) → StandsFor N Q → ys ≡ carried N.things Q x)
      → IfOk r (All (λ y. y < length B.museum.things))
  carried_there x (Ok ys) from =
      subst (All (λ y. y < length B.museum.things)) (sym (carried_kept x ys from))
      (carried_below (length B.museum.things) (puts B.museum B.posted) x)
  carried_there x (Err fault) from = tt

  -- if the call fails, something is in the thing
  pub carried_held : (x : ℕ) (r : Result (List ℕ) NoMemory)
      → OnErr r ((Q : List Put) → StandsFor N Q → holds_things Q x ≡ true)
      → OnErr r (holds_at B.museum B.posted x ≡ true)
  carried_held x r gives =
      on_err_weaker r (λ from. subst (λ (C : Book). holds_at C.museum C.posted x ≡ true) same
      (from (puts S P) kept.nest)) gives

  -- a chain is that of looking back
  chain_kept : (x : ℕ) (cs : List ℕ) → ((Q : List Put) → StandsFor N Q → cs ≡ chain N.things Q x)
      → cs ≡ chain_in B x
  chain_kept x cs from = subst (λ (C : Book). cs ≡ chain_in C x) same
      (from (puts S P) kept.nest ∙ ap (λ n. chain n (puts S P) x) kept.things)

  -- its members are things of the setup
  pub chain_within : (x : ℕ) (r : Result (List ℕ) NoMemory)
      → IfOk r (λ cs. (Q : List Put) → StandsFor N Q → cs ≡ chain N.things Q x)
      → IfOk r (All (λ c. c < length B.museum.things))
  chain_within x (Ok cs) from = subst (All (λ c. c < length B.museum.things))
      (sym (chain_kept x cs from)) (chain_below B.museum B.depth B.posted x lawful_kept)
  chain_within x (Err fault) from = tt

  -- and no longer than the depth limit
  pub chain_short : (x : ℕ) (r : Result (List ℕ) NoMemory)
      → IfOk r (λ cs. (Q : List Put) → StandsFor N Q → cs ≡ chain N.things Q x)
      → IfOk r (λ cs. length cs ≤ B.depth)
  chain_short x (Ok cs) from = subst (λ (ys : List ℕ). length ys ≤ B.depth)
      (sym (chain_kept x cs from)) (short B.museum B.depth B.posted x lawful_kept)
  chain_short x (Err fault) from = tt

  -- if the call fails, something is above the thing
  pub chain_some : (x : ℕ) (r : Result (List ℕ) NoMemory)
      → OnErr r ((Q : List Put) → StandsFor N Q → 0 < length (chain N.things Q x))
      → OnErr r (0 < length (chain_in B x))
  chain_some x (Ok cs) from = tt
  chain_some x (Err fault) from =
      subst (λ (C : Book). 0 < length (chain_in C x)) same
      (subst (λ n. 0 < length (chain n (puts S P) x)) kept.things (from (puts S P) kept.nest))

  -- each thing has a row
  pub row_kept : (x : ℕ) → x < length B.museum.things → x < length R
  row_kept x within =
      let less : x < length S.things =
      subst (λ (C : Book). x < length C.museum.things) (sym same) within in
      omega (arith, kept.rowed)

  -- the row has the thing's spots
  pub spots_kept : (x : ℕ) → x < length B.museum.things → row_of R x ≡ spots_in B x
  spots_kept x within =
      subst (λ (C : Book). row_of R x ≡ spots_in C x) same
      (kept.row x (subst (λ (C : Book). x < length C.museum.things) (sym same) within))

  -- the spots are at places of the setup
  pub spots_there : (x : ℕ) {found : List Spot} → x < length B.museum.things → found ≡ spots_in B x
      → All (λ s. s.place < length B.museum.places) found
  spots_there x within is = subst (All (λ s. s.place < length B.museum.places)) (sym is)
      (spots_within B.museum B.depth B.posted x lawful_kept)

  -- a loan's row is at its number
  pub number_kept : (loan : List ℕ)
      → position (bytes_eq loan) (map (λ row. row.loan) L) ≡ loan_no B.posted loan
  number_kept loan = subst (λ (C : Book). position (bytes_eq loan) (map (λ row. row.loan) L)
      ≡ loan_no C.posted loan) same (ap (position (bytes_eq loan))
      (ap (map (λ row. row.loan)) kept.loans ∙ codes_told S P))

  -- the kept row of a loan is its row by looking back
  pub loan_kept : (loan : List ℕ) (r : Option (ℕ × Bor LoanRow))
      → option_map (λ found. found.1.now) r ≡ find (λ row. bytes_eq loan row.loan) L →
      (is_some r ≡ is_agreed B.posted loan)
      × IfSome r (λ found. IsRowOf B.museum B.posted loan found.1.now)
  loan_kept loan r is =
      subst (λ (C : Book). (is_some r ≡ is_agreed C.posted loan)
      × IfSome r (λ found. IsRowOf C.museum C.posted loan found.1.now)) same
      (borrowed r (row_is S P loan L (option_map (λ found. found.1.now) r) kept.loans is))
    where
      borrowed : (r : Option (ℕ × Bor LoanRow))
          → (is_some (option_map (λ found. found.1.now) r) ≡ is_agreed P loan)
          × IfSome (option_map (λ found. found.1.now) r) (IsRowOf S P loan)
          → (is_some r ≡ is_agreed P loan) × IfSome r (λ found. IsRowOf S P loan found.1.now)
      borrowed None both = both
      borrowed (Some row) both = both

  pub code_kept : (i : ℕ) (row : LoanRow) → slice_get L i ≡ Some row
      → slice_get (loans_in B) i ≡ Some row.loan
  code_kept i row at = subst (λ (C : Book). slice_get (loans_in C) i ≡ Some row.loan) same
      (code_at S P L i row kept.loans at)

  pub objects_kept : (i : ℕ) (row : LoanRow) → slice_get L i ≡ Some row
      → option_map (objects_of_loan B) (slice_get (loans_in B) i) ≡ Some row.objects
  objects_kept i row at =
      subst (λ (C : Book). option_map (objects_of_loan C) (slice_get (loans_in C) i)
      ≡ Some row.objects) same (objects_at S N.depth P L i row kept.lawful kept.loans at)

  -- each station's standing
  pub station_kept : (s : ℕ) → s < length B.museum.stations → s < length T
  station_kept s known =
      let less : s < length S.stations =
      subst (λ (C : Book). s < length C.museum.stations) (sym same) known in
      omega (arith, less, kept.stations)

  pub standing_kept : (s : ℕ) → s < length B.museum.stations
      → slice_get T s ≡ Some (standing_at B.posted s)
  standing_kept s known =
      subst (λ (C : Book). slice_get T s ≡ Some (standing_at C.posted s)) same
      (kept.standing s (subst (λ (C : Book). s < length C.museum.stations) (sym same) known))

  pub count_kept : length L ≡ length (loans_in B)
  count_kept = subst (λ (C : Book). length L ≡ length (loans_in C)) same
      (ap length kept.loans ∙ length-map (agreements P) (loan_row S P)
      ∙ sym (length-map (agreements P) (λ t. t.loan)))

-- the entry that agreed the loan with this number
module _ {S : Museum} {P : List Entry} {N : Nested} {R : List (List Spot)} {L : List LoanRow}
    {A : List ℕ} {T : List Standing} {B : Book} (kept : IsKept S P N R L A T)
    (same : book_of S P N ≡ B) where
  pub agreed_kept : A ≡ agreed_entries B.posted
  agreed_kept = subst (λ (C : Book). A ≡ agreed_entries C.posted) same kept.agreed

-- the spots and the loan lines that an entry writes

abbrev news_under : Museum → List Entry → Verdict → Message → List NewSpot
news_under S P v m = if is_applied v then new_spots S P m else []

abbrev lines_under : Museum → List Entry → Verdict → Message → List NewLine
lines_under S P v m = if is_applied v then new_lines S P m else []

abbrev spot_for : Museum → List Entry → Message → ℕ → Option NewSpot
spot_for S P m x = new_spot (length P + 1) (length (spots S P x)) (place_at S P x)
    (place_after S P m x) (day_of m) x

-- the rows of spots after the spots of an entry
spots_after_entry : (S : Museum) (P : List Entry) (N : Nested) (R : List (List Spot))
    (L : List LoanRow) (A : List ℕ) (T : List Standing) (e : Entry) → IsKept S P N R L A T →
    (x : ℕ) → x < length S.things → row_of (rows_after R (news_under S P e.verdict e.message)) x
    ≡ spots S (e ∷ P) x
spots_after_entry S P N R L A T e kept x less =
    let number = length P + 1 in
    let things = length S.things in
    let day = day_of e.message in
    elim (is_applied e.verdict) as
    (λ b. row_of (rows_after R (if b then new_spots S P e.message else [])) x
    ≡ spots S P x ++ option_to_list
    (spot_from number (place_at S P x)
    (place things (with_put (if b then put_in S P e.message else None) (puts S P)) x) day)) [
      | true ↦ rows_written R (spot_for S P e.message) 0 things x
          (λ y s h. own_spot number (length (spots S P y)) (place_at S P y)
          (place_after S P e.message y) day y s h) (omega (arith, kept.rowed)) (omega arith)
          (omega arith)
          ∙ ap (λ (r : List Spot). r ++ option_to_list
          (option_map (λ s. s.spot) (spot_for S P e.message x))) (kept.row x less)
          ∙ ap (λ (o : Option Spot). spots S P x ++ option_to_list o)
          (chosen_spot number (length (spots S P x)) (place_at S P x)
          (place_after S P e.message x) day x)
      | false ↦ kept.row x less ∙ sym
          (ap (λ (o : Option Spot). spots S P x ++ option_to_list o)
          (same_place number (place_at S P x) day) ∙ append-nil (spots S P x))
    ]

news_within : (S : Museum) (P : List Entry) (v : Verdict) (m : Message)
    → All (λ s. s.thing < length S.things) (news_under S P v m)
news_within S P v m = elim (is_applied v) as
    (λ b. All (λ s. s.thing < length S.things) (if b then new_spots S P m else [])) [
      | true ↦ own_within (spot_for S P m) 0 (length S.things) (length S.things)
          (λ y s h. own_spot (length P + 1) (length (spots S P y)) (place_at S P y)
          (place_after S P m y) (day_of m) y s h) (omega arith)
      | false ↦ All-nil (λ (s : NewSpot). s.thing < length S.things)
    ]

-- a message that agrees a loan puts nothing anywhere
unplaced : (S : Museum) (P : List Entry) (v : Verdict) (m : Message)
    → is_some (agreement_in m) ≡ true → put_by S P v m ≡ None
unplaced S P v (Agree first final loan partner objects) agrees =
    elim (is_applied v) as (λ b. put_of b ≡ None) [ true ↦ refl | false ↦ refl ]
  where
    put_of : Bool → Option Put
    put_of b = if b then None else None
unplaced S P v _ agrees = absurd (false≢true agrees)

-- the entry and the changes that `apply` gets, over the ledger's fields
pub record IsPlanned (S : Museum) (P : List Entry) (N : Nested) (R : List (List Spot))
    (L : List LoanRow) (A : List ℕ) (T : List Standing) (e : Entry) (put : Option Put)
    (along : List ℕ) (news : List NewSpot) (loan : Option ℕ) (lines : List NewLine) : Type 0 where
  pub kept : IsKept S P N R L A T
  pub follows : Follows S N.depth P e
  pub put_is : put ≡ put_by S P e.verdict e.message
  pub along_is : along ≡ carried_with S P put
  pub news_is : news ≡ news_under S P e.verdict e.message
  pub loan_is : loan ≡ loan_by P e.verdict e.message
  pub lines_is : lines ≡ lines_under S P e.verdict e.message

-- the put, the carried things, the spots and the lines in the changes of an entry that may follow
written : (B : Book) (e : Entry) (changes : Changes) → Follows B.museum B.depth B.posted e
    → changes ≡ changes_of B e.message →
    (changes.put ≡ put_by B.museum B.posted e.verdict e.message)
    × (changes.carried ≡ carried_with B.museum B.posted changes.put)
    × (changes.spots ≡ news_under B.museum B.posted e.verdict e.message)
    × (changes.loan ≡ loan_by B.posted e.verdict e.message)
    × (changes.lines ≡ lines_under B.museum B.posted e.verdict e.message)
written B e changes follows plan = (
  ap (λ (c : Changes). c.put) plan ∙ ap (λ (v : Verdict). put_by B.museum B.posted v e.message)
      (sym follows.judged),
  ap (λ (c : Changes). c.carried) plan ∙ ap (carried_with B.museum B.posted)
      (sym (ap (λ (c : Changes). c.put) plan)),
  ap (λ (c : Changes). c.spots) plan
      ∙ ap (λ (v : Verdict). news_under B.museum B.posted v e.message) (sym follows.judged),
  ap (λ (c : Changes). c.loan) plan ∙ ap (λ (v : Verdict). loan_by B.posted v e.message)
      (sym follows.judged),
  ap (λ (c : Changes). c.lines) plan
      ∙ ap (λ (v : Verdict). lines_under B.museum B.posted v e.message) (sym follows.judged),
)

pub planned : {S : Museum} {P : List Entry} {N : Nested} {R : List (List Spot)} {L : List LoanRow}
    {A : List ℕ} {T : List Standing} {B : Book} {e : Entry} {changes : Changes} {along : List ℕ}
    {news : List NewSpot}
    {lines : List NewLine} → IsKept S P N R L A T → book_of S P N ≡ B →
    Follows B.museum B.depth B.posted e → changes ≡ changes_of B e.message → along ≡ changes.carried
    → news ≡ changes.spots → lines ≡ changes.lines
    → IsPlanned S P N R L A T e changes.put along news changes.loan lines
planned {S} {P} {N} {B} {e} {changes} kept same follows plan same_carried same_spots same_lines =
    let follows' : Follows S N.depth P e =
    subst (λ (C : Book). Follows C.museum C.depth C.posted e) (sym same) follows in
    let (put_is, along_is, news_is, loan_is, lines_is) =
    written (book_of S P N) e changes follows'
    (subst (λ (C : Book). changes ≡ changes_of C e.message) (sym same) plan) in
    record {
      kept = kept;
      follows = follows';
      put_is = put_is;
      along_is = same_carried ∙ along_is;
      news_is = same_spots ∙ news_is;
      loan_is = loan_is;
      lines_is = same_lines ∙ lines_is;
    }

-- for an entry with its planned changes
module _ {S : Museum} {P : List Entry} {N : Nested} {R : List (List Spot)} {L : List LoanRow}
    {A : List ℕ} {T : List Standing} {e : Entry} {put : Option Put} {along : List ℕ}
    {news : List NewSpot} {loan : Option ℕ}
    {lines : List NewLine} (is : IsPlanned S P N R L A T e put along news loan lines) where
  -- the new spots are of things that have rows
  pub planned_within : (R' : List (List Spot)) → R' ≡ R → All (λ s. s.thing < length R') news
  planned_within R' r = rw (is.news_is, r, is.kept.rowed) (news_within S P e.verdict e.message)

  -- the entry's station has a standing
  pub planned_station : e.station < length T
  planned_station = omega (arith, is.kept.stations, is.follows.known)

  -- an applied agreement can be kept
  pub planned_agree : IfSome (agreement_by e.verdict e.message) (MayAgree L lines)
  planned_agree =
      elim (is_applied e.verdict) as (λ b. is_applied e.verdict ≡ b
      → IfSome (if b then agreement_in e.message else None) (MayAgree L lines)) [
        | true ↦ λ h. new (agreement_in e.message)
            (λ t agreed. (
              agree_applied S N.depth P e.message t
                  (sym is.follows.judged ∙ applied_is e.verdict h) agreed,
              told t h agreed,
            ))
        | false ↦ λ h. tt
      ] refl
    where
      told : (t : Agreement) → is_applied e.verdict ≡ true → agreement_in e.message ≡ Some t
          → lines ≡ lines_of_agreement S t
      told t h agreed =
          is.lines_is ∙ ap (λ b. if b then new_lines S P e.message else []) h
          ∙ ap (λ o. option_map_or (lines_of_agreement S) o
          (option_map_or (lines_of_crossing S P) (crossing_in e.message) [])) agreed

      new : (o : Option Agreement) → ((t : Agreement) → o ≡ Some t
          → ((agreement P t.loan ≡ None) × IsSound S t) × (lines ≡ lines_of_agreement S t))
          → IfSome o (MayAgree L lines)
      new None each = tt
      new (Some t) each =
          let (agreed, are) = each t refl in
          let objects : map (λ (l : NewLine). l.object) lines ≡ objects_of S t =
          ap (map (λ (l : NewLine). l.object)) are ∙ objects_told t.loan Awaiting
          (objects_of S t) in
          record {
            once = subst AreOnce (sym objects)
                (numbers_once S t.objects agreed.1.known agreed.1.once);
            new =
                row_missing S P L t.loan is.kept.loans agreed.0;
          }

  -- the loan that the message continues has this number among the rows
  pub planned_loan : loan ≡ row_by L e.verdict e.message
  planned_loan =
      is.loan_is ∙ ap (λ codes. option_and_then
      (λ l. if is_applied e.verdict then position (bytes_eq l) codes else None) (loan_of e.message))
      (sym (ap (map (λ row. row.loan)) is.kept.loans ∙ codes_told S P))

  -- the rows of the loans after the entry
  loans_after : (L' : List LoanRow)
      → L' ≡ (if is_applied e.verdict then rows_with S L e.message lines else L)
      → L' ≡ loan_rows S (e ∷ P)
  loans_after L' l = l ∙ in_rows ∙ sym (rows_after_entry S N.depth P e is.follows is.kept.lawful)
    where
      in_rows : (if is_applied e.verdict then rows_with S L e.message lines else L)
          ≡ (if is_applied e.verdict then rows_with S (loan_rows S P) e.message
          (new_lines S P e.message) else loan_rows S P)
      in_rows = rw (is.kept.loans, is.lines_is)
          (elim (is_applied e.verdict) as
          (λ b. (if b then rows_with S (loan_rows S P) e.message
          (if b then new_lines S P e.message else []) else loan_rows S P)
          ≡ (if b then rows_with S (loan_rows S P) e.message (new_lines S P e.message) else
          loan_rows S P)) [ true ↦ refl | false ↦ refl ])

  -- the nest accepts the entry's put
  pub planned_put : IfSome put (λ p. (p.thing < N.things) × MayGo N p.thing p.to)
  planned_put =
      subst (λ o. IfSome o (λ p. (p.thing < N.things) × MayGo N p.thing p.to)) (sym is.put_is)
      (IfSome_then (put_by S P e.verdict e.message)
      (put_allowed S N.depth P e.verdict e.message is.kept.lawful is.follows.judged)
      (λ p allowed. may_go N S P p is.kept.things is.kept.places is.kept.nest allowed))

  -- and the carried things are those of the nest
  pub planned_carried : IfSome put
      (λ p. along ≡ carried_by (target_kept N.targets) N.things p.thing)
  planned_carried = kept_of put is.along_is
    where
      kept_of : (o : Option Put) → along ≡ carried_with S P o
          → IfSome o (λ p. along ≡ carried_by (target_kept N.targets) N.things p.thing)
      kept_of None told = tt
      kept_of (Some p) told =
          told ∙ sym (ap (λ n. carried_by (target_kept N.targets) n p.thing) is.kept.things
          ∙ ap (λ at. carried_by at (length S.things) p.thing) is.kept.nest.targets)

  module _ {M : Nested} (stands : (Q : List Put) → StandsFor N Q → StandsFor M (with_put put Q))
      (things : M.things ≡ N.things) (places : M.places ≡ N.places)
      (depth : M.depth ≡ N.depth) where
    -- the fields after the entry
    pub kept_after : {P' : List Entry} {R' : List (List Spot)} {L' : List LoanRow}
        {A' : List ℕ} {T' : List Standing} → P' ≡ e ∷ P
        → R' ≡ rows_after R news
        → L' ≡ (if is_applied e.verdict then rows_with S L e.message lines else L)
        → A' ≡ A ++ map (λ t. length P + 1) (option_to_list (agreement_by e.verdict e.message))
        → T' ≡ standings_with T e
        → IsKept S P' M R' L' A' T'
    kept_after {R'} {L'} {A'} {T'} p r l a t =
        subst (λ (K : List Entry). IsKept S K M R' L' A' T') (sym p) (record {
          lawful = subst (λ d. IsLawful S d (e ∷ P)) (sym depth) (is.follows, is.kept.lawful);
          things = things ∙ is.kept.things;
          places = places ∙ is.kept.places;
          nest = subst (λ o. StandsFor M (with_put o (puts S P))) is.put_is
              (stands (puts S P) is.kept.nest);
          rowed = ap length r ∙ rows_length R news ∙ is.kept.rowed;
          row = λ x less. ap (λ rs. row_of rs x) r ∙ ap (λ ns. row_of (rows_after R ns) x)
              is.news_is ∙ spots_after_entry S P N R L A T e is.kept x less;
          loans = loans_after L' l;
          agreed = a ∙ ap (λ ns. ns ++ map (λ t. length P + 1)
              (option_to_list (agreement_by e.verdict e.message))) is.kept.agreed;
          stations = ap length t ∙ as_many_standings T e ∙ is.kept.stations;
          standing = λ s known. ap (λ ts. slice_get ts s) t
              ∙ standing_next S N.depth P T e is.follows is.kept.stations is.kept.standing s known;
        })

    -- after an agreement that failed for lack of memory, the fields are as before
    pub kept_still : {P' : List Entry} {R' : List (List Spot)} {L' : List LoanRow}
        {A' : List ℕ} → is_some (agreement_in e.message) ≡ true → P' ≡ P → R' ≡ R → L' ≡ L
        → A' ≡ A → IsKept S P' M R' L' A' T
    kept_still {R'} {L'} {A'} agrees p r l a =
        subst (λ (K : List Entry). IsKept S K M R' L' A' T) (sym p) (record {
          lawful = subst (λ d. IsLawful S d P) (sym depth) is.kept.lawful;
          things = things ∙ is.kept.things;
          places = places ∙ is.kept.places;
          nest = subst (λ o. StandsFor M (with_put o (puts S P)))
              (is.put_is ∙ unplaced S P e.verdict e.message agrees)
              (stands (puts S P) is.kept.nest);
          rowed = ap length r ∙ is.kept.rowed;
          row = λ x less. ap (λ rs. row_of rs x) r ∙ is.kept.row x less;
          loans = l ∙ is.kept.loans;
          agreed = a ∙ is.kept.agreed;
          stations = is.kept.stations;
          standing = is.kept.standing;
        })

row_none : (n x : ℕ) → row_of (replicate n []) x ≡ []
row_none zero x = refl
row_none (suc n) zero = refl
row_none (suc n) (suc x) = row_none n x

-- the fields of a ledger with nothing posted
pub kept_new : {S : Museum} {n : ℕ} {P : List Entry} {N : Nested} {R : List (List Spot)}
    {L : List LoanRow} {A : List ℕ} {k : ℕ} {T : List Standing} → n ≡ length S.things
    → k ≡ length S.stations → P ≡ [] → StandsFor N [] → N.things ≡ length S.things
    → N.places ≡ length S.places → R ≡ replicate n [] → L ≡ []
    → A ≡ [] → T ≡ replicate k no_standing → IsKept S P N R L A T
kept_new {S} {n} {N} {R} {L} {A} {k} {T} same counted p nest things places r l a t =
    subst (λ (K : List Entry). IsKept S K N R L A T) (sym p) (record {
      lawful = tt;
      things = things;
      places = places;
      nest = nest;
      rowed = ap length r ∙ length-replicate n [] ∙ same;
      row = λ x less. ap (λ rs. row_of rs x) r ∙ row_none n x;
      loans = l;
      agreed = a;
      stations = ap length t ∙ length-replicate k _ ∙ counted;
      standing = λ s known. ap (λ ts. slice_get ts s) t
          ∙ standing_first k s (subst (λ m. s < m) (sym counted) known);
    })
