-- Where objects are according to the loans, and how a ledger goes on, on worked rows.
use Rattle.std.specs.Prelude.{ℕ, ◌≡◌, ◌≢◌, true, false, cond, Bool, List, [], ◌∷◌, Some, None, map}
use Rattle.std.specs.Prelude.{refl, codes, if◌then◌else◌}
use Rattle.std.specs.Option.{option_map_or}
use Rattle.std.specs.Str.{bytes_eq}
use Rattle.std.proofs.Common.{ap, ◌∙◌, sym, arith, inl}
use Rattle.std.proofs.lemmas.Int.{ints}
use Rattle.std.proofs.lemmas.Option.{none-some}
use Rattle.std.proofs.lemmas.Slice.Eq.{bytes_eq-Decides}
use Rattle.nest_core.specs.Puts.{is_among}
use Rattle.posting_core.specs.declared.stage.LineStage.{LineStage}
use Rattle.posting_core.specs.declared.stage.LineStage.TheVariants.{Awaiting, Away, Back, Here}
use Rattle.posting_core.specs.declared.stage.LineStage.TheVariants.{GivenBack}
use Rattle.posting_core.specs.declared.entry.Entry.{Entry}
use Rattle.posting_core.specs.declared.verdict.Verdict.TheVariants.{NotAuthorised}
use Rattle.posting_core.specs.Agreements.{Agreement, agreement}
use Rattle.posting_core.specs.Loans.{objects_of, objects, stage}
use Rattle.posting_core.specs.Verdicts.{is_container_code}
use Rattle.posting_core.specs.Book.{line_in, last_day_in, changes_of}
use Rattle.posting_core.specs.Accountability.{IsUnderOne, partner_in, IsHome, IsLent, IsWithLender}
use Rattle.posting_core.specs.Accountability.{IsGuest, IsOver, AtEachApplied, IsAuthorised}
use Rattle.posting_core.specs.Accountability.{IsWithin, IsInTerm, AnswerAlike}
use Rattle.posting_core.specs.Onward.{later, spots_for, names_line, is_onward, goes_forward}
use Rattle.posting_core.specs.Onward.{MovesOn, LeavesUncrated}
use Rattle.posting_core.proofs.Refused.{unchanged}
use Rattle.posting_core.proofs.WorkedRows.{museum, museum_x, s2, object_1, object_2, object_3}
use Rattle.posting_core.proofs.WorkedRows.{borrowed, may, book, run, pack}
use Rattle.posting_core.proofs.WorkedLoansOut.{may_31, june_30, loan_1, leaves, spot_on, two_agreed}
use Rattle.posting_core.proofs.WorkedLoansOut.{three_packed, refused_unauthorised, ready, loan_out}
use Rattle.posting_core.proofs.WorkedLoansOut.{both_back, extend_tour}
use Rattle.posting_core.proofs.WorkedLoansIn.{loan_in_1, june_5, awaited, here}

-- loan_out: at first each object is home; then two leave in the crate, and the third stays home

three_packed-home : IsHome (book three_packed) object_1
three_packed-home = record { place = refl; loans = λ loan at. absurd (none-some _ at) }

-- a loan that isn't agreed has no line
other_loan : (P : List Entry) (agreed : List ℕ) (t : Agreement) (o : ℕ)
    → ((loan : List ℕ) → agreement P loan ≡ cond (bytes_eq loan agreed) (Some t) None)
    → (loan : List ℕ) → bytes_eq loan agreed ≡ false → line_in (book P) loan o ≡ None
other_loan P agreed t o found loan other =
    ap (λ u. if is_among o (option_map_or (objects_of museum) u []) then Some
    (stage museum P loan o) else None) (found loan ∙ ap (λ b. cond b (Some t) None) other)

only_loan : (P : List Entry) (agreed : List ℕ) (t : Agreement) (o : ℕ)
    → ((loan : List ℕ) → agreement P loan ≡ cond (bytes_eq loan agreed) (Some t) None)
    → (loan : List ℕ) {line : LineStage} → line_in (book P) loan o ≡ Some line → loan ≡ agreed
only_loan P agreed t o found loan {line} at =
    elim (bytes_eq loan agreed) as (λ b. bytes_eq loan agreed ≡ b → loan ≡ agreed) [
      | true ↦ λ h. (bytes_eq-Decides loan agreed).0 h
      | false ↦ λ h. absurd (none-some _ (sym (other_loan P agreed t o found loan h) ∙ at))
    ] refl

terms_out : Agreement
terms_out = record {
  loan = loan_1;
  partner = codes "MUSEUM-X";
  objects = codes "2001.4.1" ∷ codes "2001.4.2" ∷ [];
  first = may;
  last = may_31;
}

loan_out-away : IsUnderOne (book loan_out) Away object_1 loan_1
unfolding terms_out
loan_out-away =
    (refl, λ other at. only_loan loan_out loan_1 terms_out object_1 (λ loan. refl) other at)

loan_out-partner : partner_in (book loan_out) loan_1 ≡ Some museum_x
loan_out-partner = refl

loan_out-lent : IsLent (book loan_out) object_1
loan_out-lent = record {
  loan = loan_1;
  loan_out = refl;
  away = loan_out-away;
  partner = museum_x;
  agreed = refl;
  place = refl;
  elsewhere = refl;
}

-- things leave under an authorised loan, by its last day
loan_out-authorised : IsAuthorised ready (leaves (codes "C1") loan_1 may_31)
loan_out-authorised = refl

loan_out-within : IsWithin ready loan_1 may_31
loan_out-within = (may_31, refl, grind (arith, ints))

loan_out-in_term : IsInTerm ready (leaves (codes "C1") loan_1 may_31)
loan_out-in_term = λ out. loan_out-within

-- the same for each applied entry, here the move of a thing
three_packed-each : AtEachApplied IsAuthorised three_packed
three_packed-each = (λ h. tt, (λ h. tt, (λ h. tt, (λ h. tt, tt))))

-- an exit under the draft is refused, and changes no answer

abbrev drafted : List Entry
drafted = run three_packed ((pack, two_agreed) ∷ [])

abbrev refused : Entry
refused = record {
  station = pack;
  n = 6;
  message = leaves (codes "C1") loan_1 may;
  verdict = NotAuthorised;
}

refused_unauthorised-alike : AnswerAlike (book refused_unauthorised) (book drafted)
refused_unauthorised-alike = unchanged (book drafted) refused refl

-- returned_piece_by_piece: nothing more is owed for a line that is back
both_back-over : IsOver Back
both_back-over = inl refl

-- loan_in: the object is with its lender until it arrives, and then a guest

awaited-with_lender : IsWithLender (book awaited) borrowed
awaited-with_lender =
    record {
      place = tt;
      loans = λ loan. not_here
          (is_among borrowed (objects museum awaited loan));
    }
  where
    not_here : (b : Bool) → (if b then Some Awaiting else None) ≢ Some Here
    not_here true at = let same : Some Awaiting ≡ Some Here = at in cc
    not_here false at = absurd (none-some _ at)

terms_in : Agreement
terms_in = record {
  loan = loan_in_1;
  partner = codes "LENDER-Y";
  objects = codes "L1999.7" ∷ [];
  first = may;
  last = may_31;
}

here-here : IsUnderOne (book here) Here borrowed loan_in_1
unfolding terms_in
here-here = (refl, λ other at. only_loan here loan_in_1 terms_in borrowed (λ loan. refl) other at)

here-guest : IsGuest (book here) borrowed
here-guest = record {
  loan = loan_in_1;
  loan_in = refl;
  here = here-here;
  at = s2;
  place = refl;
  inside = refl;
}

-- how a ledger goes on

ready-later : later (book []) loan_out ≡ book loan_out
ready-later = refl

loan_out-spots_for : map (spots_for (changes_of (book ready) (leaves (codes "C1") loan_1 may_31)))
    (object_1 ∷ object_3 ∷ []) ≡ (spot_on 11 museum_x may_31 ∷ []) ∷ [] ∷ []
loan_out-spots_for = refl

loan_out-names_line : map (names_line (changes_of (book ready) (leaves (codes "C1") loan_1 may_31))
    loan_1) (object_1 ∷ object_2 ∷ object_3 ∷ []) ≡ true ∷ true ∷ false ∷ []
loan_out-names_line = refl

-- a line goes from awaited to away to back, and never the other way
loan_out-forward : map (λ P. goes_forward (line_in (book ready) loan_1 object_1)
    (line_in (book P) loan_1 object_1)) (ready ∷ loan_out ∷ both_back ∷ three_packed ∷ []) ≡ true
    ∷ true ∷ true ∷ false ∷ []
loan_out-forward = refl

loan_out-onward : map (is_onward Away) (Awaiting ∷ Away ∷ Back ∷ Here ∷ GivenBack ∷ []) ≡ false
    ∷ true ∷ true ∷ false ∷ false ∷ []
loan_out-onward = refl

-- extend_tour: the last day becomes later
extend_tour-moves_on : MovesOn (last_day_in (book loan_out) loan_1)
    (last_day_in (book extend_tour) loan_1)
extend_tour-moves_on = (june_30, refl, grind (arith, ints))

-- under the loan in an object leaves; C1 is none
loan_in-uncrated : LeavesUncrated here (leaves (codes "L1999.7") loan_in_1 june_5)
loan_in-uncrated = λ loan_in. refl

crate-is_crate : is_container_code (codes "C1") ≡ true
crate-is_crate = refl
