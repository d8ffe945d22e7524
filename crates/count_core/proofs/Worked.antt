-- The definitions computed on worked rows.
use Rattle.std.specs.Prelude.{ℕ, ℤ, zero, suc, pos, ◌≡◌, ◌≢◌, Bool, true, false, List, [], ◌∷◌}
use Rattle.std.specs.Prelude.{Some, None, map, refl, codes}
use Rattle.posting_core.specs.declared.message.Message.TheVariants.{Pack, Agree, Authorise, Exit}
use Rattle.posting_core.specs.declared.message.Message.TheVariants.{Return, Receive, Extend}
use Rattle.posting_core.specs.declared.entry.Entry.{Entry}
use Rattle.posting_core.proofs.WorkedRows.{pack, gal, s1, s1_a, s2, museum_x, lender_y, crate_1}
use Rattle.posting_core.proofs.WorkedRows.{object_1, object_2, object_3, may, moved, run, book}
use Rattle.count_core.specs.declared.count_row.CountRow.{CountRow}
use Rattle.count_core.specs.declared.count_fault.CountFault.TheVariants.{BadFields, BadCode}
use Rattle.count_core.specs.declared.answer.CountAnswer.TheVariants.{UnknownPlace, Counted}
use Rattle.count_core.specs.declared.answer.CountAnswer.TheVariants.{UnknownObject, Again, Unplaced}
use Rattle.count_core.specs.declared.answer.CountAnswer.TheVariants.{Found, Elsewhere}
use Rattle.nest_core.specs.SetupRows.{Fields}
use Rattle.count_core.specs.CountRows.{counts_of, first_fault}
use Rattle.count_core.specs.Counts.{answers, missing}
use Rattle.count_core.specs.Inside.{list_at, outer_places, outer_of, is_unflagged_in, AreOuter}
use Rattle.count_core.specs.Reports.{overdue, away, in_place}

-- count_list: two objects on the shelf S1-A, one at S2

abbrev placed : List Entry
placed = run [] (
    (gal, moved (codes "2001.4.1") (codes "S1-A"))
    ∷ (gal, moved (codes "2001.4.3") (codes "S1-A"))
    ∷ (gal, moved (codes "2001.4.2") (codes "S2"))
    ∷ [])

abbrev row : List ℕ → List ℕ → CountRow
row place object = record { place = place; object = Some object }

abbrev counted_alone : List ℕ → CountRow
counted_alone place = record { place = place; object = None }

abbrev rows : List CountRow
rows =
    row (codes "S1") (codes "2001.4.1")
    ∷ row (codes "S1") (codes "2001.4.2")
    ∷ row (codes "S1") (codes "2001.4.1")
    ∷ row (codes "S1") (codes "2009.1")
    ∷ row (codes "S9") (codes "2001.4.2")
    ∷ row (codes "S1") (codes "L1999.7")
    ∷ counted_alone (codes "S2")
    ∷ []

count_list : answers (book placed) rows ≡ Found ∷ Elsewhere s2 ∷ Again ∷ UnknownObject
    ∷ UnknownPlace ∷ Unplaced ∷ Counted ∷ []
count_list = refl

count_list-missing : missing (book placed) rows ≡ record { place = s1; object = object_3 } ∷ []
count_list-missing = refl

-- A place that is named twice is reported once, and a row of an unknown place names its thing too.
count_list-once : missing (book placed)
    (counted_alone (codes "S1") ∷ row (codes "S9") (codes "2001.4.1") ∷ counted_alone
    (codes "S1") ∷ [])
    ≡ record { place = s1; object = object_3 } ∷ []
count_list-once = refl

count_list-in_place : in_place (book placed) (codes "S1") ≡ object_1 ∷ object_3 ∷ []
count_list-in_place = refl

-- the shelf S1-A lies in S1 and in itself
count_list-outer : outer_places (book placed).museum (codes "S1-A") ≡ s1 ∷ s1_a ∷ []
count_list-outer = refl

-- only known places are listed; segments count whole
count_list-outer_known : outer_places (book placed).museum (codes "S1-B") ≡ s1 ∷ []
count_list-outer_known = refl

count_list-outer_whole : outer_places (book placed).museum (codes "S10") ≡ []
count_list-outer_whole = refl

count_list-outer_each : map (outer_of (book placed).museum) (0 ∷ 1 ∷ 2 ∷ 3 ∷ 4 ∷ []) ≡ (s1 ∷ [])
    ∷ (s1 ∷ s1_a ∷ []) ∷ (s2 ∷ []) ∷ (museum_x ∷ []) ∷ (lender_y ∷ []) ∷ []
count_list-outer_each = refl

count_list-outer_none : outer_of (book placed).museum 5 ≡ []
count_list-outer_none = refl

-- the list of S1-A was needed, and no other
abbrev one_asked : List (List ℕ)
one_asked = [] ∷ (s1 ∷ s1_a ∷ []) ∷ [] ∷ [] ∷ [] ∷ []

count_list-asked : AreOuter (book placed).museum one_asked
count_list-asked = record { many = refl; each = each }
  where
    each : (p : ℕ) → list_at one_asked p ≢ []
        → list_at one_asked p ≡ outer_of (book placed).museum p
    each zero some = absurd (some refl)
    each (suc zero) some = refl
    each (suc (suc zero)) some = absurd (some refl)
    each (suc (suc (suc zero))) some = absurd (some refl)
    each (suc (suc (suc (suc zero)))) some = absurd (some refl)
    each (suc (suc (suc (suc (suc p))))) some = absurd (some refl)

-- the places around S2 aren't those around S1
count_list-asked_wrong : AreOuter (book placed).museum ((s2 ∷ []) ∷ [] ∷ [] ∷ [] ∷ [] ∷ []) → ⊥
count_list-asked_wrong h = absurd (let e = h.each 0 (λ none. cc) in cc)

-- two rows name the first object, and the objects 1 and 3 are in S1
abbrev first_flagged : List Bool
first_flagged = false ∷ false ∷ true ∷ false ∷ false ∷ false ∷ []

count_list-unflagged : map (is_unflagged_in (book placed) first_flagged s1)
    (object_1 ∷ object_2 ∷ object_3 ∷ []) ≡ false ∷ false ∷ true ∷ []
count_list-unflagged = refl

-- all three are at their normal places, or not
count_list-away : away (book placed) ≡ record { object = object_2; place = Some s2 } ∷ []
count_list-away = refl

-- own objects that were never placed are away
nothing_posted-away : away (book []) ≡ record { object = object_1; place = None }
    ∷ record { object = object_2; place = None } ∷ record { object = object_3; place = None } ∷ []
nothing_posted-away = refl

-- taken_out_of_a_crate: a crate in a crate, with an object in it that is then taken out
abbrev taken_out : List Entry
taken_out = run [] (
    (pack, moved (codes "C1") (codes "S1"))
    ∷ (pack, moved (codes "C2") (codes "S1"))
    ∷ (pack, Pack may (codes "C2") (codes "C1"))
    ∷ (pack, Pack may (codes "2001.4.1") (codes "C2"))
    ∷ (pack, moved (codes "C1") (codes "S2"))
    ∷ (pack, moved (codes "2001.4.1") (codes "S1-A"))
    ∷ (pack, moved (codes "C1") (codes "S1"))
    ∷ [])

taken_out_of_a_crate-in_place : in_place (book taken_out) (codes "S1") ≡ crate_1 ∷ 1 ∷ object_1 ∷ []
taken_out_of_a_crate-in_place = refl

-- containers are never missing
taken_out_of_a_crate-missing : missing (book taken_out) (counted_alone (codes "S1") ∷ [])
    ≡ record { place = s1; object = object_1 } ∷ []
taken_out_of_a_crate-missing = refl

-- nor unflagged
taken_out_of_a_crate-unflagged : is_unflagged_in (book taken_out) [] s1 crate_1 ≡ false
taken_out_of_a_crate-unflagged = refl

-- loan_out: an object leaves on the last day of its loan, which is overdue on the next day

abbrev may_31 : ℤ
may_31 = pos 19874

abbrev june_1 : ℤ
june_1 = pos 19875

abbrev june_30 : ℤ
june_30 = pos 19904

abbrev july_1 : ℤ
july_1 = pos 19905

abbrev loan : List ℕ
loan = codes "LO2024.1"

abbrev lent : List Entry
lent = run placed (
    (gal, Agree may may_31 loan (codes "MUSEUM-X") (codes "2001.4.1" ∷ []))
    ∷ (gal, Authorise (codes "Ada") loan)
    ∷ (gal, Exit may_31 (codes "2001.4.1") loan)
    ∷ [])

loan_out-in_time : overdue (book lent) may_31 ≡ []
loan_out-in_time = refl

loan_out-overdue : overdue (book lent) june_1 ≡ loan ∷ []
loan_out-overdue = refl

loan_out-away : away (book lent) ≡ record { object = object_1; place = Some museum_x }
    ∷ record { object = object_2; place = Some s2 } ∷ []
loan_out-away = refl

-- a loan whose objects are back is not overdue
loan_out-returned : overdue
    (book (run lent ((gal, Return june_1 (codes "2001.4.1") loan (codes "S1")) ∷ []))) june_1 ≡ []
loan_out-returned = refl

-- extend_tour: the last day is the extended one

abbrev extended : List Entry
extended = run lent ((gal, Extend june_30 loan) ∷ [])

extend_tour-in_time : overdue (book extended) june_30 ≡ []
extend_tour-in_time = refl

extend_tour-overdue : overdue (book extended) july_1 ≡ loan ∷ []
extend_tour-overdue = refl

-- loan_in: a borrowed object is here after the last day, until it is given back

abbrev loan_in : List ℕ
loan_in = codes "LI2024.1"

abbrev here : List Entry
here = run [] (
    (gal, Agree may may_31 loan_in (codes "LENDER-Y") (codes "L1999.7" ∷ []))
    ∷ (gal, Authorise (codes "Ada") loan_in)
    ∷ (gal, Receive may_31 (codes "L1999.7") loan_in (codes "S1"))
    ∷ [])

loan_in-overdue : overdue (book here) june_1 ≡ loan_in ∷ []
loan_in-overdue = refl

loan_in-given_back : overdue (book (run here ((gal, Exit june_1 (codes "L1999.7") loan_in) ∷ [])))
    june_1 ≡ []
loan_in-given_back = refl

-- count_faults: empty fields at the end of a row don't count, and a row without a field is skipped

abbrev read : List Fields
read =
    (codes "S1" ∷ codes "2001.4.1" ∷ [] ∷ [])
    ∷ ([] ∷ [] ∷ [])
    ∷ (codes "S2" ∷ [] ∷ [])
    ∷ []

count_faults-none : first_fault [] read ≡ None
count_faults-none = refl

count_faults-rows : counts_of read ≡ row (codes "S1") (codes "2001.4.1") ∷ counted_alone
    (codes "S2") ∷ []
count_faults-rows = refl

count_faults-fields : first_fault [] (([] ∷ []) ∷ (codes "S1" ∷ codes "C1" ∷ codes "x" ∷ []) ∷ [])
    ≡ Some (BadFields 2)
count_faults-fields = refl

count_faults-code : first_fault []
    ((codes "S1" ∷ codes "2001.4.1" ∷ []) ∷ (codes "S1" ∷ codes "C01" ∷ []) ∷ []) ≡ Some (BadCode 2)
count_faults-code = refl

-- a thing without a place
count_faults-place : first_fault [] (([] ∷ codes "2001.4.1" ∷ []) ∷ []) ≡ Some (BadCode 1)
count_faults-place = refl
