-- Worked examples: a crate holds three objects, and a loan lists two of them.
use Rattle.std.specs.Prelude.{ℤ, pos, ◌≡◌, ◌∷◌, [], List, ℕ, None, Some, codes, refl}
use Rattle.posting_core.specs.declared.entry.Entry.{Entry}
use Rattle.posting_core.specs.declared.message.Message.{Message}
use Rattle.posting_core.specs.declared.message.Message.TheVariants.{Agree, Authorise, Exit, Pack}
use Rattle.posting_core.specs.declared.verdict.Verdict.TheVariants.{Applied, NotListed, Repeated}
use Rattle.posting_core.specs.declared.verdict.Verdict.TheVariants.{TermOver, UnknownThing}
use Rattle.posting_core.specs.declared.verdict.Verdict.TheVariants.{WrongOwner, WrongStage}
use Rattle.posting_core.proofs.WorkedGrowth.{grown_museum}
use Rattle.posting_core.proofs.WorkedRows.{book, may, moved, pack, run}
use Rattle.posting_core.specs.declared.culprit.Culprit.TheVariants.{Thing, Loan}
use Rattle.posting_core.specs.Culprits.{culprit}

abbrev loan : List ℕ
loan = codes "LO2024.1"

-- A loan out to MUSEUM-X, from 2024-05-01 to 2024-05-31.
abbrev may_31 : ℤ
may_31 = pos 19874

abbrev agreed : List (List ℕ) → Message
agreed objects = Agree may may_31 loan (codes "MUSEUM-X") objects

abbrev leaves : List ℕ → ℤ → Message
leaves x day = Exit day x loan

-- Three objects in crate C1, and a loan of the first two.
abbrev packed : List Entry
packed = run [] (
    (pack, moved (codes "C1") (codes "S1"))
    ∷ (pack, Pack may (codes "2001.4.1") (codes "C1"))
    ∷ (pack, Pack may (codes "2001.4.2") (codes "C1"))
    ∷ (pack, Pack may (codes "2001.4.3") (codes "C1"))
    ∷ (pack, agreed (codes "2001.4.1" ∷ codes "2001.4.2" ∷ []))
    ∷ (pack, Authorise (codes "Ada") loan) ∷ [])

-- The third is taken out, and the crate leaves.
abbrev left : List Entry
left = run packed
    ((pack, moved (codes "2001.4.3") (codes "S2")) ∷ (pack, leaves (codes "C1") may) ∷ [])

-- The crate can't leave before: 2001.4.3, which is in it, is not on the loan. Neither is the crate,
-- but only objects cross.
not_listed : culprit (book packed) (leaves (codes "C1") may) NotListed
    ≡ Some (Thing (codes "2001.4.3"))
not_listed = refl

-- It has left with the other two. The first of them is named.
wrong_stage : culprit (book left) (leaves (codes "C1") may) WrongStage
    ≡ Some (Thing (codes "2001.4.1"))
wrong_stage = refl

-- Too late: the loan itself is the cause.
term_over : culprit (book packed) (leaves (codes "2001.4.1") (pos 19875)) TermOver
    ≡ Some (Loan loan)
term_over = refl

-- Of two codes that come again, the first.
repeated : culprit (book []) (agreed (codes "2001.4.3" ∷ codes "2001.4.2" ∷ codes "2001.4.1"
    ∷ codes "2001.4.1" ∷ codes "2001.4.2" ∷ [])) Repeated ≡ Some (Thing (codes "2001.4.2"))
repeated = refl

unknown : culprit (book []) (agreed (codes "2001.4.3" ∷ codes "2001.4.9" ∷ [])) UnknownThing
    ≡ Some (Thing (codes "2001.4.9"))
unknown = refl

-- 2009.1 is listed only after eight entries.
listed_later : culprit (record { museum = grown_museum; depth = 8; posted = [] })
    (agreed (codes "2001.4.3" ∷ codes "2009.1" ∷ [])) UnknownThing ≡ Some (Thing (codes "2009.1"))
listed_later = refl

-- A loan out can't list a borrowed object.
wrong_owner : culprit (book []) (agreed (codes "2001.4.3" ∷ codes "L1999.7" ∷ [])) WrongOwner
    ≡ Some (Thing (codes "L1999.7"))
wrong_owner = refl

applied : culprit (book []) (moved (codes "2001.4.1") (codes "S1")) Applied ≡ None
applied = refl
