-- Which refused messages name something that is listed now, computed on worked rows. The setup
-- grows from `before` to `after`: 2024.9.1, C2 and S3 are new.
use Rattle.std.specs.Prelude.{◌≡◌, ◌++◌, ◌∷◌, [], List, ℕ, ℤ, Some, codes, false, length, pos, refl}
use Rattle.std.specs.Prelude.{true}
use Rattle.std.specs.Fmt.{digits}
use Rattle.posting_core.specs.declared.entry.Entry.{Entry}
use Rattle.posting_core.specs.declared.message.Message.{Message}
use Rattle.posting_core.specs.declared.message.Message.TheVariants.{Agree, Move, Pack}
use Rattle.posting_core.specs.declared.verdict.Verdict.{Verdict}
use Rattle.posting_core.specs.declared.verdict.Verdict.TheVariants.{Applied, UnknownContainer}
use Rattle.posting_core.specs.declared.verdict.Verdict.TheVariants.{UnknownPlace, UnknownThing}
use Rattle.posting_core.specs.Book.{Book}
use Rattle.posting_core.specs.Culprits.{culprit}
use Rattle.nest_core.specs.Museum.{Museum}
use Rattle.posting_core.specs.Named.{place_named, things_named}
use Rattle.reports.specs.NowKnown.{is_new_place, knows_all, new_code_of, now_known_text}
use Rattle.reports.proofs.WorkedGrowth.{before, after}

abbrev day : ℤ
day = pos 0

-- An entry of GAL.
abbrev gal : ℕ → Message → Verdict → Entry
gal n message verdict = record { station = 0; n = n; message = message; verdict = verdict }

-- Entry 2 names an object, entry 4 a place and entry 5 a crate that are new. Entry 3 names an
-- object that is not listed yet. Entry 6 took an object for a crate.
abbrev entries : List Entry
entries =
    gal 1 (Move day (codes "2001.4.1") (codes "S1")) Applied
    ∷ gal 2 (Move day (codes "2024.9.1") (codes "S1")) UnknownThing
    ∷ gal 3 (Move day (codes "2024.9.2") (codes "S1")) UnknownThing
    ∷ gal 4 (Move day (codes "2001.4.1") (codes "S3")) UnknownPlace
    ∷ gal 5 (Pack day (codes "2001.4.1") (codes "C2")) UnknownContainer
    ∷ gal 6 (Pack day (codes "2001.4.1") (codes "2024.9.1")) UnknownContainer ∷ []

now_known : now_known_text before after entries
    ≡ codes "entry 2 GAL 2 UnknownThing 2024.9.1: send it again under a new number\n"
    ++ codes "entry 4 GAL 4 UnknownPlace S3: send it again under a new number\n"
    ++ codes "entry 5 GAL 5 UnknownContainer C2: send it again under a new number\n"
unfolding digits
now_known = refl

-- An agreement is printed once all its objects are listed, for the first that was unknown.
abbrev agree : List (List ℕ) → List Entry
agree things =
    gal 1 (Agree day day (codes "LO2024.1") (codes "MUSEUM-X") things) UnknownThing ∷ []

agreement : now_known_text before after
    (agree (codes "2001.4.1" ∷ codes "2024.9.1" ∷ codes "C2" ∷ []))
    ≡ codes "entry 1 GAL 1 UnknownThing 2024.9.1: send it again under a new number\n"
unfolding digits
agreement = refl

one_lacking : now_known_text before after
    (agree (codes "2001.4.1" ∷ codes "2024.9.1" ∷ codes "2024.9.2" ∷ [])) ≡ []
one_lacking = refl

none : now_known_text before before entries ≡ []
none = refl

-- A new thing or place is what made the verdict true, in the record before the message.
new_thing : (B : Book) (T : Museum) (m : Message) → knows_all T (things_named m) ≡ true
    → knows_all B.museum (things_named m) ≡ false
    → new_code_of B.museum T (length B.posted) m UnknownThing ≡ culprit B m UnknownThing
new_thing B T m all some = rw (all, some) refl

new_place : (B : Book) (T : Museum) (m : Message) (code : List ℕ) → place_named m ≡ Some code
    → is_new_place B.museum T code ≡ true
    → new_code_of B.museum T (length B.posted) m UnknownPlace ≡ culprit B m UnknownPlace
new_place B T m code named new = rw (named, new) refl
