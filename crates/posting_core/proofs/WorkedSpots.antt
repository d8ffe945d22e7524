-- The one list of all things' spots, computed on two things with three spots, which a reader can
-- follow by hand.
use Rattle.std.specs.Prelude.{ℕ, ◌≡◌, ◌<◌, List, [], ◌∷◌, refl, All}
use Rattle.std.proofs.Common.{arith}
use Rattle.std.proofs.lemmas.List.Elements.{All-nil, All-cons}
use Rattle.std.proofs.lemmas.Option.{slice_get_within}
use Rattle.posting_core.specs.declared.entry.NewSpot.{NewSpot}
use Rattle.posting_core.specs.declared.spot_rows.KeptSpot.{KeptSpot}
use Rattle.posting_core.specs.declared.spot_rows.LastSpot.{LastSpot}
use Rattle.posting_core.specs.Rows.{rows_after}
use Rattle.posting_core.specs.SpotRows.{spots_at, LeadBack, IsLast}
use Rattle.posting_core.proofs.SpotRows.{rows_of}
use Rattle.posting_core.proofs.WorkedRows.{spot}

abbrev kept_spot : ℕ → ℕ → ℕ → KeptSpot
kept_spot number p before = record { spot = spot number p; before = before }

-- entry 4 brought thing 0 to place 5, entry 6 brought thing 1 there, and entry 7 brought thing 0 to
-- place 8
abbrev three : List KeptSpot
three = kept_spot 4 5 0 ∷ kept_spot 6 5 0 ∷ kept_spot 7 8 0 ∷ []

three-first : spots_at three 2 2 ≡ spot 4 5 ∷ spot 7 8 ∷ []
three-first = refl

three-second : spots_at three 1 1 ≡ spot 6 5 ∷ []
three-second = refl

-- the spots of thing 0 before its last
three-before : spots_at three 0 1 ≡ spot 4 5 ∷ []
three-before = refl

three-none : spots_at three 0 0 ≡ []
three-none = refl

-- the last spot of each, and how many it has
abbrev first : LastSpot
first = record { at = 2; count = 2 }

abbrev second : LastSpot
second = record { at = 1; count = 1 }

abbrev news : List NewSpot
news = record { thing = 0; k = 1; spot = spot 4 5 } ∷ record { thing = 1; k = 1; spot = spot 6 5 }
    ∷ record { thing = 0; k = 2; spot = spot 7 8 } ∷ []

three-rows : rows_of three (first ∷ second ∷ []) ≡ rows_after ([] ∷ [] ∷ []) news
three-rows = refl

three-lasts : All (IsLast three) (first ∷ second ∷ [])
three-lasts = All-cons (IsLast three) first (second ∷ [])
    (record { back = (kept_spot 7 8 0, refl, (kept_spot 4 5 0, refl, tt)); few = omega arith })
    (All-cons (IsLast three) second []
    (record { back = (kept_spot 6 5 0, refl, tt); few = omega arith }) (All-nil (IsLast three)))

-- a missing spot leads back to none
unled : LeadBack (kept_spot 4 5 0 ∷ []) 1 1 → ⊥
unled (s, is, back) = let less : 1 < 1 =
    slice_get_within (kept_spot 4 5 0 ∷ []) 1 s is in omega arith
