-- Defines the setup that a store holds, and the growths among its rows.
use Rattle.std.specs.Prelude.{ℕ, ◌≡◌, ◌≢◌, ◌==◌, ◌<◌, ◌≤◌, ◌^◌, ◌↔◌, ◌⊎◌, List, [], ◌∷◌, ◌++◌}
use Rattle.std.specs.Prelude.{length, map, All, None, codes}
use Rattle.std.specs.List.{before_first}
use Rattle.std.specs.List.Sorted.{IsPermutation}
use Rattle.std.specs.Str.{IsUtf8}
use Rattle.nest_core.specs.declared.TheConstants.{MOST_GROWTHS}
use Rattle.nest_core.specs.declared.growth.Growth.{Growth}
use Rattle.nest_core.specs.Museum.{Museum, NeverFell, listed_now}
use Rattle.nest_core.specs.SetupRows.{museum_of, rows_of, setup_fault}
use Rattle.nest_core.specs.SetupTexts.{growth_fields, joined, place_fields, setup_rows}
use Rattle.nest_core.specs.SetupTexts.{station_fields, thing_fields}
use Rattle.sqlite.specs.Effect.{Database}
use Rattle.sqlite.specs.Order.{Row}
use Rattle.register_store.specs.StoredRows.{Content, rows_of_setup}
use Rattle.register_sql.specs.Rows.{IsStored}
use Rattle.register_sql.specs.Says.{setup_rows_shown}
use Rattle.register_sql.specs.Tables.{IsNoStore}

-- The text of a growth's row.
abbrev pub growth_text : Growth → List ℕ
growth_text g = joined (growth_fields g)

-- The numbers of the growth fit in 32 bits, as those of every setup do.
pub record FitsGrowth (g : Growth) : Type 0 where
  pub after : g.after < 2 ^ 32
  pub places : g.listed.places < 2 ^ 32
  pub things : g.listed.things < 2 ^ 32

-- The first field of the row's text is not the word of a growth.
abbrev pub IsPlain : List ℕ → Type 0
IsPlain text = before_first (λ b. b == 44) text ≢ codes "grew"

-- The texts of the rows that list the stations, places and things.
abbrev pub plain_rows : Museum → List (List ℕ)
plain_rows S = map (λ name. joined (station_fields name)) S.stations
    ++ map (λ row. joined (place_fields row)) S.places
    ++ map (λ row. joined (thing_fields S row)) S.things

-- The setup file with these lines.
abbrev pub file_of : List (List ℕ) → List ℕ
file_of [] = []
file_of (text ∷ texts) = text ++ 10 ∷ file_of texts

-- The setup is read back from its rows: a file of those but the growths lists the same, and the
-- growths are possible ones of what it lists.
pub record ReadsBack (S : Museum) : Type 0 where
  pub texts : All IsUtf8 (plain_rows S)
  pub no_fault : setup_fault (file_of (plain_rows S)) ≡ None
  pub lists : museum_of (rows_of (file_of (plain_rows S))) ≡ record S { growths = [] }
  pub fits : All FitsGrowth S.growths
  pub few : length S.growths ≤ MOST_GROWTHS
  pub never_fell : NeverFell S.growths (listed_now S)

-- Read from the table `setup`, the rows are those of each setup that the database holds, and of no
-- other. Nothing is known of the rows of a database with other tables than a store's.
abbrev pub AreSetupRows : Database → List Row → Type 0
AreSetupRows db rows = IsNoStore db
    ⊎ ((S : Museum) (c : Content) → IsStored db.trees c
    → (rows ≡ setup_rows_shown (setup_rows S)) ↔ IsPermutation (rows_of_setup S) c.setup)

-- The database holds this setup.
abbrev pub HoldsSetup : Database → Museum → Type 0
HoldsSetup db S = IsNoStore db
    ⊎ ((c : Content) → IsStored db.trees c → IsPermutation (rows_of_setup S) c.setup)

-- The database holds no setup that is read back from its rows.
abbrev pub LacksSetup : Database → Type 0
LacksSetup db = IsNoStore db
    ⊎ ((S : Museum) (c : Content) → ReadsBack S → IsStored db.trees c
    → IsPermutation (rows_of_setup S) c.setup → ⊥)

-- These are the growths of each setup that the database holds.
abbrev pub AreGrowthsIn : Database → List Growth → Type 0
AreGrowthsIn db growths = IsNoStore db
    ⊎ ((S : Museum) (c : Content) → All FitsGrowth S.growths → IsStored db.trees c
    → IsPermutation (rows_of_setup S) c.setup → growths ≡ S.growths)
