-- Facts about the items that the rows of a further file list, and about the number of a row.
use Rattle.std.specs.Prelude.{◌≡◌, ℕ, ◌+◌, Bool, false, List, [], ◌∷◌, ◌++◌, Option, Some, None}
use Rattle.std.specs.Prelude.{refl}
use Rattle.std.specs.List.{list_any}
use Rattle.std.specs.Str.{bytes_eq}
use Rattle.std.proofs.Common.{ap, sym, subst, ◌∙◌}
use Rattle.indexmap.specs.IndexSet.{insert_key}
use Rattle.nest_core.specs.SetupRows.{Fields, item_of}
use Rattle.nest_core.specs.SetupGrowing.{Items, Taking, at_next, further_fault, is_among}
use Rattle.nest_core.specs.SetupGrowing.{taken_unless, with_further, with_item}
use Rattle.nest_core.specs.declared.grow_fault.GrowFault.{GrowFault}
use Rattle.nest_core.specs.declared.setup_row.SetupRow.{SetupRow}
use Rattle.nest_core.specs.declared.setup_row.SetupRow.TheVariants as lists

new_key : (keys : List (List ℕ)) (key : List ℕ) → list_any (bytes_eq key) keys ≡ false
    → insert_key bytes_eq keys key ≡ keys ++ key ∷ []
new_key keys key new = rw new refl

-- an item that isn't among the items of a set
absent : (view now : Items) (item same : SetupRow) → view ≡ now → item ≡ same
    → is_among now item ≡ false → is_among view same ≡ false
absent view now item same is of new =
    subst (λ i. is_among view i ≡ false) of (subst (λ m. is_among m item ≡ false) (sym is) new)

with_same : (view now : Items) (item same : SetupRow) → view ≡ now → item ≡ same
    → with_item view same ≡ with_item now item
with_same view now item same is of = ap (λ m. with_item m same) is ∙ ap (with_item now) (sym of)

pub station_added : (view now : Items) (item : SetupRow) (name : List ℕ) (keys : List (List ℕ))
    → view ≡ now → item ≡ lists.Station name → is_among now item ≡ false
    → keys ≡ insert_key bytes_eq view.stations name
    → record view { stations = keys } ≡ with_item now item
station_added view now item name keys is of new added =
    ap (λ ks. record view { stations = ks })
    (added ∙ new_key view.stations name (absent view now item (lists.Station name) is of new))
    ∙ with_same view now item (lists.Station name) is of

pub place_added : (view now : Items) (item : SetupRow) (code : List ℕ) (inside : Bool)
    (keys : List (List ℕ)) → view ≡ now → item ≡ lists.Place code inside
    → is_among now item ≡ false → keys ≡ insert_key bytes_eq view.places code
    → record view { places = keys } ≡ with_item now item
place_added view now item code inside keys is of new added =
    ap (λ ks. record view { places = ks })
    (added ∙ new_key view.places code (absent view now item (lists.Place code inside) is of new))
    ∙ with_same view now item (lists.Place code inside) is of

pub thing_added : (view now : Items) (item : SetupRow) (code : List ℕ) (normal : Option (List ℕ))
    (keys : List (List ℕ)) → view ≡ now → item ≡ lists.Thing code normal
    → is_among now item ≡ false → keys ≡ insert_key bytes_eq view.things code
    → record view { things = keys } ≡ with_item now item
thing_added view now item code normal keys is of new added =
    ap (λ ks. record view { things = ks })
    (added ∙ new_key view.things code (absent view now item (lists.Thing code normal) is of new))
    ∙ with_same view now item (lists.Thing code normal) is of

same_row : (T : Taking) (item : Option SetupRow) (fault : Option GrowFault)
    → (taken_unless T item fault).row ≡ T.row
same_row T None None = refl
same_row T (Some item) None = refl
same_row T item (Some fault) = refl

-- each row is counted
pub next_row : (T : Taking) (row : Fields) → (with_further T row).row ≡ T.row + 1
next_row T row = same_row (at_next T) (item_of row) (further_fault (at_next T) row)
