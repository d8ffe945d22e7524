-- Lists of strings, as values and as texts.
use Rattle.std.proofs.Common.{◌≡◌, ℕ, ◌<◌, ◌≤◌, ◌&&◌, nat_le, Bool, true, false, List, [], ◌∷◌}
use Rattle.std.proofs.Common.{length, map, get_or, Option, Some, None, option_and_then}
use Rattle.std.proofs.Common.{if◌then◌else◌, refl, sym, ap, ◌∙◌, le-leb, arith}
use Rattle.std.specs.Option.{option_map_or}
use Rattle.std.specs.List.{list_all}
use Rattle.std.proofs.lemmas.Bool.{and_from}
use Rattle.std.proofs.lemmas.Bool.Decides.{nat_tests}
use Rattle.std.proofs.lemmas.List.{length-map}
use Rattle.std.proofs.lemmas.List.Folds.{list_all-map, list_all_at}
use Rattle.serde_json.specs.Data.{Data, string}
use Rattle.serde_json.specs.Find.{as_array}
use Rattle.serde_json.specs.View.{items_of}
use Rattle.posting_core.specs.declared.TheConstants.{MOST_OBJECTS}
use Rattle.register_store.specs.declared.fault.ReadFault.{ReadFault}
use Rattle.register_store.specs.declared.fault.ReadFault.TheVariants.{BadField}
use Rattle.register_store.specs.declared.key.Key.{Key}
use Rattle.register_store.specs.Kinds.{is_string, are_strings, items_list, ◌lists◌, text_of}
use Rattle.register_store.specs.Kinds.{value_fault}

pub items_list-items_of : (ds : List Data) → items_list (items_of ds) ≡ ds
items_list-items_of [] = refl
items_list-items_of (d ∷ ds) = ap (λ (more : List Data). d ∷ more) (items_list-items_of ds)

when_amiss : (few all : Bool) (fault : ReadFault) → all ≡ false
    → (if few && all then None else Some fault) ≡ Some fault
when_amiss true all fault amiss = rw amiss
when_amiss false all fault amiss = refl

-- an array's fault is that of its items
pub list_fault : (key : Key) (test : List ℕ → Bool) (o : Option Data) (ds : List Data)
    → option_and_then as_array o ≡ Some (items_of ds)
    → value_fault (key lists test) o
    ≡ (if nat_le (length ds) MOST_OBJECTS && list_all (is_string test) ds then None else Some
    (BadField key))
list_fault key test None ds e = cc
list_fault key test (Some value) ds e = rw (e, items_list-items_of ds)

-- the texts of the items that exist
pub texts_there : (o : Option Data) (ds : List Data)
    → option_and_then as_array o ≡ Some (items_of ds)
    → option_map_or (λ found. map (λ value. text_of (Some value)) (items_list found))
    (option_and_then as_array o) [] ≡ map (λ value. text_of (Some value)) ds
texts_there o ds e = rw (e, items_list-items_of ds)

-- an item that is not valid
pub listed_amiss : (key : Key) (test : List ℕ → Bool) (o : Option Data) (ds : List Data)
    → option_and_then as_array o ≡ Some (items_of ds) → list_all (is_string test) ds ≡ false
    → value_fault (key lists test) o ≡ Some (BadField key)
listed_amiss key test o ds there amiss =
    list_fault key test o ds there ∙ when_amiss (nat_le (length ds) MOST_OBJECTS) _
    (BadField key) amiss

-- all items valid, and not too many
pub listed_right : (key : Key) (test : List ℕ → Bool) (o : Option Data) (ds : List Data)
    (texts : List (List ℕ)) → option_and_then as_array o ≡ Some (items_of ds)
    → list_all (is_string test) ds ≡ true
    → texts ≡ map (λ value. text_of (Some value)) ds → length texts ≤ MOST_OBJECTS
    → value_fault (key lists test) o ≡ None
listed_right key test o ds texts there right is few =
    let long = ap length is ∙ length-map ds (λ value. text_of (Some value)) in
    list_fault key test o ds there ∙ rw (le-leb (length ds) MOST_OBJECTS (omega arith), right)

-- all items valid, but too many
pub listed_many : (key : Key) (test : List ℕ → Bool) (o : Option Data) (ds : List Data)
    (texts : List (List ℕ)) → option_and_then as_array o ≡ Some (items_of ds)
    → texts ≡ map (λ value. text_of (Some value)) ds → MOST_OBJECTS < length texts
    → value_fault (key lists test) o ≡ Some (BadField key)
listed_many key test o ds texts there is many =
    let long = ap length is ∙ length-map ds (λ value. text_of (Some value)) in
    let more : nat_le (length ds) MOST_OBJECTS ≡ false = grind (arith, nat_tests) in
    list_fault key test o ds there ∙ rw more

-- an item that is not a valid string
pub one_amiss : {V : Type 0} (seen : V → Data) (test : List ℕ → Bool) (vs : List V) (i : ℕ) (v : V)
    → i < length vs → v ≡ get_or vs i v → is_string test (seen v) ≡ false
    → list_all (is_string test) (map seen vs) ≡ false
one_amiss {V} seen test vs i v within is amiss =
    list_all-map (is_string test) seen vs ∙ list_all_at (λ (w : V). is_string test (seen w)) vs i v
    within (ap (λ (w : V). is_string test (seen w)) (sym is) ∙ amiss)

all_strings : (test : List ℕ → Bool) (texts : List (List ℕ))
    → list_all (is_string test) (map string texts) ≡ list_all test texts
all_strings test texts = list_all-map (is_string test) string texts

-- texts that are valid, and not too many, are valid strings
pub strings_fit : (test : List ℕ → Bool) (texts : List (List ℕ)) → length texts ≤ MOST_OBJECTS
    → list_all test texts ≡ true → are_strings test (items_of (map string texts)) ≡ true
strings_fit test texts few all =
    rw (items_list-items_of (map string texts))
    (and_from _ _ (le-leb _ _ (omega (arith, length-map texts string)))
    (all_strings test texts ∙ all))

-- and are read back as they were written
pub texts_back : (texts : List (List ℕ))
    → map (λ value. text_of (Some value)) (items_list (items_of (map string texts))) ≡ texts
texts_back [] = refl
texts_back (text ∷ texts) = ap (λ (more : List (List ℕ)). text ∷ more) (texts_back texts)
