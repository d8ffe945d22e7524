-- Packing computed on worked rows: things in crates, crates in crates, and how deep they may go.
use Rattle.std.specs.Prelude.{ℕ, ◌≡◌, ◌++◌, true, false, List, [], ◌∷◌, Option, Some, None, map}
use Rattle.std.specs.Prelude.{reverse, refl, codes}
use Rattle.nest_core.specs.declared.put.Target.TheVariants.{At, Within}
use Rattle.nest_core.specs.declared.put.Put.{Put}
use Rattle.nest_core.specs.Museum.{Museum}
use Rattle.nest_core.specs.Puts.{contents}
use Rattle.posting_core.specs.declared.message.Message.{Message}
use Rattle.posting_core.specs.declared.message.Message.TheVariants.{Pack}
use Rattle.posting_core.specs.declared.verdict.Verdict.TheVariants.{Applied, UnknownThing}
use Rattle.posting_core.specs.declared.verdict.Verdict.TheVariants.{UnknownContainer, NotHere}
use Rattle.posting_core.specs.declared.verdict.Verdict.TheVariants.{ContainerNotHere, Cycle}
use Rattle.posting_core.specs.declared.verdict.Verdict.TheVariants.{TooDeep}
use Rattle.posting_core.specs.declared.entry.Entry.{Entry}
use Rattle.posting_core.specs.declared.entry.NewSpot.{NewSpot}
use Rattle.posting_core.specs.History.{puts, chain_at, carried_at, holds_at, spots}
use Rattle.posting_core.specs.Verdicts.{verdict, is_deep_with}
use Rattle.posting_core.specs.Book.{place_in, changes_of, asks_memory}
use Rattle.posting_core.proofs.WorkedRows.{museum, pack, s1, s1_a, s2, crate_1, crate_2, object_1}
use Rattle.posting_core.proofs.WorkedRows.{object_2, may, moved, run, run_in, verdicts, book, spot}
use Rattle.posting_core.proofs.WorkedRows.{put_at}

abbrev packed : List ℕ → List ℕ → Message
packed x c = Pack may x c

-- a thing's next spot
abbrev new : ℕ → ℕ → ℕ → ℕ → NewSpot
new x k number p = record { thing = x; k = k; spot = spot number p }

-- a thing put into a container
abbrev put_in : ℕ → ℕ → Option Put
put_in x c = Some (record { thing = x; to = Within c })

-- crate_in_crate: a crate with a crate in it is moved

abbrev nested : List Entry
nested = run [] (
    (pack, moved (codes "C1") (codes "S1"))
    ∷ (pack, moved (codes "C2") (codes "S1"))
    ∷ (pack, packed (codes "C2") (codes "C1"))
    ∷ [])

abbrev filled : List Entry
filled = run nested ((pack, packed (codes "2001.4.1") (codes "C2")) ∷ [])

abbrev crate_in_crate : List Entry
crate_in_crate = run filled ((pack, moved (codes "C1") (codes "S2")) ∷ [])

crate_in_crate-verdicts : verdicts crate_in_crate ≡ Applied ∷ Applied ∷ Applied ∷ Applied
    ∷ Applied ∷ []
crate_in_crate-verdicts = refl

crate_in_crate-chains : map (chain_at museum crate_in_crate)
    (crate_1 ∷ crate_2 ∷ object_1 ∷ object_2 ∷ []) ≡ [] ∷ (crate_1 ∷ [])
    ∷ (crate_2 ∷ crate_1 ∷ []) ∷ [] ∷ []
crate_in_crate-chains = refl

crate_in_crate-places : map (place_in (book crate_in_crate))
    (crate_1 ∷ crate_2 ∷ object_1 ∷ object_2 ∷ []) ≡ Some s2 ∷ Some s2 ∷ Some s2 ∷ None ∷ []
crate_in_crate-places = refl

crate_in_crate-spots : map (spots museum crate_in_crate) (crate_1 ∷ crate_2 ∷ object_1 ∷ []) ≡
    (spot 1 s1 ∷ spot 5 s2 ∷ []) ∷ (spot 2 s1 ∷ spot 5 s2 ∷ []) ∷ (spot 4 s1 ∷ spot 5 s2 ∷ []) ∷ []
crate_in_crate-spots = refl

crate_in_crate-carried : map (carried_at museum crate_in_crate) (crate_1 ∷ crate_2 ∷ object_1 ∷ [])
    ≡ (crate_1 ∷ crate_2 ∷ object_1 ∷ []) ∷ (crate_2 ∷ object_1 ∷ []) ∷ (object_1 ∷ []) ∷ []
crate_in_crate-carried = refl

-- carrying the things in a crate takes memory; an empty crate or an object takes none
crate_in_crate-holds : map (holds_at museum crate_in_crate) (crate_1 ∷ crate_2 ∷ object_1 ∷ [])
    ≡ true ∷ true ∷ false ∷ []
crate_in_crate-holds = refl

crate_in_crate-asks : map (asks_memory (book crate_in_crate))
    (moved (codes "C1") (codes "S1") ∷ moved (codes "2001.4.1") (codes "S1") ∷ moved (codes "C9")
    (codes "S1") ∷ []) ≡ true ∷ false ∷ false ∷ []
crate_in_crate-asks = refl

-- the things put directly into each
crate_in_crate-contents : map (contents (puts museum crate_in_crate)) (crate_1 ∷ crate_2 ∷ [])
    ≡ (crate_2 ∷ []) ∷ (object_1 ∷ []) ∷ []
crate_in_crate-contents = refl

crate_in_crate-puts : puts museum filled ≡
    record { thing = object_1; to = Within crate_2 }
    ∷ record { thing = crate_2; to = Within crate_1 } ∷ record { thing = crate_2; to = At s1 }
    ∷ record { thing = crate_1; to = At s1 } ∷ []
crate_in_crate-puts = refl

-- a Pack writes a spot for each thing that comes to another place with it, here the object's first
crate_in_crate-packing : changes_of (book nested) (packed (codes "2001.4.1") (codes "C2")) ≡
    record {
      entry = 4;
      verdict = Applied;
      put = put_in object_1 crate_2;
      carried = object_1 ∷ [];
      spots = new object_1 1 4 s1 ∷ [];
      loan = None;
      lines = [];
    }
crate_in_crate-packing = refl

-- and none if the container is at the same place
crate_in_crate-repacking : changes_of (book filled) (packed (codes "2001.4.1") (codes "C1")) ≡
    record {
      entry = 5;
      verdict = Applied;
      put = put_in object_1 crate_1;
      carried = object_1 ∷ [];
      spots = [];
      loan = None;
      lines = [];
    }
crate_in_crate-repacking = refl

-- a crate's Move writes a spot for each thing that it carries, with the next number in that thing's
-- list
crate_in_crate-moving : changes_of (book filled) (moved (codes "C1") (codes "S2")) ≡
    record {
      entry = 5;
      verdict = Applied;
      put = put_at crate_1 s2;
      carried = crate_1 ∷ crate_2 ∷ object_1 ∷ [];
      spots =
          new crate_1 2 5 s2 ∷ new crate_2 2 5 s2 ∷ new object_1 2 5 s2 ∷ [];
      loan =
          None;
      lines = [];
    }
crate_in_crate-moving = refl

-- packed again, each thing that moves with it has the next number in its own list
abbrev taken_apart : List Entry
taken_apart = run crate_in_crate
    ((pack, packed (codes "2001.4.2") (codes "C2")) ∷ (pack, moved (codes "C2") (codes "S1")) ∷ [])

taken_apart-packing : changes_of (book taken_apart) (packed (codes "C2") (codes "C1")) ≡
    record {
      entry = 8;
      verdict = Applied;
      put = put_in crate_2 crate_1;
      carried = crate_2 ∷ object_1 ∷ object_2 ∷ [];
      spots =
          new crate_2 4 8 s2 ∷ new object_1 4 8 s2 ∷ new object_2 3 8 s2 ∷ [];
      loan =
          None;
      lines = [];
    }
taken_apart-packing = refl

-- taken_out_of_a_crate: a thing that was taken out stays where it was put when the crate moves on

abbrev taken_out_of_a_crate : List Entry
taken_out_of_a_crate = run crate_in_crate (
    (pack, moved (codes "2001.4.1") (codes "S1-A"))
    ∷ (pack, moved (codes "C1") (codes "S1"))
    ∷ [])

taken_out_of_a_crate-spots : map (spots museum taken_out_of_a_crate)
    (crate_1 ∷ crate_2 ∷ object_1 ∷ []) ≡
    (spot 1 s1 ∷ spot 5 s2 ∷ spot 7 s1 ∷ []) ∷ (spot 2 s1 ∷ spot 5 s2 ∷ spot 7 s1 ∷ [])
    ∷ (spot 4 s1 ∷ spot 5 s2 ∷ spot 6 s1_a ∷ []) ∷ []
taken_out_of_a_crate-spots = refl

taken_out_of_a_crate-places : map (place_in (book taken_out_of_a_crate))
    (crate_1 ∷ crate_2 ∷ object_1 ∷ []) ≡ Some s1 ∷ Some s1 ∷ Some s1_a ∷ []
taken_out_of_a_crate-places = refl

taken_out_of_a_crate-chain : chain_at museum taken_out_of_a_crate object_1 ≡ []
taken_out_of_a_crate-chain = refl

taken_out_of_a_crate-carried : carried_at museum taken_out_of_a_crate crate_1 ≡ crate_1
    ∷ crate_2 ∷ []
taken_out_of_a_crate-carried = refl

taken_out_of_a_crate-contents : map (contents (puts museum taken_out_of_a_crate))
    (crate_1 ∷ crate_2 ∷ []) ≡ (crate_2 ∷ []) ∷ [] ∷ []
taken_out_of_a_crate-contents = refl

-- cycle: no crate goes into itself or into its contents

abbrev cycle : List Entry
cycle = run nested (
    (pack, packed (codes "C1") (codes "C2"))
    ∷ (pack, packed (codes "C1") (codes "C1"))
    ∷ (pack, moved (codes "C1") (codes "S1"))
    ∷ [])

cycle-verdicts : verdicts cycle ≡ Applied ∷ Applied ∷ Applied ∷ Cycle ∷ Cycle ∷ Applied ∷ []
cycle-verdicts = refl

cycle-numbers : reverse (map (λ e. e.n) cycle) ≡ 1 ∷ 2 ∷ 3 ∷ 4 ∷ 5 ∷ 6 ∷ []
cycle-numbers = refl

-- the refused Packs put nothing anywhere, and a Move to the crate's own place writes no spot
cycle-spots : map (spots museum cycle) (crate_1 ∷ crate_2 ∷ []) ≡ (spot 1 s1 ∷ [])
    ∷ (spot 2 s1 ∷ []) ∷ []
cycle-spots = refl

cycle-chains : map (chain_at museum cycle) (crate_1 ∷ crate_2 ∷ []) ≡ [] ∷ (crate_1 ∷ []) ∷ []
cycle-chains = refl

cycle-change : changes_of (book nested) (packed (codes "C1") (codes "C2"))
    ≡ record {
      entry = 4;
      verdict = Cycle;
      put = None;
      carried = [];
      spots = [];
      loan = None;
      lines = [];
    }
cycle-change = refl

-- too_deep: eight containers above a thing, under a limit of eight

-- eight more crates, at the end
abbrev crates : Museum
crates = record museum {
  things = museum.things
      ++ ((codes "C3", None) ∷ (codes "C4", None) ∷ (codes "C5", None) ∷ (codes "C6", None)
      ∷ (codes "C7", None) ∷ (codes "C8", None) ∷ (codes "C9", None)
      ∷ (codes "C10", None) ∷ []);
}

abbrev eight_deep : List Entry
eight_deep = run_in crates [] (
    (pack, moved (codes "C1") (codes "S1"))
    ∷ (pack, packed (codes "C2") (codes "C1"))
    ∷ (pack, packed (codes "C3") (codes "C2"))
    ∷ (pack, packed (codes "C4") (codes "C3"))
    ∷ (pack, packed (codes "C5") (codes "C4"))
    ∷ (pack, packed (codes "C6") (codes "C5"))
    ∷ (pack, packed (codes "C7") (codes "C6"))
    ∷ (pack, packed (codes "C8") (codes "C7"))
    ∷ (pack, packed (codes "2001.4.1") (codes "C8"))
    ∷ (pack, packed (codes "C9") (codes "C8"))
    ∷ [])

abbrev too_deep : List Entry
too_deep = run_in crates eight_deep (
    (pack, packed (codes "2001.4.2") (codes "C9"))
    ∷ (pack, moved (codes "C10") (codes "S2"))
    ∷ (pack, packed (codes "C1") (codes "C10"))
    ∷ [])

too_deep-verdicts : verdicts too_deep ≡ Applied ∷ Applied ∷ Applied ∷ Applied ∷ Applied ∷ Applied
    ∷ Applied ∷ Applied ∷ Applied ∷ Applied ∷ TooDeep ∷ Applied ∷ TooDeep ∷ []
too_deep-verdicts = refl

-- C8 to C3 have the numbers 11 to 6
too_deep-chain : chain_at crates too_deep object_1 ≡ 11 ∷ 10 ∷ 9 ∷ 8 ∷ 7 ∷ 6 ∷ crate_2
    ∷ crate_1 ∷ []
too_deep-chain = refl

too_deep-unplaced : spots crates too_deep object_2 ≡ []
too_deep-unplaced = refl

too_deep-carried : carried_at crates too_deep crate_1 ≡ crate_1 ∷ crate_2 ∷ object_1 ∷ 6 ∷ 7 ∷ 8 ∷ 9
    ∷ 10 ∷ 11 ∷ 12 ∷ []
too_deep-carried = refl

-- the first row of a Pack that holds: the thing, the container, the thing's place, the container's
-- place, the cycle, the depth

order-thing : verdict museum 8 [] (packed (codes "2009.1") (codes "2001.4.2")) ≡ UnknownThing
order-thing = refl

-- an object is not a container, and neither is a code that the setup doesn't have
order-container : map (λ c. verdict museum 8 [] (packed (codes "L1999.7") c))
    (codes "2001.4.2" ∷ codes "C9" ∷ []) ≡ UnknownContainer ∷ UnknownContainer ∷ []
order-container = refl

order-not_here : verdict museum 8 [] (packed (codes "L1999.7") (codes "C1")) ≡ NotHere
order-not_here = refl

-- a container without a place isn't here
order-container_not_here : map (λ x. verdict museum 8 [] (packed x (codes "C1")))
    (codes "2001.4.1" ∷ codes "C1" ∷ []) ≡ ContainerNotHere ∷ ContainerNotHere ∷ []
order-container_not_here = refl

-- if both the cycle and the depth rule it out, the verdict is the cycle
order-cycle : verdict crates 8 eight_deep (packed (codes "C1") (codes "C8")) ≡ Cycle
order-cycle = refl

order-cycle_and_depth : is_deep_with crates 8 eight_deep (codes "C1") (codes "C8") ≡ true
order-cycle_and_depth = refl
