-- Defines where things are and have been, by looking back through the posted entries. The newest
-- entry comes first, so looking back is going down the list.
use Rattle.std.specs.Prelude.{ℕ, ℤ, ◌+◌, Bool, false, List, [], ◌∷◌, ◌++◌, length, Option, Some}
use Rattle.std.specs.Prelude.{None, if◌then◌else◌}
use Rattle.std.specs.Option.{option_map, option_map_or, option_to_list}
use Rattle.nest_core.specs.declared.put.Target.TheVariants.{At, Within}
use Rattle.nest_core.specs.declared.put.Put.{Put}
use Rattle.nest_core.specs.Museum.{Museum}
use Rattle.nest_core.specs.Puts.{with_put, chain, place, carried, holds_things}
use Rattle.nest_core.specs.Nest.{is_same_place}
use Rattle.posting_core.specs.declared.message.Message.{Message}
use Rattle.posting_core.specs.declared.message.Message.TheVariants.{Move, Pack, Exit, Return}
use Rattle.posting_core.specs.declared.message.Message.TheVariants.{Receive}
use Rattle.posting_core.specs.declared.verdict.Verdict.{Verdict}
use Rattle.posting_core.specs.declared.entry.Entry.{Entry}
use Rattle.posting_core.specs.declared.entry.Spot.{Spot}
use Rattle.posting_core.specs.Messages.{thing_no, place_no, day_of}
use Rattle.posting_core.specs.Agreements.{agreement}
use Rattle.posting_core.specs.VerdictNames.{is_applied}

-- Where a message puts its thing, after the entries P. An exit puts it at the place of the loan's
-- partner. Messages about a loan alone put nothing.
abbrev pub put_in : Museum → List Entry → Message → Option Put
put_in S P (Move day x p) = Some (record { thing = thing_no S x; to = At (place_no S p) })
put_in S P (Pack day x c) = Some (record { thing = thing_no S x; to = Within (thing_no S c) })
put_in S P (Exit day x loan) =
    option_map (λ t. record { thing = thing_no S x; to = At (place_no S t.partner) })
    (agreement P loan)
put_in S P (Return day x loan p) = Some (record { thing = thing_no S x; to = At (place_no S p) })
put_in S P (Receive day x loan p) = Some (record { thing = thing_no S x; to = At (place_no S p) })
put_in S P _ = None

-- Where a message puts its thing under this verdict. A refused message puts nothing.
abbrev pub put_by : Museum → List Entry → Verdict → Message → Option Put
put_by S P verdict m = if is_applied verdict then put_in S P m else None

-- The puts of all applied entries. `nest_core` defines where they leave each thing.
abbrev pub puts : Museum → List Entry → List Put
puts S [] = []
puts S (e ∷ P) = with_put (put_by S P e.verdict e.message) (puts S P)

-- The containers above a thing after the entries, innermost first.
abbrev pub chain_at : Museum → List Entry → ℕ → List ℕ
chain_at S P x = chain (length S.things) (puts S P) x

-- A thing's place after the entries: that of its outermost container.
abbrev pub place_at : Museum → List Entry → ℕ → Option ℕ
place_at S P x = place (length S.things) (puts S P) x

-- The thing and everything in it after the entries.
abbrev pub carried_at : Museum → List Entry → ℕ → List ℕ
carried_at S P x = carried (length S.things) (puts S P) x

-- Everything that moves with a put: its thing and the things in it. Empty if there is no put.
abbrev pub carried_with : Museum → List Entry → Option Put → List ℕ
carried_with S P put = option_map_or (λ p. carried_at S P p.thing) put []

-- The thing has something in it.
abbrev pub holds_at : Museum → List Entry → ℕ → Bool
holds_at S P x = holds_things (puts S P) x

-- The put moves something besides its thing.
abbrev pub takes_along : Museum → List Entry → Option Put → Bool
takes_along S P put = option_map_or (λ p. holds_at S P p.thing) put false

-- The spot that an entry adds for a thing, if it changes the thing's place. A spot records one
-- location of the thing: the entry, the place and the day.
abbrev pub spot_from : ℕ → Option ℕ → Option ℕ → Option ℤ → Option Spot
spot_from number before (Some p) (Some day) =
    if is_same_place before (Some p) then None
    else Some (record { entry = number; place = p; day = day })
spot_from number before (Some p) None = None
spot_from number before None day = None

-- A thing's spots, oldest first. The last is its current location; the others are its former ones.
-- An entry that names a crate adds spots for everything in it, also when the crate goes out on
-- loan.
abbrev pub spots : Museum → List Entry → ℕ → List Spot
spots S [] x = []
spots S (e ∷ P) x =
    spots S P x
    ++ option_to_list
    (spot_from (length P + 1) (place_at S P x) (place_at S (e ∷ P) x) (day_of e.message))
