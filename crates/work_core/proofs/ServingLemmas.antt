-- A serving, and the ledger from which its log is printed.
use Rattle.std.proofs.Common.{◌≡◌, ℕ, List, [], length, map, sym, ap, ◌∙◌, subst, refl}
use Rattle.std.proofs.Common.{Result, Ok, Err, inl}
use Rattle.std.proofs.lemmas.List.{append-nil, map-id}
use Rattle.std.proofs.lemmas.List.Elements.{All-nil}
use Rattle.std.specs.Result.{OnErr}
use Rattle.hub_core.specs.StandsFor.{State, StandsFor}
use Rattle.register_store.specs.Holdings.{Holding}
use Rattle.nest_core.specs.Museum.{Museum}
use Rattle.serve_core.specs.declared.item.LogLine.{LogLine}
use Rattle.serve_core.specs.declared.serve_fault.ServeFault.{ServeFault}
use Rattle.serve_core.specs.declared.item.Item.{Item}
use Rattle.serve_core.specs.Logs.{AreOfStations, Serves}
use Rattle.serve_core.specs.Sending.{IsOneOf, IsMerge, AfterFault}
use Rattle.work_core.specs.Stops.{StopsServing}

-- The museum before, the one after and the ledger's are the same, and there are as many feeds as
-- stations.
module _ (S T U : Museum) (after : T ≡ S) (told : U ≡ T) (k n : ℕ) (feeds : k ≡ n)
    (count : n ≡ length S.stations) where
  as_many : k ≡ length U.stations
  as_many = feeds ∙ (count ∙ ap (λ (M : Museum). length M.stations) (sym (told ∙ after)))

  pub of_stations : (G H : List LogLine) → H ≡ G → AreOfStations k G
      → AreOfStations (length U.stations) H
  of_stations G H same are = subst (λ (m : ℕ). AreOfStations m H) as_many
      (subst (λ (L : List LogLine). AreOfStations k L) (sym same) are)

  pub named_there : (fault : ServeFault) → IsOneOf k fault → IsOneOf (length U.stations) fault
  named_there fault is = subst (λ (m : ℕ). IsOneOf m fault) as_many is

pub on_err_always : {T E P : Type 0} (r : Result T E) → P → OnErr r P
on_err_always (Ok x) p = tt
on_err_always (Err e) p = p

-- The items of the feeds are the feeds as contracts see them.
pub merge_of : (feeds : List (List Item)) (G : List LogLine) → IsMerge (map (λ f. f) feeds) G
    → IsMerge feeds G
merge_of feeds G is = subst (λ fs. IsMerge fs G) (map-id feeds) is

pub fault_of : {R : Type 0} (holding : R → Holding) (before after : State R)
    (feeds : List (List Item)) (G : List LogLine) (fault : ServeFault)
    → AfterFault holding before after (map (λ f. f) feeds) G fault
    → AfterFault holding before after feeds G fault
fault_of holding before after feeds G fault left =
    subst (λ fs. AfterFault holding before after fs G fault) (map-id feeds) left

-- A hub that took nothing has served an empty log.
pub serves_nothing : {R : Type 0} (holding : R → Holding) (hub : State R)
    → Serves holding hub hub []
serves_nothing holding hub =
    record {
      answers = record { museum = refl; depth = refl; placed = All-nil _; answered = λ O A is. tt };
      stands = λ O A is. subst (StandsFor holding hub O) (sym (append-nil A)) is;
    }

pub stopped_at_first : {R : Type 0} (holding : R → Holding) (hub : State R) (register : R)
    (feeds : List (List Item)) → hub.register ≡ register → StopsServing holding hub register feeds
stopped_at_first holding hub register feeds same =
    record {
      ended = hub;
      register_is = same;
      log = [];
      taken = inl (serves_nothing holding hub);
    }
