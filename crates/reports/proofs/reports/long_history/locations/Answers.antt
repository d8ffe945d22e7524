use Rattle.std.proofs.Common.{◌≡◌, ◌∙◌, ◌+◌, ◌<◌, ◌++◌, ◌∷◌, [], All, Global, IfSome, Vec, ap}
use Rattle.std.proofs.Common.{arith, filter, length, map, subst, sym}
use Rattle.std.proofs.lemmas.List.{append-nil}
use Rattle.std.proofs.lemmas.List.Elements.{All-push}
use Rattle.std.specs.Option.{option_to_list}
use Rattle.posting_core.specs.Book.{chain_in, spots_in}
use Rattle.posting_core.specs.Past.{upto}
use Rattle.reports.specs.declared.reports.long_history.Location.{Location}
use Rattle.reports.specs.LongHistory.{IsListed, IsSpotIn, location}
use Rattle.reports.proofs.Locations.{here, is_of, listed_later, locations_more}
use Rattle.reports.proofs.reports.long_history.locations.Goals as goal
use Rattle.reports.proofs.reports.long_history.locations.Goals.{in-Some+in_ok-containers+in_ok-push}
use Rattle.reports.proofs.reports.long_history.locations.Goals.{in_default}

pub loop-i-preserved : goal.loop-i-preserved
loop-i-preserved c =
    let L = c.args.ledger.now in
    let x = c.args.thing in
    let i = c.loop-i.i in
    let now = upto L (i + 1) in
    let new = c.newest_spot.result in
    let old = c.loop-i.found.items in
    let before = map (location L x) (spots_in (upto L i) x) in
    let within : i < length L.posted =
    omega (arith, c.loop-i-test.true, c.entry_count-i-end.ensures.count) in
    let posted : c.post_next.new.past ≡ now = c.in_ok-post_next.ensures in
    let own : option_to_list new ≡ filter (is_of (length now.posted)) (spots_in now x) =
    c.newest_spot.ensures.newest
    ∙ ap (λ B. filter (is_of (length B.posted)) (spots_in B x)) posted in
    let all : before ++ map (here now x) (option_to_list new)
    ≡ map (location L x) (spots_in now x) =
    ap (λ ss. before ++ map (here now x) ss) own ∙ sym (locations_more L x i within) in
    elim c.match-newest_spot.branch [
      | in-Some+in_ok-containers+in_ok-push w ↦
          let s = w.in-Some.spot in
          let above = w.in_ok-containers.containers in
          let l : Location = record { spot = s; containers = above } in
          let pushed : c.match-newest_spot.found.items ≡ old ++ l ∷ [] =
          ap (λ (v : Vec Location Global). v.items) w.found-is ∙ w.in_ok-push.ensures.items in
          let inside : above ≡ chain_in now x =
          w.in_ok-containers.ensures.chain ∙ ap (λ B. chain_in B x) posted in
          let here_then : l ≡ here now x s =
          ap (λ cs. let m : Location = record { spot = s; containers = cs } in m) inside in
          let added : before ++ l ∷ [] ≡ map (location L x) (spots_in now x) =
          ap (λ m. before ++ m ∷ []) here_then
          ∙ (ap (λ o. before ++ map (here now x) (option_to_list o)) (sym w.in-Some.is) ∙ all) in
          let spot_in : IsSpotIn c.post_next.new.past s =
          subst (λ o. IfSome o (IsSpotIn c.post_next.new.past)) w.in-Some.is
          c.newest_spot.ensures.listed in
          let listed : IsListed L l =
          listed_later L (i + 1) l (omega (arith, within))
          (subst (λ B. IsListed B l) posted (spot_in, w.in_ok-containers.ensures.within)) in
          record {
            so_far = posted;
            found = pushed ∙ (ap (λ ls. ls ++ l ∷ []) c.loop-i.invariant.found ∙ added);
            listed = subst (All (IsListed L)) (sym pushed)
                (All-push (IsListed L) old l c.loop-i.invariant.listed listed);
          }
      | in_default w ↦
          let same : c.match-newest_spot.found.items ≡ old =
          ap (λ (v : Vec Location Global). v.items) w.found-is in
          let none : before ≡ map (location L x) (spots_in now x) =
          sym (append-nil before)
          ∙ (ap (λ o. before ++ map (here now x) (option_to_list o)) (sym w.in_default.is) ∙ all)
          in
          record {
            so_far = posted;
            found = same ∙ (c.loop-i.invariant.found ∙ none);
            listed = subst (All (IsListed L)) (sym same) c.loop-i.invariant.listed;
          }
    ]
