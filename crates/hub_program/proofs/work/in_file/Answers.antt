use Rattle.std.proofs.Common.{◌≡◌, ℕ, List, Option, Result, Ok, length, rules, subst, sym}
use Rattle.std.specs.Prelude.{OnOk}
use Rattle.std.proofs.lemmas.Result.{on_ok_weaker}
use Rattle.hub_core.specs.declared.outcome.Outcome.{Outcome}
use Rattle.nest_core.specs.Museum.{Museum}
use Rattle.register_store.specs.Holdings.{Holding}
use Rattle.work_core.specs.Works.{Did, FitsStations}
use Rattle.work_core.specs.declared.work.Work.{Work}
use Rattle.hub_program.specs.Places.{grown_by}
use Rattle.question_words.specs.Desk.{DeskAsks}
use Rattle.hub_program.proofs.work.in_file.Goals as goal

at_ok : {T E P : Type 0} (r : Result T E) (x : T) → r ≡ Ok x → OnOk r P → P
at_ok {P = P} r x is p = subst (λ r. OnOk r P) is p

pub do_work-register-requires-after_bounds : goal.do_work-register-requires-after_bounds
do_work-register-requires-after_bounds g c =
    let setup : c.in-Some.grown ≡ grown_by c.args.store.growths.items c.args.setup =
    c.in-Some.ensures.grown in
    let it : FitsStations (length c.in-Some.grown.stations) c.args.work =
    subst (λ S. FitsStations (length S.stations) c.args.work) (sym setup) c.requires in
    search (it, rules)

did_as : {R : Type 0} {holding : R → Holding} {S T : Museum} {before other after : R} {work : Work}
    {had_seen has_seen : List Outcome → Type 0} {i i' o o' l l' : Option (List ℕ)} → S ≡ T
    → before ≡ other → Did DeskAsks holding S before after work had_seen has_seen i i' o o' l l'
    → Did DeskAsks holding T other after work had_seen has_seen i i' o o' l l'
did_as {R} {holding} {S} {T} {before} {other} {after} {work} {had_seen} {has_seen} {i} {i'} {o}
    {o'} {l} {l'} setup register did =
    subst (λ M. Did DeskAsks holding M other after work had_seen has_seen i i' o o' l l') setup
    (subst (λ r. Did DeskAsks holding S r after work had_seen has_seen i i' o o' l l') register
    did)

pub returns-in-Ok-clause-done : goal.returns-in-Ok-clause-done
returns-in-Ok-clause-done g c =
    on_ok_weaker c.finish.result
    (λ kept. record {
      after = c.do_work-register.result.0;
      done = did_as c.in-Some.ensures.grown c.in-Some.ensures.register
          (at_ok c.do_work-register.result.1 c.in-Ok.field-0 c.in-Ok.is
          c.do_work-register.ensures.did);
      kept = kept;
    })
    c.finish.ensures.kept
