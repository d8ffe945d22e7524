use Rattle.std.proofs.Common.{arith}
use Rattle.std.proofs.Common.{◌≡◌, ◌∙◌, ◌++◌, [], List, Option, ap, sym, subst, refl, append-nil}
use Rattle.std.specs.Prelude.{map, reverse}
use Rattle.std.specs.Option.{option_to_list}
use Rattle.std.proofs.lemmas.Grind.{common_steps}
use Rattle.nest_core.specs.Museum.{Museum}
use Rattle.posting_core.specs.declared.entry.Entry.{Entry}
use Rattle.posting_core.specs.Lawful.{IsLawful}
use Rattle.station_core.specs.Series.{opened}
use Rattle.hub_core.specs.Openings.{IsJudgeFault}
use Rattle.hub_core.specs.StandsFor.{InStep}
use Rattle.hub_core.proofs.OpenLemmas.{fresh_step, entry_fault}
use Rattle.hub_core.proofs.Written.{if_err}
use Rattle.hub_core.proofs.hub.reposting.judged.Goals as goal

pub loop-entry-preserved : goal.loop-entry-preserved
loop-entry-preserved c = grind (arith, common_steps)

pub loop-entry-init : goal.loop-entry-init
loop-entry-init c =
    let L = c.args.ledger.now in
    let none : L.posted ≡ [] = c.requires in
    let starts = c.in_ok-starts.starts.items in
    record {
      museum = refl;
      depth = refl;
      list = sym c.reverse.ensures.items
          ∙ (sym (append-nil c.reverse.new.self.items)
          ∙ ap (λ (xs : List Entry). c.reverse.new.self.items ++ xs) (sym none));
      lawful = subst (λ (P : List Entry). IsLawful L.museum L.depth P) (sym none) tt;
      in_step = subst (λ (P : List Entry). InStep (map opened starts) L.museum P) (sym none)
          (subst (λ (S : Museum). InStep (map opened starts) S []) c.setup.ensures
          (fresh_step c.setup.result.now c.stations.result starts c.stations.ensures.count
          c.in_ok-starts.ensures));
    }

pub returns-in_err-judge_next-clause-cause : goal.returns-in_err-judge_next-clause-cause
returns-in_err-judge_next-clause-cause c =
    let inv = c.loop-entry.invariant in
    let L = c.args.ledger.now in
    let fault = c.in_err-judge_next.field-0.0 in
    if_err c.from_residual-in_err-judge_next.result
    (IsJudgeFault L.museum L.depth (reverse c.args.entries.items)) fault
    c.from_residual-in_err-judge_next.ensures.1
    (entry_fault L.museum L.depth c.loop-entry.ledger (reverse c.args.entries.items)
    c.loop-entry.left.items c.pop.new.self.items c.in-Some.entry fault inv.museum
    inv.depth inv.list
    (c.pop.ensures.items ∙ ap (λ (o : Option Entry). c.pop.new.self.items ++ option_to_list o)
    c.in-Some.is) inv.lawful c.in_err-judge_next.ensures.cause)
