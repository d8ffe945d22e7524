use Rattle.std.proofs.Common.{[], refl}
use Rattle.std.proofs.KnownBytes.{Consumes-nil, Keeps-refl}
use Rattle.hub_core.specs.declared.replay_fault.ReplayFault.TheVariants.{NoMemory}
use Rattle.hub_core.proofs.ReplayLemmas.{under_start, fault_line, ends_fault}
use Rattle.hub_core.proofs.stream.lines.replay_from.Goals as goal

pub returns-in_default-clause-ends : goal.returns-in_default-clause-ends
returns-in_default-clause-ends g c =
    let i = g.R.Read.remaining c.args.input.now in
    let o = g.W.Write.contents c.args.output.now in
    let hub = c.args.hub.now in
    ends_fault g.S.Register.holding g.S.Register.refusals i i o o hub hub refl refl NoMemory
    (λ O A st. fault_line (under_start hub.book.museum hub.book.depth O A i o g.S.Register.holding
    hub st) i o ([], Consumes-nil i, tt) (Keeps-refl o) NoMemory) refl
