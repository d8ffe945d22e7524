use Rattle.std.proofs.Common.{◌≡◌, ◌∙◌, ◌==◌, true, false, sym, arith, rules}
use Rattle.std.specs.List.{list_all}
use Rattle.std.proofs.lemmas.Bool.Decides.{nat_tests}
use Rattle.std.proofs.lemmas.Grind.{common_steps}
use Rattle.hub_core.specs.Tallies.{is_clean}
use Rattle.hub_core.proofs.TallyLemmas.{clean_of}
use Rattle.hub_core.proofs.tally.Tally.is_clean.Goals as goal

pub returns-then-are_zero-clause-counts : goal.returns-then-are_zero-clause-counts
returns-then-are_zero-clause-counts c =
    let t = c.args.self.now in
    let bad : (t.bad == 0) ≡ true = grind (arith, nat_tests) in
    let unknown : (t.unknown_station == 0) ≡ true = grind (arith, nat_tests) in
    let refused : list_all (λ n. n == 0) t.refused ≡ true = sym c.if-are_zero.ensures in
    rw (bad, unknown, refused) c.are_zero-then-are_zero.ensures

pub returns-then-are_zero-clause-seen : goal.returns-then-are_zero-clause-seen
returns-then-are_zero-clause-seen c = λ outcomes seen. returns-then-are_zero-clause-counts c
    ∙ clean_of _ outcomes seen

pub returns-else-are_zero-clause-seen : goal.returns-else-are_zero-clause-seen
returns-else-are_zero-clause-seen c = λ outcomes seen.
    let counts : c.are_zero.result ≡ is_clean c.args.self.now = search rules in
    counts ∙ clean_of _ outcomes seen

pub returns-then-self-gt0-clause-seen : goal.returns-then-self-gt0-clause-seen
returns-then-self-gt0-clause-seen c = λ outcomes seen.
    let counts : false ≡ is_clean c.args.self.now = grind (arith, common_steps) in
    counts ∙ clean_of _ outcomes seen
