use Rattle.std.proofs.Common.{◌≡◌, ap, arith, length, rules, subst, sym}
use Rattle.std.proofs.lemmas.List.{length-reverse}
use Rattle.nest_core.specs.SetupGrowing.{Extends}
use Rattle.hub_program.proofs.growing.grown.Goals as goal

pub print_growth-requires : goal.print_growth-requires
print_growth-requires g c =
    let before : c.setup-before.result.now ≡ c.in_ok-ledger.ledger.museum = search rules in
    subst (λ S. Extends S c.in_ok-ledger.further) (sym before) c.in_ok-ledger.ensures.extends

pub print_now_known-requires : goal.print_now_known-requires
print_now_known-requires g c =
    omega (
      arith,
      c.entry_count.ensures.count,
      c.entry_count.ensures.few,
      length-reverse c.posted.result.now,
      ap length c.posted.ensures,
    )
