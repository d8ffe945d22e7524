use Rattle.std.proofs.Common.{◌≡◌, false, rules}
use Rattle.register_sql.specs.Early.{is_early}
use Rattle.register_sql.proofs.Earlier.{late_is_wrong}
use Rattle.register_sql.proofs.version_one.early_entry.Goals as goal

pub returns-else-is_early-clause-wrong : goal.returns-else-is_early-clause-wrong
returns-else-is_early-clause-wrong c other p is =
    let late : is_early c.in-Ok.entry ≡ false = search rules in
    late_is_wrong c.args.stations c.args.number c.in-Ok.entry p (c.in-Ok.ensures.kept p is) late
