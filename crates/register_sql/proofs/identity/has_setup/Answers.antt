use Rattle.std.proofs.Common.{◌≡◌, map, rules, subst}
use Rattle.std.specs.Bool.{Decides}
use Rattle.std.specs.List.Sorted.{IsPermutation}
use Rattle.std.specs.Prelude.{string_bytes}
use Rattle.nest_core.specs.SetupTexts.{setup_rows}
use Rattle.sqlite.specs.Held.{state}
use Rattle.register_sql.specs.Says.{setup_rows_shown, setup_in}
use Rattle.register_sql.proofs.identity.has_setup.Goals as goal

pub returns-clause-told : goal.returns-clause-told
returns-clause-told g c clean =
    let old = state g.S.Store c.args.conn.now in
    let texts = map string_bytes c.deref.result.now in
    let are : texts ≡ setup_rows c.args.setup.now = search rules in
    subst (λ ts. Decides c.in_ok-same.same
    (IsPermutation (setup_rows_shown ts) (setup_in c.args.made old.now.trees))) are
    (c.in_ok-same.ensures.told clean)
