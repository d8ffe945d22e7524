use Rattle.std.proofs.Common.{map, rules, refl}
use Rattle.std.specs.Prelude.{string_bytes}
use Rattle.sqlite.specs.Held.{state}
use Rattle.register_sql.proofs.Setups.{setup_told, setup_part, setup_gone}
use Rattle.register_sql.proofs.identity.has_texts.Goals as goal

pub returns-then-made-lt2-clause-told : goal.returns-then-made-lt2-clause-told
returns-then-made-lt2-clause-told g c clean =
    setup_gone c.are_setup.result (map string_bytes c.args.texts.now) c.args.made
    (state g.S.Store c.args.conn.now).now.trees (search rules) (search rules)

pub returns-clause-told : goal.returns-clause-told
returns-clause-told g c clean =
    let old = state g.S.Store c.args.conn.now in
    let texts = map string_bytes c.args.texts.now in
    setup_part c.are_setup-2.result texts c.args.made old.now.trees (search rules)
    (setup_told c.are_setup-2.result texts old.now.trees c.in_ok-rows.rows.items (search rules)
    (c.in_ok-rows.ensures.rows clean) (c.in_ok-rows.ensures.order clean refl))
