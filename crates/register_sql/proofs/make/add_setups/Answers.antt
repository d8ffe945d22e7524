use Rattle.std.proofs.Common.{◌≡◌, ◌∷◌, get_or, subst, ap, arith, rules, drop, ◌+◌, map, refl, pos}
use Rattle.std.proofs.Common.{◌∙◌}
use Rattle.std.specs.Prelude.{string_bytes}
use Rattle.std.proofs.lemmas.List.{drop_all}
use Rattle.sqlite.specs.Held.{state}
use Rattle.sqlite.specs.State.{HasCleanDisk}
use Rattle.register_sql.specs.Making.{setup_from}
use Rattle.register_sql.proofs.Ends.{survives_on, survives_still, kept_still, kept_then, drop_next}
use Rattle.register_sql.proofs.Filled.{so_far_first, so_far_on, so_far_last}
use Rattle.register_sql.proofs.make.add_setups.Goals as goal

pub texts-init : goal.texts-init
texts-init g c =
    let old = state g.S.Store c.args.tx.now.conn.now in (
      refl,
      survives_still old (λ _. ⊥),
      λ clean. (
        kept_still old,
        so_far_first old
            (setup_from 1 (map string_bytes c.args.texts.now)) (c.requires clean),
      ),
    )

pub texts-preserved : goal.texts-preserved
texts-preserved g c =
    let old = state g.S.Store c.args.tx.now.conn.now in
    let mid = state g.S.Store c.texts.tx.conn.now in
    let new = state g.S.Store c.add_setup.new.tx.conn.now in
    let all = c.args.texts.now in
    let at = c.texts.at in (
      search rules,
      survives_on old mid new c.texts.invariant.1 c.add_setup.ensures.step.survives,
      λ clean.
          let early : HasCleanDisk mid = omega (arith, c.add_setup.ensures.step.survives.clean) in
          let had = c.texts.invariant.2 early in
          let text = c.index-texts-at.result in
          let is : get_or all at text ≡ text = search rules in
          let next : drop at all ≡ text ∷ drop (at + 1) all =
          subst (λ t. drop at all ≡ t ∷ drop (at + 1) all) is
          (drop_next all at text (omega (arith, c.texts-test.true))) in
          let rest = setup_from (at + 1 + 1) (map string_bytes (drop (at + 1) all)) in
          let bytes : c.as_str.result.now ≡ string_bytes text = search rules in
          let left : setup_from (at + 1) (map string_bytes (drop at all))
          ≡ record { id = pos (at + 1); text = c.as_str.result.now } ∷ rest =
          ap (λ l. setup_from (at + 1) (map string_bytes l)) next ∙ rw bytes refl in (
            kept_then old mid new had.0 (c.add_setup.ensures.step.kept clean),
            so_far_on old mid new (setup_from 1 (map string_bytes all))
                (setup_from (at + 1) (map string_bytes (drop at all))) rest
                (record { id = pos (at + 1); text = c.as_str.result.now }) left had.1
                (c.in_ok-add_setup.ensures.wrote clean),
          ),
    )

pub returns-clause-wrote : goal.returns-clause-wrote
returns-clause-wrote g c clean =
    let all = c.args.texts.now in
    let at = c.texts.at in
    so_far_last (state g.S.Store c.args.tx.now.conn.now) (state g.S.Store c.texts.tx.conn.now)
    (setup_from 1 (map string_bytes all)) (setup_from (at + 1) (map string_bytes (drop at all)))
    (ap (λ l. setup_from (at + 1) (map string_bytes l))
    (drop_all at all (omega (arith, c.texts-test.false)))) (c.texts.invariant.2 clean).1
