use Rattle.std.proofs.Common.{◌≡◌, IfOk, arith, inl, inr, rules, subst, sym}
use Rattle.std.proofs.lemmas.Bool.Decides.{not_from_Decides}
use Rattle.std.specs.Bool.{Decides}
use Rattle.sqlite.specs.Held.{state}
use Rattle.sqlite.specs.State.{HasCleanDisk}
use Rattle.register_sql.specs.Queries.{AreApart}
use Rattle.register_sql.specs.Says.{HasSetup}
use Rattle.register_sql.proofs.Rising.{trees_same}
use Rattle.register_sql.proofs.Steps.{reading_as, reading_then}
use Rattle.register_sql.proofs.profile.compare.Goals as goal

pub returns-then-not-same-clause-refused : goal.returns-then-not-same-clause-refused
returns-then-not-same-clause-refused g c clean =
    let db = (state g.S.Store c.args.conn.now).now.trees in
    not_from_Decides c.in-Ok.same
    (subst (λ a. IfOk a (λ b. Decides b (HasSetup c.args.setup.now c.args.made db))) c.in-Ok.is
    (c.in_ok-answer.ensures.told clean)) (search rules)

pub returns-then-made-wanted-clause-refused : goal.returns-then-made-wanted-clause-refused
returns-then-made-wanted-clause-refused g c clean =
    let db = (state g.S.Store c.args.conn.now).now.trees in
    let told = subst (λ a. IfOk a (λ b. Decides b (HasSetup c.args.setup.now c.args.made db)))
    c.in-Ok.is (c.in_ok-answer.ensures.told clean) in
    (told.0 (search rules), inl (search rules))

pub returns-then-not-apart-clause-refused : goal.returns-then-not-apart-clause-refused
returns-then-not-apart-clause-refused g c clean =
    let old = state g.S.Store c.args.conn.now in
    let mid = state g.S.Store c.has_setup.new.conn in
    let now : HasCleanDisk mid =
    omega (arith, clean, c.are_all_apart.ensures.reading.survives.clean) in
    let told = subst (λ a. IfOk a
    (λ b. Decides b (HasSetup c.args.setup.now c.args.made old.now.trees))) c.in-Ok.is
    (c.in_ok-answer.ensures.told now) in
    let wanted : c.args.made ≡ c.args.wanted = search rules in
    let other = not_from_Decides c.in_ok-apart.apart (c.in_ok-apart.ensures.told clean)
    (search rules) in (
      told.0 (search rules),
      inr (λ apart. other (subst (AreApart c.args.made)
          (sym (trees_same old mid (c.in_ok-answer.ensures.reading.same now)))
          (subst (λ k. AreApart k old.now.trees) (sym wanted) apart))),
    )

pub returns-clause-complete : goal.returns-clause-complete
returns-clause-complete g c clean =
    let old = state g.S.Store c.args.conn.now in
    let mid = state g.S.Store c.has_setup.new.conn in
    let now : HasCleanDisk mid =
    omega (arith, clean, c.are_all_apart.ensures.reading.survives.clean) in
    let told = subst (λ a. IfOk a
    (λ b. Decides b (HasSetup c.args.setup.now c.args.made old.now.trees))) c.in-Ok.is
    (c.in_ok-answer.ensures.told now) in
    let wanted : c.args.made ≡ c.args.wanted = search rules in
    let apart = (c.in_ok-apart.ensures.told clean).0 (search rules) in
    record {
      setup = told.0 (search rules);
      tables = wanted;
      apart = subst (λ k. AreApart k old.now.trees) wanted
          (subst (AreApart c.args.made)
          (trees_same old mid (c.in_ok-answer.ensures.reading.same now)) apart);
    }

pub returns-then-not-apart-clause-reading : goal.returns-then-not-apart-clause-reading
returns-then-not-apart-clause-reading g c =
    reading_then _ _ _ _ _ c.in_ok-answer.ensures.reading
    (reading_as _ _ _ _ c.in_ok-apart.ensures.reading)

pub returns-clause-reading : goal.returns-clause-reading
returns-clause-reading g c =
    reading_then _ _ _ _ _ c.in_ok-answer.ensures.reading
    (reading_as _ _ _ _ c.in_ok-apart.ensures.reading)
