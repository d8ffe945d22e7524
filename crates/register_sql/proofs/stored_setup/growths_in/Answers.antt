use Rattle.std.proofs.Common.{◌≡◌, ◌++◌, ◌∷◌, [], Some, None, rules, subst, ◌∙◌, arith}
use Rattle.register_sql.proofs.StoredSetups.{Finds, found, next_some, next_none, read_all}
use Rattle.register_sql.proofs.stored_setup.growths_in.Goals as goal
use Rattle.register_sql.proofs.stored_setup.growths_in.Goals.{in-Some+in_ok-push, in_default}

pub rows-preserved : goal.rows-preserved
rows-preserved c S fits are =
    let i = c.rows.i in
    let finds = found S c.args.rows.now i c.index-rows-i.result c.growth_in.result
    c.growth_in.ensures.growth c.growth_in.ensures.plain fits are c.rows-test.true
    c.index-rows-i.is in
    let before = c.rows.invariant S fits are in
    elim c.match-growth_in.branch [
      | in-Some+in_ok-push w ↦
          let is : c.growth_in.result ≡ Some w.in-Some.growth = search rules in
          let one = next_some S i w.in-Some.growth c.rows.growths.items
          (subst (Finds S i) is finds) before in
          let more : c.match-growth_in.growths.items
          ≡ c.rows.growths.items ++ w.in-Some.growth ∷ [] = search rules in
          more ∙ one
      | in_default w ↦
          let is : c.growth_in.result ≡ None = search rules in
          let one = next_none S i c.rows.growths.items (subst (Finds S i) is finds) before in
          let same : c.match-growth_in.growths.items ≡ c.rows.growths.items = search rules in
          same ∙ one
    ]

pub returns : goal.returns
returns c S fits are =
    read_all S c.args.rows.now c.rows.i c.rows.growths.items are
    (omega (arith, c.rows-test.false)) (c.rows.invariant S fits are)
