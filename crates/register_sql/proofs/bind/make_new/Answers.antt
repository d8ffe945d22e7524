use Rattle.std.proofs.Common.{◌≡◌, arith, rules, map}
use Rattle.std.proofs.lemmas.Bool.Decides.{not_from_Decides}
use Rattle.std.specs.Prelude.{string_bytes}
use Rattle.nest_core.specs.SetupTexts.{setup_rows}
use Rattle.sqlite.specs.Held.{state}
use Rattle.sqlite.specs.State.{HasCleanDisk}
use Rattle.register_store.specs.declared.store_fault.StoreFault.TheVariants.{NoMemory}
use Rattle.register_sql.proofs.Binds.{refused_as, new_survives, new_is_bound}
use Rattle.register_sql.proofs.Unfit.{memory_is_not_store, refused_unfit, new_unfit}
use Rattle.register_sql.proofs.bind.make_new.Goals as goal

pub returns-then-not-apart-clause-refused : goal.returns-then-not-apart-clause-refused
returns-then-not-apart-clause-refused g c clean =
    let S = c.args.setup.now in
    let old = state g.S.Store c.args.conn.now in
    let mid = state g.S.Store c.are_all_apart.new.conn in
    let early : HasCleanDisk old =
    omega (arith, clean, c.are_all_apart.ensures.reading.survives.clean) in
    let other = not_from_Decides c.in_ok-apart.apart (c.in_ok-apart.ensures.told clean)
    (search rules) in
    refused_unfit S old mid (c.in_ok-apart.ensures.reading.same clean)
    (new_unfit S c.args.made c.requires.few old (c.requires.part early)
    (c.requires.new early) other)

pub returns-in-Err-clause-refused : goal.returns-in-Err-clause-refused
returns-in-Err-clause-refused g c clean =
    let S = c.args.setup.now in
    let old = state g.S.Store c.args.conn.now in
    let mid = state g.S.Store c.are_all_apart.new.conn in
    let early : HasCleanDisk old =
    omega (arith, clean, c.are_all_apart.ensures.reading.survives.clean) in
    refused_as S c.args.made c.requires.few old mid NoMemory (c.requires.part early)
    (c.in_ok-apart.ensures.reading.same clean) (λ k held. tt) memory_is_not_store

pub returns-in_err-make_whole-clause-crash : goal.returns-in_err-make_whole-clause-crash
returns-in_err-make_whole-clause-crash g c =
    let old = state g.S.Store c.args.conn.now in
    let mid = state g.S.Store c.are_all_apart.new.conn in
    let new = state g.S.Store c.make_whole.new.conn in
    let S = c.args.setup.now in
    let texts = map string_bytes c.deref.result.now in
    let are : texts ≡ setup_rows S = search rules in
    new_survives S c.args.made c.requires.few old mid new texts are c.requires.part c.requires.new
    c.are_all_apart.ensures.reading.survives c.in_ok-apart.ensures.reading.same
    (λ clean. (c.in_ok-apart.ensures.told clean).0 (search rules)) c.make_whole.ensures.crash

pub returns-clause-bound : goal.returns-clause-bound
returns-clause-bound g c clean =
    let old = state g.S.Store c.args.conn.now in
    let mid = state g.S.Store c.are_all_apart.new.conn in
    let new = state g.S.Store c.make_whole.new.conn in
    let S = c.args.setup.now in
    let texts = map string_bytes c.deref.result.now in
    let are : texts ≡ setup_rows S = search rules in
    let now : HasCleanDisk mid = omega (arith, clean, c.make_whole.ensures.crash.clean) in
    new_is_bound S c.args.made c.requires.few old mid new texts are c.requires.part c.requires.new
    c.are_all_apart.ensures.reading.survives c.in_ok-apart.ensures.reading.same
    (λ k. (c.in_ok-apart.ensures.told k).0 (search rules)) now
    (c.in_ok-make_whole.ensures.made clean)

pub returns-clause-crash : goal.returns-clause-crash
returns-clause-crash g c =
    let old = state g.S.Store c.args.conn.now in
    let mid = state g.S.Store c.are_all_apart.new.conn in
    let new = state g.S.Store c.make_whole.new.conn in
    let S = c.args.setup.now in
    let texts = map string_bytes c.deref.result.now in
    let are : texts ≡ setup_rows S = search rules in
    new_survives S c.args.made c.requires.few old mid new texts are c.requires.part c.requires.new
    c.are_all_apart.ensures.reading.survives c.in_ok-apart.ensures.reading.same
    (λ clean. (c.in_ok-apart.ensures.told clean).0 (search rules)) c.make_whole.ensures.crash
