use Rattle.sqlite.specs.Held.{state}
use Rattle.register_sql.specs.Stores.{in_store}
use Rattle.hub_core.proofs.PrepareLemmas.{still_on}
use Rattle.hub_program.proofs.store.newness_and_growths.Goals as goal

pub returns-in_err-growths : goal.returns-in_err-growths
returns-in_err-growths g c =
    still_on (in_store (state g.S.Store c.args.register.now.conn))
    (in_store (state g.S.Store c.is_new.new.self.conn))
    (in_store (state g.S.Store c.growths.new.self.conn))
    c.is_new.ensures.unchanged c.growths.ensures.unchanged

pub returns : goal.returns
returns g c =
    still_on (in_store (state g.S.Store c.args.register.now.conn))
    (in_store (state g.S.Store c.is_new.new.self.conn))
    (in_store (state g.S.Store c.growths.new.self.conn))
    c.is_new.ensures.unchanged c.growths.ensures.unchanged
