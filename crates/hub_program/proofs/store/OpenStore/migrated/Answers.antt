use Rattle.std.proofs.Common.{◌≡◌, subst}
use Rattle.std.proofs.lemmas.Result.{on_ok_weaker}
use Rattle.register_sql.specs.Migrating.{Migrates}
use Rattle.register_sql.specs.Stores.{in_store}
use Rattle.register_store.specs.Holdings.{Comes}
use Rattle.sqlite.specs.Files.{file_state}
use Rattle.hub_program.specs.Places.{grown_by}
use Rattle.hub_program.proofs.store.OpenStore.migrated.Goals as goal

pub returns-in-Ok-clause-migrated : goal.returns-in-Ok-clause-migrated
returns-in-Ok-clause-migrated g c =
    let setup : c.in-Some.setup ≡ grown_by c.args.self.growths.items c.args.setup =
    c.in-Some.ensures.grown in
    let register : c.grown.new.self.register ≡ c.args.self.register =
    c.in-Some.ensures.register in
    let new = in_store (file_state c.migrate.new.self.conn) in
    on_ok_weaker c.close.result
    (λ kept. record {
      after = c.migrate.new.self;
      migrated = subst (λ r. Comes (in_store (file_state r.conn)) new
          (Migrates (grown_by c.args.self.growths.items c.args.setup))) register
          (subst (λ S. Comes (in_store (file_state c.grown.new.self.register.conn)) new
          (Migrates S)) setup c.in-Ok.ensures.migrated);
      kept = kept;
    })
    c.close.ensures.kept
