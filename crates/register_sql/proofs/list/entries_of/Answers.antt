use Rattle.std.proofs.Common.{◌≡◌, ◌+◌, rules, arith}
use Rattle.register_store.proofs.ListedRows.{all_next}
use Rattle.register_store.specs.Registers.{IsOfStation, IsWrongRow}
use Rattle.register_store.specs.StoredRows.{PostingRow, IsPostingRow}
use Rattle.register_sql.specs.Shown.{posting_shown}
use Rattle.register_sql.proofs.Postings.{next_listed, wrong_at, listed_all}
use Rattle.register_sql.proofs.list.entries_of.Goals as goal

pub rows-preserved : goal.rows-preserved
rows-preserved c =
    let rows = c.args.rows.now in
    let i = c.rows.i in
    let entry = c.in-Ok.entry in
    let row = c.index-rows-i.result in
    let keeps : (p : PostingRow) → posting_shown p ≡ row → IsPostingRow (i + 1) entry p =
    search rules in
    record {
      kept = λ ps are. next_listed c.rows.entries.items c.push.new.self.items rows ps i entry row
          are c.rows-test.true c.index-rows-i.is (search rules) keeps
          (c.rows.invariant.kept ps are);
      stationed = all_next (IsOfStation c.args.stations) c.rows.entries.items c.push.new.self.items
          entry (search rules) (search rules) c.rows.invariant.stationed;
    }

pub returns-in-Err-clause-faults : goal.returns-in-Err-clause-faults
returns-in-Err-clause-faults c other =
    let rows = c.args.rows.now in
    let i = c.rows.i in
    let row = c.index-rows-i.result in
    let wrong : (p : PostingRow) → posting_shown p ≡ row → IsWrongRow c.args.stations (i + 1) p =
    search rules in (
      i + 1,
      search rules,
      λ ps are. wrong_at c.args.stations rows ps i row c.rows.entries.items are
          c.rows-test.true c.index-rows-i.is (c.rows.invariant.kept ps are)
          c.rows.invariant.stationed wrong,
    )

pub returns-clause-kept : goal.returns-clause-kept
returns-clause-kept c ps are =
    listed_all c.rows.entries.items c.args.rows.now ps c.rows.i are
    (omega (arith, c.rows-test.false)) (c.rows.invariant.kept ps are)
