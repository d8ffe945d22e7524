use Rattle.std.proofs.Common.{arith}
use Rattle.std.specs.Prelude.{string_bytes}
use Rattle.register_sql.proofs.SetupFiles.{all_written, more_file}
use Rattle.register_sql.proofs.stored_setup.plain_text.Goals as goal

pub rows-preserved : goal.rows-preserved
rows-preserved c S utf8 fits are =
    more_file S c.args.rows.now c.rows.i c.index-rows-i.result (string_bytes c.rows.file)
    (string_bytes c.add_line.new.file) c.in_ok-add_line.ensures.plain
    c.in_ok-add_line.ensures.growth utf8 fits are c.rows-test.true c.index-rows-i.is
    (c.rows.invariant S utf8 fits are)

pub returns : goal.returns
returns c S utf8 fits are =
    all_written S c.args.rows.now c.rows.i (string_bytes c.rows.file) are
    (omega (arith, c.rows-test.false)) (c.rows.invariant S utf8 fits are)
