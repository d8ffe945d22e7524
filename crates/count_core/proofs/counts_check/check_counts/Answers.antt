use Rattle.std.proofs.Common.{◌≡◌, subst}
use Rattle.std.specs.Prelude.{IfOk}
use Rattle.nest_core.proofs.Tables.{is_text, no_text}
use Rattle.count_core.proofs.CountTexts.{no_text_faults, no_text_rows, text_faults, text_rows}
use Rattle.count_core.proofs.counts_check.check_counts.Goals as goal

pub returns-in_default-clause-rows : goal.returns-in_default-clause-rows
returns-in_default-clause-rows c =
    no_text_rows c.args.bytes.now (no_text c.args.bytes.now c.in_default.ensures.cases.0)

pub returns-in_default-clause-faults : goal.returns-in_default-clause-faults
returns-in_default-clause-faults c =
    no_text_faults c.args.bytes.now c.in_ok-faults.faults.items
    (no_text c.args.bytes.now c.in_default.ensures.cases.0) c.in_ok-faults.ensures.items

pub returns-clause-rows : goal.returns-clause-rows
returns-clause-rows c =
    subst (λ n. IfOk c.check_text.result (λ check. check.rows ≡ n))
    (text_rows c.args.bytes.now (is_text c.args.bytes.now c.in-Ok.ensures.cases.1))
    c.check_text.ensures.rows

pub returns-clause-faults : goal.returns-clause-faults
returns-clause-faults c =
    subst (λ faults. IfOk c.check_text.result (λ check. check.faults.items ≡ faults))
    (text_faults c.args.bytes.now (is_text c.args.bytes.now c.in-Ok.ensures.cases.1))
    c.check_text.ensures.faults
