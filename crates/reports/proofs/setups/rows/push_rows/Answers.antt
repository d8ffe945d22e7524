use Rattle.std.proofs.Common.{◌++◌, ◌+◌, ◌-◌, ◌∙◌, ◌≡◌, ap, append-nil, arith, drop, sym, take}
use Rattle.std.specs.Prelude.{Some, slice_get, string_bytes}
use Rattle.nest_core.specs.SetupTexts.{setup_rows}
use Rattle.reports.specs.Lines.{lines}
use Rattle.reports.proofs.SetupRows.{line_more, none_before}
use Rattle.reports.proofs.setups.rows.push_rows.Goals as goal

pub loop-i-init : goal.loop-i-init
loop-i-init c =
    sym (ap (λ rows. string_bytes c.args.text.now ++ lines c.args.mark.now rows)
    (none_before c.args.from (setup_rows c.args.setup.now))
    ∙ append-nil (string_bytes c.args.text.now))

pub loop-i-preserved : goal.loop-i-preserved
loop-i-preserved c =
    let rows = setup_rows c.args.setup.now in
    let i = c.loop-i.i in
    let same : (i + 1) - 1 ≡ i = omega arith in
    let at : slice_get rows i ≡ Some c.as_str.result.now =
    sym (ap (slice_get rows) same) ∙ (c.in_ok-row.ensures ∙ ap Some (sym c.as_str.ensures.value)) in
    line_more c.args.mark.now _ _ _ c.as_str.result.now rows c.args.from i c.loop-i.auto.i at
    c.loop-i.invariant c.in_ok-push_line.ensures

pub returns : goal.returns
returns c =
    let whole : c.loop-i.i ≡ c.args.to = omega arith in
    c.loop-i.invariant
    ∙ ap (λ i. string_bytes c.args.text.now
    ++ lines c.args.mark.now (drop c.args.from (take i (setup_rows c.args.setup.now)))) whole
