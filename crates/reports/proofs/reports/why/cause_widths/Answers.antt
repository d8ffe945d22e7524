use Rattle.std.proofs.Common.{◌≡◌, ◌∙◌, ◌<◌, ap, arith, length, map, sym}
use Rattle.reports.specs.declared.form.Form.TheVariants as form
use Rattle.reports.specs.Aligned.{column_widths, row_texts, wider, width}
use Rattle.reports.specs.Causes.{cause_rows_at}
use Rattle.reports.proofs.EachRows.{pieces_all}
use Rattle.reports.proofs.TableLemmas.{widened_by_entry, wider-none}
use Rattle.reports.proofs.reports.why.cause_widths.Goals as goal

pub loop-i-init : goal.loop-i-init
loop-i-init c = (
  c.in_ok-before.ensures,
  c.in_ok-widths.ensures ∙ sym (wider-none (map width (map (λ n. n.now) c.args.names.now))),
)

pub loop-i-preserved : goal.loop-i-preserved
loop-i-preserved c =
    let L = c.args.ledger.now in
    let within : c.loop-i.i < length L.posted =
    omega (arith, c.loop-i-test.true, c.entry_count-i-end.ensures.count) in (
      c.in_ok-post_next.ensures,
      widened_by_entry (map width (map (λ n. n.now) c.args.names.now))
          (cause_rows_at L form.Table c.args.asked.now) (length L.posted) c.loop-i.i
          c.loop-i.widths.items c.widen_to_wanted.new.widths.items within
          c.in_ok-widen_to_wanted.ensures c.loop-i.invariant.1,
    )

pub returns : goal.returns
returns c =
    let L = c.args.ledger.now in
    let whole : length L.posted ≡ c.loop-i.i =
    omega (arith, c.loop-i-test.false, c.loop-i.auto.i-end, c.entry_count-i-end.ensures.count) in
    c.loop-i.invariant.1
    ∙ ap (λ rs. wider (map width (map (λ n. n.now) c.args.names.now)) (column_widths rs))
    (pieces_all row_texts (cause_rows_at L form.Table c.args.asked.now) (length L.posted) c.loop-i.i
    whole)
