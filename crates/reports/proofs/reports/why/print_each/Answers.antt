use Rattle.std.proofs.Common.{◌≡◌, ◌<◌, ◌+◌, length, subst, sym, arith}
use Rattle.std.proofs.KnownBytes.{Appends-nil, Appends-trans}
use Rattle.std.specs.Io.KnownBytes.{Appends}
use Rattle.reports.specs.declared.fault.PrintFault.TheVariants.{NoMemory}
use Rattle.reports.specs.Causes.{cause_rows_at}
use Rattle.reports.specs.Columns.{names_in}
use Rattle.reports.specs.Forms.{line_text}
use Rattle.reports.proofs.EachRows.{stops_at_entry, stops_through, text_all, text_more}
use Rattle.reports.proofs.LineEnds.{line_ends}
use Rattle.reports.proofs.WrittenText.{prints_err}
use Rattle.reports.proofs.reports.why.print_each.Goals as goal

pub loop-i-init : goal.loop-i-init
loop-i-init g c = (c.in_ok-before.ensures, Appends-nil (g.W.Write.contents c.args.out.now))

pub loop-i-preserved : goal.loop-i-preserved
loop-i-preserved g c =
    let L = c.args.ledger.now in
    let within : c.loop-i.i < length L.posted =
    omega (arith, c.loop-i-test.true, c.entry_count-i-end.ensures.count) in (
      c.in_ok-post_next.ensures,
      subst (Appends _ _) (sym (text_more (line_text c.args.form (names_in c.args.columns.now)
          c.args.columns.now.widths.items)
          (cause_rows_at L c.args.form c.args.asked.now) (length L.posted) c.loop-i.i within))
          (Appends-trans _ _ _ _ _ c.loop-i.invariant.1 c.in_ok-print_wanted.ensures),
    )

pub returns-in_err-print_wanted : goal.returns-in_err-print_wanted
returns-in_err-print_wanted g c =
    let L = c.args.ledger.now in
    let within : c.loop-i.i < length L.posted =
    omega (arith, c.loop-i-test.true, c.entry_count-i-end.ensures.count) in
    prints_err _ _ c.from_residual-in_err-print_wanted.result _ _
    c.from_residual-in_err-print_wanted.ensures.1
    (stops_at_entry _ _ _ _ (line_text c.args.form (names_in c.args.columns.now)
    c.args.columns.now.widths.items)
    (line_ends c.args.form (names_in c.args.columns.now) c.args.columns.now.widths.items)
    (cause_rows_at L c.args.form c.args.asked.now) (length L.posted) c.loop-i.i within
    c.loop-i.invariant.1 c.in_err-print_wanted.ensures)

pub returns-in_err-post_next : goal.returns-in_err-post_next
returns-in_err-post_next g c =
    let L = c.args.ledger.now in
    let within : c.loop-i.i < length L.posted =
    omega (arith, c.loop-i-test.true, c.entry_count-i-end.ensures.count) in
    prints_err _ _ c.from_residual-in_err-post_next.result _ NoMemory
    c.from_residual-in_err-post_next.ensures.1
    (stops_through _ _ NoMemory (line_text c.args.form (names_in c.args.columns.now)
    c.args.columns.now.widths.items)
    (line_ends c.args.form (names_in c.args.columns.now) c.args.columns.now.widths.items)
    (cause_rows_at L c.args.form c.args.asked.now) (length L.posted) (c.loop-i.i + 1)
    (subst (Appends _ _) (sym (text_more (line_text c.args.form (names_in c.args.columns.now)
    c.args.columns.now.widths.items)
    (cause_rows_at L c.args.form c.args.asked.now) (length L.posted) c.loop-i.i within))
    (Appends-trans _ _ _ _ _ c.loop-i.invariant.1 c.in_ok-print_wanted.ensures)))

pub returns : goal.returns
returns g c =
    let L = c.args.ledger.now in
    let whole : length L.posted ≡ c.loop-i.i =
    omega (arith, c.loop-i-test.false, c.loop-i.auto.i-end, c.entry_count-i-end.ensures.count) in
    subst (Appends _ _) (text_all (line_text c.args.form (names_in c.args.columns.now)
    c.args.columns.now.widths.items)
    (cause_rows_at L c.args.form c.args.asked.now) (length L.posted) c.loop-i.i whole)
    c.loop-i.invariant.1
