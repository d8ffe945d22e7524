use Rattle.std.proofs.Common.{subst, sym, arith}
use Rattle.std.proofs.KnownBytes.{Appends-nil, Appends-trans}
use Rattle.std.specs.Io.KnownBytes.{Appends}
use Rattle.std.specs.List.{flat_map, range_with_len}
use Rattle.page_core.specs.Histories.{history_text}
use Rattle.reports.proofs.WrittenSections.{writes_err}
use Rattle.reports.proofs.Ranges.{flat_more}
use Rattle.page_core.proofs.Sections.{stops_in_range}
use Rattle.page_core.proofs.histories.write_all.Goals as goal

pub loop-i-init : goal.loop-i-init
loop-i-init g c = (c.requires, Appends-nil (g.W.Write.contents c.args.out.now))

pub loop-i-preserved : goal.loop-i-preserved
loop-i-preserved g c = (
  c.in_ok-write_entry.ensures.after,
  subst (Appends _ _) (sym (flat_more (history_text c.args.ledger.now) c.loop-i.i))
      (Appends-trans _ _ _ _ _ c.loop-i.invariant.1 c.in_ok-write_entry.ensures.written),
)

pub returns-in_err-write_entry : goal.returns-in_err-write_entry
returns-in_err-write_entry g c =
    writes_err _ _ c.from_residual.result _ _ c.from_residual.ensures.1
    (stops_in_range _ _ _ (history_text c.args.ledger.now) _ c.loop-i.i
    (omega (arith, c.loop-i-test.true, c.entry_count-i-end.ensures.count)) c.loop-i.invariant.1
    c.in_err-write_entry.ensures.written)

pub returns : goal.returns
returns g c =
    subst (λ n. Appends (g.W.Write.contents c.args.out.now) (g.W.Write.contents c.loop-i.out)
    (flat_map (history_text c.args.ledger.now) (range_with_len 0 n)))
    (omega (arith, c.loop-i-test.false, c.loop-i.auto.i-end, c.entry_count-i-end.ensures.count))
    c.loop-i.invariant.1
