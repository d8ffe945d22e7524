use Rattle.std.proofs.Common.{arith}
use Rattle.seal_core.proofs.PeakLemmas.{some_peaks, ArePeaks-set, ArePeaks-carry}
use Rattle.seal_core.proofs.builder.+add_peak.Goals as goal

pub returns-then-count-eq0 : goal.returns-then-count-eq0
returns-then-count-eq0 t c = λ d older newer held full is.
    ArePeaks-set d c.args.count c.args.peaks.now c.args.head older newer c.if-count-eq0.true
    (some_peaks c.args.count c.args.peaks.now c.requires) held full is

pub returns-else-count-eq0 : goal.returns-else-count-eq0
returns-else-count-eq0 t c = λ d older newer held full is.
    ArePeaks-carry d c.args.count c.args.peaks.now c.add_peak.new.peaks c.node_hash-pair.result
    c.args.head older newer (omega (arith, c.if-count-eq0.false))
    (some_peaks c.args.count c.args.peaks.now c.requires) c.node_hash-pair.ensures
    c.add_peak.ensures held full is
