use Rattle.std.proofs.Common.{Bor, List, ℕ, Some, ◌≡◌, ◌+◌, ◌<◌, ◌∙◌, arith, length, ap, inl}
use Rattle.csv.specs.Reading.{default_config, strip_bom}
use Rattle.csv.specs.Records.{fields_of}
use Rattle.csv.proofs.ReadFacts.{rows-end}
use Rattle.nest_core.proofs.CsvRows.{next_shorter, read_some}
use Rattle.nest_core.proofs.Reading.{spent, strip_few}
use Rattle.count_core.specs.CountRows.{counted}
use Rattle.count_core.proofs.CountProgress.{at_end, at_most_one, at_start, one_more}
use Rattle.count_core.proofs.counts_check.check_rows.Goals as goal

pub loop-before-init : goal.loop-before-init
loop-before-init c = (
  c.requires.reads.0,
  strip_bom c.args.bytes.now,
  c.requires.reads.2,
  rw (c.requires.no_rows, c.requires.no_faults, c.requires.reads.1)
      (at_start (strip_bom c.args.bytes.now)),
  omega (arith, strip_few c.args.bytes.now),
  omega (arith, c.requires.no_rows),
)

pub loop-before-preserved : goal.loop-before-preserved
loop-before-preserved c =
    let kept = c.loop-before.invariant in
    let takes = kept.0 in
    let read = rw c.in-Ok-true.field-0-test at (c.in-Ok-true.ensures.reads takes.0 takes.1) in
    let next = read_some (λ (s : Bor (List ℕ)). Some s.now) c.loop-before.reader
    c.read_byte_record.new.self (fields_of c.read_byte_record.new.row) kept.1 takes.2
    kept.2 read in
    let less : length next.0 < length kept.1 =
    next_shorter default_config _ kept.1 _ kept.3.rests next.2 in
    let added = c.in_ok-add_row-in-Ok-true.ensures in (
      (
        read.3 ∙ takes.0,
        inl (c.in-Ok-true.ensures.ready takes.0),
        read.2 ∙ takes.2,
        c.in-Ok-true.ensures.flexible ∙ takes.3,
      ),
      next.0,
      next.1,
      one_more (strip_bom c.args.bytes.now) c.loop-before.check.rows c.add_row.new.check.rows
          c.loop-before.check.faults.items c.add_row.new.check.faults.items c.loop-before.before
          _ kept.1 (fields_of c.read_byte_record.new.row) _ next.0 kept.3 next.2 added.rows
          added.faults,
      omega (arith, less, kept.4),
      omega (
        arith,
        added.rows,
        at_most_one (counted (fields_of c.read_byte_record.new.row)),
        kept.5,
      ),
    )

pub returns-in-Ok-false : goal.returns-in-Ok-false
returns-in-Ok-false c =
    let kept = c.loop-before.invariant in
    let takes = kept.0 in
    let read = rw c.in-Ok-false.field-0-test at (c.in-Ok-false.ensures.reads takes.0 takes.1) in
    let end = at_end (strip_bom c.args.bytes.now) c.loop-before.check.rows
    c.loop-before.check.faults.items c.loop-before.before _ kept.1 kept.3
    (rows-end (λ (s : Bor (List ℕ)). Some s.now) c.loop-before.reader c.read_byte_record.new.self _
    default_config kept.1 takes.2 kept.2 read) in
    record { rows = end.0; faults = end.1 }

pub returns : goal.returns
returns c =
    let kept = c.loop-before.invariant in
    let none : length kept.1 ≡ 0 = omega (arith, kept.4) in
    let end = at_end (strip_bom c.args.bytes.now) c.loop-before.check.rows
    c.loop-before.check.faults.items c.loop-before.before _ kept.1 kept.3
    (spent _ kept.1 kept.3.rests none) in
    record { rows = end.0; faults = end.1 }
