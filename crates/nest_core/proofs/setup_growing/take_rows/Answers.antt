use Rattle.std.proofs.Common.{Bor, List, ℕ, Some, ◌≡◌, ◌+◌, ◌<◌, ◌∙◌, arith, length, ap, inl}
use Rattle.csv.specs.Reading.{default_config, strip_bom}
use Rattle.csv.specs.Records.{fields_of}
use Rattle.csv.proofs.ReadFacts.{rows-end}
use Rattle.nest_core.proofs.CsvRows.{next_shorter, read_some}
use Rattle.nest_core.proofs.FurtherRows.{at_end, at_start, one_more}
use Rattle.nest_core.proofs.Reading.{spent, strip_few}
use Rattle.nest_core.proofs.Takings.{next_row}
use Rattle.nest_core.proofs.setup_growing.take_rows.Goals as goal

pub loop-before-init : goal.loop-before-init
loop-before-init c = (
  c.requires.reads.0,
  strip_bom c.args.bytes.now,
  c.requires.reads.2,
  rw c.requires.reads.1 (at_start (strip_bom c.args.bytes.now) c.args.taking.now),
  omega (arith, strip_few c.args.bytes.now),
  c.requires.first,
)

pub loop-before-preserved : goal.loop-before-preserved
loop-before-preserved c =
    let kept = c.loop-before.invariant in
    let takes = kept.0 in
    let read = rw c.in-Ok-true.field-0-test at (c.in-Ok-true.ensures.reads takes.0 takes.1) in
    let next = read_some (λ (s : Bor (List ℕ)). Some s.now) c.loop-before.reader
    c.read_byte_record.new.self (fields_of c.read_byte_record.new.row) kept.1 takes.2
    kept.2 read in
    let less : length next.0 < length kept.1 =
    next_shorter default_config _ kept.1 _ kept.3.rests next.2 in
    let with = c.in_ok-take_row-in-Ok-true.ensures.exact in (
      (
        read.3 ∙ takes.0,
        inl (c.in-Ok-true.ensures.ready takes.0),
        read.2 ∙ takes.2,
        c.in-Ok-true.ensures.flexible ∙ takes.3,
      ),
      next.0,
      next.1,
      one_more (strip_bom c.args.bytes.now) c.args.taking.now c.loop-before.taking
          c.take_row.new.self _ kept.1 (fields_of c.read_byte_record.new.row) _ next.0 kept.3
          next.2 with,
      omega (arith, less, kept.4),
      ap (λ T. T.row) with
          ∙ next_row c.loop-before.taking (fields_of c.read_byte_record.new.row)
          ∙ ap (λ n. n + 1) kept.5,
    )

pub returns-in-Ok-false-clause-exact : goal.returns-in-Ok-false-clause-exact
returns-in-Ok-false-clause-exact c =
    let kept = c.loop-before.invariant in
    let takes = kept.0 in
    let read = rw c.in-Ok-false.field-0-test at (c.in-Ok-false.ensures.reads takes.0 takes.1) in
    at_end (strip_bom c.args.bytes.now) c.args.taking.now c.loop-before.taking _ kept.1 kept.3
    (rows-end (λ (s : Bor (List ℕ)). Some s.now) c.loop-before.reader c.read_byte_record.new.self _
    default_config kept.1 takes.2 kept.2 read)

pub returns-clause-exact : goal.returns-clause-exact
returns-clause-exact c =
    let kept = c.loop-before.invariant in
    let none : length kept.1 ≡ 0 = omega (arith, kept.4) in
    at_end (strip_bom c.args.bytes.now) c.args.taking.now c.loop-before.taking _ kept.1 kept.3
    (spent _ kept.1 kept.3.rests none)
