use Rattle.std.proofs.Common.{Bor, List, ℕ, Some, ◌≡◌, ◌∙◌, sym, ap, inl, inr, true, false}
use Rattle.csv.specs.Reading.{strip_bom}
use Rattle.csv.specs.Records.{fields_of}
use Rattle.csv.proofs.ReadFacts.{rows-end}
use Rattle.csv.specs.Reading.{default_config}
use Rattle.nest_core.proofs.CsvRows.{read_some}
use Rattle.nest_core.proofs.Outcomes.{match_err}
use Rattle.count_core.proofs.CountReading.{at_end, at_start, fault_here, one_more}
use Rattle.count_core.proofs.count_reader.read_rows.Goals as goal

pub loop-number-init : goal.loop-number-init
loop-number-init c =
    let made = c.from_reader-reader.ensures in
    let built = c.flexible.ensures in
    let named = c.has_headers.ensures in (
      rw (built, named) at made.trim ∙ c.new.ensures.trim,
      inr (inr (rw (built, named) at made.has_headers, made.headers)),
      rw (built, named) at made.config ∙ c.new.ensures.config,
      strip_bom c.args.bytes.now,
      made.source,
      rw (c.new-kept.ensures.items, made.state) (at_start (strip_bom c.args.bytes.now)),
    )

pub loop-number-preserved : goal.loop-number-preserved
loop-number-preserved c =
    let kept = c.loop-number.invariant in
    let found : c.in-Ok.found ≡ true = c.if-not-found.false in
    let read = rw found at (c.in-Ok.ensures.reads kept.0 kept.1) in
    let next = read_some (λ (s : Bor (List ℕ)). Some s.now) c.loop-number.reader
    c.read_byte_record.new.self (fields_of c.read_byte_record.new.row) kept.3 kept.2
    kept.4 read in (
      read.3 ∙ kept.0,
      inl (c.in-Ok.ensures.ready kept.0),
      read.2 ∙ kept.2,
      next.0,
      next.1,
      one_more (strip_bom c.args.bytes.now) c.loop-number.kept.items c.add_row.new.kept.items
          c.loop-number.number _ kept.3 _ _ next.0 kept.5 next.2 c.in_ok-add_row.ensures.ok.0
          c.in_ok-add_row.ensures.ok.1,
    )

pub returns-then-not-found : goal.returns-then-not-found
returns-then-not-found c =
    let kept = c.loop-number.invariant in
    let none : c.in-Ok.found ≡ false = c.if-not-found.true in
    let read = rw none at (c.in-Ok.ensures.reads kept.0 kept.1) in
    at_end (strip_bom c.args.bytes.now) c.loop-number.kept.items c.loop-number.number _
    kept.3 kept.5
    (rows-end (λ (s : Bor (List ℕ)). Some s.now) c.loop-number.reader c.read_byte_record.new.self _
    default_config kept.3 kept.2 kept.4 read)

pub returns-in_err-add_row : goal.returns-in_err-add_row
returns-in_err-add_row c =
    let kept = c.loop-number.invariant in
    let found : c.in-Ok.found ≡ true = c.if-not-found.false in
    let read = rw found at (c.in-Ok.ensures.reads kept.0 kept.1) in
    let next = read_some (λ (s : Bor (List ℕ)). Some s.now) c.loop-number.reader
    c.read_byte_record.new.self (fields_of c.read_byte_record.new.row) kept.3 kept.2
    kept.4 read in
    match_err c.from_residual.result _ _ _ c.from_residual.ensures.1 (λ fault gives. λ other.
    fault_here (strip_bom c.args.bytes.now) c.loop-number.kept.items c.loop-number.number _ kept.3 _
    _ next.0 fault kept.5 next.2
    (c.in_err-add_row.ensures.fault (λ e. other (gives ∙ e)) ∙ ap Some (sym gives)))
