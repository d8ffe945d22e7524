use Rattle.std.proofs.Common.{Bor, List, Some, ap, false, inl, inr, true, ℕ, ◌≡◌, ◌∙◌}
use Rattle.csv.specs.Reading.{strip_bom}
use Rattle.csv.specs.Records.{fields_of}
use Rattle.csv.specs.declared.parser.Config.{Config}
use Rattle.csv.proofs.ReadFacts.{rows-end}
use Rattle.table_core.specs.Sheets.{parted_by, texts_of}
use Rattle.table_core.proofs.CsvRows.{read_some}
use Rattle.table_core.proofs.Rows.{at_end, at_start, one_more, texts_push}
use Rattle.table_core.proofs.sheet_reader.read_rows.Goals as goal

pub loop-turn-init : goal.loop-turn-init
loop-turn-init c =
    let made = c.from_reader-reader.ensures in
    let parted = c.delimiter.ensures in
    let built = c.flexible.ensures in
    let named = c.has_headers.ensures in
    let cfg = parted_by c.args.separator in
    let text = strip_bom c.args.bytes.now in (
      rw (parted, built, named) at made.trim ∙ c.new.ensures.trim,
      inr (inr (rw (parted, built, named) at made.has_headers, made.headers)),
      rw (parted, built, named) at made.config
          ∙ ap (λ (it : Config). record it { delimiter = c.args.separator }) c.new.ensures.config,
      text,
      made.source,
      rw (c.new-rows.ensures.items, made.state) (at_start cfg text),
    )

pub loop-turn-preserved : goal.loop-turn-preserved
loop-turn-preserved c =
    let kept = c.loop-turn.invariant in
    let cfg = parted_by c.args.separator in
    let text = strip_bom c.args.bytes.now in
    let found : c.in-Ok.found ≡ true = c.if-not-found.false in
    let read = rw found at (c.in-Ok.ensures.reads kept.0 kept.1) in
    let next = read_some (λ (s : Bor (List ℕ)). Some s.now) c.loop-turn.reader
    c.read_record.new.self (fields_of c.read_record.new.row) cfg kept.3 kept.2 kept.4 read in (
      read.3 ∙ kept.0,
      inl (c.in-Ok.ensures.ready kept.0),
      read.2 ∙ kept.2,
      next.0,
      next.1,
      one_more cfg text (texts_of c.loop-turn.rows.items) (texts_of c.push.new.self.items) _ kept.3
          _ _ next.0 kept.5 next.2
          (ap texts_of c.in_ok-push.ensures.items
          ∙ texts_push c.loop-turn.rows.items c.in_ok-row.row (fields_of c.read_record.new.row)
          c.in_ok-row.ensures),
    )

pub returns-then-not-found : goal.returns-then-not-found
returns-then-not-found c =
    let kept = c.loop-turn.invariant in
    let cfg = parted_by c.args.separator in
    let none : c.in-Ok.found ≡ false = c.if-not-found.true in
    let read = rw none at (c.in-Ok.ensures.reads kept.0 kept.1) in
    at_end cfg (strip_bom c.args.bytes.now) (texts_of c.loop-turn.rows.items) _ kept.3 kept.5
    (rows-end (λ (s : Bor (List ℕ)). Some s.now) c.loop-turn.reader c.read_record.new.self _ cfg
    kept.3 kept.2 kept.4 read)
