-- The rows of the entries, gathered one entry after another.
use Rattle.std.proofs.Common.{◌≡◌, ◌∙◌, ◌∷◌, ◌+◌, ◌++◌, [], ℕ, List, Some, ap, map, sym}
use Rattle.std.specs.Prelude.{Option, option_map, reverse, slice_get, string_bytes}
use Rattle.std.specs.List.{flat_map, range_with_len}
use Rattle.std.specs.Option.{option_map_or}
use Rattle.posting_core.specs.Book.{Book, changes_of}
use Rattle.posting_core.specs.Past.{upto}
use Rattle.posting_core.specs.declared.entry.Changes.{Changes}
use Rattle.posting_core.specs.declared.entry.Entry.{Entry}
use Rattle.reports.specs.EntryChanges.{changes_at}
use Rattle.reports.proofs.Ranges.{flat_more}
use Rattle.export_core.specs.declared.entries.EntryRows.{EntryRows}
use Rattle.export_core.specs.Entries.{line_texts, lines_at, message_at, message_row}
use Rattle.export_core.specs.Entries.{movement_rows, movements_at}
use Rattle.export_core.specs.Rows.{AddsChanges, AddsEntry, HasEntries}

more : {X : Type 0} (f : ℕ → List X) (n : ℕ) (before after : List X)
    → before ≡ flat_map f (range_with_len 0 n) → after ≡ before ++ f n
    → after ≡ flat_map f (range_with_len 0 (n + 1))
more f n before after is added = added ∙ (ap (λ t. t ++ f n) is ∙ sym (flat_more f n))

-- those of one more entry
pub entries_more : (B : Book) (n : ℕ) (before after : EntryRows) → HasEntries B n before
    → AddsEntry B n before after → HasEntries B (n + 1) after
entries_more B n before after has adds = record {
  messages = more (message_at B) n (map string_bytes before.messages.items)
      (map string_bytes after.messages.items) has.messages adds.messages;
  movements = more (movements_at B) n (map string_bytes before.movements.items)
      (map string_bytes after.movements.items) has.movements adds.movements;
  lines = more (lines_at B) n (string_bytes before.lines) (string_bytes after.lines) has.lines
      adds.lines;
}

at_entry : {X : Type 0} (f : Entry → List X) (o : Option Entry) (e : Entry) → o ≡ Some e
    → f e ≡ option_map_or f o []
at_entry f o e is = ap (λ p. option_map_or f p []) (sym is)

-- an entry's message, and then what it changed
pub entry_added : (B : Book) (i : ℕ) (e : Entry) (changes : Changes)
    (before between after : EntryRows) → slice_get (reverse B.posted) i ≡ Some e
    → changes_at B i ≡ Some changes
    → map string_bytes between.messages.items
    ≡ map string_bytes before.messages.items ++ message_row (upto B i) (i + 1) e ∷ []
    → between.movements ≡ before.movements → between.lines ≡ before.lines
    → AddsChanges (upto B (i + 1)) e changes between after → AddsEntry B i before after
entry_added B i e changes before between after here changed message moves texts adds =
    let planned : Some (changes_of (upto B i) e.message) ≡ Some changes =
    ap (option_map (λ (f : Entry). changes_of (upto B i) f.message)) (sym here) ∙ changed in
    let same : changes ≡ changes_of (upto B i) e.message = cc (planned) in
    record {
      messages = adds.messages
          ∙ (message
          ∙ ap (λ t. map string_bytes before.messages.items ++ t)
          (at_entry (λ f. message_row (upto B i) (i + 1) f ∷ []) (slice_get (reverse B.posted) i)
          e here));
      movements = adds.movements
          ∙ (ap (λ t. map string_bytes t.items ++ movement_rows (upto B (i + 1)) e changes) moves
          ∙ ap (λ t. map string_bytes before.movements.items ++ t)
          (ap (movement_rows (upto B (i + 1)) e) same
          ∙ at_entry (λ f. movement_rows (upto B (i + 1)) f (changes_of (upto B i) f.message))
          (slice_get (reverse B.posted) i) e here));
      lines = adds.lines
          ∙ (ap (λ t. string_bytes t ++ line_texts (upto B (i + 1)).museum changes) texts
          ∙ ap (λ t. string_bytes before.lines ++ t)
          (ap (line_texts (upto B (i + 1)).museum) same
          ∙ at_entry
          (λ f. line_texts (upto B (i + 1)).museum (changes_of (upto B i) f.message))
          (slice_get (reverse B.posted) i) e here));
    }
