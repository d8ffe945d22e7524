-- Defines the content of a register in memory.
use Rattle.std.specs.Prelude.{ℕ, ℤ, pos, ◌==◌, ◌&&◌, Bool, false, List, [], map, Option, Some, None}
use Rattle.std.specs.Prelude.{⊤, Vec, String, string_bytes}
use Rattle.std.specs.List.{flat_map}
use Rattle.std.specs.Map.{lookup}
use Rattle.std.specs.Option.{option_map, option_map_or, option_to_list}
use Rattle.std.specs.Str.{bytes_eq}
use Rattle.std.specs.declared.alloc.Global.{Global}
use Rattle.posting_core.specs.Book.{Book, line_in, last_day_in}
use Rattle.posting_core.specs.declared.entry.NewLine.{NewLine}
use Rattle.posting_core.specs.declared.stage.LineStage.{LineStage}
use Rattle.posting_core.specs.VerdictNames.{verdict_number}
use Rattle.register_store.specs.declared.kept_entry.KeptEntry.{KeptEntry}
use Rattle.register_store.specs.declared.loan_rows.LineKey.{LineKey}
use Rattle.register_store.specs.declared.rows.KeptPosting.{KeptPosting}
use Rattle.register_store.specs.MessageText.{body_of}
use Rattle.register_store.specs.StoredRows.{Content, MetaRow, PostingRow, TermRow, AreSame}
use Rattle.register_store.specs.StoredRows.{rows_of_meta}
use Rattle.register_store.specs.Holdings.{Holding}

-- The rows, whether a setup is bound to them, and the number of stations in that setup.
pub record Kept : Type 0 where
  pub content : Content
  pub bound : Bool
  pub stations : ℕ

-- Nobody else writes to memory, so it has these rows, in any order.
abbrev pub rows_in_memory : Content → Holding
rows_in_memory content = record { is_quiet = ⊤; holds = AreSame content }

abbrev pub in_memory : Kept → Holding
in_memory register = rows_in_memory register.content

-- The texts of the setup's rows, or none if the register is new.
abbrev pub texts_of : Option (Vec (String Global) Global) → List (List ℕ)
texts_of None = []
texts_of (Some texts) = map string_bytes texts.items

-- The rows about the store, or none if the register is new.
abbrev pub meta_of : Option (Vec (String Global) Global) → List MetaRow
meta_of None = []
meta_of (Some texts) = rows_of_meta 12

-- The row of a posting whose numbers are in range.
abbrev pub posting_row : KeptPosting → PostingRow
posting_row r =
    record {
      id = pos r.id;
      station = pos r.station;
      n = pos r.n;
      body = string_bytes r.body;
      verdict = pos r.verdict;
    }

-- The row of a kept entry. Its body is the one text of the message.
abbrev pub kept_row : KeptEntry → PostingRow
kept_row k = record {
  id = pos k.id;
  station = pos k.station;
  n = pos k.n;
  body = body_of k.message;
  verdict = pos (verdict_number k.verdict);
}

-- Both are lines of the same loan and object.
abbrev pub has_same_key : NewLine → NewLine → Bool
has_same_key l k = bytes_eq l.loan k.loan && (l.object == k.object)

-- The lines of a map by loan and object.
abbrev pub held_lines : List (LineKey × LineStage) → List NewLine
held_lines kept = map (λ e. record { loan = e.0.loan; object = e.0.object; stage = e.1 }) kept

-- The last days of a map by loan.
abbrev pub term_rows : List (List ℕ × ℤ) → List TermRow
term_rows kept = map (λ e. record { loan = e.0; day = e.1 }) kept

-- The lines of a loan for these objects, by the ledger.
abbrev pub lines_of_loan : Book → List ℕ → List ℕ → List NewLine
lines_of_loan B loan os =
    flat_map (λ o.
    option_to_list
    (option_map (λ s. record { loan = loan; object = o; stage = s }) (line_in B loan o))) os

-- The last day of a loan, by the ledger.
abbrev pub day_of_loan : Book → List ℕ → List TermRow
day_of_loan B loan =
    option_to_list (option_map (λ day. record { loan = loan; day = day }) (last_day_in B loan))

-- The map has the key of the pair, with its value.
abbrev pub is_kept : {K V : Type 0} → (K → K → Bool) → (V → V → Bool) → List (K × V) → K × V → Bool
is_kept same_key same_value kept pair =
    option_map_or (λ value. same_value value pair.1) (lookup (same_key pair.0) kept) false
