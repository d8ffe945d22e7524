-- The row of an entry that a register in memory keeps.
use Rattle.std.proofs.Common.{◌≡◌, ℕ, pos, Ok, ap, ◌∙◌}
use Rattle.posting_core.specs.declared.entry.Entry.{Entry}
use Rattle.register_store.specs.declared.kept_entry.KeptEntry.{KeptEntry}
use Rattle.posting_core.specs.VerdictNames.{verdict_number}
use Rattle.register_store.specs.MessageText.{body_of, IsSpelled}
use Rattle.register_store.specs.StoredRows.{IsPostingRow}
use Rattle.register_store.specs.Plain.{kept_row}
use Rattle.register_store.proofs.Bodies.{reads_back}

-- the entry that the register keeps
abbrev pub entry_in : KeptEntry → Entry
entry_in k = record { station = k.station; n = k.n; message = k.message; verdict = k.verdict }

-- it keeps the entry, under its number
pub keeps : (number : ℕ) (e : Entry) (k : KeptEntry) → k.id ≡ number → entry_in k ≡ e
    → IsSpelled k.message → IsPostingRow number e (kept_row k)
keeps number e k numbered same spelled = record {
  id = ap pos numbered;
  station = ap (λ (x : Entry). pos x.station) same;
  n = ap (λ (x : Entry). pos x.n) same;
  body = ap (λ (x : Entry). body_of x.message) same;
  reads_back = reads_back k.message spelled ∙ ap (λ (x : Entry). Ok x.message) same;
  verdict = ap (λ (x : Entry). pos (verdict_number x.verdict)) same;
}
