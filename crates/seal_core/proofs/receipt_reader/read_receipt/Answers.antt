use Rattle.std.proofs.Common.{◌∙◌, ap, sym, Err}
use Rattle.std.specs.Option.{unwrap_or}
use Rattle.std.proofs.Common.{IsUtf8, subst}
use Rattle.serde_json.specs.Data.{null}
use Rattle.serde_json.specs.Read.{read}
use Rattle.seal_core.proofs.ReceiptUtf8.{text_utf8}
use Rattle.seal_core.proofs.ReadReceipts.{read_back}
use Rattle.seal_core.proofs.receipt_reader.read_receipt.Goals as goal

pub returns-in-Ok-clause-accepts : goal.returns-in-Ok-clause-accepts
returns-in-Ok-clause-accepts c = λ receipt whole text.
    let seen = sym c.in-Ok.ensures.ok.1 ∙ ap read (sym text) ∙ read_back receipt whole in
    c.exact_receipt.ensures.accepts receipt whole (ap (λ o. unwrap_or o null) seen) text

pub returns-in-Err-NotJson-clause-accepts : goal.returns-in-Err-NotJson-clause-accepts
returns-in-Err-NotJson-clause-accepts c = λ receipt whole text.
    let read_nothing = c.in-Err-NotJson.ensures.not_json (ap Err c.in-Err-NotJson.field-0-is)
    (subst IsUtf8 text (text_utf8 receipt whole)) in
    let read_receipt = ap read (sym text) ∙ read_back receipt whole in
    absurd (cc (read_nothing, read_receipt))
