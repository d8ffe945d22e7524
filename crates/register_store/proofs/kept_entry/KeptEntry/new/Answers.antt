use Rattle.std.proofs.Common.{ap, refl, subst, sym}
use Rattle.posting_core.specs.declared.message.Message.{Message}
use Rattle.register_store.specs.MessageText.{IsSpelled}
use Rattle.register_store.specs.declared.kept_entry.KeptEntry.{KeptEntry}
use Rattle.register_store.proofs.KeptRows.{keeps}
use Rattle.register_store.proofs.kept_entry.KeptEntry.new.Goals as goal

pub returns : goal.returns
returns c =
    let e = c.args.entry.now in
    let kept : KeptEntry = record {
      id = c.args.number;
      station = e.station;
      n = e.n;
      message = c.in_ok-message.message;
      verdict = e.verdict;
    } in
    keeps c.args.number e kept refl
    (ap (λ (m : Message). record e { message = m }) c.in_ok-message.ensures)
    (subst IsSpelled (sym c.in_ok-message.ensures) c.message_is_spelled.ensures)
