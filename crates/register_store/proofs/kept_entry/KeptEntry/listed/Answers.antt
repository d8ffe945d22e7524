use Rattle.std.proofs.Common.{ap, rules, sym, subst}
use Rattle.posting_core.specs.declared.message.Message.{Message}
use Rattle.register_store.specs.MessageText.{IsSpelled}
use Rattle.register_store.proofs.KeptRows.{entry_in, keeps}
use Rattle.register_store.proofs.kept_entry.KeptEntry.listed.Goals as goal

pub returns-clause-kept : goal.returns-clause-kept
returns-clause-kept c = keeps c.args.number _ c.args.self.now (search rules)
    (sym (ap (λ (m : Message). record (entry_in c.args.self.now) { message = m })
    c.in_ok-message.ensures)) (subst IsSpelled c.in_ok-message.ensures c.message_is_spelled.ensures)
