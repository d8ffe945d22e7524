use Rattle.std.proofs.Common.{◌∙◌, ◌+◌, ap, refl, subst}
use Rattle.posting_core.specs.Past.{upto}
use Rattle.export_core.specs.declared.entries.EntryRows.{EntryRows}
use Rattle.export_core.specs.Entries.{message_row}
use Rattle.export_core.specs.Rows.{AddsChanges}
use Rattle.export_core.proofs.Gathering.{entry_added}
use Rattle.export_core.proofs.Pushing.{pushed}
use Rattle.export_core.proofs.entries.push_entry.Goals as goal

pub returns-clause-rows : goal.returns-clause-rows
returns-clause-rows c =
    let B = c.args.ledger.now in
    let i = c.args.i in
    let e = c.entry_at-entry.result.now in
    let between : EntryRows = record c.args.rows.now { messages = c.push.new.self } in
    entry_added B i e c.in_ok-changes.changes c.args.rows.now between c.push_changes.new.rows
    c.entry_at-entry.ensures c.in_ok-changes.ensures.changes
    (pushed c.args.rows.now.messages.items c.push.new.self.items c.in_ok-message_row.field-0
    (message_row (upto B i) (i + 1) e) c.in_ok-push.ensures.items
    (c.in_ok-message_row.ensures ∙ ap (λ P. message_row P (i + 1) e) c.requires.before))
    refl refl (subst (λ P. AddsChanges P e c.in_ok-changes.changes between c.push_changes.new.rows)
    c.in_ok-changes.ensures.after c.in_ok-push_changes.ensures)
