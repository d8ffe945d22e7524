use Rattle.std.proofs.Common.{◌∙◌, ◌++◌, ap, string_bytes}
use Rattle.std.proofs.lemmas.List.{append_assoc}
use Rattle.export_core.specs.Script.{entries_text, loans_text, setup_text}
use Rattle.export_core.specs.declared.schema.TheConstants.{TABLES, VIEWS}
use Rattle.export_core.proofs.Joining.{three_added}
use Rattle.export_core.proofs.sections.script.Goals as goal

pub returns : goal.returns
returns c =
    let B = c.args.ledger.now in
    let setup = setup_text B c.args.on in
    let set_up = string_bytes c.add_setup.new.script in
    let lent = string_bytes c.add_loans.new.script in
    let posted = string_bytes c.add_entries.new.script in
    c.in_ok-push_str.ensures.bytes
    ∙ (ap (λ t. t ++ VIEWS.now)
    (three_added TABLES.now setup (loans_text B) (entries_text B) set_up lent posted
    (c.in_ok-add_setup.ensures ∙ ap (λ t. t ++ setup) c.in_ok-script.ensures.ok)
    c.in_ok-add_loans.ensures c.in_ok-add_entries.ensures)
    ∙ (append_assoc TABLES.now (setup ++ (loans_text B ++ entries_text B)) VIEWS.now
    ∙ ap (λ t. TABLES.now ++ t)
    (append_assoc setup (loans_text B ++ entries_text B) VIEWS.now
    ∙ ap (λ t. setup ++ t) (append_assoc (loans_text B) (entries_text B) VIEWS.now))))
