use Rattle.std.proofs.Common.{◌∙◌, ◌++◌, ap, codes, length, map, string_bytes}
use Rattle.export_core.specs.Entries.{lines_upto, messages_upto, movements_upto}
use Rattle.export_core.specs.Statements.{inserts}
use Rattle.export_core.proofs.Joining.{three_added}
use Rattle.export_core.proofs.sections.add_entries.Goals as goal

pub returns : goal.returns
returns c =
    let B = c.args.ledger.now in
    let n = length B.posted in
    let before = string_bytes c.args.script.now in
    let messages = string_bytes c.add_inserts.new.script in
    let movements = string_bytes c.add_inserts-2.new.script in
    let rows = c.in_ok-rows.ensures in
    three_added before (inserts (codes "message") (messages_upto B n))
    (inserts (codes "movement") (movements_upto B n)) (lines_upto B n)
    messages movements (string_bytes c.push_str.new.self)
    (c.in_ok-add_inserts.ensures
    ∙ (ap (λ r. before ++ inserts (codes "message") (map string_bytes r)) c.as_slice.ensures.value
    ∙ ap (λ r. before ++ inserts (codes "message") r) rows.messages))
    (c.in_ok-add_inserts-2.ensures
    ∙ (ap (λ r. messages ++ inserts (codes "movement") (map string_bytes r))
    c.as_slice-2.ensures.value
    ∙ ap (λ r. messages ++ inserts (codes "movement") r) rows.movements))
    (c.in_ok-push_str.ensures.bytes
    ∙ ap (λ t. movements ++ t) (c.as_str.ensures.value ∙ rows.lines))
