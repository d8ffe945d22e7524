use Rattle.std.proofs.Common.{◌≡◌, true, is_some, Some, arith}
use Rattle.serde_json.specs.Find.{as_str, as_object}
use Rattle.register_store.proofs.Objects.{other_kind, grows}
use Rattle.register_store.proofs.message_reader.message_in.Goals as goal

pub returns-in_default-kind-clause-exact : goal.returns-in_default-kind-clause-exact
returns-in_default-kind-clause-exact g c =
    let d = g.V.Fields.seen c.args.value.now in
    let kind = g.V.Fields.seen c.in_ok-value_at.field-0.now in
    let name = c.in-Some.kind.now in
    let object : is_some (as_object d) ≡ true = grind arith in
    let text : as_str kind ≡ Some name = grind arith in
    let other = c.in_default-kind in
    rw (other_kind d kind name object c.in_ok-value_at.ensures.exact text other.not-move
    other.not-pack other.not-signoff) c.loan_message_of.ensures.exact

pub returns-in_default-kind-clause-gives_up : goal.returns-in_default-kind-clause-gives_up
returns-in_default-kind-clause-gives_up g c = λ gave_up.
    let kind = g.V.Fields.seen c.in_ok-value_at.field-0.now in
    let text : as_str kind ≡ Some c.in-Some.kind.now = grind arith in
    grows (g.V.Fields.seen c.args.value.now) kind c.in-Some.kind.now c.in_ok-value_at.ensures.exact
    text (c.loan_message_of.ensures.gives_up gave_up)
