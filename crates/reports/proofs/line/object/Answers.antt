use Rattle.std.proofs.Common.{rules, ◌<◌, ◌∷◌, ◌++◌, [], ◌∙◌, ap, arith, length, map, sym, take}
use Rattle.std.proofs.lemmas.List.{map-append}
use Rattle.std.specs.Prelude.{codes, string_bytes}
use Rattle.reports.specs.Cells.{members, cell_of}
use Rattle.reports.proofs.Joins.{joined_as}
use Rattle.reports.proofs.Members.{all_members, members_more}
use Rattle.reports.proofs.line.object.Goals as goal

pub loop-i-preserved : goal.loop-i-preserved
loop-i-preserved c =
    let ns = c.args.names.now in
    let fs = c.args.fields.now in
    let h : c.loop-i.i < length ns = omega (arith, c.loop-i-test.true, c.min-i-end.ensures) in
    let k : c.loop-i.i < length fs = omega (arith, c.loop-i-test.true, c.min-i-end.ensures) in
    let more = members_more (λ name. name.now) cell_of ns fs c.loop-i.i
    (record { ref_ptr = (0, 0); now = [] }) c.index-fields-i.result h k c.index-fields-i.is in
    ap (map string_bytes) c.in_ok-push.ensures.items
    ∙ (map-append string_bytes c.loop-i.texts.items (c.in_ok-member.field-0 ∷ [])
    ∙ (ap (λ ts. ts ++ string_bytes c.in_ok-member.field-0 ∷ []) c.loop-i.invariant
    ∙ (ap (λ t. members (map (λ name. name.now) (take c.loop-i.i ns))
    (map cell_of (take c.loop-i.i fs)) ++ t ∷ []) c.in_ok-member.ensures
    ∙ sym more)))

pub returns : goal.returns
returns c =
    let ns = c.args.names.now in
    let fs = c.args.fields.now in
    let all = c.loop-i.invariant ∙ all_members (λ name. name.now) cell_of c.loop-i.i ns fs
    (omega (arith, c.min-i-end.ensures)) in
    let joined = joined_as string_bytes (codes ",") c.loop-i.texts.items
    (members (map (λ name. name.now) ns) (map cell_of fs)) all in
    search rules
