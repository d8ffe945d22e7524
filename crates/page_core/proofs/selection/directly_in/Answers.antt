use Rattle.std.proofs.Common.{Bool, ◌++◌, ◌<◌, ◌∙◌, ◌∷◌, [], ap}
use Rattle.std.proofs.Common.{arith, cond, filter, get_or, length, sym, take}
use Rattle.std.proofs.lemmas.List.Elements.{filter_more}
use Rattle.page_core.specs.Tree.{is_directly_in}
use Rattle.page_core.proofs.selection.directly_in.Goals as goal

pub loop-i-preserved : goal.loop-i-preserved
loop-i-preserved c =
    let p = is_directly_in c.args.ledger.now c.args.container in
    let xs = c.args.among.now in
    let x = get_or xs c.loop-i.i 0 in
    let below : c.loop-i.i < length xs = omega arith in
    c.in_ok-push_if.ensures
    ∙ (ap (λ ys. ys ++ cond c.in_ok-passes.passes (x ∷ []) []) c.loop-i.invariant
    ∙ (ap (λ (b : Bool). filter p (take c.loop-i.i xs) ++ cond b (x ∷ []) [])
    c.in_ok-passes.ensures ∙ sym (filter_more p xs c.loop-i.i 0 below)))
