use Rattle.std.proofs.Common.{◌∙◌, ap, get_or, nat_eq}
use Rattle.indexmap.specs.IndexSet.{insert_key}
use Rattle.posting_core.proofs.ObjectNumbers.{one_more_object}
use Rattle.posting_core.proofs.kept_loan.objects_of.Goals as goal

pub loop-i-preserved : goal.loop-i-preserved
loop-i-preserved c =
    let lines = c.args.lines.now in
    c.in_ok-insert.ensures.keys
    ∙ ap (λ keys. insert_key nat_eq keys (get_or lines c.loop-i.i c.index-lines-i.result).object)
    c.loop-i.invariant
    ∙ one_more_object lines c.loop-i.i c.index-lines-i.result c.loop-i-test.true c.requires
