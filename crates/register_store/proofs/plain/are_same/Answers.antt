use Rattle.std.proofs.Common.{rules, sym, ◌∙◌, string_bytes}
use Rattle.std.proofs.lemmas.Bool.Decides.{not_from_Decides}
use Rattle.register_store.proofs.Lists.{same_further, same_there}
use Rattle.register_store.proofs.plain.are_same.Goals as goal

pub returns-then-not-is_same : goal.returns-then-not-is_same
returns-then-not-is_same c = (
  λ e. absurd (search rules),
  λ same. absurd (not_from_Decides c.is_same.result c.is_same.ensures (search rules)
      (c.deref.ensures ∙ same_there string_bytes c.args.a.now c.args.b.now c.loop-i.i
      c.index-a-i.result c.index-b-i.result c.loop-i-test.true (search rules) c.index-a-i.is
      c.index-b-i.is same ∙ sym c.deref-in-loop-i.ensures)),
)

pub loop-i-preserved : goal.loop-i-preserved
loop-i-preserved c =
    same_further string_bytes c.args.a.now c.args.b.now c.loop-i.i c.index-a-i.result
    c.index-b-i.result c.loop-i-test.true (search rules) c.index-a-i.is c.index-b-i.is
    (sym c.deref.ensures ∙ c.is_same.ensures.0 (search rules) ∙ c.deref-in-loop-i.ensures)
    c.loop-i.invariant
