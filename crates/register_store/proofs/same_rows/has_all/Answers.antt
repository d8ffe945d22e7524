use Rattle.std.proofs.Common.{◌≡◌, Bool, ◌∙◌, sym, arith}
use Rattle.std.proofs.lemmas.List.Sorted.{length_permutation}
use Rattle.std.proofs.lemmas.Bool.Decides.{nat_tests}
use Rattle.register_store.proofs.KeptPairs.{wanted_kept, kept_wanted}
use Rattle.register_store.proofs.same_rows.has_all.Goals as goal

by : {a b t : Bool} → a ≡ b → a ≡ t → b ≡ t
by h k = sym h ∙ k

trans : {a b t : Bool} → a ≡ b → b ≡ t → a ≡ t
trans h k = h ∙ k

pub returns-then-len-wanted : goal.returns-then-len-wanted
returns-then-len-wanted g c =
    let wanted = c.args.wanted.now in
    let kept = c.args.kept.now.entries in
    let test = c.has_each.ensures in (
      λ yes. wanted_kept g.K.PartialEq.eq g.V.PartialEq.eq c.requires.keys c.requires.values wanted
          kept c.requires.distinct (sym c.len.ensures.len ∙ c.if-len-wanted.true) (by test yes),
      λ same. trans test (kept_wanted g.K.PartialEq.eq g.V.PartialEq.eq c.requires.keys
          c.requires.values wanted kept c.len.ensures.unique same),
    )

pub returns-else-len-wanted : goal.returns-else-len-wanted
returns-else-len-wanted g c = (
  λ yes. absurd (let other = c.if-len-wanted.false in grind (arith, nat_tests)),
  λ same. absurd (c.if-len-wanted.false (c.len.ensures.len ∙ length_permutation _ _ same)),
)
