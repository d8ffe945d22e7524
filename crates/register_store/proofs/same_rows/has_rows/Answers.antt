use Rattle.std.proofs.Common.{rules, sym, subst}
use Rattle.std.specs.List.Sorted.{IsPermutation}
use Rattle.std.proofs.lemmas.List.Sorted.{IsPermutation-refl}
use Rattle.std.proofs.lemmas.Slice.Eq.{slice_eq-Decides}
use Rattle.sqlite_keyed.proofs.SortLemmas.{sorted_unique}
use Rattle.register_store.proofs.same_rows.has_rows.Goals as goal

pub returns-clause-told : goal.returns-clause-told
returns-clause-told g c =
    let wanted = c.args.wanted.now in
    let sorted = c.sort_unstable.new.self.items in
    let decided = slice_eq-Decides c.requires.exact sorted wanted c.eq.result (search rules) in (
      λ same. subst (IsPermutation wanted) (sym (decided.0 same)) (IsPermutation-refl wanted),
      λ alike. decided.1 (sorted_unique _ g.met.T.Ord.total wanted sorted c.requires.ascending alike
          c.sort_unstable.ensures.sorted),
    )
