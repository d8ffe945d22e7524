use Rattle.std.proofs.Common.{List}
use Rattle.std.proofs.lemmas.List.Sorted.{IsPermutation-sym, IsPermutation-trans}
use Rattle.posting_core.specs.declared.entry.Entry.{Entry}
use Rattle.register_store.specs.StoredRows.{Content, AreSame, HasList}
use Rattle.register_store.proofs.OneList.{one_list}
use Rattle.hub_core.proofs.laws.openings_tell_the_same.Goals as goal

list_before : (P : List Entry) (c d : Content) → AreSame c d → HasList P d → HasList P c
list_before P c d same h = record {
  rows = h.rows;
  each = h.each;
  all = IsPermutation-trans _ _ _ h.all (IsPermutation-sym _ _ same.postings);
}

pub returns : goal.returns
returns g c S T register one other k d e only first quiet held second quiet' held' =
    let (x, was, step) = first.comes.from quiet d held in
    let (y, was', step') = second.comes.from quiet' e held' in
    one_list one.book.posted other.book.posted k (list_before _ k x (only x was) step.0)
    (list_before _ k y (only y was') step'.0)
