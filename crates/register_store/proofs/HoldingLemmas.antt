-- The contents that a store may have, after one call and after the next.
use Rattle.std.proofs.Common.{ℕ, List}
use Rattle.std.proofs.lemmas.List.Sorted.{IsPermutation-trans}
use Rattle.nest_core.specs.Museum.{Museum}
use Rattle.posting_core.specs.declared.entry.Entry.{Entry}
use Rattle.register_store.specs.StoredRows.{Content, AreSame, IsBoundTo, HasList, HasRows}
use Rattle.register_store.specs.StoredRows.{IsStoreOf}
use Rattle.register_store.specs.Registers.{IsFirstWrong}
use Rattle.register_store.specs.Holdings.{Holding, Each, Has, Comes}

-- the change keeps the property
pub comes_has : (old new : Holding) (Change : Content → Content → Type 0) (P Q : Content → Type 0)
    → ((c d : Content) → P c → Change c d → Q d) → Comes old new Change → Has old P → Has new Q
comes_has old new Change P Q carries comes has = record {
  some = λ quiet none. has.some (comes.quiet quiet) (comes.some quiet none);
  each = λ quiet d held. let was = comes.from quiet d held in
      carries was.0 d (has.each (comes.quiet quiet) was.0 was.1) was.2;
}

-- two changes, one after the other
pub comes_on : (a b c : Holding) (F G H : Content → Content → Type 0)
    → ((x y z : Content) → F x y → G y z → H x z) → Comes a b F → Comes b c G → Comes a c H
comes_on a b c F G H both first next = record {
  quiet = λ quiet. first.quiet (next.quiet quiet);
  some = λ quiet none. first.some (next.quiet quiet) (next.some quiet none);
  from = λ quiet z held.
      let (y, mid, last) = next.from quiet z held in
      let (x, was, step) = first.from (next.quiet quiet) y mid in
      (x, was, both x y z step last);
}

-- a change with more known about the contents now
pub comes_so : (old new : Holding) (F G : Content → Content → Type 0) (Q : Content → Type 0)
    → ((c d : Content) → F c d → Q d → G c d) → Comes old new F → Each new Q → Comes old new G
comes_so old new F G Q more comes each = record {
  quiet = comes.quiet;
  some = comes.some;
  from = λ quiet d held. let (c, was, step) = comes.from quiet d held in
      (c, was, more c d step (each quiet d held));
}

pub has_more : (store : Holding) (P Q : Content → Type 0) → ((c : Content) → P c → Q c)
    → Has store P → Has store Q
has_more store P Q more has =
    record { some = has.some; each = λ quiet c held. more c (has.each quiet c held) }

module _ (c d : Content) (same : AreSame c d) where
  pub same_bound : (S : Museum) (depth : ℕ) → IsBoundTo S depth c → IsBoundTo S depth d
  same_bound S depth h = record {
    setup = IsPermutation-trans _ _ _ h.setup same.setup;
    meta = IsPermutation-trans _ _ _ h.meta same.meta;
    limit = h.limit;
  }

  pub same_list : (P : List Entry) → HasList P c → HasList P d
  same_list P h = record {
    rows = h.rows;
    each = h.each;
    all = IsPermutation-trans _ _ _ h.all same.postings;
  }

  pub same_rows_held : (S : Museum) (P : List Entry) → HasRows S P c → HasRows S P d
  same_rows_held S P h = record {
    spots = IsPermutation-trans _ _ _ h.spots same.spots;
    lines = IsPermutation-trans _ _ _ h.lines same.lines;
    terms = IsPermutation-trans _ _ _ h.terms same.terms;
  }

  pub same_store : (S : Museum) (depth : ℕ) (P : List Entry) → IsStoreOf S depth P c
      → IsStoreOf S depth P d
  same_store S depth P h = record {
    bound = same_bound S depth h.bound;
    list = same_list P h.list;
    rows = same_rows_held S P h.rows;
  }

  pub same_wrong : (stations at : ℕ) → IsFirstWrong stations at c → IsFirstWrong stations at d
  same_wrong stations at h =
      record {
        rows = h.rows;
        all = IsPermutation-trans _ _ _ h.all same.postings;
        order = h.order;
        first = h.first;
      }
