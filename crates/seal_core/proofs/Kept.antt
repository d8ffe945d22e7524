-- More entries change no leaf of those before them.
use Rattle.std.proofs.Common.{◌≡◌, ℕ, zero, suc, ◌+◌, ◌<◌, ◌≤◌, List, [], ◌∷◌, ◌++◌, length, refl}
use Rattle.std.proofs.Common.{sym, ap, ap₂, ◌∙◌, arith, reverse, add-one}
use Rattle.std.specs.List.{slice_get}
use Rattle.std.specs.Option.{option_map_or}
use Rattle.std.proofs.lemmas.List.{length-append, length-reverse, reverse-append}
use Rattle.posting_core.specs.declared.entry.Entry.{Entry}
use Rattle.posting_core.specs.Book.{Book}
use Rattle.posting_core.specs.Onward.{later}
use Rattle.reports.specs.Cells.{joined_words}
use Rattle.reports.specs.Stations.{entry_row}
use Rattle.seal_core.specs.declared.seal.Seal.{Seal}
use Rattle.seal_core.specs.Leaves.{entry_leaf, leaves}
use Rattle.seal_core.specs.Seals.{Holds}
use Rattle.seal_core.proofs.MoreLeaves.{leaves_more}
use Rattle.seal_core.specs.Trees.{tree_head}

pub slice_get_front : {X : Type 0} (xs ys : List X) (i : ℕ) → i < length xs
    → slice_get (xs ++ ys) i ≡ slice_get xs i
slice_get_front [] ys i h = absurd (omega arith)
slice_get_front (x ∷ xs) ys zero h = refl
slice_get_front (x ∷ xs) ys (suc i) h = slice_get_front xs ys i (omega arith)

leaf_kept : (B : Book) (L : List Entry) (i : ℕ) → i < length B.posted
    → entry_leaf (later B L) i ≡ entry_leaf B i
leaf_kept B L i within =
    let same = length-reverse B.posted in
    ap (λ found. joined_words (option_map_or (entry_row B.museum (i + 1)) found []))
    (ap (λ entries. slice_get entries i) (reverse-append L B.posted)
    ∙ slice_get_front (reverse B.posted) (reverse L) i (omega (arith, same)))

pub leaves_kept : (B : Book) (L : List Entry) (n : ℕ) → n ≤ length B.posted
    → leaves (later B L) n ≡ leaves B n
leaves_kept B L zero few = refl
leaves_kept B L (suc n) few =
    ap (leaves (later B L)) (sym (add-one n)) ∙ leaves_more (later B L) n
    ∙ ap₂ (λ front leaf. front ++ leaf ∷ []) (leaves_kept B L n (omega arith))
    (leaf_kept B L n (omega arith))
    ∙ sym (leaves_more B n) ∙ ap (leaves B) (add-one n)

more : (B : Book) (L : List Entry) → length B.posted ≤ length (later B L).posted
more B L = let both = length-append L B.posted in omega (arith, both)

pub holds_later : (B : Book) (L : List Entry) (seal : Seal) → Holds B seal → Holds (later B L) seal
holds_later B L seal held = record {
  posted = let grown = more B L in omega (arith, grown, held.posted);
  head = held.head ∙ ap tree_head (sym (leaves_kept B L seal.entries held.posted));
}
