use Rattle.std.proofs.Common.{rules, ◌≡◌, ◌+◌, ◌∷◌, drop, drop-cons, add-one, sym, subst, ap, ◌∙◌}
use Rattle.std.proofs.Common.{arith, refl}
use Rattle.std.specs.List.Sorted.{IsPermutation}
use Rattle.std.proofs.lemmas.List.Sorted.{IsPermutation-trans}
use Rattle.posting_core.specs.declared.entry.NewLine.{NewLine}
use Rattle.register_store.specs.declared.loan_rows.LineKey.{LineKey}
use Rattle.register_store.specs.contracts.loan_rows.LineKeyPartialEq.TheImpl.{ghosts}
use Rattle.register_store.specs.Plain.{has_same_key, held_lines}
use Rattle.register_store.specs.StoredRows.{put, put_each}
use Rattle.register_store.proofs.LineKeys.{key_is}
use Rattle.register_store.proofs.PutRows.{put_each_same, inserted}
use Rattle.register_store.proofs.loan_rows.put_lines.Goals as goal

pub loop-i-preserved : goal.loop-i-preserved
loop-i-preserved c =
    let lines = c.args.lines.now in
    let i = c.loop-i.i in
    let l : NewLine = c.index-lines-i.result in
    let key : LineKey = record { loan = l.loan; object = l.object } in
    let kept = c.loop-i.kept.entries in
    let entries = c.insert.ensures.entries in
    let unique = c.insert.ensures.unique in
    let done : c.insert.new.self.entries ≡ Rattle.indexmap.specs.IndexMap.insert_entry (ghosts).eq
    kept key l.stage = search rules in
    let inside : IsPermutation (held_lines c.insert.new.self.entries)
    (put has_same_key l (held_lines kept)) =
    subst (λ es. IsPermutation (held_lines es) (put has_same_key l (held_lines kept))) (sym done)
    (inserted has_same_key (ghosts).eq key_is
    (λ k s. record { loan = k.loan; object = k.object; stage = s }) (λ k m v w. refl) key
    l.stage kept
    (subst (λ es. Rattle.std.specs.List.IsDistinct (ghosts).eq (Rattle.std.specs.Map.keys_of es))
    done unique)) in
    let next : drop i lines ≡ l ∷ drop (i + 1) lines =
    (rw add-one (drop-cons lines i l c.loop-i-test.true)) ∙ ap (λ z. z ∷ drop (i + 1) lines)
    (sym c.index-lines-i.is) in
    record {
      room = let used = c.insert.ensures.spare in let room = c.loop-i.invariant.room in omega arith;
      left = IsPermutation-trans _ _ _ (put_each_same has_same_key (drop (i + 1) lines) _ _ inside)
          (subst (λ ls. IsPermutation (put_each has_same_key ls (held_lines kept))
          (put_each has_same_key lines (held_lines c.args.kept.now.entries))) next
          c.loop-i.invariant.left);
    }
