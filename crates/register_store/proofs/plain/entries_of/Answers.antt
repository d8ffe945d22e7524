use Rattle.std.proofs.Common.{rules, ◌+◌, ◌∷◌, map, reverse, take, drop, subst, ap, ◌∙◌}
use Rattle.std.proofs.lemmas.List.{map-append, length-map}
use Rattle.indexmap.proofs.ReorderLemmas.{map-reverse}
use Rattle.std.proofs.lemmas.List.Sorted.{IsPermutation-reverse, All-permutation}
use Rattle.register_store.specs.Plain.{kept_row}
use Rattle.register_store.specs.StoredRows.{ArePostings}
use Rattle.register_store.specs.Registers.{IsOfStation}
use Rattle.register_store.proofs.Lists.{split_at}
use Rattle.register_store.proofs.ListedRows.{next_row, all_next, taken_length}
use Rattle.register_store.proofs.plain.entries_of.Goals as goal

pub loop-i-preserved : goal.loop-i-preserved
loop-i-preserved c =
    let rows = c.args.rows.now in
    let entry = c.in-Ok.entry in
    record {
      kept = next_row c.loop-i.entries.items c.push.new.self.items rows c.loop-i.i entry
          c.index-rows-i.result c.loop-i-test.true c.index-rows-i.is (search rules) (search rules)
          c.loop-i.invariant.kept;
      stationed = all_next (IsOfStation c.args.stations) c.loop-i.entries.items
          c.push.new.self.items entry (search rules) (search rules) c.loop-i.invariant.stationed;
    }

pub returns-in-Err-clause-faults : goal.returns-in-Err-clause-faults
returns-in-Err-clause-faults c other =
    let rows = c.args.rows.now in
    let i = c.loop-i.i in (
      i + 1,
      search rules,
      record {
        before = map kept_row (take i rows);
        row = kept_row c.index-rows-i.result;
        after = map kept_row (drop (i + 1) rows);
        split = ap (map kept_row) (split_at rows i c.index-rows-i.result c.loop-i-test.true
            c.index-rows-i.is) ∙ map-append kept_row (take i rows)
            (c.index-rows-i.result ∷ drop (i + 1) rows);
        number =
            ap (λ n. n + 1) (length-map (take i rows) kept_row ∙ taken_length rows i
            c.loop-i-test.true);
        entries = reverse c.loop-i.entries.items;
        right = subst (ArePostings (reverse c.loop-i.entries.items))
            (map-reverse kept_row (take i rows)) c.loop-i.invariant.kept;
        stationed = All-permutation (IsOfStation c.args.stations) c.loop-i.entries.items _
            (IsPermutation-reverse c.loop-i.entries.items) c.loop-i.invariant.stationed;
        wrong = search rules;
      },
    )
