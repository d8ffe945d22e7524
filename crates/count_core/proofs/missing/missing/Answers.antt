use Rattle.std.proofs.Common.{◌≡◌, ◌<◌, ◌++◌, ℕ, List, All, filter, length, map, ap, sym, subst}
use Rattle.std.proofs.Common.{◌∙◌, arith, rules}
use Rattle.std.proofs.lemmas.List.{length-map}
use Rattle.std.proofs.lemmas.List.Elements.{All-append, All-map}
use Rattle.std.proofs.lemmas.Option.{slice_get_read}
use Rattle.std.specs.List.{range_with_len}
use Rattle.std.specs.Prelude.{Vec}
use Rattle.std.specs.declared.alloc.Global.{Global}
use Rattle.count_core.specs.Counts.{is_missing, missing_at, missing_in, IsMissingIn}
use Rattle.count_core.proofs.Misses.{missed_in}
use Rattle.count_core.proofs.Ranges.{filter_below, flat_map_more}
use Rattle.count_core.proofs.Unflagged.{at_of}
use Rattle.count_core.proofs.missing.missing.Goals as goal

pub loop-i-preserved : goal.loop-i-preserved
loop-i-preserved c =
    let B = c.args.ledger.now in
    let rows = c.args.rows.now in
    let q = c.index-place.result.now in
    let lists = c.in_ok-unnamed.unnamed.items in
    let are = c.in_ok-unnamed.ensures in
    let missed = IsMissingIn B.museum in
    let here : q < length B.museum.places = search rules in
    let count : length B.museum.places ≡ length lists =
    sym are.many ∙ length-map lists (λ (v : Vec ℕ Global). v.items) in
    let there = slice_get_read lists (length B.museum.places) q c.index.result.now count here
    c.index.ensures in
    let objects : List ℕ = filter (is_missing B rows q)
    (range_with_len 0 (length B.museum.things)) in
    let found : c.as_slice.result.now ≡ objects =
    c.as_slice.ensures.value ∙ (sym (at_of lists q c.index.result.now there)
    ∙ (are.each q here ∙ missed_in B rows c.args.flags.now q c.requires.flags)) in
    let added = c.in_ok-add_missing.ensures
    ∙ ap (λ xs. c.loop-i.missing.items ++ map (missing_at q) xs) found in
    let below = filter_below (is_missing B rows q) (length B.museum.things) in (
      added
          ∙ (ap (λ xs. xs ++ map (missing_at q) objects) c.loop-i.invariant.0
          ∙ sym (flat_map_more (missing_in B rows) c.in_ok-places.places.items c.loop-i.i q
          (omega (arith, c.loop-i-test.true)) c.index-place.ensures)),
      subst (All missed) (sym added)
          (All-append missed c.loop-i.missing.items (map (missing_at q) objects)
          c.loop-i.invariant.1 (All-map missed (missing_at q) objects
          (λ k d lt. (below k d lt, here)))),
    )
