use Rattle.std.proofs.Common.{◌≡◌, ◌+◌, ◌++◌, ◌∷◌, [], ap, arith, length, sym, subst, take, ◌∙◌}
use Rattle.std.proofs.lemmas.List.{take_more}
use Rattle.count_core.specs.declared.count_row.CountRow.{CountRow}
use Rattle.count_core.specs.Marks.{AreNames, with_flag}
use Rattle.count_core.specs.Sealed.{seen_in_place}
use Rattle.count_core.proofs.Flags.{names_then}
use Rattle.count_core.proofs.sealed.seen_in_place.Goals as goal

pub loop-i-preserved : goal.loop-i-preserved
loop-i-preserved c =
    let B = c.args.ledger.now in
    let rows = c.args.rows.now in
    let i = c.loop-i.i in
    let r : CountRow = c.index-rows-i.result in
    let flags = c.loop-i.flags.items in
    let more : take (i + 1) rows ≡ take i rows ++ r ∷ [] =
    take_more rows i r (omega (arith, c.loop-i-test.true))
    ∙ ap (λ (q : CountRow). take i rows ++ q ∷ []) (sym c.index-rows-i.is) in
    rw c.flag_seen.ensures
    (subst (λ rs. AreNames (seen_in_place B) (length B.museum.things) rs
    (with_flag flags (seen_in_place B r))) (sym more)
    (names_then (seen_in_place B) (length B.museum.things) (take i rows) r flags
    c.loop-i.invariant))
