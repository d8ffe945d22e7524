use Rattle.std.proofs.Common.{◌≡◌, ◌<◌, ◌-◌, ◌∙◌, length, map, ap, subst, arith}
use Rattle.std.specs.List.{range_with_len, AllZip}
use Rattle.std.proofs.lemmas.Slice.Zip.{AllZip-map}
use Rattle.std.proofs.Crossing.{crosses, frees}
use denote.Param.Send.{IsSync, given_sync, sendable}
use Rattle.rayon.specs.Numbers.{nat_range}
use Rattle.rayon.proofs.ListFacts.{IfOk-then}
use Rattle.rayon.proofs.ToStd.{nat_range-All}
use Rattle.count_core.specs.Counts.{look_at}
use Rattle.count_core.proofs.Crossing.{ledger_sync}
use Rattle.count_core.proofs.checking.looked.Goals as goal

pub collect-requires : goal.collect-requires
collect-requires g c κs =
    let probe : IsSync g.row.P = given_sync 0 g.row.P c.type_bounds.sync-P in
    let ends = c.into_par_iter.ensures in
    let inside = nat_range-All (λ i. i < length c.args.rows.now) 0 (length c.args.rows.now)
    (λ i low high. high) in (
      search (ledger_sync, sendable, crosses) depth 40,
      (
        search (sendable, crosses) depth 40,
        (
          search (sendable, crosses) depth 40,
          (
            search (sendable, crosses) depth 40,
            (
              search (sendable, crosses) depth 40,
              (
                frees,
                λ k d lt. (
                  rw (c.map.ensures.base, c.map.ensures.f, ends.0, ends.1)
                      (inside k d (rw (c.map.ensures.base, ends.0, ends.1) at lt)),
                  λ y p. tt,
                ),
              ),
            ),
          ),
        ),
      ),
    )

pub returns : goal.returns
returns g c =
    let ends = c.into_par_iter.ensures in
    let n = length c.args.rows.now in
    let whole : n - 0 ≡ n = omega arith in
    let said = look_at c.args.ledger.now c.args.rows.now in
    IfOk-then c.collect.result _ _ c.collect.ensures (λ v h.
    let chain = h.1 in
    let range = c.into_par_iter.result in
    let ranged : chain.0 ≡ nat_range range.start range.end =
    chain.1 ∙ ap (λ b. nat_range b.start b.end) c.map.ensures.base in
    let places : chain.0 ≡ range_with_len 0 n =
    ranged ∙ ((λ i. nat_range (ends.0 i) (ends.1 i)) ∙ ap (range_with_len 0) whole) in
    let each : AllZip (λ i y. y ≡ said i) chain.0 h.0 =
    subst (λ f. AllZip (λ i y. y ≡ look_at f.1.now f.2.now i) chain.0 h.0)
    c.map.ensures.f chain.2 in
    let found : h.0 ≡ map said (range_with_len 0 n) =
    AllZip-map said chain.0 h.0 each ∙ ap (map said) places in
    h.2 ∙ found)
