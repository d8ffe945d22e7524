use Rattle.std.proofs.Common.{◌≡◌, ◌<◌, ◌-◌, ◌*◌, ◌∙◌, ap, subst, arith}
use Rattle.std.specs.Prelude.{IfOk}
use Rattle.std.specs.Int.{div_ceil}
use Rattle.std.specs.List.{range_with_len, AllZip}
use Rattle.std.proofs.lemmas.Grind.{div_ceil_times}
use Rattle.std.proofs.Crossing.{crosses, frees}
use denote.Param.Send.{sendable}
use Rattle.rayon.specs.Numbers.{nat_range}
use Rattle.rayon.proofs.ToStd.{nat_range-All}
use Rattle.seal_core.specs.Blocks.{block_head}
use Rattle.seal_core.specs.Leaves.{entry_leaf}
use Rattle.count_core.proofs.Crossing.{ledger_sync}
use Rattle.seal_core.proofs.Results.{made_of_each}
use Rattle.seal_core.proofs.workers.block_heads.Goals as goal

pub collect-requires : goal.collect-requires
collect-requires g c κs =
    let ends = c.into_par_iter.ensures in
    let blocks = div_ceil c.args.entries 1024 in
    let bounds = div_ceil_times c.args.entries 1024 (omega arith) in
    let inside = nat_range-All (λ i. i * 1024 < c.args.entries) 0 blocks
    (λ i low high. omega (arith, bounds.1)) in (
      search (ledger_sync, sendable, crosses) depth 40,
      (
        search (sendable, crosses) depth 40,
        (
          search (sendable, crosses) depth 40,
          (
            search (sendable, crosses) depth 40,
            (
              search (sendable, crosses) depth 40,
              (
                frees,
                rw (
                  c.map.ensures.base,
                  c.map.ensures.f,
                  c.with_min_len.ensures.base,
                  ends.0,
                  ends.1,
                  c.div_ceil.ensures,
                ) (λ k d lt.
                    ((inside k d lt, (c.requires.few, c.requires.posted)), λ y p. tt)),
              ),
            ),
          ),
        ),
      ),
    )

pub returns : goal.returns
returns g c =
    let ends = c.into_par_iter.ensures in
    let n = div_ceil c.args.entries 1024 in
    let whole : n - 0 ≡ n = omega arith in
    let head = block_head (entry_leaf c.args.ledger.now) 0 c.args.entries in
    let found = c.in_ok-collect.ensures in
    let chain = found.1 in
    let ranged = chain.1 ∙ (ap (λ b. nat_range b.base.start b.base.end) c.map.ensures.base
    ∙ ap (λ b. nat_range b.start b.end) c.with_min_len.ensures.base) in
    let places = ranged ∙ ((λ i. nat_range (ends.0 i) (ends.1 i))
    ∙ ap (range_with_len 0) (ap (λ x. x - 0) c.div_ceil.ensures ∙ whole)) in
    let each = subst (λ f. AllZip (λ i one. IfOk one
    (λ x. x ≡ block_head (entry_leaf f.1.now) 0 f.2.now i)) chain.0 found.0)
    c.map.ensures.f chain.2 in
    let placed = subst (λ l. AllZip (λ i one. IfOk one (λ x. x ≡ head i)) l found.0) places each in
    made_of_each _ head (range_with_len 0 n) found.0 c.in_ok-collect.field-0 placed found.2
