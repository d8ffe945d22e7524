use Rattle.std.proofs.Common.{◌≡◌, ◌<◌, [], ◌∷◌, ◌++◌, length, refl, sym, ◌∙◌, arith, append-nil}
use Rattle.serve_core.specs.Logs.{dropped}
use Rattle.serve_core.specs.Lanes.{IsEndOn, received_at, ended_at}
use Rattle.serve_core.proofs.LogLemmas.{err_any, serves_none, serves_then, serves_to_then}
use Rattle.serve_core.proofs.Takings.{lines_then, takes_none, takes_then, takes_joined, zip_length}
use Rattle.serve_core.proofs.Takings.{zip_get, zip_set, ends_set, by_step, drained_at}
use Rattle.serve_core.proofs.Takings.{received_before}
use Rattle.serve_core.proofs.intake.take_left.Goals as goal

pub loop-i-init : goal.loop-i-init
loop-i-init g c = (
  [],
  sym (append-nil _),
  serves_none g.R.Register.holding c.args.hub.now,
  takes_none _,
  λ s lt. absurd (omega arith),
  c.requires.ends,
  (refl, λ s. refl),
  refl,
  refl,
  refl,
)

pub index_mut-requires-in-loop-i : goal.index_mut-requires-in-loop-i
index_mut-requires-in-loop-i g c =
    let inv = c.loop-i.invariant in
    omega (
      arith,
      c.loop-i-test.true,
      c.len-i-end.ensures,
      inv.7,
      zip_length IsEndOn _ _ inv.5,
      c.loop-i.ends.ok.0,
      c.loop-i.rings.ok.0,
    )

pub drain-requires : goal.drain-requires
drain-requires g c =
    let inv = c.loop-i.invariant in
    let le : c.loop-i.i < length c.loop-i.ends.items =
    omega (
      arith,
      c.loop-i-test.true,
      c.len-i-end.ensures,
      inv.7,
      zip_length IsEndOn _ _ inv.5,
      c.loop-i.ends.ok.0,
      c.loop-i.rings.ok.0,
    ) in
    zip_get IsEndOn c.loop-i.ends.items c.loop-i.rings.items c.loop-i.i
    c.index_mut-in-loop-i.result.now c.index_mut.result.now inv.5 le
    c.index_mut-in-loop-i.ensures.value c.index_mut.ensures.value

pub returns-in_err-drain-clause-fault : goal.returns-in_err-drain-clause-fault
returns-in_err-drain-clause-fault g c =
    let inv = c.loop-i.invariant in
    let t = c.in_err-drain.ensures.fault in
    let lc : c.loop-i.i < length c.loop-i.rings.items =
    omega (arith, c.loop-i-test.true, c.len-i-end.ensures, inv.7, c.loop-i.rings.ok.0) in
    err_any c.from_residual.result (
      inv.0 ++ t.0,
      c.loop-i.i,
      t.1,
      lines_then _ _ _ inv.0 t.0 inv.1 t.2,
      serves_to_then g.R.Register.holding _ _ _ inv.0 t.0 c.loop-i.i t.1 inv.2 t.3,
      takes_joined _ _ inv.0 t.0 (dropped c.loop-i.i t.1 ∷ [])
          (takes_then _ _ inv.0 (t.0 ++ dropped c.loop-i.i t.1 ∷ []) c.loop-i.i
          c.index_mut.result.now c.drain.new.ring inv.3 lc c.index_mut.ensures.value t.4),
    )

pub returns-in_err-drain-clause-ends : goal.returns-in_err-drain-clause-ends
returns-in_err-drain-clause-ends g c =
    let inv = c.loop-i.invariant in
    let d = c.in_err-drain.ensures.end in
    let le : c.loop-i.i < length c.loop-i.ends.items =
    omega (
      arith,
      c.loop-i-test.true,
      c.len-i-end.ensures,
      inv.7,
      zip_length IsEndOn _ _ inv.5,
      c.loop-i.ends.ok.0,
      c.loop-i.rings.ok.0,
    ) in (
      zip_set IsEndOn c.loop-i.ends.items c.loop-i.rings.items c.loop-i.i c.drain.new.end
          c.drain.new.ring inv.5 d.0,
      ends_set c.args.ends.now.items c.loop-i.ends.items c.loop-i.i c.index_mut-in-loop-i.result.now
          c.drain.new.end inv.6 le c.index_mut-in-loop-i.ensures.value d.1,
    )

pub loop-i-preserved : goal.loop-i-preserved
loop-i-preserved g c =
    let inv = c.loop-i.invariant in
    let t = c.in_ok-drain.ensures.lines in
    let d = c.in_ok-drain.ensures.end in
    let le : c.loop-i.i < length c.loop-i.ends.items =
    omega (
      arith,
      c.loop-i-test.true,
      c.len-i-end.ensures,
      inv.7,
      zip_length IsEndOn _ _ inv.5,
      c.loop-i.ends.ok.0,
      c.loop-i.rings.ok.0,
    ) in
    let lc : c.loop-i.i < length c.loop-i.rings.items =
    omega (arith, c.loop-i-test.true, c.len-i-end.ensures, inv.7, c.loop-i.rings.ok.0) in
    let e = c.index_mut-in-loop-i.result.now in (
      inv.0 ++ t.0,
      lines_then _ _ _ inv.0 t.0 inv.1 t.1,
      serves_then g.R.Register.holding _ _ _ inv.0 t.0 inv.2 t.2,
      takes_then _ _ inv.0 t.0 c.loop-i.i c.index_mut.result.now c.drain.new.ring inv.3 lc
          c.index_mut.ensures.value t.3,
      by_step (λ s. received_at _ s ≡ ended_at c.args.ends.now.items s) c.loop-i.i
          (λ s lt. received_before c.loop-i.rings.items c.loop-i.i s c.drain.new.ring lt
          ∙ inv.4 s lt)
          (drained_at c.loop-i.rings.items c.args.ends.now.items c.loop-i.ends.items c.loop-i.i
          c.drain.new.ring e (inv.6.1 c.loop-i.i) lc le c.index_mut-in-loop-i.ensures.value
          t.4),
      zip_set IsEndOn c.loop-i.ends.items c.loop-i.rings.items c.loop-i.i c.drain.new.end
          c.drain.new.ring inv.5 d.0,
      ends_set c.args.ends.now.items c.loop-i.ends.items c.loop-i.i e c.drain.new.end inv.6 le
          c.index_mut-in-loop-i.ensures.value d.1,
      inv.7,
      c.in_ok-drain.ensures.level ∙ inv.8,
      c.in_ok-drain.ensures.count ∙ inv.9,
    )
