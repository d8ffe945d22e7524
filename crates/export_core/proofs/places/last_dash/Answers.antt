use Rattle.std.proofs.Common.{◌≡◌, ◌+◌, ◌-◌, arith, drop, false, subst}
use Rattle.export_core.specs.Setups.{has_dash}
use Rattle.export_core.proofs.Dashes.{dash_here, no_dash_at_all}
use Rattle.export_core.proofs.places.last_dash.Goals as goal

pub returns-then-code-end-eq45-clause-before : goal.returns-then-code-end-eq45-clause-before
returns-then-code-end-eq45-clause-before c =
    let code = c.args.code.now in
    let e = c.loop-end.end in
    let next : e ≡ e - 1 + 1 = omega (arith, c.loop-end-test.true) in
    dash_here code (e - 1) _ (omega (arith, c.loop-end-test.true, c.loop-end.invariant.0))
    c.if-code-end-eq45.true
    (subst (λ k. has_dash (drop k code) ≡ false) next c.loop-end.invariant.1)

pub returns-clause-before : goal.returns-clause-before
returns-clause-before c =
    let code = c.args.code.now in
    let start : c.loop-end.end ≡ 0 = omega (arith, c.loop-end-test.false) in
    no_dash_at_all code
    (subst (λ k. has_dash (drop k code) ≡ false) start c.loop-end.invariant.1)
