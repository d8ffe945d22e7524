use Rattle.std.proofs.Common.{◌≡◌, ◌+◌, ◌∙◌, arith, subst, sym}
use Rattle.posting_core.specs.declared.TheConstants.{LAST_NUMBER}
use Rattle.posting_core.specs.Messages.{is_sign_off}
use Rattle.line_files.proofs.Going.{GoesTo, goes_more, goes_to_none, stops_missing, stops_signed}
use Rattle.line_files.proofs.progress.run_of.Goals as goal

pub loop-n-init : goal.loop-n-init
loop-n-init c = λ s them has. goes_to_none is_sign_off them s

pub loop-n-preserved : goal.loop-n-preserved
loop-n-preserved c = λ s them has.
    goes_more is_sign_off them s c.loop-n.n c.in-Some.message.now (c.loop-n.invariant s them has)
    (sym (has (c.loop-n.n + 1)) ∙ sym c.in-Some.ensures.value)
    (sym c.is_sign_off.ensures ∙ c.if-is_sign_off.false)

pub returns-in-None-clause-last : goal.returns-in-None-clause-last
returns-in-None-clause-last c = λ s them has.
    sym (stops_missing is_sign_off them s c.loop-n.n (c.loop-n.invariant s them has)
    (sym (has (c.loop-n.n + 1)) ∙ sym c.in-None.ensures.value)).last

pub returns-in-None-clause-signed : goal.returns-in-None-clause-signed
returns-in-None-clause-signed c = λ s them has.
    sym (stops_missing is_sign_off them s c.loop-n.n (c.loop-n.invariant s them has)
    (sym (has (c.loop-n.n + 1)) ∙ sym c.in-None.ensures.value)).sign

pub returns-then-is_sign_off-clause-last : goal.returns-then-is_sign_off-clause-last
returns-then-is_sign_off-clause-last c = λ s them has.
    sym (stops_signed is_sign_off them s c.loop-n.n c.in-Some.message.now
    (c.loop-n.invariant s them has)
    (sym (has (c.loop-n.n + 1)) ∙ sym c.in-Some.ensures.value)
    (sym c.is_sign_off.ensures ∙ c.if-is_sign_off.true)).last

pub returns-then-is_sign_off-clause-signed : goal.returns-then-is_sign_off-clause-signed
returns-then-is_sign_off-clause-signed c = λ s them has.
    sym (stops_signed is_sign_off them s c.loop-n.n c.in-Some.message.now
    (c.loop-n.invariant s them has)
    (sym (has (c.loop-n.n + 1)) ∙ sym c.in-Some.ensures.value)
    (sym c.is_sign_off.ensures ∙ c.if-is_sign_off.true)).sign

pub returns-clause-last : goal.returns-clause-last
returns-clause-last c = λ s them has.
    let all : c.loop-n.n ≡ LAST_NUMBER = omega arith in
    sym (stops_missing is_sign_off them s LAST_NUMBER
    (subst (GoesTo is_sign_off them s) all (c.loop-n.invariant s them has))
    (sym (has (LAST_NUMBER + 1)) ∙ c.requires (LAST_NUMBER + 1) (omega arith))).last

pub returns-clause-signed : goal.returns-clause-signed
returns-clause-signed c = λ s them has.
    let all : c.loop-n.n ≡ LAST_NUMBER = omega arith in
    sym (stops_missing is_sign_off them s LAST_NUMBER
    (subst (GoesTo is_sign_off them s) all (c.loop-n.invariant s them has))
    (sym (has (LAST_NUMBER + 1)) ∙ c.requires (LAST_NUMBER + 1) (omega arith))).sign
