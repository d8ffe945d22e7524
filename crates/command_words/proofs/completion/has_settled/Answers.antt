use Rattle.std.proofs.Common.{◌∙◌, arith, sym}
use Rattle.command_words.proofs.Settling.{ends_here, goes_on, none_left, settled_here}
use Rattle.command_words.proofs.completion.has_settled.Goals as goal

pub loop-word-preserved : goal.loop-word-preserved
loop-word-preserved c =
    goes_on c.args.option c.args.words.now c.loop-word.word-index _
    c.loop-word-test.true c.loop-word.invariant
    (sym c.eq.ensures ∙ c.if-eq.false) (sym c.settles_option.ensures ∙ c.if-settles_option.false)

pub returns-then-eq : goal.returns-then-eq
returns-then-eq c =
    sym (ends_here c.args.option c.args.words.now c.loop-word.word-index _
    c.loop-word-test.true c.loop-word.invariant
    (sym c.eq.ensures ∙ c.if-eq.true))

pub returns-then-settles_option : goal.returns-then-settles_option
returns-then-settles_option c =
    sym (settled_here c.args.option c.args.words.now c.loop-word.word-index _
    c.loop-word-test.true c.loop-word.invariant
    (sym c.eq.ensures ∙ c.if-eq.false) (sym c.settles_option.ensures ∙ c.if-settles_option.true))

pub returns : goal.returns
returns c =
    sym (none_left c.args.option c.args.words.now c.loop-word.word-index
    (omega (arith, c.loop-word-test.false)) c.loop-word.invariant)
