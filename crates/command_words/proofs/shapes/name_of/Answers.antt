use Rattle.std.proofs.Common.{◌∙◌, ap, arith, sym}
use Rattle.std.specs.Str.{bytes_eq}
use Rattle.command_words.specs.Tables.{app_by}
use Rattle.command_words.proofs.Lookup.{found_here, goes_on, is_help, is_no_help, none_left}
use Rattle.command_words.proofs.shapes.name_of.Goals as goal

pub returns-then-eq : goal.returns-then-eq
unfolding app_by
returns-then-eq c = is_help c.args.word.now (sym c.eq.ensures ∙ c.if-eq.true)

pub loop-name-init : goal.loop-name-init
unfolding app_by
loop-name-init c = is_no_help c.args.word.now (sym c.eq.ensures ∙ c.if-eq.false)

pub loop-name-preserved : goal.loop-name-preserved
loop-name-preserved c =
    goes_on c.args.word.now _ c.loop-name.name-index _ c.loop-name-test.true c.loop-name.invariant
    (ap (bytes_eq c.args.word.now) (sym c.word_of.ensures) ∙ (sym c.eq-in-loop-name.ensures
    ∙ c.if-eq-2.false))

pub returns-then-eq-2 : goal.returns-then-eq-2
returns-then-eq-2 c =
    found_here c.args.word.now _ c.loop-name.name-index _ c.loop-name-test.true
    c.loop-name.invariant
    (ap (bytes_eq c.args.word.now) (sym c.word_of.ensures) ∙ (sym c.eq-in-loop-name.ensures
    ∙ c.if-eq-2.true))

pub returns : goal.returns
returns c =
    none_left c.args.word.now _ c.loop-name.name-index (omega (arith, c.loop-name-test.false))
    c.loop-name.invariant
