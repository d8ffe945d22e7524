use Rattle.std.proofs.Common.{◌∙◌, ap, [], unwrap_or}
use Rattle.std.proofs.lemmas.Result.{IfOk-weaker}
use Rattle.clap.specs.Words.{found_of}
use Rattle.clap.proofs.WalkLemmas.{raw_values-rows}
use Rattle.command_words.specs.Words.{texts_of}
use Rattle.command_words.proofs.reading.all.Goals as goal

pub returns-in-Some : goal.returns-in-Some
returns-in-Some c =
    let given = c.in-Some.ensures ∙ raw_values-rows (found_of c.args.matches.now) c.args.id.now in
    IfOk-weaker c.to_vec.result _ _
    (λ v same. ap texts_of (same (λ x y e. e)) ∙ ap (λ o. unwrap_or o []) given)
    c.to_vec.ensures.items_if_clones_equal

pub returns-in-None : goal.returns-in-None
returns-in-None c =
    let given = c.in-None.ensures ∙ raw_values-rows (found_of c.args.matches.now) c.args.id.now in
    ap texts_of c.new.ensures.items ∙ ap (λ o. unwrap_or o []) given
