-- What is read is the number that the text spells.
use Rattle.question_words.proofs.Numbers.{read, refused}
use Rattle.question_words.proofs.values.number.Goals as goal

pub returns-in-Ok : goal.returns-in-Ok
returns-in-Ok c =
    read c.args.text c.in-Ok.number c.in-Ok.ensures.value.0.0.0 c.in-Ok.ensures.value.0.0.1
    c.in-Ok.ensures.value.0.1

pub returns-in-Err : goal.returns-in-Err
returns-in-Err c = refused c.args.text c.in-Err.ensures.value.0
