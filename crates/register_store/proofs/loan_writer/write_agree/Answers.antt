use Rattle.std.proofs.Common.{◌++◌, ◌∙◌, List, ap}
use Rattle.json.specs.Token.{Token}
use Rattle.register_store.proofs.Tokens.{◌then◌, agree_tokens}
use Rattle.register_store.proofs.loan_writer.write_agree.Goals as goal

pub returns : goal.returns
returns c =
    let written =
    c.in_ok-open_object.ensures then c.in_ok-write_day.ensures then c.in_ok-write_text.ensures
    then c.in_ok-write_day-2.ensures then c.in_ok-write_loan.ensures
    then c.in_ok-write_objects.ensures then c.in_ok-write_place.ensures
    then c.in_ok-close_object.ensures in
    record {
      before = written.before;
      tokens =
          written.tokens
          ∙ ap (λ (ts : List Token). c.args.out.now.tokens ++ ts)
          (agree_tokens c.args.first c.args.last c.args.loan.now c.args.partner.now
          c.args.objects.now);
    }
