use Rattle.std.proofs.Common.{subst, sym}
use Rattle.register_store.specs.MessageTokens.{Appends, tokens_of}
use Rattle.register_store.proofs.message_writer.write_tokens.Goals as goal

pub returns-in-Agree : goal.returns-in-Agree
returns-in-Agree c =
    subst (λ m. Appends c.write_agree.result c.args.out.now c.write_agree.new.out (tokens_of m))
    (sym c.in-Agree.is) c.write_agree.ensures
