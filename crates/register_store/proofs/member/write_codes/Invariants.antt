use Rattle.std.proofs.Common.{◌≡◌, ◌++◌, take}
use Rattle.register_store.specs.MessageTokens.{string_tokens}
use Rattle.register_store.proofs.member.write_codes.Given as goal

abbrev pub invariant-loop-thing : goal.invariant-loop-thing
invariant-loop-thing l =
    (l.out.before ≡ l.fn.out.before)
    × (l.out.tokens ≡ l.fn.out.tokens ++ string_tokens (take l.thing-index l.things))
