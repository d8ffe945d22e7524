use Rattle.std.proofs.Common.{◌≡◌, ◌++◌, take}
use Rattle.seal_core.specs.ReceiptTexts.{hash_tokens}
use Rattle.seal_core.proofs.receipt_writer.write_hashes.Given as goal

-- the tokens of the hashes so far
abbrev pub invariant-loop-hash : goal.invariant-loop-hash
invariant-loop-hash l = record {
  before : l.out.before ≡ l.fn.out.before;
  tokens : l.out.tokens ≡ l.fn.out.tokens ++ hash_tokens (take l.hash-index l.hashes);
}
