use Rattle.std.proofs.Common.{◌≡◌, ◌+◌, ◌<◌, ◌++◌, ◌∷◌, [], arith, below_more, length, rules}
use Rattle.std.proofs.Common.{string_bytes, subst}
use Rattle.posting_core.specs.declared.message.Message.{Message}
use Rattle.register_store.specs.SentLines.{sent_line, ReadsAs}
use Rattle.line_files.specs.AuditLines.{Reads}
use Rattle.line_files.proofs.Numbering.{each_reads, one_more, reads_here}
use Rattle.line_files.proofs.audits.lines.lines.Goals as goal

pub loop-i-preserved : goal.loop-i-preserved
loop-i-preserved c =
    let station = c.args.station.now in
    let moves = c.args.moves.now in
    let i = c.loop-i.i in
    let m : Message = c.index-moves-i.result in
    let before = string_bytes c.loop-i.text in
    let after = string_bytes c.push_line.new.text in
    let within : i < length moves = omega (arith, c.loop-i-test.true) in
    let number : c.from.result ≡ c.args.first = search rules in
    record {
      text = one_more station c.args.first i moves m before after within c.index-moves-i.is
          c.loop-i.invariant.text
          (subst (λ n. after ≡ before ++ (sent_line station (n + i) m ++ 10 ∷ [])) number
          c.in_ok-push_line.ensures.line);
      read = below_more (Reads station c.args.first moves) i c.loop-i.invariant.read
          (reads_here station c.args.first i moves m within c.index-moves-i.is
          (subst (λ n. ReadsAs station (n + i) m (sent_line station (n + i) m)) number
          c.in_ok-push_line.ensures.reads_back));
    }

pub returns-clause-reads_back : goal.returns-clause-reads_back
returns-clause-reads_back c =
    each_reads c.args.station.now c.args.first c.args.moves.now
    (λ k h. c.loop-i.invariant.read k (omega (arith, c.loop-i-test.false, h)))
