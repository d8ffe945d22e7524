use Rattle.hub_core.proofs.FeedLemmas.{none_before}
use Rattle.hub_core.proofs.line.bytes.feed_at.Goals as goal

pub returns-clause-before : goal.returns-clause-before
returns-clause-before c = none_before c.args.bytes.now c.memchr.result c.unwrap_or.result
    c.memchr.ensures c.unwrap_or.ensures
