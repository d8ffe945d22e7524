use Rattle.std.proofs.Common.{refl}
use Rattle.serve_core.proofs.TextLemmas.{rest_is, next_line}
use Rattle.serve_core.proofs.text_feed.line_at.Goals as goal

pub returns-clause-first : goal.returns-clause-first
returns-clause-first c = next_line c.args.bytes.now _ c.args.at c.feed_at.result _
    (rest_is c.args.bytes.now c.args.at) c.requires c.feed_at.ensures.within
    c.feed_at.ensures.before c.feed_at.ensures.feed refl
