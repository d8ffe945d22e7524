use Rattle.std.proofs.Common.{take, subst}
use Rattle.std.specs.Io.KnownBytes.{Consumes}
use Rattle.std.specs.Io.BufRead.{FillKeeps}
use Rattle.std.proofs.BufReadLemmas.{Consumes_shown}
use Rattle.hub_core.proofs.FeedLemmas.{Cut, cut_feed, cut_open, cut_input}
use Rattle.hub_core.proofs.line.bytes.take_piece.Goals.{then-feed-there}
use Rattle.hub_core.proofs.line.bytes.take_piece.Goals.{else-feed-there+then-there-eq0}
use Rattle.hub_core.proofs.line.bytes.take_piece.Goals.{else-feed-there+else-there-eq0}
use Rattle.hub_core.proofs.line.bytes.take_piece.Goals as goal

pub returns-clause-piece : goal.returns-clause-piece
returns-clause-piece g c =
    let shown = c.in-Ok.shown.now in
    let feed = c.feed_at-feed in
    let cut : Cut shown feed.result c.if-feed-there.taken c.if-feed-there.end =
    elim c.if-feed-there.branch [
      | then-feed-there w ↦ cut_feed shown feed.result _ _ w.end-is w.taken-is w.if-feed-there.true
          feed.ensures.feed
      | else-feed-there+then-there-eq0 w ↦
          cut_input shown feed.result _ _ w.end-is w.taken-is feed.ensures.within
          w.if-there-eq0.true
      | else-feed-there+else-there-eq0 w ↦
          cut_open shown feed.result _ _ w.end-is w.taken-is feed.ensures.within
    ] in
    let rested = c.fill_buf.follows.lender-at-none in
    let filled = subst (FillKeeps _ (g.R.Read.remaining rested) (g.R.BufRead.consumable_len rested))
    c.in-Ok.is c.fill_buf.follows.holds-at-none in
    let moved = Consumes_shown _ _ _ _ shown c.if-feed-there.taken cut.0 c.in-Ok.ensures.front
    c.in-Ok.ensures.end filled.0 filled.1 c.consume.ensures.bytes in
    record {
      bytes = take feed.result shown;
      taken = subst (Consumes _ _) cut.1 moved.0;
      one = feed.ensures.before;
      kept = λ line e. c.in_ok-keep.ensures.kept line e;
      last = λ e. moved.1 (cut.2 e);
    }
