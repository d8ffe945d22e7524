use Rattle.std.proofs.Common.{◌∷◌, ◌∙◌, ap, arith, sym, take}
use Rattle.hub_core.specs.Lines.{lines, without_return}
use Rattle.line_files.proofs.Cuts.{first_line, line_more}
use Rattle.line_files.proofs.lines.lines_of.Goals as goal

pub loop-rest-preserved : goal.loop-rest-preserved
loop-rest-preserved c =
    let rest = c.loop-rest.rest.now in
    let feed = c.feed_at-feed.result in
    let first = first_line rest feed (omega arith) c.feed_at-feed.ensures.before
    c.feed_at-feed.ensures.feed
    ∙ ap (λ next. without_return (take feed rest) ∷ lines next) (sym c.after_feed-rest.ensures) in
    line_more _ _ _ _ rest c.after_feed-rest.result.now _ c.loop-rest.invariant
    c.in_ok-push.ensures.items c.without_return.ensures first
