use Rattle.hub_core.proofs.ReplayLemmas.{whole_input, whole_seen}
use Rattle.std.proofs.lemmas.Result.{on_ok_weaker}
use Rattle.hub_core.proofs.stream.lines.replay_watched.Goals as goal

pub returns-clause-bytes_to_bytes : goal.returns-clause-bytes_to_bytes
returns-clause-bytes_to_bytes g c =
    let S = c.args.hub.now.book.museum in
    let depth = c.args.hub.now.book.depth in
    let i = g.R.Read.remaining c.args.input.now in
    let i2 = g.R.Read.remaining c.replay_from.new.input in
    let o = g.W.Write.contents c.args.output.now in
    let o2 = g.W.Write.contents c.replay_from.new.output in
    let hub = c.replay_from.new.hub in
    on_ok_weaker c.replay_from.result
    (λ a O A st. whole_input S depth O A i i2 o o2 g.S.Register.holding hub (a O A st))
    c.replay_from.ensures.answered

pub returns-clause-seen : goal.returns-clause-seen
returns-clause-seen g c =
    let S = c.args.hub.now.book.museum in
    let depth = c.args.hub.now.book.depth in
    let i = g.R.Read.remaining c.args.input.now in
    let i2 = g.R.Read.remaining c.replay_from.new.input in
    let o = g.W.Write.contents c.args.output.now in
    let o2 = g.W.Write.contents c.replay_from.new.output in
    let hub = c.replay_from.new.hub in
    on_ok_weaker c.replay_from.result
    (λ a O A st. whole_seen S depth O A i i2 o o2 g.S.Register.holding hub
    (g.V.Watch.has_seen c.args.watch.now) (g.V.Watch.has_seen c.replay_from.new.watch)
    (a O A st)) c.replay_from.ensures.watched
