use Rattle.std.proofs.Common.{rules, map}
use Rattle.serve_core.proofs.Sendings.{after_answers, after_fronts}
use Rattle.serve_core.proofs.serving.serve.Goals as goal

pub returns-in-Ok-clause-merge : goal.returns-in-Ok-clause-merge
returns-in-Ok-clause-merge g c = search rules

pub returns-in-Err-clause-answered : goal.returns-in-Err-clause-answered
returns-in-Err-clause-answered g c =
    after_answers g.R.Register.holding c.args.hub c.serve_all.new.hub
    (map g.F.Feed.items c.args.feeds.items) c.serve_all.new.log c.in-Err.fault
    c.in-Err.ensures.left

pub returns-in-Err-clause-fronts : goal.returns-in-Err-clause-fronts
returns-in-Err-clause-fronts g c =
    after_fronts g.R.Register.holding c.args.hub c.serve_all.new.hub
    (map g.F.Feed.items c.args.feeds.items) c.serve_all.new.log c.in-Err.fault
    c.in-Err.ensures.left
