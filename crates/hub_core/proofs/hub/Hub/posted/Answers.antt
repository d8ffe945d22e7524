use Rattle.std.proofs.Common.{rules, ap, ◌∙◌, subst, List}
use Rattle.posting_core.specs.declared.entry.Entry.{Entry}
use Rattle.posting_core.specs.Lawful.{IsLawful}
use Rattle.hub_core.specs.Points.{cut}
use Rattle.hub_core.proofs.CutLemmas.{each_run}
use Rattle.hub_core.proofs.hub.Hub.posted.Goals as goal

pub returns-clause-runs : goal.returns-clause-runs
returns-clause-runs g c O A stands s =
    let S = c.args.self.now.book.museum in
    let d = c.args.self.now.book.depth in
    let law : IsLawful S d c.args.self.now.book.posted = search rules in
    ap (cut s) stands.list ∙ each_run S d O A s
    (subst (λ (P : List Entry). IsLawful S d P) stands.list law)
