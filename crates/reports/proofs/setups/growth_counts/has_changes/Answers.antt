use Rattle.std.proofs.Common.{◌∙◌, ap, sym}
use Rattle.reports.specs.GrowthTexts.{is_any}
use Rattle.reports.proofs.Unchanged.{unchanged}
use Rattle.reports.proofs.setups.growth_counts.has_changes.Goals as goal

pub returns : goal.returns
returns c =
    let is = c.is_any.ensures ∙ ap is_any c.counts.ensures in record {
      changes = is;
      same = λ none. unchanged c.args.before.now c.args.after.now c.requires (sym is ∙ none);
    }
