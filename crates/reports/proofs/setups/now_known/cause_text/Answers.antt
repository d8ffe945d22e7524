use Rattle.std.proofs.Common.{◌++◌, ◌∙◌, ℕ, List, ap, append_assoc, sym}
use Rattle.std.specs.Prelude.{codes}
use Rattle.posting_core.specs.VerdictNames.{verdict_name}
use Rattle.reports.proofs.setups.now_known.cause_text.Goals as goal

pub returns : goal.returns
returns c =
    let name = c.name-name.result.now in
    let code = c.code_text-code.result.now in
    let advice : List ℕ = codes ": send it again under a new number" in
    c.in_ok-format.ensures.ok
    ∙ (sym (append_assoc (name ++ codes " ") code advice
    ∙ append_assoc name (codes " ") (code ++ advice))
    ∙ (ap (λ n. n ++ codes " " ++ code ++ advice) c.name-name.ensures
    ∙ ap (λ x. verdict_name c.args.verdict ++ codes " " ++ x ++ advice) c.code_text-code.ensures))
