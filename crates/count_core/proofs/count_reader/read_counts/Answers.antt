use Rattle.std.proofs.Common.{◌≡◌, ◌≢◌, Option, Some, None, [], sym, ap, subst}
use Rattle.std.specs.Prelude.{if◌then◌else◌, MatchResult}
use Rattle.nest_core.specs.SetupRows.{rows_of}
use Rattle.nest_core.proofs.Tables.{is_text, never_both, no_text}
use Rattle.count_core.specs.declared.count_fault.CountFault.{CountFault}
use Rattle.count_core.specs.declared.count_fault.CountFault.TheVariants.{NotCsv, NoMemory}
use Rattle.count_core.specs.CountRows.{counts_of, first_fault}
use Rattle.count_core.proofs.count_reader.read_counts.Goals as goal

pub returns-in_default-clause-exact : goal.returns-in_default-clause-exact
returns-in_default-clause-exact c = λ other.
    ap (λ b. if b then first_fault [] (rows_of c.args.bytes.now) else Some NotCsv)
    (no_text c.args.bytes.now c.in_default.ensures.cases.0)

pub returns-clause-exact : goal.returns-clause-exact
returns-clause-exact c =
    let text = ap (λ b. if b then first_fault [] (rows_of c.args.bytes.now) else Some NotCsv)
    (is_text c.args.bytes.now c.in-Ok.ensures.cases.1) in
    subst (λ (o : Option CountFault). MatchResult c.read_rows.result (λ rows. (o ≡ None)
    × (rows.items ≡ counts_of (rows_of c.args.bytes.now))) (λ fault. fault ≢ NoMemory
    → o ≡ Some fault)) (sym text)
    c.read_rows.ensures

pub returns-clause-not_csv : goal.returns-clause-not_csv
returns-clause-not_csv c = λ none. absurd (never_both c.args.bytes.now c.in-Ok.ensures.cases.1 none)
