-- No row of an applied message's verdict holds.
use Rattle.std.specs.Prelude.{◌≡◌, true, false, List, [], ◌∷◌, refl, not, if◌then◌else◌}
use Rattle.std.specs.List.{list_all, AllByRecursion}
use Rattle.std.proofs.Common.{ap, ◌∙◌, sym}
use Rattle.std.proofs.lemmas.Bool.{and_parts, false≢true}
use Rattle.nest_core.specs.InOrder.{Row}
use Rattle.posting_core.specs.declared.verdict.Verdict.{Verdict}
use Rattle.posting_core.specs.declared.verdict.Verdict.TheVariants.{Applied}
use Rattle.posting_core.specs.VerdictNames.{is_applied}
use Rattle.posting_core.specs.Verdicts.{first_of}

-- no row of an applied message holds
pub none_holds : (rows : List (Row Verdict))
    → list_all (λ row. not (is_applied row.says)) rows ≡ true → first_of rows ≡ Applied
    → AllByRecursion (λ row. row.holds ≡ false) rows
none_holds [] refusals h = tt
none_holds (row ∷ rows) refusals h =
    let parts = and_parts (not (is_applied row.says))
    (list_all (λ row. not (is_applied row.says)) rows) refusals in
    elim row.holds as (λ b. row.holds ≡ b → (if b then row.says else first_of rows) ≡ Applied
    → (b ≡ false) × AllByRecursion (λ row. row.holds ≡ false) rows) [
      | true ↦ λ e k. absurd (false≢true (ap (λ v. not (is_applied v)) (sym k) ∙ parts.0))
      | false ↦ λ e k. (refl, none_holds rows parts.1 k)
    ] refl h

pub applied_is : (v : Verdict) → is_applied v ≡ true → v ≡ Applied
applied_is Applied h = refl
applied_is _ h = absurd (false≢true h)
