-- Verdicts of crossings that depend on the loan lines.
use Rattle.std.specs.Prelude.{ℕ, ◌≡◌, ◌&&◌, Bool, true, false, not, List, [], ◌∷◌, Option, None}
use Rattle.std.specs.Prelude.{Some, is_some, refl, if◌then◌else◌, length, unwrap_or}
use Rattle.std.specs.Option.{option_map_or}
use Rattle.std.proofs.Common.{ap, ◌∙◌}
use Rattle.std.proofs.lemmas.Bool.{or_parts, and_from}
use Rattle.nest_core.specs.Museum.{Museum, find_thing}
use Rattle.posting_core.specs.declared.entry.Entry.{Entry}
use Rattle.posting_core.specs.declared.stage.LineStage.{LineStage}
use Rattle.posting_core.specs.declared.verdict.Verdict.{Verdict}
use Rattle.posting_core.specs.declared.verdict.Verdict.TheVariants.{Applied, NotListed, WrongStage}
use Rattle.posting_core.specs.declared.verdict.Verdict.TheVariants.{TermOver}
use Rattle.posting_core.specs.Messages.{thing_no}
use Rattle.posting_core.specs.History.{holds_at}
use Rattle.posting_core.specs.Verdicts.{first_of, line_rows, any_unlisted, any_not_at}
use Rattle.posting_core.specs.Verdicts.{hangs_on_lines, stage_eq}

by_rows : (unlisted wrong late : Bool)
    → hangs_on_lines (if unlisted then NotListed else
    (if wrong then WrongStage else (if late then TermOver else Applied))) ≡ true
by_rows true wrong late = refl
by_rows false true late = refl
by_rows false false true = refl
by_rows false false false = refl

lines_hang : (lines : ℕ → Option LineStage) (wanted : LineStage) (objects : List ℕ) (late : Bool)
    → hangs_on_lines (first_of (line_rows lines wanted objects late)) ≡ true
lines_hang lines wanted objects late =
    by_rows (any_unlisted lines objects) (any_not_at lines wanted objects) late

-- an object that isn't listed is at no stage
no_line : (wanted : LineStage) (line : Option LineStage)
    → (not (option_map_or (stage_eq wanted) line false)) ≡ false → (not (is_some line)) ≡ false
no_line wanted None h = h
no_line wanted (Some stage) h = refl

-- if all are at the stage needed, all are listed
pub all_listed : (lines : ℕ → Option LineStage) (wanted : LineStage) (objects : List ℕ)
    → any_not_at lines wanted objects ≡ false → any_unlisted lines objects ≡ false
all_listed lines wanted [] h = refl
all_listed lines wanted (o ∷ os) h =
    let both = or_parts _ _ h in
    rw (no_line wanted (lines o) both.0, all_listed lines wanted os both.1) refl

-- If the thing has something in it, and only the rows of its loan lines are left to check, judging
-- may run out of memory.
pub gives_up_on_lines : (S : Museum) (P : List Entry) (thing : List ℕ) (x : ℕ) (verdict : Verdict)
    (lines : ℕ → Option LineStage) (wanted : LineStage) (objects : List ℕ) (late : Bool) →
    find_thing S thing ≡ Some x → verdict ≡ first_of (line_rows lines wanted objects late)
    → holds_at S P x ≡ true → (holds_at S P (thing_no S thing) && hangs_on_lines verdict) ≡ true
gives_up_on_lines S P thing x verdict lines wanted objects late found is held =
    and_from _ _ (ap (λ o. holds_at S P (unwrap_or o (length S.things))) found ∙ held)
    (ap hangs_on_lines is ∙ lines_hang lines wanted objects late)
