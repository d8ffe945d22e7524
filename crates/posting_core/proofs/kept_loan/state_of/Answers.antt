use Rattle.std.proofs.Common.{◌≡◌, Bool, List, true, false, not, refl, rules, tests}
use Rattle.std.specs.List.{list_all, list_any}
use Rattle.std.proofs.lemmas.Iterator.{YieldsList-from_slice}
use Rattle.std.proofs.lemmas.Iterator.Search.{all_from_yields_List, any_from_yields_List}
use Rattle.posting_core.specs.declared.stage.LineStage.{LineStage}
use Rattle.posting_core.specs.declared.stage.LoanState.TheVariants.{Authorised, Closed, Running}
use Rattle.posting_core.specs.Loans.{is_done, is_awaiting, state_by}
use Rattle.posting_core.proofs.kept_loan.state_of.Goals as goal

is_closed : (authorised : Bool) (stages : List LineStage) → authorised ≡ true
    → list_all is_done stages ≡ true → Closed ≡ state_by authorised stages
is_closed authorised stages a d = rw (a, d) refl

is_waiting : (authorised : Bool) (stages : List LineStage) → authorised ≡ true
    → list_all is_done stages ≡ false → list_any (λ s. not (is_awaiting s)) stages ≡ false
    → Authorised ≡ state_by authorised stages
is_waiting authorised stages a d n = rw (a, d, n) refl

is_running : (authorised : Bool) (stages : List LineStage) → authorised ≡ true
    → list_all is_done stages ≡ false → list_any (λ s. not (is_awaiting s)) stages ≡ true
    → Running ≡ state_by authorised stages
is_running authorised stages a d n = rw (a, d, n) refl

pub returns-then-all : goal.returns-then-all
returns-then-all c =
    let all = all_from_yields_List is_done _ _ c.all.result c.all.ensures.ran
    (YieldsList-from_slice c.args.stages.now cc) (λ x b q k. search (rules, tests)) in
    is_closed c.args.authorised c.args.stages.now (cc) (cc)

pub returns-then-any : goal.returns-then-any
returns-then-any c =
    let all = all_from_yields_List is_done _ _ c.all.result c.all.ensures.ran
    (YieldsList-from_slice c.args.stages.now cc) (λ x b q k. search (rules, tests)) in
    let any = any_from_yields_List (λ s. not (is_awaiting s)) _ _ c.any.result c.any.ensures.ran
    (YieldsList-from_slice c.args.stages.now cc) (λ x b q k. search (rules, tests)) in
    is_running c.args.authorised c.args.stages.now (cc) (cc) (cc)

pub returns : goal.returns
returns c =
    let all = all_from_yields_List is_done _ _ c.all.result c.all.ensures.ran
    (YieldsList-from_slice c.args.stages.now cc) (λ x b q k. search (rules, tests)) in
    let any = any_from_yields_List (λ s. not (is_awaiting s)) _ _ c.any.result c.any.ensures.ran
    (YieldsList-from_slice c.args.stages.now cc) (λ x b q k. search (rules, tests)) in
    is_waiting c.args.authorised c.args.stages.now (cc) (cc) (cc)
