use Rattle.std.proofs.Common.{◌≡◌, ◌∙◌, sym, ap, ap₂, ◌++◌, [], List, ℕ, Ok, Some}
use Rattle.std.specs.Option.{unwrap_or}
use Rattle.std.specs.Prelude.{Result}
use Rattle.seal_core.specs.declared.reading.LineFault.{LineFault}
use Rattle.seal_core.specs.declared.seal.Seal.{Seal}
use Rattle.seal_core.specs.Readings.{mark}
use Rattle.seal_core.proofs.Parts.{whole, number_of_seal, digits_of_seal, mark_of_seal}
use Rattle.seal_core.proofs.reading.read_seal.Goals as goal

abbrev Outcome : Type 0
Outcome = Result Seal LineFault

abbrev read_as : ℕ → List ℕ → Outcome
read_as entries head = Ok (record { entries = entries; head = head })

same_seal : (entries : ℕ) (head : List ℕ) (seal : Seal) → Some entries ≡ Some seal.entries
    → Some head ≡ Some seal.head → read_as entries head ≡ read_as seal.entries seal.head
same_seal entries head seal one other =
    ap₂ read_as (ap (λ found. unwrap_or found 0) one) (ap (λ found. unwrap_or found []) other)

pub returns-in_default-clause-accepts : goal.returns-in_default-clause-accepts
returns-in_default-clause-accepts c = λ seal is text.
    let marked = mark_of_seal seal c.args.line.now is text in
    cc (marked, c.in_default.ensures.marked)

pub returns-in_default-read_count-clause-accepts : goal.returns-in_default-read_count-clause-accepts
returns-in_default-read_count-clause-accepts c = λ seal is text.
    let found = c.in_default-read_count.ensures.accepts seal.entries is.small
    (c.in-Some.ensures.number ∙ number_of_seal seal c.args.line.now is text) in
    cc found

pub returns-in_default-read_head-clause-accepts : goal.returns-in_default-read_head-clause-accepts
returns-in_default-read_head-clause-accepts c = λ seal is text.
    let found = c.in_default-read_head.ensures.accepts seal.head is.few is.are_bytes
    (c.in-Some.ensures.digits ∙ digits_of_seal seal c.args.line.now is text) in
    cc found

pub returns-clause-reads : goal.returns-clause-reads
returns-clause-reads c =
    ap₂ (λ number digits. number ++ mark ++ digits)
    (c.in-Some-read_count.ensures.reads ∙ c.in-Some.ensures.number)
    (c.in-Some-read_head.ensures.reads ∙ c.in-Some.ensures.digits)
    ∙ whole c.args.line.now (sym c.in-Some.ensures.marked)

pub returns-clause-accepts : goal.returns-clause-accepts
returns-clause-accepts c = λ seal is text.
    let entries = c.in-Some-read_count.ensures.accepts seal.entries is.small
    (c.in-Some.ensures.number ∙ number_of_seal seal c.args.line.now is text) in
    let head = c.in-Some-read_head.ensures.accepts seal.head is.few is.are_bytes
    (c.in-Some.ensures.digits ∙ digits_of_seal seal c.args.line.now is text) in
    same_seal _ _ seal entries head
