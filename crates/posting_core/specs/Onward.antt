-- Defines how a ledger grows: the changes that an entry makes in it, and the facts that stay true
-- whatever is posted later.
use Rattle.std.specs.Prelude.{ℕ, ℤ, ◌≡◌, ◌≤ℤ◌, ◌&&◌, ◌==◌, ◌++◌, Bool, true, false, not, List}
use Rattle.std.specs.Prelude.{Option, Some, None, IfSome, filter, map}
use Rattle.std.specs.List.{list_all, list_any}
use Rattle.std.specs.Option.{option_map_or}
use Rattle.std.specs.Str.{bytes_eq}
use Rattle.codes_core.specs.Loan.{is_out}
use Rattle.posting_core.specs.declared.message.Message.{Message}
use Rattle.posting_core.specs.declared.message.Message.TheVariants.{Exit}
use Rattle.posting_core.specs.declared.entry.Entry.{Entry}
use Rattle.posting_core.specs.declared.entry.Spot.{Spot}
use Rattle.posting_core.specs.declared.entry.Changes.{Changes}
use Rattle.posting_core.specs.declared.stage.LineStage.{LineStage}
use Rattle.posting_core.specs.declared.stage.LineStage.TheVariants.{Awaiting, Away, Back, Here}
use Rattle.posting_core.specs.declared.stage.LineStage.TheVariants.{GivenBack}
use Rattle.posting_core.specs.VerdictNames.{is_applied}
use Rattle.posting_core.specs.Lawful.{IsLawful}
use Rattle.posting_core.specs.Verdicts.{is_container_code}
use Rattle.posting_core.specs.Book.{Book}

-- The ledger after these entries are posted as well, the newest first.
abbrev pub later : Book → List Entry → Book
later B L = record B { posted = L ++ B.posted }

-- The rules allow those entries.
abbrev pub GoesOn : Book → List Entry → Type 0
GoesOn B L = IsLawful B.museum B.depth (L ++ B.posted)

-- All of the entries are refused. By law they change no answer.
abbrev pub are_refused : List Entry → Bool
are_refused L = list_all (λ e. not (is_applied e.verdict)) L

-- The spots that the changes add for a thing. By law its spots are those before, followed by these.
abbrev pub spots_for : Changes → ℕ → List Spot
spots_for changes x = map (λ s. s.spot) (filter (λ s. s.thing == x) changes.spots)

-- The changes set the object's line under the loan. By law a line differs afterwards only if the
-- changes name it, and then it is at the stage that they set.
abbrev pub names_line : Changes → List ℕ → ℕ → Bool
names_line changes loan o = list_any (λ l. bytes_eq l.loan loan && (l.object == o)) changes.lines

-- A line's stage never goes back: an object of a loan out is awaited, away, then back; one of a
-- loan in is awaited, here, then given back. It may stay at a stage.
abbrev pub is_onward : LineStage → LineStage → Bool
is_onward Awaiting next = true
is_onward Away Away = true
is_onward Away Back = true
is_onward Back Back = true
is_onward Here Here = true
is_onward Here GivenBack = true
is_onward GivenBack GivenBack = true
is_onward _ _ = false

-- A line moves only onward, and a listed object stays listed.
abbrev pub goes_forward : Option LineStage → Option LineStage → Bool
goes_forward None next = true
goes_forward (Some s) next = option_map_or (is_onward s) next false

-- A loan's last day stays or becomes later; it is never lost.
abbrev pub MovesOn : Option ℤ → Option ℤ → Type 0
MovesOn day next = IfSome day (λ d. (n : ℤ) × (next ≡ Some n) × (d ≤ℤ n))

-- No container leaves under a loan in.
abbrev pub LeavesUncrated : List Entry → Message → Type 0
LeavesUncrated P (Exit day x loan) = is_out loan ≡ false → is_container_code x ≡ false
LeavesUncrated P _ = Unit {0}
