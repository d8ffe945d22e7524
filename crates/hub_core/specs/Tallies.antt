-- Defines the counts of outcomes that a replay keeps.
use Rattle.std.specs.Prelude.{ℕ, ◌≡◌, ◌+◌, ◌-◌, ◌^◌, ◌==◌, ◌&&◌, min, Bool, true, false, List, fold}
use Rattle.std.specs.Prelude.{replicate, slice_index, slice_range, slice_set}
use Rattle.std.specs.List.{list_all}
use Rattle.posting_core.specs.VerdictNames.{is_applied, verdict_number}
use Rattle.station_core.specs.declared.Refusal.{Refusal}
use Rattle.station_core.specs.declared.Refusal.TheVariants as refusal
use Rattle.hub_core.specs.declared.outcome.Outcome.{Outcome}
use Rattle.hub_core.specs.declared.outcome.Outcome.TheVariants.{Answered, Bad, UnknownStation}
use Rattle.hub_core.specs.declared.outcome.Outcome.TheVariants.{Refused, Held, Posted, Asked}
use Rattle.hub_core.specs.declared.tally.Tally.{Tally}
use Rattle.hub_core.specs.declared.tally.TheConstants.{REFUSALS, VERDICTS}

-- The position of a refusal in the list of counts.
abbrev pub refusal_place : Refusal → ℕ
refusal_place refusal.UnknownStation = 0
refusal_place refusal.BadNumber = 1
refusal_place refusal.Double = 2
refusal_place refusal.SignedOff = 3
refusal_place refusal.TooEarly = 4

-- One more, but never above 2^64 - 1.
abbrev pub one_more : ℕ → ℕ
one_more n = min (n + 1) (2 ^ 64 - 1)

-- The counts with one more at this position.
abbrev pub one_more_at : List ℕ → ℕ → List ℕ
one_more_at counts place = slice_set counts place (one_more (slice_index counts place))

-- The tally before any line.
abbrev pub nothing_seen : Tally
nothing_seen = record {
  lines = 0;
  bad = 0;
  unknown_station = 0;
  refused = replicate REFUSALS 0;
  held = 0;
  posted = replicate VERDICTS 0;
  asked = 0;
}

-- The tally with one more outcome.
abbrev pub tallied : Tally → Outcome → Tally
tallied t Answered = record t { lines = one_more t.lines }
tallied t Bad = record t { bad = one_more t.bad }
tallied t UnknownStation = record t { unknown_station = one_more t.unknown_station }
tallied t (Refused refusal) = record t { refused = one_more_at t.refused (refusal_place refusal) }
tallied t Held = record t { held = one_more t.held }
tallied t (Posted verdict) = record t { posted = one_more_at t.posted (verdict_number verdict) }
tallied t Asked = record t { asked = one_more t.asked }

-- The tally of these outcomes.
abbrev pub tally_of : List Outcome → Tally
tally_of outcomes = fold tallied nothing_seen outcomes

-- The tally is that of these outcomes.
abbrev pub HasTallied : Tally → List Outcome → Type 0
HasTallied t outcomes = t ≡ tally_of outcomes

-- No line was bad or of an unknown station, no message was refused, and every entry was applied.
-- Verdict number 0 is Applied.
abbrev pub is_clean : Tally → Bool
is_clean t =
    (t.bad == 0)
    && ((t.unknown_station == 0)
    && (list_all (λ n. n == 0) t.refused
    && list_all (λ n. n == 0) (slice_range t.posted 1 VERDICTS)))

-- Nothing went wrong: a line was answered, a message was held or applied, or a question was asked.
abbrev pub is_fine : Outcome → Bool
is_fine Answered = true
is_fine Bad = false
is_fine UnknownStation = false
is_fine (Refused refusal) = false
is_fine Held = true
is_fine (Posted verdict) = is_applied verdict
is_fine Asked = true
