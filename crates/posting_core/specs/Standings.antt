-- Defines what a ledger keeps of each station, and what an entry changes in it.
use Rattle.std.specs.Prelude.{ℕ, List, false, slice_set}
use Rattle.posting_core.specs.declared.entry.Entry.{Entry}
use Rattle.posting_core.specs.declared.standing.Standing.{Standing}
use Rattle.posting_core.specs.Lawful.{count_at, is_signed_off}
use Rattle.posting_core.specs.Messages.{is_sign_off}

-- The number of a station's entries, and whether its sign-off is posted.
abbrev pub standing_at : List Entry → ℕ → Standing
standing_at P station =
    record { count = count_at station P; signed_off = is_signed_off station P }

-- The standing of a station without entries.
abbrev pub no_standing : Standing
no_standing = record { count = 0; signed_off = false }

-- The standing of a station whose last entry this is.
abbrev pub standing_after : Entry → Standing
standing_after e = record { count = e.n; signed_off = is_sign_off e.message }

-- The standings with that of the entry's station replaced.
abbrev pub standings_with : List Standing → Entry → List Standing
standings_with standings e = slice_set standings e.station (standing_after e)
