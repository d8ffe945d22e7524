-- A station's next number.
use Rattle.std.proofs.Common.{◌≡◌, ◌+◌, ◌<◌, ◌≤◌, ℕ, Bool, true, false, Ok, Err, arith, length}
use Rattle.std.proofs.Common.{nat_le, refl}
use Rattle.std.specs.Prelude.{Result, if◌then◌else◌}
use Rattle.std.proofs.lemmas.Bool.{leb-false}
use Rattle.posting_core.specs.declared.TheConstants.{LAST_NUMBER}
use Rattle.posting_core.specs.declared.message.Message.{Message}
use Rattle.posting_core.specs.Book.{Book}
use Rattle.posting_core.specs.Lawful.{Follows, count_at, is_signed_off}
use Rattle.line_files.specs.declared.gap_fault.GapFault.{GapFault}
use Rattle.line_files.specs.declared.gap_fault.GapFault.TheVariants.{SignedOff, Full}
use Rattle.line_files.specs.Gaps.{next_number}
use Rattle.line_files.specs.Trials.{entry_under}

-- the next number, by whether the station has signed off and whether it is full
abbrev number_by : Bool → Bool → ℕ → Result ℕ GapFault
number_by signed full n = if signed then Err SignedOff else (if full then Err Full else Ok n)

record IsNext (signed full : Bool) (next n : ℕ) : Type 0 where
  unsigned : signed ≡ false
  room : full ≡ false
  number : n ≡ next

is_next : (signed full : Bool) (next n : ℕ) → number_by signed full next ≡ Ok n
    → IsNext signed full next n
is_next true full next n h = absurd (cc)
is_next false true next n h = absurd (cc)
is_next false false next n h = record { unsigned = refl; room = refl; number = cc }

next_is : (B : Book) (s n : ℕ) → next_number B s ≡ Ok n
    → IsNext (is_signed_off s B.posted) (nat_le LAST_NUMBER (count_at s B.posted))
    (count_at s B.posted + 1) n
next_is B s n h =
    is_next (is_signed_off s B.posted) (nat_le LAST_NUMBER (count_at s B.posted))
    (count_at s B.posted + 1) n h

below_last : (count n : ℕ) → nat_le LAST_NUMBER count ≡ false → n ≡ count + 1 → n ≤ LAST_NUMBER
below_last count n room is = omega (arith, leb-false LAST_NUMBER count room, is)

pub next_few : (B : Book) (s n : ℕ) → next_number B s ≡ Ok n → n ≤ LAST_NUMBER
next_few B s n h =
    let next = next_is B s n h in below_last (count_at s B.posted) n next.room next.number

-- The entry under a station's next number may follow.
pub follows_next : (B : Book) (s n : ℕ) (m : Message) → s < length B.museum.stations
    → next_number B s ≡ Ok n → Follows B.museum B.depth B.posted (entry_under B s m n)
follows_next B s n m known h =
    let next = next_is B s n h in record {
      known = known;
      next = next.number;
      few = next_few B s n h;
      unsigned = next.unsigned;
      judged = refl;
    }
