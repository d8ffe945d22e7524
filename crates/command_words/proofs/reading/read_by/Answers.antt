use Rattle.std.proofs.Common.{◌≡◌, ◌&&◌, Bool, true, false, refl}
use Rattle.command_words.proofs.reading.read_by.Goals as goal

first_holds : (a b : Bool) → (a && b) ≡ true → a ≡ true
first_holds true b e = refl
first_holds false b e = e

pub returns : goal.returns
returns c = (
  c.in_ok-try_get_matches_from.ensures.kinds c.requires,
  (c.in_ok-try_get_matches_from.ensures.matches (first_holds _ _ c.requires)).0,
)
