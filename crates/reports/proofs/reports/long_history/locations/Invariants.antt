use Rattle.std.proofs.Common.{◌≡◌, All, map}
use Rattle.posting_core.specs.Book.{spots_in}
use Rattle.posting_core.specs.Past.{upto}
use Rattle.reports.specs.LongHistory.{IsListed, location}
use Rattle.reports.proofs.reports.long_history.locations.Given as goal

abbrev pub invariant-loop-i : goal.invariant-loop-i
invariant-loop-i l = record {
  so_far : l.so_far ≡ upto l.ledger l.i;
  found : l.found.items ≡ map (location l.ledger l.thing) (spots_in (upto l.ledger l.i) l.thing);
  listed : All (IsListed l.ledger) l.found.items;
}
