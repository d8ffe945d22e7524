use Rattle.std.proofs.Common.{◌≡◌, false, not, map, take, length}
use Rattle.std.specs.List.{list_any}
use Rattle.posting_core.specs.Messages.{thing_no}
use Rattle.posting_core.specs.Verdicts.{is_known_at}
use Rattle.posting_core.proofs.ledger.Ledger.any_unknown.Given as goal

abbrev pub invariant-loop-i : goal.invariant-loop-i
invariant-loop-i l = record {
  known : list_any (λ x. not (is_known_at l.self.museum l.self.posted x))
      (take l.i l.codes) ≡ false;
  numbers : take l.i l.numbers ≡ map (thing_no l.self.museum) (take l.i l.codes);
  room : length l.numbers ≡ length l.initial.numbers;
}
