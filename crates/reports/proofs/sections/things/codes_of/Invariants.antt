use Rattle.std.proofs.Common.{◌≡◌, map, take}
use Rattle.std.specs.Prelude.{string_bytes}
use Rattle.reports.specs.Texts.{thing_text}
use Rattle.reports.proofs.sections.things.codes_of.Given as goal

abbrev pub invariant-loop-i : goal.invariant-loop-i
invariant-loop-i l =
    map string_bytes l.codes.items ≡ map (thing_text l.setup) (take l.i l.things)
