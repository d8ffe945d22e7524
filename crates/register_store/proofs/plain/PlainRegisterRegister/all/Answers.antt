use Rattle.std.proofs.Common.{sym, ap, reverse}
use Rattle.std.proofs.lemmas.List.Sorted.{IsPermutation-refl}
use Rattle.register_store.specs.Plain.{Kept, held_lines, term_rows}
use Rattle.register_store.proofs.Kept.{same_itself, comes_by, reordered, listed_fault}
use Rattle.register_store.proofs.plain.PlainRegisterRegister.all.Goals as goal

pub returns-clause-cause : goal.returns-clause-cause
returns-clause-cause c =
    listed_fault c.entries_of.result c.self.inside.stations c.args.self.now.stations
    c.sort_rows.new.rows.items c.deref.result.now c.self.inside.setup
    (reverse c.self.inside.spots.items) (held_lines c.self.inside.lines.entries)
    (term_rows c.self.inside.terms.entries)
    (sym (ap (λ (k : Kept). k.stations) c.self.view_is)) c.deref.ensures.value
    c.sort_rows.ensures.order c.entries_of.ensures.faults

pub returns-clause-unchanged : goal.returns-clause-unchanged
returns-clause-unchanged c =
    let K = c.args.self.now.content in
    comes_by K _ (λ k. k)
    ((reordered c.self.inside.setup c.self.inside.postings.items c.sort_rows.new.rows.items
    c.self.inside.spots.items c.self.inside.spots.items (held_lines c.self.inside.lines.entries)
    (term_rows c.self.inside.terms.entries) K K
    c.sort_rows.ensures.same (IsPermutation-refl _)
    (sym (ap (λ (k : Kept). k.content) c.self.view_is))).0 (same_itself K))
