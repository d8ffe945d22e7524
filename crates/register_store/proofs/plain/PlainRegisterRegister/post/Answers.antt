use Rattle.std.proofs.Common.{rules, refl, sym, subst, ap}
use Rattle.std.specs.List.Sorted.{IsPermutation}
use Rattle.register_store.specs.Plain.{Kept, kept_row, has_same_key, held_lines, term_rows}
use Rattle.register_store.specs.StoredRows.{put_each, term_of}
use Rattle.register_store.specs.Holdings.{IsPosted}
use Rattle.register_store.proofs.Kept.{same_itself, same_back, same_then, comes_from, posted_same}
use Rattle.register_store.proofs.Kept.{left_as_was}
use Rattle.register_store.proofs.TermRows.{with_term}
use Rattle.register_store.proofs.plain.PlainRegisterRegister.post.Goals as goal

pub returns-clause-posted : goal.returns-clause-posted
returns-clause-posted c =
    let K = c.args.self.now.content in
    let put : IsPermutation (held_lines c.put_lines.new.kept.entries)
    (put_each has_same_key c.as_slice-lines.result.now
    (held_lines c.reserve.new.self.entries)) = c.put_lines.ensures in
    let lined : IsPermutation (held_lines c.put_lines.new.kept.entries)
    (put_each has_same_key c.args.changes.now.lines (held_lines c.self.inside.lines.entries)) =
    subst (λ ls. IsPermutation (held_lines c.put_lines.new.kept.entries)
    (put_each has_same_key ls (held_lines c.self.inside.lines.entries)))
    c.as_slice-lines.ensures
    (subst (λ es. IsPermutation (held_lines c.put_lines.new.kept.entries)
    (put_each has_same_key c.as_slice-lines.result.now (held_lines es)))
    c.reserve.ensures.entries put) in
    let dated : IsPermutation (term_rows c.put_term.new.kept.entries)
    (with_term (term_of c.args.entry.now) (term_rows c.self.inside.terms.entries)) =
    subst (λ es. IsPermutation (term_rows c.put_term.new.kept.entries)
    (with_term (term_of c.args.entry.now) (term_rows es))) c.reserve-2.ensures.entries
    c.put_term.ensures in
    let now = posted_same c.self.inside.setup c.self.inside.postings.items
    c.add_posting.new.postings.items c.self.inside.spots.items c.add_posting.new.spots.items
    (held_lines c.self.inside.lines.entries) (held_lines c.put_lines.new.kept.entries)
    (term_rows c.self.inside.terms.entries) (term_rows c.put_term.new.kept.entries)
    c.in_ok-kept.kept c.args.entry.now c.args.changes.now K K
    (search rules) (search rules) lined dated (sym (ap (λ (k : Kept). k.content) c.self.view_is))
    (same_itself K) in
    comes_from K _ (IsPosted c.args.entry.now c.args.changes.now)
    (λ d h. (
      kept_row c.in_ok-kept.kept,
      c.in_ok-kept.ensures,
      same_then _ _ d (same_back _ _ now) h,
    ))

pub returns-in_err-reserve-clause-failed : goal.returns-in_err-reserve-clause-failed
returns-in_err-reserve-clause-failed c =
    left_as_was c.from_residual-in_err-reserve.result _ c.self.inside.setup
    c.self.inside.postings.items c.self.inside.postings.items c.self.inside.spots.items
    c.self.inside.spots.items
    c.self.inside.lines.entries c.reserve.new.self.entries c.self.inside.terms.entries
    c.self.inside.terms.entries c.args.self.now.content _
    (sym (ap (λ (k : Kept). k.content) c.self.view_is)) refl refl refl
    c.reserve.ensures.entries refl

pub returns-in_err-reserve-2-clause-failed : goal.returns-in_err-reserve-2-clause-failed
returns-in_err-reserve-2-clause-failed c =
    left_as_was c.from_residual-in_err-reserve-2.result _ c.self.inside.setup
    c.self.inside.postings.items c.self.inside.postings.items c.self.inside.spots.items
    c.self.inside.spots.items
    c.self.inside.lines.entries c.reserve.new.self.entries c.self.inside.terms.entries
    c.reserve-2.new.self.entries c.args.self.now.content _
    (sym (ap (λ (k : Kept). k.content) c.self.view_is)) refl refl refl c.reserve.ensures.entries
    c.reserve-2.ensures.entries

pub returns-in_err-add_posting-clause-failed : goal.returns-in_err-add_posting-clause-failed
returns-in_err-add_posting-clause-failed c =
    left_as_was c.from_residual-in_err-add_posting.result _ c.self.inside.setup
    c.self.inside.postings.items c.add_posting.new.postings.items c.self.inside.spots.items
    c.add_posting.new.spots.items
    c.self.inside.lines.entries c.reserve.new.self.entries c.self.inside.terms.entries
    c.reserve-2.new.self.entries c.args.self.now.content _
    (sym (ap (λ (k : Kept). k.content) c.self.view_is)) refl (search rules) (search rules)
    c.reserve.ensures.entries c.reserve-2.ensures.entries
