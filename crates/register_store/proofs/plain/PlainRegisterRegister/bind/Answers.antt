use Rattle.std.proofs.Common.{rules, sym, ap, inl, reverse}
use Rattle.register_store.specs.Plain.{Kept, held_lines, term_rows}
use Rattle.register_store.specs.Holdings.{IsNotBound}
use Rattle.register_store.specs.Registers.{bound_to}
use Rattle.register_store.specs.declared.store_fault.StoreFault.TheVariants.{OtherSetup}
use Rattle.register_store.proofs.Kept.{same_itself, comes_from, comes_by, refused_setup, fitted}
use Rattle.register_store.proofs.Kept.{bound_kept, bound_now}
use Rattle.register_store.proofs.plain.PlainRegisterRegister.bind.Goals as goal

pub returns-then-not-fits-clause-refused : goal.returns-then-not-fits-clause-refused
returns-then-not-fits-clause-refused c =
    let K = c.args.self.now.content in
    comes_from K _ (IsNotBound c.args.setup.now OtherSetup) (λ d h. (
      refused_setup c.args.setup.now c.self.inside.setup c.in_ok-texts.texts c.deref.result.now
          (reverse c.self.inside.postings.items) (reverse c.self.inside.spots.items)
          (held_lines c.self.inside.lines.entries) (term_rows c.self.inside.terms.entries) K K
          c.fits.result
          c.in_ok-texts.ensures c.deref.ensures.value c.fits.ensures (search rules)
          (sym (ap (λ (k : Kept). k.content) c.self.view_is)) (same_itself K),
      inl (search rules),
    ))

pub returns-clause-bound : goal.returns-clause-bound
returns-clause-bound c = record {
  some = λ quiet none. none _ (same_itself _);
  each = λ quiet d h. bound_now c.args.setup.now c.in_ok-texts.texts
      (reverse c.self.inside.postings.items) (reverse c.self.inside.spots.items)
      (held_lines c.self.inside.lines.entries) (term_rows c.self.inside.terms.entries) d
      c.in_ok-texts.ensures h;
}

pub returns-clause-kept : goal.returns-clause-kept
returns-clause-kept c =
    let K = c.args.self.now.content in
    comes_by K _ (bound_to c.args.setup.now)
    (bound_kept c.args.setup.now c.self.inside.setup c.in_ok-texts.texts
    (reverse c.self.inside.postings.items) (reverse c.self.inside.spots.items)
    (held_lines c.self.inside.lines.entries) (term_rows c.self.inside.terms.entries) K K
    c.in_ok-texts.ensures (fitted c.self.inside.setup c.in_ok-texts.texts c.deref.result.now
    c.fits.result c.deref.ensures.value c.fits.ensures (search rules))
    (sym (ap (λ (k : Kept). k.content) c.self.view_is)) (same_itself K))
