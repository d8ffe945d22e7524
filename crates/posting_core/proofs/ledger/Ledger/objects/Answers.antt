use Rattle.std.proofs.Common.{◌≡◌, Some, slice_get, sym, subst, ◌<◌}
use Rattle.std.specs.Option.{option_map}
use Rattle.posting_core.specs.Book.{loans_in, objects_of_loan}
use Rattle.posting_core.proofs.Bounds.{told_below}
use Rattle.posting_core.proofs.Posted.{lawful_kept, count_kept, objects_kept}
use Rattle.posting_core.proofs.ledger.Ledger.objects.Goals as goal

pub at-requires : goal.at-requires
at-requires c = subst (λ n. c.args.i < n)
    (sym (count_kept c.self.invariant c.self.view_is)) c.requires

pub returns-clause-objects : goal.returns-clause-objects
returns-clause-objects c = rw c.objects.ensures
    (objects_kept c.self.invariant c.self.view_is c.args.i c.at.result.now c.at.ensures)

pub returns-clause-within : goal.returns-clause-within
returns-clause-within c =
    let B = c.args.self.now in
    let at : option_map (objects_of_loan B) (slice_get (loans_in B) c.args.i)
    ≡ Some c.objects.result.now = rw c.objects.ensures
    (objects_kept c.self.invariant c.self.view_is c.args.i c.at.result.now c.at.ensures) in
    told_below B.museum B.depth B.posted (slice_get (loans_in B) c.args.i) c.objects.result.now
    (lawful_kept c.self.invariant c.self.view_is) at
