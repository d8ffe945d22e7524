use Rattle.std.proofs.Common.{◌∙◌, sym, ℕ, Option, Some, None, length}
use Rattle.std.proofs.lemmas.List.{append-nil}
use Rattle.posting_core.specs.declared.entry.NewSpot.{NewSpot}
use Rattle.posting_core.specs.Book.{place_in, spots_in, new_spot}
use Rattle.posting_core.proofs.Spotted.{one_more_spot}
use Rattle.posting_core.proofs.ledger.Ledger.spots_of.Goals.{in-Some+in_ok-push, in_default}
use Rattle.posting_core.proofs.ledger.Ledger.spots_of.Goals as goal

pub loop-i-preserved : goal.loop-i-preserved
loop-i-preserved c =
    let spot : ℕ → Option NewSpot =
    λ y. new_spot c.args.entry (length (spots_in c.args.self.now y))
    (place_in c.args.self.now y) (Some c.args.place) (Some c.args.day) y in
    elim c.match-spot_at.branch [
      | in-Some+in_ok-push w ↦ one_more_spot spot c.args.things.now c.loop-i.i _ c.loop-i.spots _
          (Some w.in-Some.spot) c.loop-i-test.true c.loop-i.invariant
          (sym w.in-Some.is ∙ c.spot_at.ensures) (w.spots-is ∙ w.in_ok-push.ensures.ok)
      | in_default w ↦ one_more_spot spot c.args.things.now c.loop-i.i _ c.loop-i.spots _ None
          c.loop-i-test.true c.loop-i.invariant (sym w.in_default.is ∙ c.spot_at.ensures)
          (w.spots-is ∙ sym (append-nil c.loop-i.spots))
    ]
