use Rattle.std.proofs.Common.{◌≡◌, ◌∙◌, ap, sym, subst, arith, map, Bool}
use Rattle.std.specs.Prelude.{slice_set}
use Rattle.std.specs.List.{slice_get}
use Rattle.std.proofs.lemmas.Bool.{false≢true}
use Rattle.std.proofs.lemmas.List.{length-map}
use Rattle.posting_core.specs.declared.message.Message.{Message}
use Rattle.posting_core.specs.Book.{Book}
use Rattle.station_core.specs.Series.{opened}
use Rattle.hub_core.specs.StandsFor.{InStep}
use Rattle.hub_core.specs.Openings.{may_send}
use Rattle.hub_core.proofs.OpenLemmas.{sends_follows, follows_sends, next_step}
use Rattle.hub_core.proofs.hub.reposting.judge_next.Goals as goal

pub post_again-requires : goal.post_again-requires
post_again-requires c = sends_follows c.args.ledger.now c.args.entry.now c.args.starts.now.items
    c.deref.result.now c.may_send.result c.requires c.deref.ensures.value c.may_send.ensures
    c.if-not-may_send.false

pub index_mut-requires : goal.index_mut-requires
index_mut-requires c =
    let f = c.in_ok-post_again.ensures.follows in
    omega (
      arith,
      f.known,
      c.requires.stations,
      length-map c.args.starts.now.items (opened {M = Message}),
    )

pub returns-clause-in_step : goal.returns-clause-in_step
returns-clause-in_step c =
    let L = c.args.ledger.now in
    let e = c.args.entry.now in
    let starts = c.args.starts.now.items in
    subst (λ (b : Book). InStep
    (map opened (slice_set starts e.station
    (record { posted = e.n; signed = c.is_sign_off.result }))) b.museum b.posted)
    (sym c.in_ok-post_again.ensures.posted)
    (next_step L.museum L.depth L.posted e starts
    (slice_set starts e.station (record { posted = e.n; signed = c.is_sign_off.result }))
    c.requires c.in_ok-post_again.ensures.follows
    (ap (λ (b : Bool). slice_set starts e.station (record { posted = e.n; signed = b }))
    c.is_sign_off.ensures))

pub returns-then-not-may_send-clause-cause : goal.returns-then-not-may_send-clause-cause
returns-then-not-may_send-clause-cause c =
    let L = c.args.ledger.now in
    let starts = c.args.starts.now.items in
    let sends : c.may_send.result ≡ may_send (slice_get starts c.args.entry.now.station)
    c.args.entry.now.n = rw (← c.deref.ensures.value) c.may_send.ensures in (
      sym c.next_number.ensures,
      λ follows. false≢true (sym c.if-not-may_send.true ∙ sends ∙ follows_sends L.museum L.depth
          L.posted c.args.entry.now starts c.requires follows),
    )
