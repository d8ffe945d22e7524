use Rattle.std.proofs.Common.{◌≡◌, ◌+◌, ◌<◌, ◌∙◌, sym, ap, subst, arith, length, refl}
use Rattle.station_core.specs.Series.{series_at, Series, counted, closed}
use Rattle.station_core.specs.Runs.{Arrived, arrived}
use Rattle.hub_core.specs.Posting.{StopsDue}
use Rattle.posting_core.specs.declared.message.Message.{Message}
use Rattle.posting_core.specs.Book.{Book}
use Rattle.hub_core.proofs.PostLemmas.{IsPosted, written, written_again, posted_list, posted_step}
use Rattle.hub_core.proofs.PostLemmas.{posted_longer, caught_next, done_sign, next_follows}
use Rattle.hub_core.proofs.StopLemmas.{stopped_at}
use Rattle.hub_core.proofs.StoreLemmas.{counts_ok}
use Rattle.hub_core.proofs.Written.{on_err}
use Rattle.hub_core.proofs.hub.posting.post_due.Goals as goal

pub next_due-requires : goal.next_due-requires
next_due-requires g c = subst (λ n. c.args.station < n) (sym c.loop-n.invariant.stations)
    c.requires.known

pub post_next-requires-clause-follows : goal.post_next-requires-clause-follows
post_next-requires-clause-follows g c =
    let within : c.args.station < length c.loop-n.sequences =
    subst (λ n. c.args.station < n) (sym c.loop-n.invariant.stations) c.requires.known in
    next_follows c.loop-n.ledger.museum c.loop-n.ledger.depth c.loop-n.ledger.posted
    c.loop-n.sequences c.args.station c.in-Some.n c.in-Some.message _ c.loop-n.invariant.in_step
    within c.loop-n.invariant.unsigned
    c.in-Some.ensures.number.0 c.in-Some.ensures.number.1 refl

pub returns-in_err-post_next-clause-stopped : goal.returns-in_err-post_next-clause-stopped
returns-in_err-post_next-clause-stopped g c =
    let s = c.args.station in
    let all = c.loop-n.sequences in
    let L = c.args.ledger.now in
    let inv = c.loop-n.invariant in
    let left = c.in_err-post_next.ensures.left in
    let store = g.R.Register.holding c.post_next.new.register in
    let within : s < length all = subst (λ n. s < n) (sym inv.stations) c.requires.known in
    let one = written all c.next_due.new.self s (counted (series_at all s)) within
    c.in-Some.ensures.counted in
    let stop : StopsDue (g.R.Register.holding c.args.register.now) store s c.args.sequences.now L
    c.post_next.new.ledger = record {
      stopped = λ taken p had.
          let so_far = inv.caught taken p in
          stopped_at store L.museum L.depth taken s (series_at c.args.sequences.now s).posted
          c.in-Some.n L.posted c.loop-n.ledger c.post_next.new.ledger all c.next_due.new.self
          c.in-Some.message
          so_far c.in-Some.ensures.number.0 (c.in-Some.ensures.due _ taken so_far.posting)
          (ap (λ (x : Series Message). x.posted) one.here ∙ sym c.in-Some.ensures.number.0)
          inv.museum inv.depth left.ledger (left.left (inv.stored had));
      lawful = λ had. left.lawful (inv.stored had);
    } in
    on_err _ stop

pub sign_off-requires : goal.sign_off-requires
sign_off-requires g c =
    let s = c.args.station in
    let all = c.loop-n.sequences in
    let within : s < length all = subst (λ n. s < n) (sym c.loop-n.invariant.stations)
    c.requires.known in
    let one = written all c.next_due.new.self s (counted (series_at all s)) within
    c.in-Some.ensures.counted in
    subst (λ n. s < n) (sym one.same_length) within

pub loop-n-smaller : goal.loop-n-smaller
loop-n-smaller g c =
    let within : c.args.station < length c.loop-n.sequences =
    subst (λ n. c.args.station < n) (sym c.loop-n.invariant.stations) c.requires.known in
    let is = written c.loop-n.sequences c.next_due.new.self c.args.station
    (counted (series_at c.loop-n.sequences c.args.station)) within c.in-Some.ensures.counted in
    let count : (series_at c.next_due.new.self c.args.station).posted
    ≡ (series_at c.loop-n.sequences c.args.station).posted + 1 =
    ap (λ (x : Series Message). x.posted) is.here in
    let number = c.in-Some.ensures.number in
    omega (arith, number.0, number.1)

pub loop-n-preserved : goal.loop-n-preserved
loop-n-preserved g c =
    let s = c.args.station in
    let all = c.loop-n.sequences in
    let L = c.loop-n.ledger in
    let r : Arrived Message = arrived s c.in-Some.n c.in-Some.message in
    let within : s < length all = subst (λ n. s < n) (sym c.loop-n.invariant.stations)
    c.requires.known in
    let is : IsPosted L c.post_next.new.ledger r = c.in_ok-post_next.ensures.posted.ledger in
    let one = written all c.next_due.new.self s (counted (series_at all s)) within
    c.in-Some.ensures.counted in
    let off = sym c.is_sign_off-signs_off.ensures ∙ c.if-signs_off.false in
    record {
      museum = ap (λ (b : Book). b.museum) is ∙ c.loop-n.invariant.museum;
      depth = ap (λ (b : Book). b.depth) is ∙ c.loop-n.invariant.depth;
      longer = posted_longer L c.post_next.new.ledger r _ is c.loop-n.invariant.longer;
      stations = one.same_length ∙ c.loop-n.invariant.stations;
      unsigned = ap (λ (x : Series Message). x.signed) one.here ∙ c.loop-n.invariant.unsigned;
      in_step = posted_step L c.post_next.new.ledger r all c.next_due.new.self
          (counted (series_at all s)) is c.loop-n.invariant.in_step within one refl
          (c.loop-n.invariant.unsigned ∙ sym off) c.loop-n.invariant.unsigned;
      bound = c.post_next.ensures.bound;
      count = counts_ok _ _ _ _ c.in_ok-post_next.was c.post_next.ensures.count
          ∙ c.loop-n.invariant.count;
      stored = λ had. c.in_ok-post_next.ensures.posted.stored (c.loop-n.invariant.stored had);
      caught = λ taken p.
          let so_far = c.loop-n.invariant.caught taken p in
          caught_next c.args.ledger.now.museum c.args.ledger.now.depth taken s _ c.in-Some.n _ _ _
          all _ c.in-Some.message so_far c.in-Some.ensures.number.0
          (c.in-Some.ensures.due _ taken so_far.posting) off c.in-Some.ensures.counted
          (posted_list L c.post_next.new.ledger c.args.ledger.now.museum c.args.ledger.now.depth r
          is c.loop-n.invariant.museum c.loop-n.invariant.depth);
    }

pub returns-then-signs_off-clause-posted : goal.returns-then-signs_off-clause-posted
returns-then-signs_off-clause-posted g c =
    let s = c.args.station in
    let all = c.loop-n.sequences in
    let mid = c.next_due.new.self in
    let L = c.loop-n.ledger in
    let inv = c.loop-n.invariant in
    let r : Arrived Message = arrived s c.in-Some.n c.in-Some.message in
    let within : s < length all = subst (λ n. s < n) (sym inv.stations) c.requires.known in
    let is : IsPosted L c.post_next.new.ledger r = c.in_ok-post_next.ensures.posted.ledger in
    let one = written all mid s (counted (series_at all s)) within c.in-Some.ensures.counted in
    let two = written mid c.sign_off.new.self s (closed (series_at mid s))
    (subst (λ n. s < n) (sym one.same_length) within) c.sign_off.ensures.closed in
    let on = sym c.is_sign_off-signs_off.ensures ∙ c.if-signs_off.true in
    record {
      in_step = posted_step L c.post_next.new.ledger r all c.sign_off.new.self
          (closed (series_at mid s)) is inv.in_step within
          (written_again all mid c.sign_off.new.self s (counted (series_at all s))
          (closed (series_at mid s)) one two) (ap (λ (x : Series Message). x.posted) one.here)
          (sym on) inv.unsigned;
      done = λ taken p.
          let so_far = inv.caught taken p in
          done_sign c.args.ledger.now.museum c.args.ledger.now.depth taken s _ c.in-Some.n _ _ _ all
          mid _ c.in-Some.message so_far c.in-Some.ensures.number.0
          (c.in-Some.ensures.due _ taken so_far.posting) (c.sign_off.ensures.taken _ taken) on
          c.in-Some.ensures.counted c.sign_off.ensures.closed
          (posted_list L c.post_next.new.ledger c.args.ledger.now.museum c.args.ledger.now.depth r
          is inv.museum inv.depth);
      stored = λ had. c.in_ok-post_next.ensures.posted.stored (inv.stored had);
    }
