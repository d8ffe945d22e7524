use Rattle.std.proofs.Common.{◌≡◌, ◌∙◌, ℕ, List, ap, false, refl, rules, subst, take}
use Rattle.std.proofs.Common.{true}
use Rattle.std.specs.Io.KnownBytes.{Appends}
use Rattle.std.specs.Result.{IsErrAnd}
use Rattle.nest_core.specs.Museum.{Museum}
use Rattle.hub_core.proofs.Written.{if_err}
use Rattle.desk_core.specs.declared.desk_fault.DeskFault.TheVariants.{WriteFailed}
use Rattle.desk_core.specs.Faults.{of_line, of_replay}
use Rattle.desk_core.specs.Logs.{log_of}
use Rattle.desk_core.specs.Sent.{heard}
use Rattle.desk_core.proofs.SessionLemmas.{answered_last, as_typed, done_at, fault_flush}
use Rattle.desk_core.proofs.SessionLemmas.{fault_read, fault_take, fault_write, left_at}
use Rattle.desk_core.proofs.SessionLemmas.{one_more, read_out, sent_before, so_far_start}
use Rattle.desk_core.proofs.session.run_desk.Goals as goal

pub loop-number-init : goal.loop-number-init
loop-number-init g c =
    let hub = c.args.hub.now in
    record {
      up = c.requires.up;
      museum = refl;
      depth = refl;
      so_far = λ O A st. so_far_start hub.book.museum hub.book.depth O A g.Q.Questions.asks
          c.args.bench.now c.args.desk (g.R.Read.remaining c.args.input.now)
          (g.W.Write.contents c.args.output.now) (log_of g.L.Write.contents c.args.log.now)
          g.S.Register.holding hub st;
    }

pub returns-in_err-fed-clause-stopped : goal.returns-in_err-fed-clause-stopped
returns-in_err-fed-clause-stopped g c =
    let inv = c.loop-number.invariant in
    let fault = c.in_err-fed.field-0.0 in
    if_err c.from_residual.result _ (of_replay fault) c.from_residual.ensures.1
    (λ O A st. fault_read (inv.so_far O A st) _ _ c.in_err-fed.ensures.fault
    c.in_err-fed.ensures.output fault c.in_err-fed.ensures.cause)

pub returns-in_err-take_line-clause-stopped : goal.returns-in_err-take_line-clause-stopped
returns-in_err-take_line-clause-stopped g c =
    let inv = c.loop-number.invariant in
    let fault = c.in_err-take_line.field-0.0 in
    let line = as_typed c.args.bench.now.labels.now c.code_for-taken.ensures
    c.without_return-typed.ensures c.as_slice.ensures.value in
    if_err c.from_residual-in_err-take_line.result _ (of_line fault)
    c.from_residual-in_err-take_line.ensures.1
    (λ O A st.
    let u = inv.so_far O A st in
    fault_take u c.in_ok-fed.ensures.line _ c.in_ok-fed.ensures.output
    (log_of g.L.Write.contents c.take_line.new.log) c.take_line.new.hub fault
    (left_at O (sent_before u) (log_of g.L.Write.contents c.loop-number.log)
    (log_of g.L.Write.contents c.take_line.new.log) g.S.Register.holding c.take_line.new.hub
    c.args.bench.now.station c.loop-number.desk fault inv.museum inv.depth line
    (c.in_err-take_line.ensures.taken.fault O (sent_before u) u.stands)))

pub returns-in_err-write_text-clause-stopped : goal.returns-in_err-write_text-clause-stopped
returns-in_err-write_text-clause-stopped g c =
    let inv = c.loop-number.invariant in
    let line = as_typed c.args.bench.now.labels.now c.code_for-taken.ensures
    c.without_return-typed.ensures c.as_slice.ensures.value in
    let r = c.from_residual-in_err-write_text.result in
    if_err r _ WriteFailed
    (subst (λ f. IsErrAnd r (λ y. y ≡ of_replay f)) c.in_err-write_text.ensures.cause
    c.from_residual-in_err-write_text.ensures.1)
    (λ O A st.
    let u = inv.so_far O A st in
    fault_write u c.in_ok-fed.ensures.line _ c.in_ok-fed.ensures.output
    (done_at inv.museum inv.depth line
    (c.in_ok-take_line.ensures.taken.told O (sent_before u) u.stands)) _
    (subst (λ (q : List ℕ). (k : ℕ) × Appends (g.W.Write.contents c.next_line.new.output)
    (g.W.Write.contents c.write_text.new.output) (take k q)) c.as_slice-answer.ensures.value
    c.in_err-write_text.ensures.fault))

pub returns-in_err-flush-clause-stopped : goal.returns-in_err-flush-clause-stopped
returns-in_err-flush-clause-stopped g c =
    let inv = c.loop-number.invariant in
    let line = as_typed c.args.bench.now.labels.now c.code_for-taken.ensures
    c.without_return-typed.ensures c.as_slice.ensures.value in
    let last : c.in_ok-fed.fed ≡ false = search rules in
    let r = c.from_residual-in_err-flush.result in
    if_err r _ WriteFailed
    (subst (λ f. IsErrAnd r (λ y. y ≡ of_replay f)) c.in_err-flush.ensures.cause
    c.from_residual-in_err-flush.ensures.1)
    (λ O A st.
    let u = inv.so_far O A st in
    fault_flush u c.in_ok-fed.ensures.line _ c.in_ok-fed.ensures.output
    (done_at inv.museum inv.depth line
    (c.in_ok-take_line.ensures.taken.told O (sent_before u) u.stands)) _ _
    (subst (λ (q : List ℕ). Appends (g.W.Write.contents c.next_line.new.output)
    (g.W.Write.contents c.write_text.new.output) q) c.as_slice-answer.ensures.value
    c.in_ok-write_text.ensures.ok) c.flush.ensures.kept last)

pub returns-then-not-fed-clause-answered : goal.returns-then-not-fed-clause-answered
returns-then-not-fed-clause-answered g c =
    let inv = c.loop-number.invariant in
    let line = as_typed c.args.bench.now.labels.now c.code_for-taken.ensures
    c.without_return-typed.ensures c.as_slice.ensures.value in
    let last : c.in_ok-fed.fed ≡ false = search rules in
    λ O A st.
    let u = inv.so_far O A st in
    answered_last u c.in_ok-fed.ensures.line _ c.in_ok-fed.ensures.output
    (done_at inv.museum inv.depth line
    (c.in_ok-take_line.ensures.taken.told O (sent_before u) u.stands)) _ _
    (subst (λ (q : List ℕ). Appends (g.W.Write.contents c.next_line.new.output)
    (g.W.Write.contents c.write_text.new.output) q) c.as_slice-answer.ensures.value
    c.in_ok-write_text.ensures.ok) c.flush.ensures.kept last

pub loop-number-preserved : goal.loop-number-preserved
loop-number-preserved g c =
    let inv = c.loop-number.invariant in
    let line = as_typed c.args.bench.now.labels.now c.code_for-taken.ensures
    c.without_return-typed.ensures c.as_slice.ensures.value in
    let more : c.in_ok-fed.fed ≡ true = search rules in
    let took = c.in_ok-take_line.ensures.taken in
    let S = c.args.hub.now.book.museum in
    record {
      up = took.up;
      museum = took.museum ∙ inv.museum;
      depth = took.depth ∙ inv.depth;
      so_far = λ O A st.
          let u = inv.so_far O A st in
          one_more u c.in_ok-fed.ensures.line _ c.in_ok-fed.ensures.output
          (done_at inv.museum inv.depth line (took.told O (sent_before u) u.stands)) _
          (subst (λ (q : List ℕ). Appends (g.W.Write.contents c.next_line.new.output)
          (g.W.Write.contents c.write_text.new.output) q) c.as_slice-answer.ensures.value
          c.in_ok-write_text.ensures.ok) more c.take_line.new.desk
          (c.in_ok-take_line.ensures.desk
          ∙ (ap (λ (M : Museum). (heard M c.loop-number.desk c.code_for-taken.result.now).0)
          inv.museum
          ∙ ap (λ (q : List ℕ). (heard S c.loop-number.desk q).0) line));
    }

pub returns-clause-stopped : goal.returns-clause-stopped
returns-clause-stopped g c =
    λ O A st. read_out (c.loop-number.invariant.so_far O A st)
