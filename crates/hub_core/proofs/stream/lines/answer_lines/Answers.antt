use Rattle.std.proofs.Common.{◌≡◌, ◌∙◌, ◌++◌, ap, arith, refl, subst, false, true, rules}
use Rattle.std.specs.Result.{IsErrAnd}
use Rattle.hub_core.specs.declared.replay_fault.ReplayFault.TheVariants.{WriteFailed}
use Rattle.hub_core.specs.Lines.{without_return}
use Rattle.hub_core.specs.LineText.{arrivals}
use Rattle.hub_core.proofs.Written.{if_ok}
use Rattle.hub_core.proofs.ReplayLemmas.{watch_start, line_read, fault_line, fault_memory}
use Rattle.hub_core.proofs.ReplayLemmas.{fault_write, fault_flush, answered_last, watched_last}
use Rattle.hub_core.proofs.ReplayLemmas.{watched_more, told_at, came_at, some_at, read_out}
use Rattle.hub_core.proofs.ReplayLemmas.{after_hub, after_other, ends_fault, ends_err, ends_flush}
use Rattle.hub_core.proofs.stream.lines.answer_lines.Goals as goal

pub loop-number-init : goal.loop-number-init
loop-number-init g c = record {
  up = c.requires.up;
  museum = refl;
  depth = refl;
  count = refl;
  room = c.requires.room;
  reads = omega arith;
  watched = λ O A st. watch_start c.args.hub.now.book.museum c.args.hub.now.book.depth O A
      (g.R.Read.remaining c.args.input.now) (g.W.Write.contents c.args.output.now)
      g.S.Register.holding c.args.hub.now (g.V.Watch.has_seen c.args.watch.now) st;
}

pub returns-in_err-fed-clause-ends : goal.returns-in_err-fed-clause-ends
returns-in_err-fed-clause-ends g c =
    let inv = c.loop-number.invariant in
    let fault = c.in_err-fed.field-0.0 in
    ends_err g.S.Register.holding g.S.Register.refusals _ _ _ _ c.args.hub.now c.loop-number.hub
    inv.museum inv.depth c.from_residual.result fault c.from_residual.ensures.1
    (λ O A st. fault_line ((inv.watched O A st).under) _ _ c.in_err-fed.ensures.fault
    c.in_err-fed.ensures.output fault)
    (after_other _ _ fault c.in_err-fed.ensures.cause inv.count)

pub returns-in_err-reply-clause-ends : goal.returns-in_err-reply-clause-ends
returns-in_err-reply-clause-ends g c =
    let inv = c.loop-number.invariant in
    let S = c.args.hub.now.book.museum in
    let fault = c.in_err-reply.field-0.0 in
    let failed = c.in_err-reply.ensures.served in
    let l = line_read _ _ (g.W.Write.contents c.loop-number.output)
    (g.W.Write.contents c.next_line.new.output) _ _ c.in_ok-fed.ensures.line
    c.in_ok-fed.ensures.output in
    let line : c.without_return.result.now ≡ without_return c.next_line.new.line.items =
    c.without_return.ensures ∙ ap without_return c.as_slice.ensures.value in
    ends_err g.S.Register.holding g.S.Register.refusals _ _ _ _ c.args.hub.now c.reply_to.new.hub
    (failed.museum ∙ inv.museum) (failed.depth ∙ inv.depth) c.from_residual-in_err-reply.result
    _ c.from_residual-in_err-reply.ensures.1
    (λ O A st.
    let u = (inv.watched O A st).under in
    fault_memory u l c.reply_to.new.hub fault
    (some_at S c.loop-number.hub.book.museum _ _ g.S.Register.holding c.reply_to.new.hub O
    (A ++ arrivals S u.bytes) inv.museum line
    (failed.fault O (A ++ arrivals S u.bytes) u.stands)))
    (after_hub _ _ _ fault inv.count failed.count)

pub returns-in_err-write_text-clause-ends : goal.returns-in_err-write_text-clause-ends
returns-in_err-write_text-clause-ends g c =
    let inv = c.loop-number.invariant in
    let said = c.in_ok-reply.ensures.served in
    let r = c.from_residual-in_err-write_text.result in
    let l = line_read _ _ (g.W.Write.contents c.loop-number.output)
    (g.W.Write.contents c.next_line.new.output) _ _ c.in_ok-fed.ensures.line
    c.in_ok-fed.ensures.output in
    let line : c.without_return.result.now ≡ without_return c.next_line.new.line.items =
    c.without_return.ensures ∙ ap without_return c.as_slice.ensures.value in
    ends_err g.S.Register.holding g.S.Register.refusals _ _ _ _ c.args.hub.now c.reply_to.new.hub
    (said.museum ∙ inv.museum) (said.depth ∙ inv.depth) r WriteFailed
    (subst (λ f. IsErrAnd r (λ y. y ≡ f)) c.in_err-write_text.ensures.cause
    c.from_residual-in_err-write_text.ensures.1)
    (λ O A st.
    let u = (inv.watched O A st).under in
    let t = told_at inv.museum inv.depth line c.as_bytes.ensures.value g.S.Register.holding
    c.reply_to.new.hub O (A ++ arrivals c.args.hub.now.book.museum u.bytes) c.loop-number.number
    (c.in_ok-reply.ensures.served.reply O (A ++ arrivals c.args.hub.now.book.museum u.bytes)
    u.stands) in
    fault_write u l t _ c.in_err-write_text.ensures.fault)
    (said.count ∙ inv.count)

pub returns-then-not-fed-clause-ends : goal.returns-then-not-fed-clause-ends
returns-then-not-fed-clause-ends g c =
    let inv = c.loop-number.invariant in
    let said = c.in_ok-reply.ensures.served in
    let last : c.in_ok-fed.fed ≡ false = search rules in
    let l = line_read _ _ (g.W.Write.contents c.loop-number.output)
    (g.W.Write.contents c.next_line.new.output) _ _ c.in_ok-fed.ensures.line
    c.in_ok-fed.ensures.output in
    let line : c.without_return.result.now ≡ without_return c.next_line.new.line.items =
    c.without_return.ensures ∙ ap without_return c.as_slice.ensures.value in
    ends_flush g.S.Register.holding g.S.Register.refusals _ _ _ _ c.args.hub.now c.reply_to.new.hub
    (said.museum ∙ inv.museum) (said.depth ∙ inv.depth) c.flush.result c.flush.ensures.cause
    said.up (said.count ∙ inv.count)
    (λ O A st.
    let u = (inv.watched O A st).under in
    let t = told_at inv.museum inv.depth line c.as_bytes.ensures.value g.S.Register.holding
    c.reply_to.new.hub O (A ++ arrivals c.args.hub.now.book.museum u.bytes) c.loop-number.number
    (c.in_ok-reply.ensures.served.reply O (A ++ arrivals c.args.hub.now.book.museum u.bytes)
    u.stands) in
    fault_flush u l t _ _ c.in_ok-write_text.ensures.ok c.flush.ensures.kept last)

pub returns-then-not-fed-clause-answered : goal.returns-then-not-fed-clause-answered
returns-then-not-fed-clause-answered g c =
    let inv = c.loop-number.invariant in
    let last : c.in_ok-fed.fed ≡ false = search rules in
    let l = line_read _ _ (g.W.Write.contents c.loop-number.output)
    (g.W.Write.contents c.next_line.new.output) _ _ c.in_ok-fed.ensures.line
    c.in_ok-fed.ensures.output in
    let line : c.without_return.result.now ≡ without_return c.next_line.new.line.items =
    c.without_return.ensures ∙ ap without_return c.as_slice.ensures.value in
    if_ok c.flush.result _ (λ O A st.
    let u = (inv.watched O A st).under in
    let t = told_at inv.museum inv.depth line c.as_bytes.ensures.value g.S.Register.holding
    c.reply_to.new.hub O (A ++ arrivals c.args.hub.now.book.museum u.bytes) c.loop-number.number
    (c.in_ok-reply.ensures.served.reply O (A ++ arrivals c.args.hub.now.book.museum u.bytes)
    u.stands) in
    answered_last u l t _ _ c.in_ok-write_text.ensures.ok c.flush.ensures.kept last)

pub loop-number-preserved : goal.loop-number-preserved
loop-number-preserved g c =
    let inv = c.loop-number.invariant in
    let said = c.in_ok-reply.ensures.served in
    let more : c.in_ok-fed.fed ≡ true = search rules in
    let l = line_read _ _ (g.W.Write.contents c.loop-number.output)
    (g.W.Write.contents c.next_line.new.output) _ _ c.in_ok-fed.ensures.line
    c.in_ok-fed.ensures.output in
    let line : c.without_return.result.now ≡ without_return c.next_line.new.line.items =
    c.without_return.ensures ∙ ap without_return c.as_slice.ensures.value in
    record {
      up = said.up;
      museum = said.museum ∙ inv.museum;
      depth = said.depth ∙ inv.depth;
      count = said.count ∙ inv.count;
      room = omega (arith, inv.room, c.in_ok-reply.ensures.capacity);
      reads = omega (arith, inv.reads, c.in_ok-fed.ensures.reads);
      watched = λ O A st.
          let u = (inv.watched O A st).under in
          let t = told_at inv.museum inv.depth line c.as_bytes.ensures.value g.S.Register.holding
          c.reply_to.new.hub O (A ++ arrivals c.args.hub.now.book.museum u.bytes)
          c.loop-number.number (c.in_ok-reply.ensures.served.reply O
          (A ++ arrivals c.args.hub.now.book.museum u.bytes) u.stands) in
          let came = came_at inv.museum inv.depth line c.posted.ensures.list c.in_ok-reply.reply O
          (A ++ arrivals c.args.hub.now.book.museum u.bytes)
          (c.in_ok-reply.ensures.outcomes O (A ++ arrivals c.args.hub.now.book.museum u.bytes)
          u.stands) in
          watched_more u l t (g.V.Watch.has_seen c.args.watch.now)
          (g.V.Watch.has_seen c.loop-number.watch) (g.V.Watch.has_seen c.report.new.watch)
          (inv.watched O A st).seen _ c.report.ensures came _
          c.in_ok-write_text.ensures.ok more;
    }

pub returns-clause-ends : goal.returns-clause-ends
returns-clause-ends g c =
    let inv = c.loop-number.invariant in
    ends_fault g.S.Register.holding g.S.Register.refusals _ _ _ _ c.args.hub.now c.loop-number.hub
    inv.museum inv.depth _ (λ O A st. read_out ((inv.watched O A st).under)) inv.count

pub returns-then-not-fed-clause-watched : goal.returns-then-not-fed-clause-watched
returns-then-not-fed-clause-watched g c =
    let inv = c.loop-number.invariant in
    let last : c.in_ok-fed.fed ≡ false = search rules in
    let l = line_read _ _ (g.W.Write.contents c.loop-number.output)
    (g.W.Write.contents c.next_line.new.output) _ _ c.in_ok-fed.ensures.line
    c.in_ok-fed.ensures.output in
    let line : c.without_return.result.now ≡ without_return c.next_line.new.line.items =
    c.without_return.ensures ∙ ap without_return c.as_slice.ensures.value in
    if_ok c.flush.result _ (λ O A st.
    let u = (inv.watched O A st).under in
    let t = told_at inv.museum inv.depth line c.as_bytes.ensures.value g.S.Register.holding
    c.reply_to.new.hub O (A ++ arrivals c.args.hub.now.book.museum u.bytes) c.loop-number.number
    (c.in_ok-reply.ensures.served.reply O (A ++ arrivals c.args.hub.now.book.museum u.bytes)
    u.stands) in
    let came = came_at inv.museum inv.depth line c.posted.ensures.list c.in_ok-reply.reply O
    (A ++ arrivals c.args.hub.now.book.museum u.bytes)
    (c.in_ok-reply.ensures.outcomes O (A ++ arrivals c.args.hub.now.book.museum u.bytes)
    u.stands) in
    watched_last u l t (g.V.Watch.has_seen c.args.watch.now)
    (g.V.Watch.has_seen c.loop-number.watch) (g.V.Watch.has_seen c.report.new.watch)
    (inv.watched O A st).seen _ c.report.ensures came _ _ c.in_ok-write_text.ensures.ok
    c.flush.ensures.kept last)
