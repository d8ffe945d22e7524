use Rattle.std.proofs.Common.{◌∙◌, ◌&&◌, ◌∷◌, ◌++◌, [], ℕ, List, ap, inr, not}
use Rattle.std.proofs.Common.{string_bytes}
use Rattle.desk_core.specs.Answers.{answer_detail, detail_words, is_done}
use Rattle.desk_core.specs.Sent.{own_arrival}
use Rattle.desk_core.specs.Texts.{line_end}
use Rattle.hub_core.specs.declared.hub.answer.Arrival.{Arrival}
use Rattle.desk_core.proofs.TakeLemmas.{answered_as, book_of, entries_of, line_failed}
use Rattle.desk_core.proofs.TakeLemmas.{line_unsent, same_book, takes_all, three_parts}
use Rattle.posting_core.specs.Book.{Book, verdict_in}
use Rattle.reports.specs.Causes.{sentence}
use Rattle.reports.specs.Cells.{joined_words}
use Rattle.desk_core.proofs.sending.send.Goals as goal

pub returns-in_err-verdict : goal.returns-in_err-verdict
returns-in_err-verdict g c =
    line_unsent c.from_residual.result _ c.from_residual.ensures.1

pub returns-in_err-cause : goal.returns-in_err-cause
returns-in_err-cause g c =
    line_unsent c.from_residual-in_err-cause.result _ c.from_residual-in_err-cause.ensures.1

pub returns-in_err-posted : goal.returns-in_err-posted
returns-in_err-posted g c =
    line_failed c.from_residual-in_err-posted.result _ c.from_residual-in_err-posted.ensures.1
    c.post.ensures.museum c.post.ensures.depth c.in_err-posted.ensures.stopped

pub returns-in_err-add_reply : goal.returns-in_err-add_reply
returns-in_err-add_reply g c =
    line_failed c.from_residual-in_err-add_reply.result _ c.from_residual-in_err-add_reply.ensures.1
    c.post.ensures.museum c.post.ensures.depth
    (λ O A st.
    let did = c.in_ok-posted.ensures.posted O A st in
    inr (record {
      logged = did.3;
      stands = takes_all g.S.Register.holding c.post.new.hub O A _ did.2;
    }))

pub returns-in_err-add_detail : goal.returns-in_err-add_detail
returns-in_err-add_detail g c =
    line_failed c.from_residual-in_err-add_detail.result _
    c.from_residual-in_err-add_detail.ensures.1
    c.post.ensures.museum c.post.ensures.depth
    (λ O A st.
    let did = c.in_ok-posted.ensures.posted O A st in
    inr (record {
      logged = did.3;
      stands = takes_all g.S.Register.holding c.post.new.hub O A _ did.2;
    }))

pub returns-in_err-add_end : goal.returns-in_err-add_end
returns-in_err-add_end g c =
    line_failed c.from_residual-in_err-add_end.result _ c.from_residual-in_err-add_end.ensures.1
    c.post.ensures.museum c.post.ensures.depth
    (λ O A st.
    let did = c.in_ok-posted.ensures.posted O A st in
    inr (record {
      logged = did.3;
      stands = takes_all g.S.Register.holding c.post.new.hub O A _ did.2;
    }))

pub returns : goal.returns
returns g c =
    let hub = c.args.hub.now in
    let new = c.post.new.hub in
    let S = hub.book.museum in
    let depth = hub.book.depth in
    let m = c.args.message in
    let s = c.args.bench.now.station in
    let verdict = c.in_ok-verdict.verdict in
    let n = c.in_ok-posted.posted.0 in
    let answer = c.in_ok-posted.posted.1 in
    let detail : List ℕ = answer_detail answer (detail_words c.ledger-3.result.now verdict
    c.thing_named-thing.result (string_bytes c.in_ok-cause.cause)) in
    let end : List ℕ = line_end (c.args.bench.now.has_bell && not (is_done answer verdict)) in
    record {
      told = λ O A st.
          let did = c.in_ok-posted.ensures.posted O A st in
          let at = book_of g.S.Register.holding hub O A st in
          let after : List Arrival = A ++ own_arrival S depth O A s m ∷ [] in
          let is_posted = entries_of g.S.Register.holding new S depth O after
          c.post.ensures.museum c.post.ensures.depth did.2 in (
            c.in_ok-add_end.ensures
                ∙ (ap (λ (t : List ℕ). t ++ end) c.in_ok-add_detail.ensures
                ∙ (ap (λ (t : List ℕ). (t ++ detail) ++ end) c.in_ok-add_reply.ensures
                ∙ (three_parts c.args.text.now.items _ detail end
                ∙ ap (λ (t : List ℕ). c.args.text.now.items ++ t)
                (answered_as S depth O A s c.args.bench.now.has_bell m n answer verdict
                c.thing_named-thing.result (string_bytes c.in_ok-cause.cause)
                new.book.museum new.book.posted c.ledger-3.result.now did.1
                (c.in_ok-cause.ensures ∙ ap (λ (B : Book). joined_words (sentence B m verdict))
                (c.ledger-2.ensures ∙ at))
                (c.in_ok-verdict.ensures.ok ∙ ap (λ (B : Book). verdict_in B m)
                (c.ledger.ensures ∙ at))
                c.thing_named-thing.ensures c.post.ensures.museum is_posted
                (c.ledger-3.ensures ∙ same_book new.book S depth _ c.post.ensures.museum
                c.post.ensures.depth is_posted) did.0)))),
            did.2,
            did.3,
          );
      fault = tt;
      up = c.in_ok-posted.ensures.up;
      museum = c.post.ensures.museum;
      depth = c.post.ensures.depth;
    }
