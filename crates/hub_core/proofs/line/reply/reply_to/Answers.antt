use Rattle.std.proofs.Common.{◌≡◌, false, List, ℕ, string_bytes, arith, rules, subst, sym}
use Rattle.std.proofs.Common.{true≢false}
use Rattle.std.proofs.lemmas.Bool.Decides.{nat_tests}
use Rattle.hub_core.specs.Lines.{is_empty}
use Rattle.hub_core.specs.LineText.{is_too_long, read_reply, sent}
use Rattle.hub_core.specs.Requests.{line_in}
use Rattle.hub_core.specs.Serving.{Serves}
use Rattle.hub_core.specs.declared.hub.answer.Arrival.{Arrival}
use Rattle.posting_core.specs.declared.entry.Entry.{Entry}
use Rattle.hub_core.proofs.RoomLemmas.{too_long_fits}
use Rattle.hub_core.proofs.line.reply.reply_to.Goals as goal

pub returns-in_err-add_too_long-clause-unread : goal.returns-in_err-add_too_long-clause-unread
returns-in_err-add_too_long-clause-unread g c =
    λ _. absurd
    (true≢false
    (sym (c.in_err-add_too_long.ensures.room
    (too_long_fits _ _ (omega arith) c.args.number (omega arith)))))

pub returns-clause-served : goal.returns-clause-served
returns-clause-served g c =
    let not_empty : is_empty c.args.line.now ≡ false = search rules in
    let not_long : is_too_long c.args.line.now ≡ false = grind (arith, nat_tests) in
    let S = c.args.hub.now.book.museum in
    let said : List Entry → List Arrival → List ℕ =
    λ O A. read_reply S c.args.hub.now.book.depth O A c.args.number
    (line_in S c.args.line.now) in
    let served =
    subst (λ (before : List ℕ). Serves g.S.Register.holding g.S.Register.refusals c.args.hub.now
    c.read_reply.new.hub before (string_bytes c.read_reply.new.text) said
    (sent (line_in S c.args.line.now)) c.read_reply.result) c.clear.ensures.bytes
    c.read_reply.ensures.served in
    rw (not_empty, not_long) served

pub returns-clause-outcomes : goal.returns-clause-outcomes
returns-clause-outcomes g c =
    let not_empty : is_empty c.args.line.now ≡ false = search rules in
    let not_long : is_too_long c.args.line.now ≡ false = grind (arith, nat_tests) in
    rw (not_empty, not_long) c.read_reply.ensures.outcomes
