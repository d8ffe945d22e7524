use Rattle.std.proofs.Common.{◌≡◌, ◌++◌, ◌∙◌, ap, ap₂, subst, sym}
use Rattle.std.specs.Result.{IfOk}
use Rattle.std.specs.String.{string_vec}
use Rattle.json.specs.Print.{print}
use Rattle.register_store.specs.SentLines.{line_tokens, ReadsAs}
use Rattle.register_store.proofs.Lines.{is_sent, reads_as}
use Rattle.register_store.proofs.line_writer.sent_line.Goals as goal

pub returns-clause-text : goal.returns-clause-text
returns-clause-text c =
    let tokens = line_tokens c.args.station.now c.args.n c.args.message.now in
    let grown = c.in_ok-write_line.ensures.tokens in
    let text =
    subst (λ r. IfOk r (λ t. string_vec t ≡ c.into_inner.result)) c.unwrap.ensures
    c.from_utf8.ensures.ok in
    ap (λ v. v.items) text ∙ c.into_inner.ensures.items
    ∙ ap₂ (λ b ts. b ++ print ts)
    (grown.before ∙ c.new-out.ensures.before ∙ c.in_ok-with_capacity.ensures.items)
    (grown.tokens ∙ ap (λ ts. ts ++ tokens) c.new-out.ensures.tokens)
    ∙ is_sent c.args.station.now c.args.n c.args.message.now c.requires

pub returns-clause-reads_back : goal.returns-clause-reads_back
returns-clause-reads_back c =
    subst (ReadsAs c.args.station.now c.args.n c.args.message.now) (sym (returns-clause-text c))
    (reads_as c.args.station.now c.args.n c.args.message.now c.ranges.n.fits c.requires
    c.in_ok-write_line.ensures.reads_back)
