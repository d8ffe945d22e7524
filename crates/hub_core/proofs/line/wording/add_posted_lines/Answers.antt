use Rattle.std.proofs.Common.{◌∙◌, ◌++◌, ◌+◌, ◌≤◌, List, ℕ, length, take, ap, sym, append-nil}
use Rattle.std.proofs.Common.{length-append, true≢false, string_bytes, string_len, string_capacity}
use Rattle.std.proofs.Common.{rules, arith}
use Rattle.std.specs.Prelude.{reverse}
use Rattle.std.proofs.lemmas.Grind.{common_steps}
use Rattle.posting_core.specs.VerdictNames.{verdict_name}
use Rattle.hub_core.specs.Replies.{posted_line}
use Rattle.hub_core.specs.LineText.{posted_lines}
use Rattle.hub_core.proofs.PostedLemmas.{posted_start, posted_within}
use Rattle.hub_core.proofs.line.wording.add_posted_lines.Goals as goal

pub loop-i-preserved : goal.loop-i-preserved
loop-i-preserved c = grind (arith, common_steps)

pub loop-i-init : goal.loop-i-init
loop-i-init c = record {
  text = sym (append-nil (string_bytes c.args.text.now))
      ∙ ap (λ (lines : List ℕ). string_bytes c.args.text.now ++ lines)
      (sym (posted_start c.args.station.now c.args.first c.saturating_sub-start.result
      c.args.entries.now c.saturating_sub-start.ensures));
  capacity = omega arith;
}

pub returns-in_err-add_posted : goal.returns-in_err-add_posted
returns-in_err-add_posted c = record {
  text = search rules;
  room = λ fits.
      let so_far = ap length c.loop-i.invariant.text in
      let both = length-append (string_bytes c.args.text.now)
      (posted_lines c.args.station.now c.args.first
      (reverse (take c.loop-i.i c.args.entries.now))) in
      let within = posted_within c.args.station.now c.args.first c.loop-i.i c.args.entries.now
      c.index-entries-i.result c.name.result.now c.index-entries-i.is
      (c.name.ensures ∙ ap verdict_name c.verdict-verdict.ensures) (omega arith)
      (omega arith) in
      let line =
      ap (λ (n : ℕ). length (posted_line c.args.station.now n (c.loop-i.i + 1)
      c.name.result.now)) c.n.ensures in
      let len = c.loop-i.text.bytes.ok.0 in
      let len_before = c.args.text.now.bytes.ok.0 in
      let room : string_len c.loop-i.text + length
      (posted_line c.args.station.now c.n.result (c.loop-i.i + 1) c.name.result.now) ≤
      string_capacity c.loop-i.text =
      omega (
        arith,
        so_far,
        both,
        within,
        line,
        len,
        len_before,
        fits,
        c.loop-i.invariant.capacity,
      ) in
      absurd (true≢false (sym (c.in_err-add_posted.ensures.room room)));
  capacity = omega arith;
}
