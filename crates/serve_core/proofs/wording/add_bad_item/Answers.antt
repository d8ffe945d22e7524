use Rattle.std.proofs.Common.{◌≡◌, ◌∙◌, ◌+◌, ◌++◌, ℕ, List, ap, append_assoc, arith, codes, length}
use Rattle.std.proofs.Common.{length-append, rules, string_bytes, string_len}
use Rattle.hub_core.specs.Replies.{bad_line}
use Rattle.serve_core.proofs.Adding.{adds_after}
use Rattle.serve_core.proofs.wording.add_bad_item.Goals as goal

pub returns-in-TooLong : goal.returns-in-TooLong
returns-in-TooLong c =
    let name : List ℕ = c.args.station.now ++ codes " " in
    let bytes : string_bytes c.push_str-2.new.self ≡ string_bytes c.args.text.now ++ name =
    c.in_ok-push_str-2.ensures.bytes ∙ ap (λ (before : List ℕ). before ++ codes " ")
    c.in_ok-push_str.ensures.bytes ∙ append_assoc (string_bytes c.args.text.now)
    c.args.station.now (codes " ") in
    let len : string_len c.push_str-2.new.self ≡ string_len c.args.text.now + length name =
    omega (
      arith,
      c.in_ok-push_str-2.ensures.len,
      c.in_ok-push_str.ensures.len,
      length-append c.args.station.now (codes " "),
    ) in
    let added = adds_after c.args.text.now c.push_str-2.new.self c.add_too_long.new.text name
    (bad_line c.args.line (codes "TooLong")) c.add_too_long.result bytes len (omega arith)
    c.add_too_long.ensures in
    rw c.in-TooLong.is added
