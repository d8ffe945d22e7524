use Rattle.std.proofs.Common.{◌≡◌, ◌∙◌, sym, ap, subst, Ok, List, ℕ, length}
use Rattle.std.specs.Prelude.{OnOk, Result}
use Rattle.std.specs.Cmp.Lexicographic.{other_text}
use Rattle.hex.specs.declared.error.FromHexError.{FromHexError}
use Rattle.hex.specs.Hex.{IsBytes, decode_sized, encode_lower}
use Rattle.hex.proofs.HexLemmas.{decode_sized-encode_lower}
use Rattle.seal_core.proofs.reading.read_head.Goals as goal

decodes : (text bytes : List ℕ) → length bytes ≡ 32 → IsBytes bytes → text ≡ encode_lower bytes
    → decode_sized text 32 ≡ Ok bytes
decodes text bytes few are spelled =
    ap (λ t. decode_sized t 32) spelled ∙ decode_sized-encode_lower bytes 32 few are

pub returns-in_default-clause-accepts : goal.returns-in_default-clause-accepts
returns-in_default-clause-accepts c = λ bytes few are spelled.
    let e = decodes c.args.text.now bytes few are spelled in cc e

pub returns-then-eq-clause-accepts : goal.returns-then-eq-clause-accepts
returns-then-eq-clause-accepts c = λ bytes few are spelled.
    let e = decodes c.args.text.now bytes few are spelled in cc (e, c.in-Ok.ensures)

pub returns-else-eq-clause-accepts : goal.returns-else-eq-clause-accepts
returns-else-eq-clause-accepts c = λ bytes few are spelled.
    let e = decodes c.args.text.now bytes few are spelled in
    let same : c.in-Ok.head ≡ bytes = cc e in
    let digits = c.encode_to_slice.new.output in
    let written : digits ≡ encode_lower c.in-Ok.head =
    subst (λ (r : Result Unit FromHexError). OnOk r (digits ≡ encode_lower c.in-Ok.head))
    c.unwrap.ensures c.encode_to_slice.ensures.written in
    absurd (other_text digits c.args.text.now c.if-eq.ensures
    (written ∙ ap encode_lower same ∙ sym spelled))
