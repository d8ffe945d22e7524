use Rattle.std.proofs.Common.{List, ℕ, Some, [], ◌∷◌, ◌++◌, ◌∙◌, ap, sym}
use Rattle.nest_core.proofs.RowTexts.{row_normal}
use Rattle.nest_core.proofs.setup.Setup.thing_text.Goals as goal

pub returns : goal.returns
returns c =
    row_normal c.args.self.now c.args.thing c.thing_code.result c.kind.result c.normal.result
    c.in-Some.normal c.place_code.result
    c.thing_code.ensures c.kind.ensures c.normal.ensures.normal c.in-Some.is c.place_code.ensures
    ∙ ap Some (sym (c.in_ok-write-2.ensures.ok
    ∙ ap (λ (t : List ℕ). t ++ c.place_code.result) (c.in_ok-push_str-2.ensures.bytes
    ∙ ap (λ (t : List ℕ). t ++ 44 ∷ []) (c.in_ok-write.ensures.ok
    ∙ ap (λ (t : List ℕ). t ++ c.thing_code.result) (c.in_ok-push_str.ensures.bytes
    ∙ ap (λ (t : List ℕ). t ++ 44 ∷ []) (c.in_ok-text.ensures.ok ∙ c.kind_word.ensures))))))
