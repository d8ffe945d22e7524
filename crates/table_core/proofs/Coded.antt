-- What a field is read as.
use Rattle.std.specs.Prelude.{ℕ, ◌≡◌, List, IsUtf8, if◌then◌else◌}
use Rattle.std.specs.Str.{is_utf8}
use Rattle.std.proofs.Common.{ap, sym, ◌∙◌}
use Rattle.table_core.specs.Labels.{Label, code_for}
use Rattle.nest_core.proofs.Tables.{is_text, no_text}
use Rattle.table_core.specs.SheetLines.{coded}

module _ (labels : List Label) (field bytes got : List ℕ) (same : bytes ≡ field)
    (is : got ≡ code_for labels bytes) where
  code : got ≡ code_for labels field
  code = is ∙ ap (code_for labels) same

  pub is_coded : IsUtf8 got → got ≡ coded labels field
  is_coded utf8 =
      code
      ∙ sym (ap (λ b. if b then code_for labels field else field)
      (ap is_utf8 (sym code) ∙ is_text got utf8))

  pub is_left : ¬ (IsUtf8 got) → field ≡ coded labels field
  is_left none =
      sym (ap (λ b. if b then code_for labels field else field)
      (ap is_utf8 (sym code) ∙ no_text got none))
