use Rattle.std.specs.Prelude.{ℕ, List, codes, decimal}
use Rattle.std.specs.List.{slice_index_or}
use Rattle.std.proofs.Common.{◌≡◌, ◌++◌, [], ap, map, string_bytes, sym, ◌∙◌}
use Rattle.std.proofs.lemmas.List.{append_assoc}
use Rattle.codes_core.specs.VisibleText.{quoted}
use Rattle.table_core.proofs.printed.note_texts.add_note.Goals as goal

joined : (old a b c d e : List ℕ)
    → old ++ (a ++ (b ++ c)) ++ d ++ e ≡ old ++ (a ++ b ++ c ++ d ++ e)
joined old a b c d e =
    ap (λ text. old ++ text ++ d ++ e) (sym (append_assoc a b c))
    ∙ ap (λ text. text ++ e) (append_assoc old (a ++ b ++ c) d)
    ∙ append_assoc old (a ++ b ++ c ++ d) e

pub returns : goal.returns
returns c =
    c.in_ok-push_str.ensures.bytes
    ∙ ap (λ text. text ++ codes " is not used\n")
    (c.in_ok-add_quoted.ensures
    ∙ ap (λ text. text ++ quoted c.field_at.result.now) c.in_ok-write.ensures.bytes
    ∙ ap (λ text. string_bytes c.args.text.now
    ++ (codes "note: column " ++ (decimal c.args.field ++ codes " ")) ++ quoted text)
    (c.field_at.ensures
    ∙ ap (λ i. slice_index_or (map string_bytes c.args.heading.now) i [])
    c.saturating_sub.ensures))
    ∙ joined (string_bytes c.args.text.now) (codes "note: column ") (decimal c.args.field)
    (codes " ") _ (codes " is not used\n")
