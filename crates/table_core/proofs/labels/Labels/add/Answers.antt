use Rattle.std.proofs.Common.{ap, ◌∙◌, ◌≡◌, ◌++◌, ◌∷◌, [], None, refl}
use Rattle.indexmap.proofs.CallerLemmas.{insert_entry-new}
use Rattle.table_core.specs.Labels.{code_of}
use Rattle.table_core.proofs.KeptLabels.{not_kept, seen, seen_push}
use Rattle.table_core.proofs.labels.Labels.add.Goals as goal

pub returns : goal.returns
returns c =
    let es = c.self.inside.codes.entries in
    let label = c.in_ok-label.label in
    let code = c.in_ok-code.code in
    let none : code_of (seen es) label.items ≡ None =
    rw (c.in_ok-label.ensures.items, c.self.view_is) c.requires in
    ap seen (c.in_ok-insert.ensures.entries
    ∙ insert_entry-new _ c.self.inside.codes label code (not_kept es label.items none))
    ∙ seen_push es label code
    ∙ ap (λ ls. ls ++ record { label = label.items; code = code.items } ∷ []) c.self.view_is
    ∙ rw (c.in_ok-label.ensures.items, c.in_ok-code.ensures.items) refl
