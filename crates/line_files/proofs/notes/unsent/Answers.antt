use Rattle.std.proofs.Common.{◌++◌, ◌∙◌, ℕ, List, ap, append_assoc, codes, decimal, sym}
use Rattle.line_files.proofs.notes.unsent.Goals as goal

pub returns : goal.returns
returns c =
    let row : List ℕ = decimal c.args.row in
    let middle : List ℕ = codes " can't be sent: " in
    c.in_ok-format.ensures.ok
    ∙ (sym (ap (λ t. codes "row " ++ t)
    (append_assoc row middle c.gap_words-words.result.now))
    ∙ ap (λ words. codes "row " ++ row ++ middle ++ words) c.gap_words-words.ensures)
