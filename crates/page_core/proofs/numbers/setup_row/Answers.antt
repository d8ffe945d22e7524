use Rattle.std.proofs.Common.{List, ap, length, ◌++◌, ◌-◌, ◌∙◌, ℕ}
use Rattle.std.specs.Prelude.{codes, decimal}
use Rattle.page_core.proofs.numbers.setup_row.Goals as goal

abbrev row : ℕ → ℕ → ℕ → List ℕ
row places containers objects = codes "<div><dt>Places</dt><dd>"
    ++ (decimal places ++ (codes "</dd></div>\n<div><dt>Containers</dt><dd>"
    ++ (decimal containers ++ (codes "</dd></div>\n<div><dt>Objects</dt><dd>"
    ++ (decimal objects ++ codes "</dd></div>\n")))))

pub returns : goal.returns
returns c =
    let S = c.args.setup.now in
    c.in_ok-format.ensures.ok
    ∙ (ap (λ n. row n (c.things.result - c.objects_of-objects.result) c.objects_of-objects.result)
    c.places-places.ensures.count
    ∙ (ap (λ n. row (length S.places) (n - c.objects_of-objects.result)
    c.objects_of-objects.result) c.things.ensures.count
    ∙ ap (λ n. row (length S.places) (length S.things - n) n) c.objects_of-objects.ensures.count))
