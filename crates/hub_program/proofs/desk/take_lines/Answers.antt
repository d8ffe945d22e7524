use Rattle.std.proofs.Common.{◌∙◌, ℕ, List, Some, Bor, ap}
use Rattle.hub_program.proofs.desk.take_lines.Goals as goal

pub returns-in-Ok-over_store : goal.returns-in-Ok-over_store
returns-in-Ok-over_store g c =
    c.in-Ok-over_store.ensures.named
    ∙ ap (λ (path : Bor (List ℕ)). Some path.now)
    (c.announce_new.ensures.path ∙ c.in_ok-store.ensures.named)
