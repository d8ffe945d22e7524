use Rattle.posting_core.proofs.placement.place.Given as goal

abbrev pub ghosts-put_over : goal.ghosts-put_over
ghosts-put_over a = record { name = a.blank.name; parts = a.blank.parts }
