use Rattle.codes_core.proofs.place.+is_place_shape.Given as goal

-- the segments that may still follow
abbrev pub decreases-is_place_shape : goal.decreases-is_place_shape
decreases-is_place_shape l = l.segments
