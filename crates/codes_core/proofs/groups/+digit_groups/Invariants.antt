use Rattle.codes_core.proofs.groups.+digit_groups.Given as goal

-- the groups that may still follow
abbrev pub decreases-digit_groups : goal.decreases-digit_groups
decreases-digit_groups l = l.most
