use Rattle.std.proofs.Common.{◌∙◌, Ok, ap}
use Rattle.table_core.proofs.Skips.{not_found, none_of_mark, one_of_mark, two_of_mark, whole_mark}
use Rattle.table_core.proofs.Skips.{takes_none, takes_one, takes_two, takes_whole}
use Rattle.table_core.proofs.mark.skip_mark.Goals as goal

pub returns-then-not-branch-clause-bytes : goal.returns-then-not-branch-clause-bytes
returns-then-not-branch-clause-bytes g c =
    let kept = c.skip_byte.ensures.kept
    (not_found _ _ c.in_ok-skip_byte.was c.if-not-branch.true) in
    let other = c.skip_byte.ensures.other (c.in_ok-skip_byte.was ∙ ap Ok c.if-not-branch.true) in
    none_of_mark _ _ kept other

pub returns-then-not-branch-clause-taken : goal.returns-then-not-branch-clause-taken
returns-then-not-branch-clause-taken g c =
    takes_none _ _ (c.skip_byte.ensures.kept
    (not_found _ _ c.in_ok-skip_byte.was c.if-not-branch.true))

pub returns-then-not-branch-2-clause-bytes : goal.returns-then-not-branch-2-clause-bytes
returns-then-not-branch-2-clause-bytes g c =
    let first = c.skip_byte.ensures.taken (c.in_ok-skip_byte.was ∙ ap Ok c.if-not-branch.false) in
    let kept = c.skip_byte-2.ensures.kept
    (not_found _ _ c.in_ok-skip_byte-2.was c.if-not-branch-2.true) in
    let other = c.skip_byte-2.ensures.other
    (c.in_ok-skip_byte-2.was ∙ ap Ok c.if-not-branch-2.true) in
    one_of_mark _ _ _ first kept other

pub returns-then-not-branch-2-clause-taken : goal.returns-then-not-branch-2-clause-taken
returns-then-not-branch-2-clause-taken g c =
    let first = c.skip_byte.ensures.taken (c.in_ok-skip_byte.was ∙ ap Ok c.if-not-branch.false) in
    takes_one _ _ _ first (c.skip_byte-2.ensures.kept
    (not_found _ _ c.in_ok-skip_byte-2.was c.if-not-branch-2.true))

pub returns-then-not-branch-3-clause-bytes : goal.returns-then-not-branch-3-clause-bytes
returns-then-not-branch-3-clause-bytes g c =
    let first = c.skip_byte.ensures.taken (c.in_ok-skip_byte.was ∙ ap Ok c.if-not-branch.false) in
    let second = c.skip_byte-2.ensures.taken
    (c.in_ok-skip_byte-2.was ∙ ap Ok c.if-not-branch-2.false) in
    let kept = c.skip_byte-3.ensures.kept
    (not_found _ _ c.in_ok-skip_byte-3.was c.if-not-branch-3.true) in
    let other = c.skip_byte-3.ensures.other
    (c.in_ok-skip_byte-3.was ∙ ap Ok c.if-not-branch-3.true) in
    two_of_mark _ _ _ _ first second kept other

pub returns-then-not-branch-3-clause-taken : goal.returns-then-not-branch-3-clause-taken
returns-then-not-branch-3-clause-taken g c =
    let first = c.skip_byte.ensures.taken (c.in_ok-skip_byte.was ∙ ap Ok c.if-not-branch.false) in
    let second = c.skip_byte-2.ensures.taken
    (c.in_ok-skip_byte-2.was ∙ ap Ok c.if-not-branch-2.false) in
    takes_two _ _ _ _ first second (c.skip_byte-3.ensures.kept
    (not_found _ _ c.in_ok-skip_byte-3.was c.if-not-branch-3.true))

pub returns-clause-bytes : goal.returns-clause-bytes
returns-clause-bytes g c =
    let first = c.skip_byte.ensures.taken (c.in_ok-skip_byte.was ∙ ap Ok c.if-not-branch.false) in
    let second = c.skip_byte-2.ensures.taken
    (c.in_ok-skip_byte-2.was ∙ ap Ok c.if-not-branch-2.false) in
    let third = c.skip_byte-3.ensures.taken
    (c.in_ok-skip_byte-3.was ∙ ap Ok c.if-not-branch-3.false) in
    whole_mark _ _ _ _ first second third

pub returns-clause-taken : goal.returns-clause-taken
returns-clause-taken g c =
    let first = c.skip_byte.ensures.taken (c.in_ok-skip_byte.was ∙ ap Ok c.if-not-branch.false) in
    let second = c.skip_byte-2.ensures.taken
    (c.in_ok-skip_byte-2.was ∙ ap Ok c.if-not-branch-2.false) in
    let third = c.skip_byte-3.ensures.taken
    (c.in_ok-skip_byte-3.was ∙ ap Ok c.if-not-branch-3.false) in
    takes_whole _ _ _ _ first second third
