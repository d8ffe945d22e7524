use Rattle.std.proofs.Common.{◌≡◌, ◌∙◌, List, ℕ, [], ◌∷◌, ◌++◌, ◌<◌, ◌≤◌, ◌*◌, ◌-◌, length, ap, sym}
use Rattle.std.proofs.Common.{take, drop, append_assoc, arith}
use Rattle.std.proofs.lemmas.List.{append-nil, length-take-le}
use Rattle.std.specs.Int.{IsPowerOfTwo}
use Rattle.seal_core.specs.Trees.{head_of}
use Rattle.seal_core.specs.Paths.{path_of}
use Rattle.seal_core.proofs.PathSplits.{path_of-single, path_of-left, path_of-right}
use Rattle.seal_core.proofs.paths.+add_path.Goals as goal

-- A path that is appended in two steps.
appended : (old mid new lower whole : List (List ℕ)) (sibling : List ℕ) → mid ≡ old ++ lower
    → new ≡ mid ++ sibling ∷ [] → whole ≡ lower ++ sibling ∷ [] → new ≡ old ++ whole
appended old mid new lower whole sibling first second is =
    second ∙ (ap (λ l. l ++ sibling ∷ []) first
    ∙ (append_assoc old lower (sibling ∷ []) ∙ ap (λ l. old ++ l) (sym is)))

from_left : (k i : ℕ) (hashes left right : List (List ℕ)) (sibling : List ℕ) → IsPowerOfTwo k
    → k < length hashes → length hashes ≤ 2 * k → i < length left → left ≡ take k hashes
    → right ≡ drop k hashes → sibling ≡ head_of right
    → path_of i hashes ≡ path_of i left ++ sibling ∷ []
from_left k i hashes left right sibling power smaller largest lt is_left is_right is_head =
    let within : i < k =
    omega (arith, ap length is_left, length-take-le k hashes (omega arith)) in
    path_of-left k i hashes power smaller largest within
    ∙ (ap (λ l. path_of i l ++ head_of (drop k hashes) ∷ []) (sym is_left)
    ∙ ap (λ h. path_of i left ++ h ∷ []) (sym (is_head ∙ ap head_of is_right)))

from_right : (k i : ℕ) (hashes left right : List (List ℕ)) (sibling : List ℕ) → IsPowerOfTwo k
    → k < length hashes → length hashes ≤ 2 * k → length left ≤ i → left ≡ take k hashes
    → right ≡ drop k hashes → sibling ≡ head_of left
    → path_of i hashes ≡ path_of (i - length left) right ++ sibling ∷ []
from_right k i hashes left right sibling power smaller largest le is_left is_right is_head =
    let size : length left ≡ k = ap length is_left ∙ length-take-le k hashes (omega arith) in
    path_of-right k i hashes power smaller largest (omega arith)
    ∙ (ap (λ l. path_of (i - k) l ++ head_of (take k hashes) ∷ []) (sym is_right)
    ∙ (ap (λ m. path_of (i - m) right ++ head_of (take k hashes) ∷ []) (sym size)
    ∙ ap (λ h. path_of (i - length left) right ++ h ∷ []) (sym (is_head ∙ ap head_of is_left))))

pub returns-then-hashes-eq1 : goal.returns-then-hashes-eq1
returns-then-hashes-eq1 t c =
    let none = path_of-single c.args.index c.args.hashes.now c.if-hashes-eq1.true in
    rw none (sym (append-nil c.args.path.now.items))

pub returns-in_ok-push : goal.returns-in_ok-push
returns-in_ok-push t c =
    let split = c.left_size.ensures in
    let parts = c.split_at.ensures in
    let left = c.split_at.result.0.now in
    appended c.args.path.now.items c.add_path.new.path.items c.push.new.self.items
    (path_of c.args.index left) (path_of c.args.index c.args.hashes.now) c.head_of_hashes.result
    c.in_ok-add_path.ensures c.in_ok-push.ensures.items
    (from_left c.left_size.result c.args.index c.args.hashes.now left c.split_at.result.1.now
    c.head_of_hashes.result split.power split.smaller split.largest c.if-index-left.true
    parts.front parts.back c.head_of_hashes.ensures)

pub returns-in_ok-push-2 : goal.returns-in_ok-push-2
returns-in_ok-push-2 t c =
    let split = c.left_size.ensures in
    let parts = c.split_at.ensures in
    let left = c.split_at.result.0.now in
    let right = c.split_at.result.1.now in
    let sibling = c.head_of_hashes-else-index-left.result in
    appended c.args.path.now.items c.add_path-else-index-left.new.path.items
    c.push-else-index-left.new.self.items (path_of (c.args.index - length left) right)
    (path_of c.args.index c.args.hashes.now) sibling c.in_ok-add_path-2.ensures
    c.in_ok-push-2.ensures.items
    (from_right c.left_size.result c.args.index c.args.hashes.now left right sibling split.power
    split.smaller split.largest c.if-index-left.false parts.front parts.back
    c.head_of_hashes-else-index-left.ensures)
