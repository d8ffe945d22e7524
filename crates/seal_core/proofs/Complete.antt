-- The head of a tree is computed from a leaf and its audit path.
use Rattle.std.proofs.Common.{◌≡◌, ◌∙◌, ℕ, zero, suc, ◌-◌, ◌<◌, ◌≤◌, ap, sym, arith}
use Rattle.std.proofs.Common.{List, [], length, take, drop, get_or, Some, inl, inr}
use Rattle.std.proofs.Common.{option_map, map, Option}
use Rattle.std.specs.Prelude.{reverse, slice_get}
use Rattle.std.proofs.lemmas.List.{length-take-le, length-drop, length-map}
use Rattle.std.proofs.lemmas.List.{get_or-take, get_or-drop}
use Rattle.std.proofs.lemmas.Option.{slice_get_within, get_or_from_slice_get, slice_get-map}
use Rattle.std.proofs.lemmas.Bool.{cases_lt, lt-ltb}
use Rattle.seal_core.specs.Hashes.{leaf_hash, node_hash}
use Rattle.seal_core.specs.Trees.{head_of, tree_head}
use Rattle.seal_core.specs.Paths.{head_along, sides_within, path_of, audit_path, root_from}
use Rattle.seal_core.proofs.Heads.{head_of-single, head_of-halves}
use Rattle.seal_core.proofs.PathSplits.{path_of-single, path_of-left, path_of-right}
use Rattle.seal_core.proofs.Roots.{root-single, root-left, root-right}
use Rattle.seal_core.proofs.Splits.{Split, split_of}

-- The head computed from hash i of n and this path.
abbrev along : ℕ → ℕ → List ℕ → List (List ℕ) → Option (List ℕ)
along i n hash path = head_along (sides_within n i n) hash (reverse path)

pub path_of-complete : (bound i : ℕ) (hashes : List (List ℕ)) → length hashes ≤ bound
    → i < length hashes → along i (length hashes) (get_or hashes i []) (path_of i hashes)
    ≡ Some (head_of hashes)
path_of-complete zero i hashes fits lt = absurd (omega arith)
path_of-complete (suc bound) i hashes fits lt =
    let n = length hashes in
    let hash = get_or hashes i [] in
    let only : n ≤ 1 → along i n hash (path_of i hashes) ≡ Some (head_of hashes) = λ one.
    let is_one : n ≡ 1 = omega arith in
    let first : i ≡ 0 = omega arith in
    root-single i n hash (path_of i hashes) is_one (ap length (path_of-single i hashes is_one))
    ∙ ap Some (ap (λ k. get_or hashes k []) first ∙ head_of-single hashes [] is_one) in
    let on_left : (s : Split n) → i < s.left
    → along i n hash (path_of i hashes) ≡ Some (head_of hashes) = λ s left.
    let k = s.left in
    let size : length (take k hashes) ≡ k = length-take-le k hashes (omega (arith, s.smaller)) in
    let within =
    path_of-complete bound i (take k hashes) (omega (arith, s.smaller)) (omega arith) in
    root-left k i n hash (head_of (drop k hashes)) (path_of i hashes) (path_of i (take k hashes))
    s.power s.smaller s.largest left (path_of-left k i hashes s.power s.smaller s.largest left)
    ∙ (ap (option_map (λ l. node_hash l (head_of (drop k hashes))))
    (ap (λ m. along i m hash (path_of i (take k hashes))) (sym size)
    ∙ (ap (λ h. along i (length (take k hashes)) h (path_of i (take k hashes)))
    (sym (get_or-take k hashes i [] left)) ∙ within))
    ∙ ap Some (sym (head_of-halves hashes k s.power s.smaller s.largest))) in
    let on_right : (s : Split n) → s.left ≤ i
    → along i n hash (path_of i hashes) ≡ Some (head_of hashes) = λ s right.
    let k = s.left in
    let size : length (drop k hashes) ≡ n - k = length-drop k hashes in
    let some : 0 < k = omega (arith, s.smaller, s.largest) in
    let same : get_or (drop k hashes) (i - k) [] ≡ hash =
    get_or-drop k hashes (i - k) [] ∙ ap (λ j. get_or hashes j []) (omega arith) in
    let within =
    path_of-complete bound (i - k) (drop k hashes) (omega (arith, s.smaller)) (omega arith) in
    root-right k i n hash (head_of (take k hashes)) (path_of i hashes)
    (path_of (i - k) (drop k hashes))
    s.power s.smaller s.largest right (path_of-right k i hashes s.power s.smaller s.largest right)
    ∙ (ap (option_map (λ r. node_hash (head_of (take k hashes)) r))
    (ap (λ m. along (i - k) m hash (path_of (i - k) (drop k hashes))) (sym size)
    ∙ (ap (λ h. along (i - k) (length (drop k hashes)) h (path_of (i - k) (drop k hashes)))
    (sym same) ∙ within))
    ∙ ap Some (sym (head_of-halves hashes k s.power s.smaller s.largest))) in
    elim (cases_lt 1 n) [
      | inl more ↦
          elim (cases_lt i (split_of n more).left) [
            | inl left ↦ on_left (split_of n more) left
            | inr right ↦ on_right (split_of n more) right
          ]
      | inr one ↦ only one
    ]

-- The same for the leaves of a tree.
pub audit_path-complete : (leaves : List (List ℕ)) (i : ℕ) (leaf : List ℕ)
    → slice_get leaves i ≡ Some leaf
    → root_from (leaf_hash leaf) i (length leaves) (audit_path i leaves)
    ≡ Some (tree_head leaves)
audit_path-complete leaves i leaf is =
    let hashes = map leaf_hash leaves in
    let size : length hashes ≡ length leaves = length-map leaves leaf_hash in
    let within : i < length leaves = slice_get_within leaves i leaf is in
    let hash : get_or hashes i [] ≡ leaf_hash leaf =
    get_or_from_slice_get hashes i (leaf_hash leaf) []
    (slice_get-map leaf_hash leaves i ∙ ap (option_map leaf_hash) is) in
    rw (lt-ltb i (length leaves) within)
    (ap (λ n. along i n (leaf_hash leaf) (path_of i hashes)) (sym size)
    ∙ (ap (λ h. along i (length hashes) h (path_of i hashes)) (sym hash)
    ∙ path_of-complete (length hashes) i hashes (omega arith) (omega arith)))
