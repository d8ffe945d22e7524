-- The audit path of a leaf from the path within its half of the tree.
use Rattle.std.proofs.Common.{◌≡◌, ◌∙◌, ℕ, suc, ◌-◌, ◌*◌, ◌^◌, ◌<◌, ◌≤◌, refl, ap, sym}
use Rattle.std.proofs.Common.{List, [], ◌∷◌, ◌++◌, length, take, drop, arith, subst}
use Rattle.std.proofs.lemmas.Bool.{le-leb, lt-leb, lt-ltb, le-ltb}
use Rattle.std.proofs.lemmas.List.{length-take-le, length-drop}
use Rattle.std.proofs.Math.Nat.{pow-suc}
use Rattle.std.specs.Int.{IsPowerOfTwo}
use Rattle.seal_core.specs.Trees.{head_within, head_of}
use Rattle.seal_core.specs.Paths.{path_within, path_of}
use Rattle.seal_core.proofs.Depths.{fits_own_number, same_depth}
use Rattle.seal_core.proofs.Heads.{head_of-within}

path_within-deeper : (i : ℕ) (hashes : List (List ℕ)) (d : ℕ) → length hashes ≤ 2 ^ d
    → path_within (suc d) i hashes ≡ path_within d i hashes
unfolding path_within
path_within-deeper i hashes d fits = rw (le-leb (length hashes) (2 ^ d) fits) refl

-- Any depth that is large enough.
path_of-within : (i : ℕ) (hashes : List (List ℕ)) (d : ℕ) → length hashes ≤ 2 ^ d
    → path_of i hashes ≡ path_within d i hashes
path_of-within i hashes d fits =
    same_depth (λ e. path_within e i hashes) (length hashes) (path_within-deeper i hashes)
    (length hashes) d (fits_own_number (length hashes)) fits

-- The path of the only leaf is empty.
pub path_of-single : (i : ℕ) (hashes : List (List ℕ)) → length hashes ≡ 1 → path_of i hashes ≡ []
unfolding path_within
path_of-single i [] one = refl
path_of-single i (hash ∷ []) one = refl
path_of-single i (hash ∷ next ∷ rest) one = absurd (omega arith)

path_within-left : (d i : ℕ) (hashes : List (List ℕ)) → 2 ^ d < length hashes → i < 2 ^ d
    → path_within (suc d) i hashes
    ≡ path_within d i (take (2 ^ d) hashes) ++ head_within d (drop (2 ^ d) hashes) ∷ []
unfolding path_within
path_within-left d i hashes more left =
    rw (lt-leb (length hashes) (2 ^ d) more, lt-ltb i (2 ^ d) left) refl

path_within-right : (d i : ℕ) (hashes : List (List ℕ)) → 2 ^ d < length hashes → 2 ^ d ≤ i
    → path_within (suc d) i hashes
    ≡ path_within d (i - 2 ^ d) (drop (2 ^ d) hashes) ++ head_within d (take (2 ^ d) hashes) ∷ []
unfolding path_within
path_within-right d i hashes more right =
    rw (lt-leb (length hashes) (2 ^ d) more, le-ltb i (2 ^ d) right) refl

left_at : (d i : ℕ) (hashes : List (List ℕ)) → 2 ^ d < length hashes
    → length hashes ≤ 2 * 2 ^ d → i < 2 ^ d
    → path_of i hashes ≡ path_of i (take (2 ^ d) hashes) ++ head_of (drop (2 ^ d) hashes) ∷ []
left_at d i hashes smaller largest left =
    path_of-within i hashes (suc d) (omega (arith, pow-suc 2 d))
    ∙ (path_within-left d i hashes smaller left
    ∙ (ap (λ p. p ++ head_within d (drop (2 ^ d) hashes) ∷ [])
    (sym (path_of-within i (take (2 ^ d) hashes) d
    (omega (arith, length-take-le (2 ^ d) hashes (omega arith)))))
    ∙ ap (λ h. path_of i (take (2 ^ d) hashes) ++ h ∷ [])
    (sym (head_of-within (drop (2 ^ d) hashes) d (omega (arith, length-drop (2 ^ d) hashes))))))

right_at : (d i : ℕ) (hashes : List (List ℕ)) → 2 ^ d < length hashes
    → length hashes ≤ 2 * 2 ^ d → 2 ^ d ≤ i
    → path_of i hashes
    ≡ path_of (i - 2 ^ d) (drop (2 ^ d) hashes) ++ head_of (take (2 ^ d) hashes) ∷ []
right_at d i hashes smaller largest right =
    path_of-within i hashes (suc d) (omega (arith, pow-suc 2 d))
    ∙ (path_within-right d i hashes smaller right
    ∙ (ap (λ p. p ++ head_within d (take (2 ^ d) hashes) ∷ [])
    (sym (path_of-within (i - 2 ^ d) (drop (2 ^ d) hashes) d
    (omega (arith, length-drop (2 ^ d) hashes))))
    ∙ ap (λ h. path_of (i - 2 ^ d) (drop (2 ^ d) hashes) ++ h ∷ [])
    (sym (head_of-within (take (2 ^ d) hashes) d
    (omega (arith, length-take-le (2 ^ d) hashes (omega arith)))))))

-- A leaf among the first k.
pub path_of-left : (k i : ℕ) (hashes : List (List ℕ)) → IsPowerOfTwo k → k < length hashes
    → length hashes ≤ 2 * k → i < k
    → path_of i hashes ≡ path_of i (take k hashes) ++ head_of (drop k hashes) ∷ []
path_of-left k i hashes (d, is) =
    let P : ℕ → Type 0 = λ n. n < length hashes → length hashes ≤ 2 * n → i < n
    → path_of i hashes ≡ path_of i (take n hashes) ++ head_of (drop n hashes) ∷ [] in
    subst P (sym is) (left_at d i hashes)

-- A leaf after the first k.
pub path_of-right : (k i : ℕ) (hashes : List (List ℕ)) → IsPowerOfTwo k → k < length hashes
    → length hashes ≤ 2 * k → k ≤ i
    → path_of i hashes ≡ path_of (i - k) (drop k hashes) ++ head_of (take k hashes) ∷ []
path_of-right k i hashes (d, is) =
    let P : ℕ → Type 0 = λ n. n < length hashes → length hashes ≤ 2 * n → n ≤ i
    → path_of i hashes ≡ path_of (i - n) (drop n hashes) ++ head_of (take n hashes) ∷ [] in
    subst P (sym is) (right_at d i hashes)
