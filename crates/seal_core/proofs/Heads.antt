-- The head of a tree from those of its two halves.
use Rattle.std.proofs.Common.{◌≡◌, ◌∙◌, ℕ, suc, ◌*◌, ◌^◌, ◌<◌, ◌≤◌, refl, ap, sym}
use Rattle.std.proofs.Common.{List, [], ◌∷◌, ◌++◌, length, take, drop, get_or, arith, false}
use Rattle.std.specs.Prelude.{nat_le}
use Rattle.std.proofs.lemmas.Bool.{le-leb, lt-leb}
use Rattle.std.proofs.lemmas.List.{length-append, take_at, drop_at, take-append-drop}
use Rattle.std.proofs.lemmas.List.{length-take-le, length-drop}
use Rattle.std.proofs.Math.Nat.{pow-suc}
use Rattle.std.specs.Int.{IsPowerOfTwo}
use Rattle.sha2.specs.Sha256.{sha256}
use Rattle.seal_core.specs.Hashes.{node_hash}
use Rattle.seal_core.specs.Trees.{head_within, head_of}
use Rattle.seal_core.proofs.Depths.{fits_own_number, same_depth}

-- A depth that is larger than needed.
head_within-deeper : (hashes : List (List ℕ)) (d : ℕ) → length hashes ≤ 2 ^ d
    → head_within (suc d) hashes ≡ head_within d hashes
unfolding head_within
head_within-deeper hashes d fits = rw (le-leb (length hashes) (2 ^ d) fits) refl

-- Any depth that is large enough.
pub head_of-within : (hashes : List (List ℕ)) (d : ℕ) → length hashes ≤ 2 ^ d
    → head_of hashes ≡ head_within d hashes
head_of-within hashes d fits =
    same_depth (λ e. head_within e hashes) (length hashes) (head_within-deeper hashes)
    (length hashes) d (fits_own_number (length hashes)) fits

head_within-split : (d : ℕ) (left right : List (List ℕ)) → length left ≡ 2 ^ d
    → 0 < length right → head_within (suc d) (left ++ right)
    ≡ node_hash (head_within d left) (head_within d right)
unfolding head_within
head_within-split d left right full some =
    let more : nat_le (length (left ++ right)) (2 ^ d) ≡ false =
    lt-leb (length (left ++ right)) (2 ^ d) (omega (arith, length-append left right)) in
    rw (more, take_at left right (2 ^ d) full, drop_at left right (2 ^ d) full) refl

-- The root of a tree whose left half is full.
pub head_of-split : (d : ℕ) (left right : List (List ℕ)) → length left ≡ 2 ^ d
    → 0 < length right → length right ≤ 2 ^ d
    → head_of (left ++ right) ≡ node_hash (head_of left) (head_of right)
head_of-split d left right full some fits =
    head_of-within (left ++ right) (suc d)
    (omega (arith, length-append left right, pow-suc 2 d))
    ∙ (head_within-split d left right full some
    ∙ (ap (λ h. node_hash h (head_within d right)) (sym (head_of-within left d (omega arith)))
    ∙ ap (λ h. node_hash (head_of left) h) (sym (head_of-within right d fits))))

-- The same for the first k leaves and the others.
pub head_of-halves : (hashes : List (List ℕ)) (k : ℕ) → IsPowerOfTwo k → k < length hashes
    → length hashes ≤ 2 * k
    → head_of hashes ≡ node_hash (head_of (take k hashes)) (head_of (drop k hashes))
head_of-halves hashes k power smaller largest =
    ap head_of (sym (take-append-drop k hashes))
    ∙ head_of-split power.0 (take k hashes) (drop k hashes)
    (length-take-le k hashes (omega arith) ∙ power.1)
    (omega (arith, length-drop k hashes)) (omega (arith, length-drop k hashes, power.1))

pub head_of-nil : head_of [] ≡ sha256 []
unfolding head_within
head_of-nil = refl

pub head_of-one : (hash : List ℕ) → head_of (hash ∷ []) ≡ hash
unfolding head_within
head_of-one hash = refl

-- A list of one is its first item, at any default.
pub head_of-single : (hashes : List (List ℕ)) (other : List ℕ) → length hashes ≡ 1
    → get_or hashes 0 other ≡ head_of hashes
unfolding head_within
head_of-single [] other one = absurd (omega arith)
head_of-single (hash ∷ []) other one = refl
head_of-single (hash ∷ next ∷ rest) other one = absurd (omega arith)
