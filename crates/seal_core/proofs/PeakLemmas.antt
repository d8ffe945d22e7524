-- How peaks change, and the head that is computed from them.
use Rattle.std.proofs.Common.{◌≡◌, ◌∙◌, ℕ, suc, ◌+◌, ◌/◌, ◌%◌, ◌^◌, ◌<◌, ◌≤◌, ◌==◌, refl}
use Rattle.std.proofs.Common.{List, [], ◌∷◌, ◌++◌, ◌-◌, length, set, get_or, take, drop}
use Rattle.std.proofs.Common.{true, false, cond, Option, Some, None, ap, sym, subst, arith}
use Rattle.std.proofs.Common.{append_assoc, length-append}
use Rattle.std.specs.Prelude.{MatchBool, unwrap_or}
use Rattle.std.proofs.lemmas.Bool.{eq-eqb, ne_eqb, cond-true, cond-false}
use Rattle.std.proofs.lemmas.List.{append-nil, take_all, drop_all, drop_more}
use borrow.Rule.Slice.PartMut.{put_mid}
use Rattle.std.proofs.lemmas.Nat.{pow_pos}
use Rattle.std.proofs.Math.Nat.{pow-suc}
use Rattle.seal_core.specs.Hashes.{node_hash}
use Rattle.seal_core.specs.Trees.{head_of}
use Rattle.seal_core.specs.Peaks.{ArePeaks, EndsInPeak, head_with}
use Rattle.seal_core.proofs.Heads.{head_of-split}

-- Peaks of no trees.
pub ArePeaks-none : (d : ℕ) (peaks : List (List ℕ)) → ArePeaks d 0 peaks []
unfolding ArePeaks
ArePeaks-none d [] = (refl, refl)
ArePeaks-none d (peak ∷ peaks) = ArePeaks-none (suc d) peaks

-- A digit 0 of the count becomes 1.
pub ArePeaks-set : (d count : ℕ) (peaks : List (List ℕ)) (head : List ℕ)
    (older newer : List (List ℕ)) → count % 2 ≡ 0 → 0 < length peaks
    → ArePeaks d count peaks older → length newer ≡ 2 ^ d → head ≡ head_of newer
    → ArePeaks d (count + 1) (set peaks 0 head) (older ++ newer)
unfolding ArePeaks
ArePeaks-set d count [] head older newer even some held full is = absurd (omega arith)
ArePeaks-set d count (peak ∷ peaks) head older newer even some held full is =
    let was : (count % 2 == 1) ≡ false = ne_eqb (count % 2) 1 (omega arith) in
    let now : ((count + 1) % 2 == 1) ≡ true = eq-eqb ((count + 1) % 2) 1 (omega arith) in
    let half : (count + 1) / 2 ≡ count / 2 = omega arith in
    let rest : ArePeaks (suc d) (count / 2) peaks older = rw was at held in
    rw now (older, newer, refl, full, is, rw half rest)

-- A digit 1 of the count becomes 0, and the tree there is joined with the new one.
pub ArePeaks-join : (d count : ℕ) (peak : List ℕ) (peaks after : List (List ℕ)) (head : List ℕ)
    (older newer : List (List ℕ)) → count % 2 ≡ 1
    → ((hashes both : List (List ℕ)) → ArePeaks (suc d) (count / 2) peaks hashes
    → length both ≡ 2 ^ suc d → node_hash peak head ≡ head_of both
    → ArePeaks (suc d) (count / 2 + 1) after (hashes ++ both))
    → ArePeaks d count (peak ∷ peaks) older → length newer ≡ 2 ^ d → head ≡ head_of newer
    → ArePeaks d (count + 1) (peak ∷ after) (older ++ newer)
unfolding ArePeaks
ArePeaks-join d count peak peaks after head older newer odd step held full is =
    let was : (count % 2 == 1) ≡ true = eq-eqb (count % 2) 1 odd in
    let now : ((count + 1) % 2 == 1) ≡ false = ne_eqb ((count + 1) % 2) 1 (omega arith) in
    let half : (count + 1) / 2 ≡ count / 2 + 1 = omega arith in
    let (before, tree, parts, size, head_of_tree, rest) = rw was at held in
    let both : length (tree ++ newer) ≡ 2 ^ suc d =
    omega (arith, length-append tree newer, pow-suc 2 d) in
    let joined : node_hash peak head ≡ head_of (tree ++ newer) =
    ap (λ h. node_hash h head) head_of_tree ∙ (ap (node_hash (head_of tree)) is
    ∙ sym (head_of-split d tree newer size (omega (arith, pow_pos d)) (omega arith))) in
    let whole : before ++ (tree ++ newer) ≡ older ++ newer =
    sym (append_assoc before tree newer) ∙ ap (λ l. l ++ newer) (sym parts) in
    rw now (rw half (subst (ArePeaks (suc d) (count / 2 + 1) after) whole
    (step before (tree ++ newer) rest both joined)))

-- A count that grows has a digit for it.
pub some_peaks : (count : ℕ) (peaks : List (List ℕ)) → count + 1 < 2 ^ length peaks
    → 0 < length peaks
some_peaks count [] less = absurd (omega arith)
some_peaks count (peak ∷ peaks) less = omega arith

-- The same as a write to the peaks after the first.
pub ArePeaks-carry : (d count : ℕ) (peaks after : List (List ℕ)) (pair head : List ℕ)
    (older newer : List (List ℕ)) → count % 2 ≡ 1 → 0 < length peaks
    → pair ≡ node_hash (get_or peaks 0 []) head
    → ((e : ℕ) (hashes both : List (List ℕ))
    → ArePeaks e (count / 2) (take (length peaks - 1) (drop 1 peaks)) hashes
    → length both ≡ 2 ^ e → pair ≡ head_of both
    → ArePeaks e (count / 2 + 1) after (hashes ++ both))
    → ArePeaks d count peaks older → length newer ≡ 2 ^ d → head ≡ head_of newer
    → ArePeaks d (count + 1) (put_mid 1 (length peaks - 1) peaks after) (older ++ newer)
ArePeaks-carry d count [] after pair head older newer odd some is_pair step held full is =
    absurd (omega arith)
ArePeaks-carry d count (peak ∷ peaks) after pair head older newer odd some is_pair step held
    full is =
    let rest : take (length (peak ∷ peaks) - 1) peaks ≡ peaks =
    take_all (length (peak ∷ peaks) - 1) peaks (omega arith) in
    let none : drop (length (peak ∷ peaks) - 1) peaks ≡ [] =
    drop_all (length (peak ∷ peaks) - 1) peaks (omega arith) in
    let same : peak ∷ after ≡ put_mid 1 (length (peak ∷ peaks) - 1) (peak ∷ peaks) after =
    ap (λ l. peak ∷ l) (sym (ap (λ l. after ++ l) none ∙ append-nil after)) in
    subst (λ l. ArePeaks d (count + 1) l (older ++ newer)) same
    (ArePeaks-join d count peak peaks after head older newer odd
    (λ hashes both was size joined. step (suc d) hashes both
    (subst (λ l. ArePeaks (suc d) (count / 2) l hashes) (sym rest) was) size (is_pair ∙ joined))
    held full is)

-- ---- the head of the tree

-- The head of these hashes, if there are any.
abbrev pub IsHeadOf : Option (List ℕ) → List (List ℕ) → Type 0
IsHeadOf None hashes = hashes ≡ []
IsHeadOf (Some head) hashes = (0 < length hashes) × (head ≡ head_of hashes)

-- The head computed from some peaks and the head of the leaves after them.
abbrev pub head_over : ℕ → List (List ℕ) → Option (List ℕ) → Option (List ℕ)
head_over count [] head = head
head_over count (peak ∷ peaks) head =
    head_over (count / 2) peaks (cond (count % 2 == 1) (Some (head_with peak head)) head)

IsHeadOf-with : (d : ℕ) (peak : List ℕ) (tree later : List (List ℕ)) (head : Option (List ℕ))
    → length tree ≡ 2 ^ d → peak ≡ head_of tree → IsHeadOf head later → length later ≤ 2 ^ d
    → IsHeadOf (Some (head_with peak head)) (tree ++ later)
IsHeadOf-with d peak tree later None full is none fits = (
  omega (arith, length-append tree later, pow_pos d),
  is ∙ ap head_of (sym (ap (λ l. tree ++ l) none ∙ append-nil tree)),
)
IsHeadOf-with d peak tree later (Some head) full is (some, later_is) fits = (
  omega (arith, length-append tree later),
  ap (λ h. node_hash h head) is ∙ (ap (node_hash (head_of tree)) later_is
      ∙ sym (head_of-split d tree later full some fits)),
)

pub head_over-is : (d count : ℕ) (peaks older later : List (List ℕ)) (head : Option (List ℕ))
    → ArePeaks d count peaks older → IsHeadOf head later → length later ≤ 2 ^ d
    → IsHeadOf (head_over count peaks head) (older ++ later)
unfolding ArePeaks
head_over-is d count [] older later head held is fits =
    subst (IsHeadOf head) (ap (λ l. l ++ later) (sym held.1)) is
head_over-is d count (peak ∷ peaks) older later head held is fits =
    elim (count % 2 == 1) as
    (λ b. MatchBool b (EndsInPeak d peak (ArePeaks (suc d) (count / 2) peaks) older)
    (ArePeaks (suc d) (count / 2) peaks older)
    → IsHeadOf (head_over (count / 2) peaks (cond b (Some (head_with peak head)) head))
    (older ++ later)) [
      | true ↦
          λ (before, tree, parts, size, head_of_tree, rest).
          subst (IsHeadOf (head_over (count / 2) peaks (Some (head_with peak head))))
          (sym (append_assoc before tree later) ∙ ap (λ l. l ++ later) (sym parts))
          (head_over-is (suc d) (count / 2) peaks before (tree ++ later)
          (Some (head_with peak head)) rest
          (IsHeadOf-with d peak tree later head size head_of_tree is fits)
          (omega (arith, length-append tree later, pow-suc 2 d)))
      | false ↦
          λ rest. head_over-is (suc d) (count / 2) peaks older later head rest is
          (omega (arith, pow-suc 2 d))
    ] held

-- One step of a walk over the peaks, at a digit 1 and at a digit 0.
pub head_over-one : (rest i : ℕ) (peaks : List (List ℕ)) (head new : Option (List ℕ))
    → i < length peaks → rest % 2 ≡ 1 → new ≡ Some (head_with (get_or peaks i []) head)
    → head_over (rest / 2) (drop (i + 1) peaks) new ≡ head_over rest (drop i peaks) head
head_over-one rest i peaks head new lt one is =
    ap (head_over (rest / 2) (drop (i + 1) peaks))
    (is ∙ sym (cond-true (rest % 2 == 1) (Some (head_with (get_or peaks i []) head)) head
    (eq-eqb (rest % 2) 1 one)))
    ∙ ap (λ l. head_over rest l head) (sym (drop_more peaks i [] lt))

pub head_over-zero : (rest i : ℕ) (peaks : List (List ℕ)) (head new : Option (List ℕ))
    → i < length peaks → (rest % 2 ≡ 1 → ⊥) → new ≡ head
    → head_over (rest / 2) (drop (i + 1) peaks) new ≡ head_over rest (drop i peaks) head
head_over-zero rest i peaks head new lt none is =
    ap (head_over (rest / 2) (drop (i + 1) peaks))
    (is ∙ sym (cond-false (rest % 2 == 1) (Some (head_with (get_or peaks i []) head)) head
    (ne_eqb (rest % 2) 1 none)))
    ∙ ap (λ l. head_over rest l head) (sym (drop_more peaks i [] lt))

-- The head of some hashes, or of none.
pub IsHeadOf-or : (head : Option (List ℕ)) (hashes : List (List ℕ)) (none : List ℕ)
    → IsHeadOf head hashes → none ≡ head_of [] → unwrap_or head none ≡ head_of hashes
IsHeadOf-or None hashes none is no_head = no_head ∙ ap head_of (sym is)
IsHeadOf-or (Some head) hashes none is no_head = is.1

-- The end of a walk over the peaks.
pub head_over-end : (count rest i : ℕ) (peaks hashes : List (List ℕ)) (head : Option (List ℕ))
    (none : List ℕ) → ArePeaks 0 count peaks hashes → length peaks ≤ i
    → head_over rest (drop i peaks) head ≡ head_over count peaks None → none ≡ head_of []
    → unwrap_or head none ≡ head_of hashes
head_over-end count rest i peaks hashes head none held past same no_head =
    let whole : head ≡ head_over count peaks None =
    ap (λ l. head_over rest l head) (sym (drop_all i peaks past)) ∙ same in
    let given : IsHeadOf (head_over count peaks None) (hashes ++ []) =
    head_over-is 0 count peaks hashes [] None held refl (omega (arith, pow_pos 0)) in
    IsHeadOf-or head hashes none
    (subst (λ l. IsHeadOf head l) (append-nil hashes)
    (subst (λ h. IsHeadOf h (hashes ++ [])) (sym whole) given)) no_head
