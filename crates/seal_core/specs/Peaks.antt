-- The heads of full trees, from which the head of a tree is computed.
use Rattle.std.specs.Prelude.{◌≡◌, ℕ, ◌/◌, ◌%◌, ◌^◌, ◌==◌, List, [], ◌∷◌, ◌++◌, suc}
use Rattle.std.specs.Prelude.{length, MatchBool, Option, Some, None}
use Rattle.seal_core.specs.Hashes.{node_hash}
use Rattle.seal_core.specs.Trees.{head_of}

-- The peak is the head of the last 2 ^ d of the hashes, and P holds of the others.
abbrev pub EndsInPeak : ℕ → List ℕ → (List (List ℕ) → Type 0) → List (List ℕ) → Type 0
EndsInPeak d peak P hashes =
    (older : List (List ℕ)) × (newer : List (List ℕ)) × (hashes ≡ older ++ newer)
    × (length newer ≡ 2 ^ d) × (peak ≡ head_of newer) × P older

-- These peaks are for these hashes, count * 2 ^ d of them. The first peak is for the lowest binary
-- digit of the count, and for the last hashes. Where the digit is 1, it is the head of a full tree
-- of 2 ^ d hashes; where it is 0, it has no meaning.
unfoldable pub ArePeaks : ℕ → ℕ → List (List ℕ) → List (List ℕ) → Type 0
ArePeaks d count [] hashes = (count ≡ 0) × (hashes ≡ [])
ArePeaks d count (peak ∷ peaks) hashes =
    MatchBool (count % 2 == 1) (EndsInPeak d peak (ArePeaks (suc d) (count / 2) peaks) hashes)
    (ArePeaks (suc d) (count / 2) peaks hashes)

-- The head of a full tree and, if there is one, a smaller tree after it.
abbrev pub head_with : List ℕ → Option (List ℕ) → List ℕ
head_with older None = older
head_with older (Some newer) = node_hash older newer
