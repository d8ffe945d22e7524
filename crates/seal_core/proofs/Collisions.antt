-- Texts that have one hash are the same text, or a collision.
use Rattle.std.proofs.Common.{◌≡◌, ◌≢◌, ◌∙◌, ℕ, refl, ap, sym, ◌⊎◌, inl, inr}
use Rattle.std.proofs.Common.{List, [], ◌∷◌, ◌++◌, length, take, drop}
use Rattle.std.proofs.lemmas.Bool.{cases_eq}
use Rattle.std.proofs.lemmas.List.{take_at, drop_at}
use Rattle.sha2.specs.Sha256.{sha256}
use Rattle.seal_core.specs.Hashes.{node_hash, Collision}

texts : (xs ys : List ℕ) → (xs ≡ ys) ⊎ (xs ≢ ys)
texts [] [] = inl refl
texts [] (y ∷ ys) = inr (λ same. cc)
texts (x ∷ xs) [] = inr (λ same. cc)
texts (x ∷ xs) (y ∷ ys) =
    elim (cases_eq x y) [
      | inl first ↦
          elim (texts xs ys) [ inl rest ↦ inl cc | inr differ ↦ inr (λ same. differ cc) ]
      | inr differ ↦ inr (λ same. differ cc)
    ]

pub collision : (xs ys : List ℕ) → xs ≢ ys → sha256 xs ≡ sha256 ys → Collision
collision xs ys differ same = record { first = xs; second = ys; differ = differ; same = same }

pub same_text : (xs ys : List ℕ) → sha256 xs ≡ sha256 ys → (xs ≡ ys) ⊎ Collision
same_text xs ys same =
    elim (texts xs ys) [
      | inl equal ↦ inl equal
      | inr differ ↦ inr (collision xs ys differ same)
    ]

-- Two texts joined from parts of the same lengths.
same_parts : (l r m s : List ℕ) → length l ≡ length m → l ++ r ≡ m ++ s → (l ≡ m) × (r ≡ s)
same_parts l r m s size same = (
  sym (take_at l r (length l) refl)
      ∙ (ap (take (length l)) same ∙ take_at m s (length l) (sym size)),
  sym (drop_at l r (length l) refl)
      ∙ (ap (drop (length l)) same ∙ drop_at m s (length l) (sym size)),
)

-- Two nodes with one hash have the same children, or there is a collision.
pub same_children : (l r m s : List ℕ) → length l ≡ length m → node_hash l r ≡ node_hash m s
    → ((l ≡ m) × (r ≡ s)) ⊎ Collision
same_children l r m s size same =
    elim (same_text (1 ∷ (l ++ r)) (1 ∷ (m ++ s)) same) [
      | inl equal ↦ inl (same_parts l r m s size cc)
      | inr found ↦ inr found
    ]
