-- The text of a character in an SQL string.
use Rattle.std.proofs.Common.{◌≡◌, ℕ, ◌+◌, ◌/◌, ◌==◌, ◌≤◌, Bool, true}
use Rattle.std.proofs.Common.{false, List, [], ◌∷◌, ◌++◌, cond, refl, ap, sym}
use Rattle.std.proofs.Common.{◌∙◌, arith}
use Rattle.std.specs.Prelude.{IsUtf8}
use Rattle.std.specs.Str.{chars}
use Rattle.std.specs.List.{flat_map}
use Rattle.std.proofs.Math.Utf8.{encode}
use Rattle.std.proofs.lemmas.Str.{encodes-chars}
use Rattle.std.proofs.lemmas.Grind.{flat_map-append}
use lib.Utf8.{encodes, next}
use Rattle.export_core.specs.Literals.{doubled, doubled_byte}

-- every byte but the quote stays
stays : (b : ℕ) → (b ≡ 39 → ⊥) → doubled_byte b ≡ b ∷ []
stays b q = let e : (b == 39) ≡ false = grind (arith, q) in rw e refl

-- so do the bytes of a longer character
high : (b : ℕ) → 128 ≤ b → doubled_byte b ≡ b ∷ []
high b h = stays b (λ e. omega arith)

-- of a first byte that stays, and others
then : (b : ℕ) (t : List ℕ) → doubled_byte b ≡ b ∷ [] → doubled t ≡ t
    → doubled (b ∷ t) ≡ b ∷ t
then b t e f = ap (λ x. x ++ doubled t) e ∙ ap (λ x. b ∷ x) f

pick : (b : Bool) (x y : List ℕ) → doubled x ≡ x → doubled y ≡ y
    → doubled (cond b x y) ≡ cond b x y
pick true x y p q = p
pick false x y p q = q

pub doubled-encode : (c : ℕ) → (c ≡ 39 → ⊥) → doubled (encode c) ≡ encode c
unfolding encode
doubled-encode c q =
    pick _ _ _ (then c [] (stays c q) refl)
    (pick _ _ _ (then (192 + c / 64) _ (high _ (omega arith)) (last c))
    (pick _ _ _ (then (224 + c / 4096) _ (high _ (omega arith)) (then (next (c / 64)) _
    (high _ (omega arith)) (last c)))
    (then (240 + c / 262144) _ (high _ (omega arith)) (then (next (c / 4096)) _
    (high _ (omega arith)) (then (next (c / 64)) _ (high _ (omega arith)) (last c))))))
  where
    last : (c : ℕ) → doubled (next c ∷ []) ≡ next c ∷ []
    last c = then (next c) [] (high _ (omega arith)) refl

all_doubled : (cs : List ℕ) → flat_map (λ c. doubled (encode c)) cs ≡ doubled (encodes cs)
all_doubled [] = refl
all_doubled (c ∷ cs) =
    ap (λ t. doubled (encode c) ++ t) (all_doubled cs)
    ∙ sym (flat_map-append doubled_byte (encode c) (encodes cs))

-- the characters of a text, with each quote doubled
pub doubled-chars : (t : List ℕ) → IsUtf8 t
    → flat_map (λ c. doubled (encode c)) (chars t) ≡ doubled t
doubled-chars t h = all_doubled (chars t) ∙ ap doubled (encodes-chars t h)
