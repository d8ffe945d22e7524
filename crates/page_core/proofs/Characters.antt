-- The text of a character in a page.
use Rattle.std.proofs.Common.{◌≡◌, ℕ, ◌+◌, ◌/◌, ◌==◌, ◌≤◌, Bool, true}
use Rattle.std.proofs.Common.{false, List, [], ◌∷◌, ◌++◌, cond, refl, ap, sym}
use Rattle.std.proofs.Common.{◌∙◌, arith}
use Rattle.std.specs.Prelude.{IsUtf8}
use Rattle.std.specs.Str.{chars}
use Rattle.std.specs.List.{flat_map}
use Rattle.std.proofs.Math.Utf8.{encode}
use Rattle.std.proofs.lemmas.Str.{encodes-chars}
use Rattle.std.proofs.lemmas.Grind.{flat_map-append}
use lib.Utf8.{encodes, next}
use Rattle.page_core.specs.Escapes.{escaped, escaped_byte}

-- every byte but the five stays
pub stays : (b : ℕ) → (b ≡ 38 → ⊥) → (b ≡ 60 → ⊥) → (b ≡ 62 → ⊥)
    → (b ≡ 34 → ⊥) → (b ≡ 39 → ⊥) → escaped_byte b ≡ b ∷ []
stays b a l g q s =
    let ea : (b == 38) ≡ false = grind (arith, a) in
    let el : (b == 60) ≡ false = grind (arith, l) in
    let eg : (b == 62) ≡ false = grind (arith, g) in
    let eq : (b == 34) ≡ false = grind (arith, q) in
    let es : (b == 39) ≡ false = grind (arith, s) in
    rw (ea, el, eg, eq, es) refl

-- so do the bytes of a longer character
high : (b : ℕ) → 128 ≤ b → escaped_byte b ≡ b ∷ []
high b h = stays b (λ e. omega arith) (λ e. omega arith) (λ e. omega arith) (λ e. omega arith)
    (λ e. omega arith)

-- of a first byte that stays, and others
then : (b : ℕ) (t : List ℕ) → escaped_byte b ≡ b ∷ [] → escaped t ≡ t
    → escaped (b ∷ t) ≡ b ∷ t
then b t e f = ap (λ x. x ++ escaped t) e ∙ ap (λ x. b ∷ x) f

pick : (b : Bool) (x y : List ℕ) → escaped x ≡ x → escaped y ≡ y
    → escaped (cond b x y) ≡ cond b x y
pick true x y p q = p
pick false x y p q = q

pub escaped-encode : (c : ℕ) → (c ≡ 38 → ⊥) → (c ≡ 60 → ⊥) → (c ≡ 62 → ⊥)
    → (c ≡ 34 → ⊥) → (c ≡ 39 → ⊥) → escaped (encode c) ≡ encode c
unfolding encode
escaped-encode c a l g q s =
    pick _ _ _ (then c [] (stays c a l g q s) refl)
    (pick _ _ _ (then (192 + c / 64) _ (high _ (omega arith)) (last c))
    (pick _ _ _ (then (224 + c / 4096) _ (high _ (omega arith)) (then (next (c / 64)) _
    (high _ (omega arith)) (last c)))
    (then (240 + c / 262144) _ (high _ (omega arith)) (then (next (c / 4096)) _
    (high _ (omega arith)) (then (next (c / 64)) _ (high _ (omega arith)) (last c))))))
  where
    last : (c : ℕ) → escaped (next c ∷ []) ≡ next c ∷ []
    last c = then (next c) [] (high _ (omega arith)) refl

all_escaped : (cs : List ℕ) → flat_map (λ c. escaped (encode c)) cs ≡ escaped (encodes cs)
all_escaped [] = refl
all_escaped (c ∷ cs) =
    ap (λ t. escaped (encode c) ++ t) (all_escaped cs)
    ∙ sym (flat_map-append escaped_byte (encode c) (encodes cs))

-- the characters of a text, each escaped
pub escaped-chars : (t : List ℕ) → IsUtf8 t
    → flat_map (λ c. escaped (encode c)) (chars t) ≡ escaped t
escaped-chars t h = all_escaped (chars t) ∙ ap escaped (encodes-chars t h)
