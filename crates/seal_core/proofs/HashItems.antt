-- The items of an array that are hashes.
use Rattle.std.proofs.Common.{◌≡◌, ℕ, ◌<◌, All, List, [], ◌∷◌, length, map, get_or, arith, refl}
use Rattle.std.proofs.Common.{sym, ap, ◌∙◌}
use Rattle.std.proofs.lemmas.List.{get_or-map, length-map}
use Rattle.std.proofs.lemmas.List.Elements.{All-get_or}
use Rattle.hex.specs.Hex.{encode_lower}
use Rattle.serde_json.specs.Data.{Data, string}
use Rattle.serde_json.specs.View.{items_of}
use Rattle.borrowed_json.specs.declared.value.Value.{Value}
use Rattle.borrowed_json.specs.View.{view}
use Rattle.seal_core.specs.ReceiptReadings.{IsHash}

-- the values of the hashes' texts
abbrev texts : List (List ℕ) → List Data
texts hashes = map string (map encode_lower hashes)

-- one of as many hashes as values
pub record HashAt (hashes : List (List ℕ)) (k : ℕ) (value : Value) : Type 0 where
  pub within : k < length hashes
  pub spelled : view value ≡ string (encode_lower (get_or hashes k []))
  pub is_hash : IsHash (get_or hashes k [])

pub same_length : (values : List Value) (hashes : List (List ℕ)) → map view values ≡ texts hashes
    → length values ≡ length hashes
same_length values hashes same =
    sym (length-map values view) ∙ ap length same ∙ length-map (map encode_lower hashes) string
    ∙ length-map hashes encode_lower

pub hash_at : (values : List Value) (hashes : List (List ℕ)) (k : ℕ) (value : Value)
    → k < length values → value ≡ get_or values k value → All IsHash hashes
    → map view values ≡ texts hashes → HashAt hashes k value
hash_at values hashes k value inside is all same =
    let count = same_length values hashes same in
    let below : k < length hashes = omega (arith, inside, count) in
    let digits = length-map hashes encode_lower in
    record {
      within = below;
      spelled = ap view is
          ∙ sym (get_or-map view values k value (string []) inside)
          ∙ ap (λ (ds : List Data). get_or ds k (string [])) same
          ∙ get_or-map string (map encode_lower hashes) k [] (string [])
          (omega (arith, below, digits))
          ∙ ap string (get_or-map encode_lower hashes k [] [] below);
      is_hash = All-get_or IsHash hashes k [] below all;
    }

-- different lists make different items
pub items_same : (xs ys : List Data) → items_of xs ≡ items_of ys → xs ≡ ys
items_same [] [] h = refl
items_same [] (y ∷ ys) h = absurd (cc)
items_same (x ∷ xs) [] h = absurd (cc)
items_same (x ∷ xs) (y ∷ ys) h =
    let rest : items_of xs ≡ items_of ys = cc in
    let first : x ≡ y = cc in
    let others = items_same xs ys rest in cc
