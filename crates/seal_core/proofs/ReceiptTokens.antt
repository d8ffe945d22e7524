-- The tokens of a receipt are those of its object.
use Rattle.std.specs.Prelude.{◌≡◌, List, [], ◌∷◌, ◌++◌, ℕ, codes, decimal, map, refl}
use Rattle.std.proofs.Common.{ap, sym, ◌∙◌, append_assoc}
use Rattle.hex.specs.Hex.{encode_lower}
use Rattle.json.specs.Print.{print}
use Rattle.json.specs.Token.{Token}
use Rattle.json.specs.Tree.{items_tokens, json_tokens}
use Rattle.serde_json.specs.Data.{string}
use Rattle.serde_json.specs.View.{items_of}
use Rattle.serde_json.specs.Written.{items_outline, outline}
use Rattle.serde_json.proofs.Texts.{print-outline}
use Rattle.seal_core.specs.declared.receipt.Receipt.{Receipt}
use Rattle.seal_core.specs.ReceiptTexts.{hash_tokens, head_tokens, receipt_json, receipt_text}
use Rattle.seal_core.specs.ReceiptTexts.{receipt_tokens}

items : (hashes : List (List ℕ))
    → items_tokens (items_outline (items_of (map string (map encode_lower hashes))))
    ≡ hash_tokens hashes ++ Token.end_array ∷ []
items [] = refl
items (hash ∷ hashes) =
    ap (λ (rest : List Token). Token.string (encode_lower hash) ∷ rest) (items hashes)

tokens_are : (r : Receipt) → receipt_tokens r ≡ json_tokens (outline (receipt_json r))
tokens_are r =
    let hashes = r.path.items in
    let size : List Token =
    Token.key (codes "size") ∷ Token.number (decimal r.size) ∷ Token.end_object ∷ [] in
    ap (λ (rest : List Token). head_tokens r ++ rest)
    (sym (append_assoc (hash_tokens hashes) (Token.end_array ∷ []) size)
    ∙ ap (λ (listed : List Token). listed ++ size) (sym (items hashes)))

pub printed : (r : Receipt) → print (receipt_tokens r) ≡ receipt_text r
printed r = ap print (tokens_are r) ∙ print-outline (receipt_json r)
