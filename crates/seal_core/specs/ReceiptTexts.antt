-- Defines the text of a receipt: the compact JSON of an object.
use Rattle.std.specs.Prelude.{List, [], ◌∷◌, ◌++◌, ℕ, codes, decimal, map, string_bytes}
use Rattle.hex.specs.Hex.{encode_lower}
use Rattle.json.specs.Token.{Token}
use Rattle.serde_json.specs.Data.{Data, array, member, no_members, number, object, string, unsigned}
use Rattle.serde_json.specs.View.{items_of}
use Rattle.serde_json.specs.Written.{compact_text}
use Rattle.seal_core.specs.declared.receipt.Receipt.{Receipt}

-- The object, with its keys in alphabetical order. A hash is its 64 digits in lower case.
abbrev pub receipt_json : Receipt → Data
receipt_json r = object
    (member (codes "entry") (number (unsigned r.entry))
    (member (codes "head") (string (encode_lower r.head))
    (member (codes "line") (string (string_bytes r.line))
    (member (codes "path") (array (items_of (map string (map encode_lower r.path.items))))
    (member (codes "size") (number (unsigned r.size))
    no_members)))))

-- {"entry":12,"head":"1029..","line":"12 GAL ..","path":["5a0c..","77e1.."],"size":80000}
abbrev pub receipt_text : Receipt → List ℕ
receipt_text r = compact_text (receipt_json r)

-- Its tokens: those before the path, the path's, and those after it.

abbrev pub head_tokens : Receipt → List Token
head_tokens r =
    Token.begin_object ∷ Token.key (codes "entry") ∷ Token.number (decimal r.entry)
    ∷ Token.key (codes "head") ∷ Token.string (encode_lower r.head)
    ∷ Token.key (codes "line") ∷ Token.string (string_bytes r.line)
    ∷ Token.key (codes "path") ∷ Token.begin_array ∷ []

abbrev pub hash_tokens : List (List ℕ) → List Token
hash_tokens hashes = map (λ hash. Token.string (encode_lower hash)) hashes

abbrev pub last_tokens : Receipt → List Token
last_tokens r =
    Token.end_array ∷ Token.key (codes "size") ∷ Token.number (decimal r.size)
    ∷ Token.end_object ∷ []

abbrev pub receipt_tokens : Receipt → List Token
receipt_tokens r = head_tokens r ++ (hash_tokens r.path.items ++ last_tokens r)
