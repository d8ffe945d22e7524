-- The text of a receipt is UTF-8.
use Rattle.std.proofs.Common.{◌≡◌, ℕ, ◌<◌, ◌^◌, Bool, true, false, List, [], ◌∷◌, ◌++◌, map, arith}
use Rattle.std.proofs.Common.{append_assoc, refl, decimal, codes, IsUtf8}
use Rattle.std.specs.Prelude.{nat_lt, string_bytes}
use Rattle.std.specs.List.{list_all}
use Rattle.std.specs.Str.{IsAscii}
use Rattle.std.proofs.lemmas.Bool.{and_parts}
use Rattle.std.proofs.lemmas.Fmt.{IsAscii-decimal}
use Rattle.std.proofs.lemmas.Str.{IsUtf8-append, IsUtf8-from_ascii}
use Rattle.std.proofs.lemmas.Str.Ascii.{IsAscii-nil, IsAscii-cons}
use borrow.Author.Tests.{ltb-true}
use Rattle.hex.specs.Hex.{encode_lower, lower_digits}
use Rattle.hex.proofs.HexLemmas.{IsAscii-encode_with}
use Rattle.json.specs.Print.{quoted}
use Rattle.json.proofs.Printed.Utf8.{IsUtf8-are_ascii, IsUtf8-key, IsUtf8-quoted}
use Rattle.serde_json.specs.Data.{Data, Members, array, member, no_members, number, string}
use Rattle.serde_json.specs.Data.{unsigned}
use Rattle.serde_json.specs.View.{items_of}
use Rattle.serde_json.specs.Written.{comma_if, compact_text, items_text, members_text}
use Rattle.seal_core.specs.declared.receipt.Receipt.{Receipt}
use Rattle.seal_core.specs.ReceiptReadings.{IsWhole}
use Rattle.seal_core.specs.ReceiptTexts.{receipt_text}

-- hexadecimal digits

ascii_from_test : (bytes : List ℕ) → list_all (λ b. nat_lt b 128) bytes ≡ true → IsAscii bytes
ascii_from_test [] h = IsAscii-nil
ascii_from_test (b ∷ bytes) h =
    let both = and_parts (nat_lt b 128) (list_all (λ b. nat_lt b 128) bytes) h in
    IsAscii-cons b bytes (ltb-true b 128 both.0) (ascii_from_test bytes both.1)

digits_utf8 : (bytes : List ℕ) → IsUtf8 (encode_lower bytes)
digits_utf8 bytes = IsUtf8-from_ascii (encode_lower bytes)
    (IsAscii-encode_with lower_digits bytes (ascii_from_test lower_digits refl))

-- the parts of an object and of an array

comma_utf8 : (later : Bool) → IsUtf8 (comma_if later)
comma_utf8 true = IsUtf8-are_ascii (44 ∷ []) refl
comma_utf8 false = IsUtf8-are_ascii [] refl

member_utf8 : (later : Bool) (key : List ℕ) (value : Data) (others : Members) → IsUtf8 key
    → IsUtf8 (compact_text value) → IsUtf8 (members_text true others)
    → IsUtf8 (members_text later (member key value others))
member_utf8 later key value others key_is value_is others_are =
    let rest = compact_text value ++ members_text true others in
    let after : IsUtf8 (quoted key ++ 58 ∷ rest) =
    rw append_assoc at (IsUtf8-append (quoted key ++ 58 ∷ []) rest (IsUtf8-key key key_is)
    (IsUtf8-append _ _ value_is others_are)) in
    IsUtf8-append (comma_if later) (quoted key ++ 58 ∷ rest) (comma_utf8 later) after

hashes_utf8 : (later : Bool) (hashes : List (List ℕ))
    → IsUtf8 (items_text later (items_of (map string (map encode_lower hashes))))
hashes_utf8 later [] = IsUtf8-are_ascii (93 ∷ []) refl
hashes_utf8 later (hash ∷ hashes) =
    IsUtf8-append (comma_if later) _ (comma_utf8 later)
    (IsUtf8-append (quoted (encode_lower hash)) _
    (IsUtf8-quoted (encode_lower hash) (digits_utf8 hash)) (hashes_utf8 true hashes))

path_utf8 : (hashes : List (List ℕ))
    → IsUtf8 (91 ∷ items_text false (items_of (map string (map encode_lower hashes))))
path_utf8 hashes = IsUtf8-append (91 ∷ []) _ (IsUtf8-are_ascii (91 ∷ []) refl)
    (hashes_utf8 false hashes)

number_utf8 : (n : ℕ) → n < 2 ^ 32 → IsUtf8 (decimal n)
number_utf8 n small =
    let wide : n < 2 ^ 64 = omega (arith, small) in
    IsUtf8-from_ascii (decimal n) (IsAscii-decimal n wide)

-- the members, from the last one on

abbrev size_on : Receipt → Members
size_on r = member (codes "size") (number (unsigned r.size)) no_members

abbrev path_of : Receipt → Data
path_of r = array (items_of (map string (map encode_lower r.path.items)))

abbrev path_on : Receipt → Members
path_on r = member (codes "path") (path_of r) (size_on r)

abbrev line_on : Receipt → Members
line_on r = member (codes "line") (string (string_bytes r.line)) (path_on r)

abbrev head_on : Receipt → Members
head_on r = member (codes "head") (string (encode_lower r.head)) (line_on r)

pub text_utf8 : (r : Receipt) → IsWhole r → IsUtf8 (receipt_text r)
text_utf8 r whole =
    let end = IsUtf8-are_ascii (125 ∷ []) refl in
    let size = member_utf8 true (codes "size") (number (unsigned r.size)) no_members
    (IsUtf8-are_ascii (codes "size") refl) (number_utf8 r.size whole.size) end in
    let path = member_utf8 true (codes "path") (path_of r) (size_on r)
    (IsUtf8-are_ascii (codes "path") refl) (path_utf8 r.path.items) size in
    let line = member_utf8 true (codes "line") (string (string_bytes r.line)) (path_on r)
    (IsUtf8-are_ascii (codes "line") refl) (IsUtf8-quoted (string_bytes r.line) whole.text)
    path in
    let head = member_utf8 true (codes "head") (string (encode_lower r.head)) (line_on r)
    (IsUtf8-are_ascii (codes "head") refl)
    (IsUtf8-quoted (encode_lower r.head) (digits_utf8 r.head)) line in
    let entry = member_utf8 false (codes "entry") (number (unsigned r.entry)) (head_on r)
    (IsUtf8-are_ascii (codes "entry") refl) (number_utf8 r.entry whole.entry) head in
    IsUtf8-append (123 ∷ []) (members_text false
    (member (codes "entry") (number (unsigned r.entry)) (head_on r)))
    (IsUtf8-are_ascii (123 ∷ []) refl) entry
