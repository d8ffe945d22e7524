-- The text of a line is the compact text of an object. It is UTF-8, and reads back as the station,
-- the number and the message.
use Rattle.std.specs.Prelude.{ℕ, ◌≡◌, ◌≤◌, ◌<◌, ◌^◌, ◌++◌, true, List, [], ◌∷◌, Some, refl, codes}
use Rattle.std.specs.Prelude.{decimal, IsUtf8}
use Rattle.std.specs.List.{list_all}
use Rattle.std.proofs.Common.{arith, sym, ap, ◌∙◌, append_assoc}
use Rattle.std.proofs.lemmas.Fmt.{IsAscii-decimal}
use Rattle.std.proofs.lemmas.Str.{IsUtf8-append, IsUtf8-from_ascii}
use Rattle.json.specs.Print.{escape_byte}
use Rattle.json.specs.Tree as tree
use Rattle.json.specs.Tree.{HasNumbers}
use Rattle.json.proofs.Printed.Decimals.{IsNumber-decimal}
use Rattle.json.proofs.Printed.Utf8.{IsUtf8-are_ascii}
use Rattle.serde_json.specs.Data.{Data, string, number, unsigned, object, Members, no_members}
use Rattle.serde_json.specs.Data.{member}
use Rattle.serde_json.specs.Read as serde
use Rattle.serde_json.specs.Read.{read}
use Rattle.serde_json.specs.Written.{outline, compact_text}
use Rattle.serde_json.proofs.Numbers.{number_of-decimal}
use Rattle.nest_core.specs.StationName.{is_station_byte}
use Rattle.register_store.proofs.ReadTexts.{read_compact}
use Rattle.register_store.proofs.StationNames.{plain_text, ascii_text}

abbrev station_is : List ℕ → Members → Members
station_is station = member (codes "station") (string station)

abbrev n_is : ℕ → Members → Members
n_is n = member (codes "n") (number (unsigned n))

abbrev message_is : Data → Members → Members
message_is message = member (codes "message") message

-- the members as they are written
abbrev pub written : List ℕ → ℕ → Data → Data
written station n message =
    object (station_is station (n_is n (message_is message no_members)))

-- the members as they are read, in ascending order of their keys
abbrev pub sorted : List ℕ → ℕ → Data → Data
sorted station n message = object (message_is message (n_is n (station_is station no_members)))

-- the line with this text of a message
abbrev pub line_text : List ℕ → ℕ → List ℕ → List ℕ
line_text station n text =
    codes "{\"station\":\"" ++ station ++ codes "\",\"n\":" ++ decimal n ++ codes ",\"message\":"
    ++ text ++ codes "}"

-- the line after its station and a quote
abbrev rest : ℕ → List ℕ → List ℕ
rest n text =
    codes ",\"n\":" ++ (decimal n ++ (codes ",\"message\":" ++ (text ++ codes "}")))

regroup : (first station next digits then text last : List ℕ)
    → first ++ station ++ next ++ digits ++ then ++ text ++ last
    ≡ first ++ (station ++ (next ++ (digits ++ (then ++ (text ++ last)))))
regroup first station next digits then text last = simp append_assoc

in_order : (station : List ℕ) (n : ℕ) (text : List ℕ)
    → line_text station n text ≡ codes "{\"station\":\"" ++ (station ++ 34 ∷ rest n text)
in_order station n text = regroup (codes "{\"station\":\"") station (codes "\",\"n\":")
    (decimal n) (codes ",\"message\":") text (codes "}")

pub text_written : (station : List ℕ) (n : ℕ) (message : Data)
    → list_all is_station_byte station ≡ true
    → line_text station n (compact_text message) ≡ compact_text (written station n message)
unfolding escape_byte
text_written station n message plain =
    let after = rest n (compact_text message) in
    in_order station n (compact_text message)
    ∙ ap (λ s. codes "{\"station\":\"" ++ s) (sym (append_assoc station (34 ∷ []) after))
    ∙ ap (λ name. codes "{\"station\":\"" ++ (name ++ 34 ∷ [] ++ after))
    (sym (plain_text station plain))

pub read_line : (station : List ℕ) (n : ℕ) (message : Data) → n < 2 ^ 64
    → list_all is_station_byte station ≡ true → HasNumbers (outline message)
    → tree.depth (outline message) ≤ 2 → serde.of_json (outline message) ≡ Some message
    → read (line_text station n (compact_text message)) ≡ Some (sorted station n message)
read_line station n message small plain numbers shallow back =
    ap read (text_written station n message plain)
    ∙ read_compact (written station n message) (sorted station n message)
    (tt, (IsNumber-decimal n small, (numbers, tt))) (omega (arith, shallow))
    (rw (number_of-decimal n small, back) refl)

pub utf8_line : (station : List ℕ) (n : ℕ) (text : List ℕ) → n < 2 ^ 64
    → list_all is_station_byte station ≡ true → IsUtf8 text → IsUtf8 (line_text station n text)
utf8_line station n text small plain utf8 =
    let first = IsUtf8-are_ascii (codes "{\"station\":\"") refl in
    let name = IsUtf8-are_ascii station (ascii_text station plain) in
    let next = IsUtf8-are_ascii (codes "\",\"n\":") refl in
    let digits = IsUtf8-from_ascii (decimal n) (IsAscii-decimal n small) in
    let then = IsUtf8-are_ascii (codes ",\"message\":") refl in
    let last = IsUtf8-are_ascii (codes "}") refl in
    IsUtf8-append _ _ (IsUtf8-append _ _ (IsUtf8-append _ _ (IsUtf8-append _ _
    (IsUtf8-append _ _ (IsUtf8-append _ _ first name) next) digits) then) utf8) last
