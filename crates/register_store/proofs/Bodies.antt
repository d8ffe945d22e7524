-- The text of a message that is spelled reads back as the message.
use Rattle.std.specs.Prelude.{ℕ, ℤ, ◌≡◌, ◌≤◌, Bool, true, false, List, [], ◌∷◌, ◌++◌, map, Option}
use Rattle.std.specs.Prelude.{Some, None, is_none, option_and_then, Ok, refl, codes, ⊤, IsUtf8}
use Rattle.std.specs.List.{list_all}
use Rattle.std.proofs.Common.{arith, sym, ap, ◌∙◌, append-nil}
use Rattle.std.proofs.lemmas.Bool.{and_parts}
use Rattle.std.proofs.lemmas.Str.{IsUtf8-append, IsUtf8-nil, IsUtf8-from_ascii, is_utf8-from_IsUtf8}
use Rattle.json.specs.Json.{value, if_last}
use Rattle.json.specs.Lex.{tokens}
use Rattle.json.specs.Print.{quoted}
use Rattle.json.specs.Tree as tree
use Rattle.json.specs.Tree.{json_tokens, HasNumbers, ItemsHaveNumbers, MembersHaveNumbers}
use Rattle.json.proofs.Printed.Tokens.{tokens-print}
use Rattle.json.proofs.Printed.Trees.{value-json_tokens, ArePrintable-json_tokens}
use Rattle.json.proofs.Printed.Utf8.{are_ascii, IsUtf8-are_ascii, IsUtf8-quoted, IsUtf8-boolean}
use Rattle.serde_json.specs.Data.{Data, null, boolean, number, string, array, object, Items}
use Rattle.serde_json.specs.Data.{no_items, item, Members, no_members, member}
use Rattle.serde_json.specs.Read as serde
use Rattle.serde_json.specs.Read.{read, max_depth}
use Rattle.serde_json.specs.View.{items_of}
use Rattle.serde_json.specs.Written.{outline, items_outline, members_outline, comma_if}
use Rattle.serde_json.specs.Written.{compact_text, items_text, members_text}
use Rattle.serde_json.proofs.Texts.{print-outline}
use Rattle.codes_core.specs.declared.fault.CodeFault.{CodeFault}
use Rattle.codes_core.specs.Day.{day_text}
use Rattle.codes_core.specs.Loan.{loan_fault}
use Rattle.codes_core.specs.Place.{place_fault}
use Rattle.codes_core.specs.Thing.{thing_fault}
use Rattle.codes_core.proofs.Segments.{place_text}
use Rattle.codes_core.proofs.SpelledDays.{day_text_ascii}
use Rattle.codes_core.proofs.Texts.{thing_text, loan_text}
use Rattle.posting_core.specs.declared.message.Message as message
use Rattle.posting_core.specs.declared.message.Message.TheVariants.{Move, Pack, Agree, Authorise}
use Rattle.posting_core.specs.declared.message.Message.TheVariants.{Exit, Return, Receive, SignOff}
use Rattle.posting_core.specs.declared.message.Message.TheVariants.{Extend}
use Rattle.register_store.specs.Spelling.{is_thing}
use Rattle.register_store.specs.Kinds.{of_json, of_bytes}
use Rattle.register_store.specs.MessageText.{json, body_of, IsSpelled}
use Rattle.register_store.proofs.Fields.{of_value, name_passes}
use Rattle.register_store.proofs.ObjectLists.{strings_fit, texts_back}

-- a value of texts alone, under keys of ASCII
abbrev mutual
  HasTexts : Data → Type 0
  HasTexts null = ⊤
  HasTexts (boolean b) = ⊤
  HasTexts (number n) = ⊥
  HasTexts (string s) = IsUtf8 s
  HasTexts (array ds) = ItemsHaveTexts ds
  HasTexts (object ms) = MembersHaveTexts ms

  ItemsHaveTexts : Items → Type 0
  ItemsHaveTexts no_items = ⊤
  ItemsHaveTexts (item d ds) = HasTexts d × ItemsHaveTexts ds

  MembersHaveTexts : Members → Type 0
  MembersHaveTexts no_members = ⊤
  MembersHaveTexts (member key d ms) = (are_ascii key ≡ true) × HasTexts d × MembersHaveTexts ms

mutual
  numbers : (d : Data) → HasTexts d → HasNumbers (outline d)
  numbers null h = tt
  numbers (boolean b) h = tt
  numbers (number n) h = absurd h
  numbers (string s) h = tt
  numbers (array ds) h = items_numbers ds h
  numbers (object ms) h = members_numbers ms h

  items_numbers : (ds : Items) → ItemsHaveTexts ds → ItemsHaveNumbers (items_outline ds)
  items_numbers no_items h = tt
  items_numbers (item d ds) h = (numbers d h.0, items_numbers ds h.1)

  members_numbers : (ms : Members) → MembersHaveTexts ms → MembersHaveNumbers (members_outline ms)
  members_numbers no_members h = tt
  members_numbers (member key d ms) h = (numbers d h.1, members_numbers ms h.2)

comma : (later : Bool) → IsUtf8 (comma_if later)
comma true = IsUtf8-are_ascii (44 ∷ []) refl
comma false = IsUtf8-nil

then : (b : ℕ) (bs : List ℕ) → are_ascii (b ∷ []) ≡ true → IsUtf8 bs → IsUtf8 (b ∷ bs)
then b bs low h = IsUtf8-append (b ∷ []) bs (IsUtf8-are_ascii (b ∷ []) low) h

mutual
  utf8 : (d : Data) → HasTexts d → IsUtf8 (compact_text d)
  utf8 null h = IsUtf8-are_ascii (compact_text null) refl
  utf8 (boolean b) h = IsUtf8-boolean b
  utf8 (number n) h = absurd h
  utf8 (string s) h = IsUtf8-quoted s h
  utf8 (array ds) h = then 91 (items_text false ds) refl (items_utf8 false ds h)
  utf8 (object ms) h = then 123 (members_text false ms) refl (members_utf8 false ms h)

  items_utf8 : (later : Bool) (ds : Items) → ItemsHaveTexts ds → IsUtf8 (items_text later ds)
  items_utf8 later no_items h = IsUtf8-are_ascii (93 ∷ []) refl
  items_utf8 later (item d ds) h =
      IsUtf8-append (comma_if later) (compact_text d ++ items_text true ds) (comma later)
      (IsUtf8-append (compact_text d) (items_text true ds) (utf8 d h.0) (items_utf8 true ds h.1))

  members_utf8 : (later : Bool) (ms : Members) → MembersHaveTexts ms
      → IsUtf8 (members_text later ms)
  members_utf8 later no_members h = IsUtf8-are_ascii (125 ∷ []) refl
  members_utf8 later (member key d ms) h =
      let rest = compact_text d ++ members_text true ms in
      IsUtf8-append (comma_if later) (quoted key ++ 58 ∷ rest) (comma later)
      (IsUtf8-append (quoted key) (58 ∷ rest) (IsUtf8-quoted key (IsUtf8-are_ascii key h.0))
      (then 58 rest refl (IsUtf8-append (compact_text d) (members_text true ms) (utf8 d h.1)
      (members_utf8 true ms h.2))))

-- the texts of a message are UTF-8

of_thing : (x : List ℕ) → thing_fault x ≡ None → IsUtf8 x
of_thing x h = IsUtf8-from_ascii x (thing_text x h).ascii

of_place : (p : List ℕ) → place_fault p ≡ None → IsUtf8 p
of_place p h = IsUtf8-from_ascii p (place_text p h).ascii

of_loan : (loan : List ℕ) → loan_fault loan ≡ None → IsUtf8 loan
of_loan loan h = IsUtf8-from_ascii loan (loan_text loan h).ascii

of_day : (day : ℤ) → IsUtf8 (day_text day)
of_day day = IsUtf8-from_ascii (day_text day) (day_text_ascii day)

of_word : (word : List ℕ) → are_ascii word ≡ true → IsUtf8 word
of_word word h = IsUtf8-are_ascii word h

no_fault : (o : Option CodeFault) → is_none o ≡ true → o ≡ None
no_fault None h = refl
no_fault (Some fault) h = absurd (cc)

of_things : (objects : List (List ℕ)) → list_all is_thing objects ≡ true
    → ItemsHaveTexts (items_of (map string objects))
of_things [] h = tt
of_things (o ∷ os) h = let both = and_parts (is_thing o) (list_all is_thing os) h in
    (of_thing o (no_fault (thing_fault o) both.0), of_things os both.1)

texts : (m : message.Message) → IsSpelled m → HasTexts (json m)
texts (Move day x p) h = (
  refl,
  of_day day,
  (
    refl,
    of_word (codes "move") refl,
    (refl, of_place p h.1, (refl, of_thing x h.0, tt)),
  ),
)
texts (Pack day x c) h = (
  refl,
  of_thing c h.1,
  (
    refl,
    of_day day,
    (refl, of_word (codes "pack") refl, (refl, of_thing x h.0, tt)),
  ),
)
texts (Agree first last loan partner objects) h = (
  refl,
  of_day first,
  (
    refl,
    of_word (codes "agree") refl,
    (
      refl,
      of_day last,
      (
        refl,
        of_loan loan h.0,
        (refl, of_things objects h.2.things, (refl, of_place partner h.1, tt)),
      ),
    ),
  ),
)
texts (Authorise name loan) h =
    (refl, h.1.utf8, (refl, of_word (codes "authorise") refl, (refl, of_loan loan h.0, tt)))
texts (Exit day x loan) h = (
  refl,
  of_day day,
  (
    refl,
    of_word (codes "exit") refl,
    (refl, of_loan loan h.1, (refl, of_thing x h.0, tt)),
  ),
)
texts (Return day x loan p) h = (
  refl,
  of_day day,
  (
    refl,
    of_word (codes "return") refl,
    (refl, of_loan loan h.1, (refl, of_place p h.2, (refl, of_thing x h.0, tt))),
  ),
)
texts (Receive day x loan p) h = (
  refl,
  of_day day,
  (
    refl,
    of_word (codes "receive") refl,
    (refl, of_loan loan h.1, (refl, of_place p h.2, (refl, of_thing x h.0, tt))),
  ),
)
texts (SignOff name) h = (refl, h.utf8, (refl, of_word (codes "signoff") refl, tt))
texts (Extend last loan) h = (
  refl,
  of_word (codes "extend") refl,
  (refl, of_day last, (refl, of_loan loan h.0, tt)),
)

-- the value that is read from the text

items_back : (objects : List (List ℕ))
    → serde.of_items (items_outline (items_of (map string objects)))
    ≡ Some (items_of (map string objects))
items_back [] = refl
items_back (o ∷ os) = rw (items_back os) refl

flat : (objects : List (List ℕ))
    → tree.items_depth (items_outline (items_of (map string objects))) ≡ 0
flat [] = refl
flat (o ∷ os) = rw (flat os) refl

outline_back : (m : message.Message) → serde.of_json (outline (json m)) ≡ Some (json m)
outline_back (Move day x p) = refl
outline_back (Pack day x c) = refl
outline_back (Agree first last loan partner objects) = rw (items_back objects) refl
outline_back (Authorise name loan) = refl
outline_back (Exit day x loan) = refl
outline_back (Return day x loan p) = refl
outline_back (Receive day x loan p) = refl
outline_back (SignOff name) = refl
outline_back (Extend last loan) = refl

low : (n k : ℕ) → n ≡ k → k ≤ 2 → n ≤ max_depth
low n k same few = omega arith

shallow : (m : message.Message) → tree.depth (outline (json m)) ≤ max_depth
shallow (Move day x p) = low _ 1 refl (omega arith)
shallow (Pack day x c) = low _ 1 refl (omega arith)
shallow (Agree first last loan partner objects) = low _ 2 (rw (flat objects) refl) (omega arith)
shallow (Authorise name loan) = low _ 1 refl (omega arith)
shallow (Exit day x loan) = low _ 1 refl (omega arith)
shallow (Return day x loan p) = low _ 1 refl (omega arith)
shallow (Receive day x loan p) = low _ 1 refl (omega arith)
shallow (SignOff name) = low _ 1 refl (omega arith)
shallow (Extend last loan) = low _ 1 refl (omega arith)

read_text : (m : message.Message) → HasTexts (json m) → read (body_of m) ≡ Some (json m)
read_text m has =
    let d = json m in
    let ts = json_tokens (outline d) in
    let told : tokens (body_of m) ≡ ts =
    ap tokens (sym (print-outline d)) ∙ tokens-print ts
    (ArePrintable-json_tokens (outline d) (numbers d has)) in
    ap (λ r. option_and_then serde.of_json (option_and_then (λ p. if_last p.0 p.1) r))
    (ap (value max_depth) (told ∙ sym (append-nil ts)) ∙ value-json_tokens (outline d) max_depth
    [] (shallow m))
    ∙ outline_back m

-- the message that the value spells

json_back : (m : message.Message) → IsSpelled m → of_json (json m) ≡ Ok m
json_back (Move day x p) h = rw (h.0, h.1, h.2.spells.0, h.2.spells.1) refl
json_back (Pack day x c) h = rw (h.0, h.1, h.2.spells.0, h.2.spells.1) refl
json_back (Agree first last loan partner objects) h =
    let fits = strings_fit is_thing objects h.2.few h.2.things in
    rw (
      h.0,
      h.1,
      fits,
      h.3.spells.0,
      h.3.spells.1,
      h.4.spells.0,
      h.4.spells.1,
      texts_back objects,
    ) refl
json_back (Authorise name loan) h = rw (h.0, name_passes name h.1) refl
json_back (Exit day x loan) h = rw (h.0, h.1, h.2.spells.0, h.2.spells.1) refl
json_back (Return day x loan p) h = rw (h.0, h.1, h.2, h.3.spells.0, h.3.spells.1) refl
json_back (Receive day x loan p) h = rw (h.0, h.1, h.2, h.3.spells.0, h.3.spells.1) refl
json_back (SignOff name) h = rw (name_passes name h) refl
json_back (Extend last loan) h = rw (h.0, h.1.spells.0, h.1.spells.1) refl

pub reads_back : (m : message.Message) → IsSpelled m → of_bytes (body_of m) ≡ Ok m
reads_back m h =
    let has = texts m h in
    of_value (body_of m) (json m) (is_utf8-from_IsUtf8 (body_of m) (utf8 (json m) has))
    (read_text m has) ∙ json_back m h
