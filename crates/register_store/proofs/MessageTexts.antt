-- The value of a message is read from its text.
use Rattle.std.specs.Prelude.{ℕ, ◌≡◌, ◌≤◌, Bool, true, false, List, [], ◌∷◌, map, Option, Some}
use Rattle.std.specs.Prelude.{Ok, Err, refl, if◌then◌else◌}
use Rattle.std.specs.Str.{is_utf8}
use Rattle.std.proofs.Common.{arith, sym, ap, ◌∙◌}
use Rattle.json.specs.Json as values
use Rattle.json.specs.Tree as tree
use Rattle.json.specs.Tree.{HasNumbers, ItemsHaveNumbers}
use Rattle.serde_json.specs.Data.{Data, string}
use Rattle.serde_json.specs.Read as serde
use Rattle.serde_json.specs.Read.{read, max_depth}
use Rattle.serde_json.specs.View.{items_of}
use Rattle.serde_json.specs.Written.{outline, items_outline}
use Rattle.posting_core.specs.declared.message.Message as message
use Rattle.posting_core.specs.declared.message.Message.TheVariants.{Move, Pack, Agree, Authorise}
use Rattle.posting_core.specs.declared.message.Message.TheVariants.{Exit, Return, Receive, SignOff}
use Rattle.posting_core.specs.declared.message.Message.TheVariants.{Extend}
use Rattle.register_store.specs.declared.fault.ReadFault.TheVariants.{NotJson}
use Rattle.register_store.specs.Kinds.{of_json, of_read, of_bytes}
use Rattle.register_store.specs.MessageText.{json, body_of}
use Rattle.register_store.proofs.ReadTexts.{read_compact}

-- its value has texts alone

abbrev texts : List (List ℕ) → values.Items
texts objects = items_outline (items_of (map string objects))

texts_numbers : (objects : List (List ℕ)) → ItemsHaveNumbers (texts objects)
texts_numbers [] = tt
texts_numbers (o ∷ os) = (tt, texts_numbers os)

pub numbers : (m : message.Message) → HasNumbers (outline (json m))
numbers (Move day x p) = (tt, (tt, (tt, (tt, tt))))
numbers (Pack day x c) = (tt, (tt, (tt, (tt, tt))))
numbers (Agree first last loan partner objects) =
    (tt, (tt, (tt, (tt, (texts_numbers objects, (tt, tt))))))
numbers (Authorise name loan) = (tt, (tt, (tt, tt)))
numbers (Exit day x loan) = (tt, (tt, (tt, (tt, tt))))
numbers (Return day x loan p) = (tt, (tt, (tt, (tt, (tt, tt)))))
numbers (Receive day x loan p) = (tt, (tt, (tt, (tt, (tt, tt)))))
numbers (SignOff name) = (tt, (tt, tt))
numbers (Extend last loan) = (tt, (tt, (tt, tt)))

-- it nests at most two deep

flat : (objects : List (List ℕ)) → tree.items_depth (texts objects) ≡ 0
flat [] = refl
flat (o ∷ os) = rw (flat os) refl

few : (n k : ℕ) → n ≡ k → k ≤ 2 → n ≤ 2
few n k same small = omega arith

pub shallow : (m : message.Message) → tree.depth (outline (json m)) ≤ 2
shallow (Move day x p) = few _ 1 refl (omega arith)
shallow (Pack day x c) = few _ 1 refl (omega arith)
shallow (Agree first last loan partner objects) = few _ 2 (rw (flat objects) refl) (omega arith)
shallow (Authorise name loan) = few _ 1 refl (omega arith)
shallow (Exit day x loan) = few _ 1 refl (omega arith)
shallow (Return day x loan p) = few _ 1 refl (omega arith)
shallow (Receive day x loan p) = few _ 1 refl (omega arith)
shallow (SignOff name) = few _ 1 refl (omega arith)
shallow (Extend last loan) = few _ 1 refl (omega arith)

-- its members are in order already

texts_back : (objects : List (List ℕ))
    → serde.of_items (texts objects) ≡ Some (items_of (map string objects))
texts_back [] = refl
texts_back (o ∷ os) = rw (texts_back os) refl

pub back : (m : message.Message) → serde.of_json (outline (json m)) ≡ Some (json m)
back (Move day x p) = refl
back (Pack day x c) = refl
back (Agree first last loan partner objects) = rw (texts_back objects) refl
back (Authorise name loan) = refl
back (Exit day x loan) = refl
back (Return day x loan p) = refl
back (Receive day x loan p) = refl
back (SignOff name) = refl
back (Extend last loan) = refl

deep : (n : ℕ) → n ≤ 2 → n ≤ max_depth
deep n small = omega arith

read_body : (m : message.Message) → read (body_of m) ≡ Some (json m)
read_body m = read_compact (json m) (json m) (numbers m) (deep _ (shallow m)) (back m)

-- a message's text is UTF-8, and its value spells the message

parts : (utf8 : Bool) (found : Option Data) (e : Data) (m : message.Message) → found ≡ Some e
    → (if utf8 then of_read found else Err NotJson) ≡ Ok m → (utf8 ≡ true) × (of_json e ≡ Ok m)
parts true found e m is h = (refl, ap of_read (sym is) ∙ h)
parts false found e m is h = absurd (cc)

pub spelled : (m : message.Message) → of_bytes (body_of m) ≡ Ok m
    → (is_utf8 (body_of m) ≡ true) × (of_json (json m) ≡ Ok m)
spelled m h = parts (is_utf8 (body_of m)) (read (body_of m)) (json m) m (read_body m) h
