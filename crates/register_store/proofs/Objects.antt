-- The message of an object, and values that aren't objects.
use Rattle.std.proofs.Common.{◌≡◌, ℕ, Bool, List, true, false, bytes_eq, is_some, Some, Err, codes}
use Rattle.std.proofs.Common.{refl, ◌∙◌}
use Rattle.std.proofs.lemmas.Slice.Eq.{bytes_eq-Decides}
use Rattle.serde_json.specs.Data.{Data, null, boolean, number, string, array, object}
use Rattle.serde_json.specs.Find.{get, as_str, as_object}
use Rattle.register_store.specs.declared.fault.ReadFault.TheVariants.{NotJson}
use Rattle.register_store.specs.declared.key.Key.TheVariants.{Kind}
use Rattle.register_store.specs.Spelling.{key_name}
use Rattle.register_store.specs.Kinds.{of_json, of_kind, of_named, kind_named, loan_kinds}
use Rattle.register_store.specs.Kinds.{kinds_that_grow, takes_memory}

pub of_object : (d : Data) → is_some (as_object d) ≡ true
    → of_json d ≡ of_kind d (get (key_name Kind) d)
of_object null is = cc
of_object (boolean b) is = cc
of_object (number n) is = cc
of_object (string s) is = cc
of_object (array ds) is = cc
of_object (object ms) is = refl

pub no_object : (d : Data) → is_some (as_object d) ≡ false → of_json d ≡ Err NotJson
no_object null is = refl
no_object (boolean b) is = refl
no_object (number n) is = refl
no_object (string s) is = refl
no_object (array ds) is = refl
no_object (object ms) is = cc

told_false : (b : Bool) → (b ≡ true → ⊥) → b ≡ false
told_false true never = absurd (never refl)
told_false false never = refl

no_such_name : (name kind : List ℕ) → (name ≡ kind → ⊥) → bytes_eq name kind ≡ false
no_such_name name kind apart =
    told_false (bytes_eq name kind) (λ same. apart ((bytes_eq-Decides name kind).0 same))

-- an object of another kind than these three is about a loan, or of no kind
pub other_kind : (d kind : Data) (name : List ℕ) → is_some (as_object d) ≡ true
    → get (key_name Kind) d ≡ Some kind → as_str kind ≡ Some name
    → (name ≡ codes "move" → ⊥) → (name ≡ codes "pack" → ⊥) → (name ≡ codes "signoff" → ⊥)
    → of_json d ≡ of_named d (kind_named loan_kinds name)
other_kind d kind name is there text not_move not_pack not_sign_off =
    of_object d is ∙ rw (
      there,
      text,
      no_such_name name (codes "move") not_move,
      no_such_name name (codes "pack") not_pack,
      no_such_name name (codes "signoff") not_sign_off,
    ) refl

-- a value of a kind that takes memory
pub grows : (d kind : Data) (name : List ℕ) → get (key_name Kind) d ≡ Some kind
    → as_str kind ≡ Some name → is_some (kind_named kinds_that_grow name) ≡ true
    → takes_memory d ≡ true
grows d kind name there text grown = rw (there, text) grown
