-- The text of a thing's row.
use Rattle.std.specs.Prelude.{◌≡◌, ℕ, List, [], ◌∷◌, ◌++◌, map, Option, Some, None, option_map}
use Rattle.std.specs.Prelude.{slice_get}
use Rattle.std.specs.Option.{option_and_then}
use Rattle.std.proofs.Common.{ap, sym, ◌∙◌, append_assoc}
use Rattle.std.proofs.lemmas.Option.{slice_get-map}
use Rattle.codes_core.specs.Thing.{thing_kind}
use Rattle.codes_core.specs.declared.thing.ThingKind.{ThingKind}
use Rattle.nest_core.specs.Museum.{Museum, kind_of, normal_of, place_code_of, thing_code_of}
use Rattle.nest_core.specs.SetupTexts.{joined, kind_word, normal_fields, thing_fields}

-- a thing's row, by the setup's entry for its number
row_at : (S : Museum) (x : ℕ) (code : List ℕ) (kind : ThingKind) (normal : Option ℕ)
    → thing_code_of S x ≡ Some code → kind_of S x ≡ Some kind → normal ≡ normal_of S x
    → slice_get (map (λ row. joined (thing_fields S row)) S.things) x
    ≡ Some (joined (kind_word kind ∷ code ∷ normal_fields S normal))
row_at S x code kind normal at is has =
    slice_get-map (λ row. joined (thing_fields S row)) S.things x
    ∙ by (slice_get S.things x) (sym (slice_get-map (λ row. row.0) S.things x) ∙ at)
    (sym (ap (option_map thing_kind) (slice_get-map (λ row. row.0) S.things x)) ∙ is) has
  where
    by : (o : Option (List ℕ × Option ℕ)) → option_map (λ row. row.0) o ≡ Some code
        → option_map thing_kind (option_map (λ row. row.0) o) ≡ Some kind
        → normal ≡ option_and_then (λ row. row.1) o
        → option_map (λ row. joined (thing_fields S row)) o
        ≡ Some (joined (kind_word kind ∷ code ∷ normal_fields S normal))
    by None e f g = absurd (cc)
    by (Some row) e f g =
        let first : row.0 ≡ code = cc in
        let then : thing_kind row.0 ≡ kind = cc in
        ap (λ w. Some (joined (w ∷ row.0 ∷ normal_fields S row.1))) (ap kind_word then)
        ∙ ap (λ c. Some (joined (kind_word kind ∷ c ∷ normal_fields S row.1))) first
        ∙ ap (λ n. Some (joined (kind_word kind ∷ code ∷ normal_fields S n))) (sym g)

pub row_plain : (S : Museum) (x : ℕ) (code : List ℕ) (kind : ThingKind) (normal : Option ℕ)
    → thing_code_of S x ≡ Some code → kind_of S x ≡ Some kind → normal ≡ normal_of S x
    → normal ≡ None
    → slice_get (map (λ row. joined (thing_fields S row)) S.things) x
    ≡ Some ((kind_word kind ++ 44 ∷ []) ++ code)
row_plain S x code kind normal at is has none =
    row_at S x code kind normal at is has
    ∙ ap (λ n. Some (joined (kind_word kind ∷ code ∷ normal_fields S n))) none
    ∙ ap Some (sym (append_assoc (kind_word kind) (44 ∷ []) code))

texts : (word code place : List ℕ)
    → ((word ++ 44 ∷ []) ++ code) ++ (44 ∷ place) ≡ word ++ (44 ∷ (code ++ (44 ∷ place)))
texts word code place = append_assoc (word ++ 44 ∷ []) code (44 ∷ place) ∙ append_assoc word
    (44 ∷ []) (code ++ (44 ∷ place))

pub row_normal : (S : Museum) (x : ℕ) (code : List ℕ) (kind : ThingKind) (normal : Option ℕ) (p : ℕ)
    (place : List ℕ) → thing_code_of S x ≡ Some code → kind_of S x ≡ Some kind
    → normal ≡ normal_of S x
    → normal ≡ Some p → place_code_of S p ≡ Some place
    → slice_get (map (λ row. joined (thing_fields S row)) S.things) x
    ≡ Some ((((kind_word kind ++ 44 ∷ []) ++ code) ++ 44 ∷ []) ++ place)
row_normal S x code kind normal p place at is has some there =
    row_at S x code kind normal at is has
    ∙ ap (λ n. Some (joined (kind_word kind ∷ code ∷ normal_fields S n))) some
    ∙ rw there
    (ap Some (sym (append_assoc ((kind_word kind ++ 44 ∷ []) ++ code) (44 ∷ []) place
    ∙ texts (kind_word kind) code place)))
