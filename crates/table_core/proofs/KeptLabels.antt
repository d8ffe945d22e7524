-- The labels that a map keeps.
use Rattle.std.specs.Prelude.{◌≡◌, ℕ, Bool, true, false, cond, List, [], ◌∷◌, ◌++◌, map, Option}
use Rattle.std.specs.Prelude.{Some}
use Rattle.std.specs.Prelude.{None, Vec, option_map, refl}
use Rattle.std.specs.declared.alloc.Global.{Global}
use Rattle.std.specs.Map.{lookup}
use Rattle.std.specs.Str.{bytes_eq}
use Rattle.std.proofs.Common.{◌∙◌}
use Rattle.std.proofs.lemmas.List.{map-append}
use Rattle.table_core.specs.Labels.{Label, code_of}

abbrev Entry : Type 0
Entry = Vec ℕ Global × Vec ℕ Global

abbrev pub seen : List Entry → List Label
seen es = map (λ e. record { label = e.0.items; code = e.1.items }) es

-- a look-up in the map is one among the labels
pub looked_up : (es : List Entry) (text : List ℕ)
    → option_map (λ (v : Vec ℕ Global). v.items) (lookup (λ k. bytes_eq text k.items) es)
    ≡ code_of (seen es) text
looked_up [] text = refl
looked_up (e ∷ es) text = by (bytes_eq text e.0.items) (looked_up es text)
  where
    by : (b : Bool)
        → option_map (λ (v : Vec ℕ Global). v.items) (lookup (λ k. bytes_eq text k.items) es)
        ≡ code_of (seen es) text
        → option_map (λ (v : Vec ℕ Global). v.items)
        (cond b (Some e.1) (lookup (λ k. bytes_eq text k.items) es))
        ≡ cond b (Some e.1.items) (code_of (seen es) text)
    by true rest = refl
    by false rest = rest

no_more : (o : Option (Vec ℕ Global)) → option_map (λ (v : Vec ℕ Global). v.items) o ≡ None
    → o ≡ None
no_more None e = refl
no_more (Some v) e = absurd (cc)

-- a text that is no label isn't in the map
pub not_kept : (es : List Entry) (text : List ℕ) → code_of (seen es) text ≡ None
    → lookup (λ k. bytes_eq text k.items) es ≡ None
not_kept es text none = no_more (lookup (λ k. bytes_eq text k.items) es) (looked_up es text ∙ none)

pub seen_push : (es : List Entry) (label code : Vec ℕ Global)
    → seen (es ++ (label, code) ∷ [])
    ≡ seen es ++ record { label = label.items; code = code.items } ∷ []
seen_push es label code =
    map-append (λ (e : Entry). record { label = e.0.items; code = e.1.items }) es
    ((label, code) ∷ [])
