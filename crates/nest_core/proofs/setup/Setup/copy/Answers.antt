use Rattle.std.proofs.Common.{◌≡◌, ◌∙◌, List, [], ◌∷◌, refl, subst, sym, rules}
use Rattle.std.specs.List.{AllZip}
use Rattle.nest_core.specs.Museum.{Museum, IsMuseum}
use Rattle.nest_core.proofs.setup.Setup.copy.Goals as goal

-- A list of equal items is the list.
same_items : {A : Type 0} (R : A → A → Type 0) → ((x y : A) → R x y → y ≡ x)
    → (xs ys : List A) → AllZip R xs ys → ys ≡ xs
same_items R same [] [] h = refl
same_items R same [] (y ∷ ys) h = absurd h
same_items R same (x ∷ xs) [] h = absurd h
same_items R same (x ∷ xs) (y ∷ ys) h = λ i. same x y h.0 i ∷ same_items R same xs ys h.1 i

-- The lists of the copy are those of the setup.
same_lists : (c : goal.In_ok-clone-4)
    → (let own : Museum = record {
      stations = c.self.inside.stations.keys;
      places = c.self.inside.places.entries;
      things = c.self.inside.things.entries;
      growths = c.self.inside.growths.items;
    } in
    let copied : Museum = record {
      stations = c.in_ok-clone.field-0.keys;
      places = c.in_ok-clone-2.field-0.entries;
      things = c.in_ok-clone-3.field-0.entries;
      growths = c.in_ok-clone-4.field-0.items;
    } in copied ≡ own)
same_lists c =
    let stations = same_items _ (λ x y h. h) _ _ c.in_ok-clone.ensures.cases in
    let places = same_items _ (λ x y h i. (h.0 i, h.1 i)) _ _ c.in_ok-clone-2.ensures.cases in
    let things = same_items _
    (λ x y h. let normal : y.1 ≡ x.1 = search rules in λ i. (h.0 i, normal i)) _ _
    c.in_ok-clone-3.ensures.cases in
    let growths = same_items _ (λ x y h. search rules) _ _ c.in_ok-clone-4.ensures.cases.0 in
    λ i. record {
      stations = stations i;
      places = places i;
      things = things i;
      growths = growths i;
    }

pub invariant_of-result : goal.invariant_of-result
invariant_of-result c = subst IsMuseum (sym (same_lists c)) c.self.invariant

pub returns : goal.returns
returns c = same_lists c ∙ c.self.view_is
