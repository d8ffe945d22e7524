-- The things that a thing carries: they are where it is, and a thing without a place was never put
-- anywhere.
use Rattle.std.specs.Prelude.{ℕ, ◌≡◌, ◌≤◌, ◌==◌, ◌||◌, true, false, List, length, Option, None}
use Rattle.std.specs.Prelude.{refl, zero, suc}
use Rattle.std.proofs.Common.{ap, ◌∙◌, sym, arith}
use Rattle.std.proofs.lemmas.Bool.{false≢true}
use Rattle.std.proofs.lemmas.Bool.Decides.{nat_tests}
use Rattle.nest_core.specs.declared.put.Target.{Target}
use Rattle.nest_core.specs.Museum.{Museum}
use Rattle.nest_core.specs.Puts.{last, container_of, place_of, above, outermost, place_by, is_among}
use Rattle.nest_core.specs.Puts.{is_carried}
use Rattle.nest_core.specs.Records.{Ended}
use Rattle.nest_core.proofs.Chains.{above-none, above-some, by_container, same_chain, length_above}
use Rattle.nest_core.proofs.NestLaws.{IsSound, chain_ends}
use Rattle.posting_core.specs.declared.entry.Entry.{Entry}
use Rattle.posting_core.specs.History.{puts, place_at}
use Rattle.posting_core.specs.Lawful.{IsLawful}
use Rattle.posting_core.proofs.Placed.{lawful_sound}

-- the chain of a thing below x ends where the chain of x does
record EndsWith (at : ℕ → Option Target) (steps y x : ℕ) : Type 0 where
  less : ℕ
  few : less ≤ steps
  ends : outermost y (above at steps y) ≡ outermost x (above at less x)

ends_with : (at : ℕ → Option Target) (steps y x : ℕ) → is_among x (above at steps y) ≡ true
    → EndsWith at steps y x
ends_with at zero y x h = absurd (false≢true h)
ends_with at (suc steps) y x h = by_container _ at y
    (λ none. absurd (false≢true (sym (ap (is_among x) (above-none at (suc steps) y none)) ∙ h)))
    (λ c some.
    let here = above-some at steps y c some in
    let h' : (c == x) || is_among x (above at steps c) ≡ true = sym (ap (is_among x) here) ∙ h in
    elim (c == x) as (λ b. (c == x) ≡ b → b || is_among x (above at steps c) ≡ true
    → EndsWith at (suc steps) y x) [
      | true ↦ λ e k.
          let same : c ≡ x = grind (arith, nat_tests) in
          record {
            less = steps;
            few = omega arith;
            ends = ap (outermost y) here ∙ ap (λ z. outermost z (above at steps z)) same;
          }
      | false ↦ λ e k.
          let deeper = ends_with at steps c x k in
          record {
            less = deeper.less;
            few = omega (arith, deeper.few);
            ends = ap (outermost y) here ∙ deeper.ends;
          }
    ] refl h')

-- a thing below x is where x is
same_place_below : (n d : ℕ) (at : ℕ → Option Target) (y x : ℕ) → IsSound n d at
    → is_among x (above at n y) ≡ true → place_by at n y ≡ place_by at n x
same_place_below n d at y x sound h =
    let e = ends_with at n y x h in
    let ended : Ended at e.less x =
    sym (ap (λ z. container_of (at z)) e.ends) ∙ chain_ends n d at sound y in
    ap (λ z. place_of (at z)) e.ends
    ∙ sym (ap (λ cs. place_of (at (outermost x cs)))
    (same_chain at e.less n x ended (omega (arith, length_above at e.less x, e.few))))

-- the things that a thing carries are where it is
pub carried_place : (S : Museum) (depth : ℕ) (P : List Entry) (x y : ℕ) → IsLawful S depth P
    → is_carried (length S.things) (puts S P) x y ≡ true → place_at S P y ≡ place_at S P x
carried_place S depth P x y lawful h =
    elim (y == x) as (λ b. (y == x) ≡ b
    → b || is_among x (above (last (puts S P)) (length S.things) y) ≡ true
    → place_at S P y ≡ place_at S P x) [
      | true ↦ λ e k. ap (place_at S P) (let same : y ≡ x = grind (arith, nat_tests) in same)
      | false ↦ λ e k. same_place_below (length S.things) depth (last (puts S P)) y x
          (lawful_sound S depth P lawful) k
    ] refl h

-- a thing that was never put anywhere is carried by itself alone
pub carried_alone : (S : Museum) (P : List Entry) (x y : ℕ) → last (puts S P) y ≡ None
    → is_carried (length S.things) (puts S P) x y ≡ true → y ≡ x
carried_alone S P x y never h =
    let none : is_among x (above (last (puts S P)) (length S.things) y) ≡ false =
    ap (is_among x) (above-none (last (puts S P)) (length S.things) y
    (ap container_of never)) in
    elim (y == x) as (λ b. (y == x) ≡ b
    → b || is_among x (above (last (puts S P)) (length S.things) y) ≡ true → y ≡ x) [
      | true ↦ λ e k. let same : y ≡ x = grind (arith, nat_tests) in same
      | false ↦ λ e k. absurd (false≢true (sym none ∙ k))
    ] refl h
