use Rattle.std.proofs.Common.{◌≡◌, ◌∙◌, ◌-◌, ◌<◌, ◌++◌, ◌∷◌, [], ℕ, zero, suc, List, length, get_or}
use Rattle.std.proofs.Common.{ap, refl, sym, arith}
use Rattle.std.proofs.lemmas.Option.{get_or_from_slice_get}
use Rattle.std.specs.Option.{option_map_or}
use Rattle.posting_core.specs.declared.entry.Spot.{Spot}
use Rattle.posting_core.specs.declared.spot_rows.KeptSpot.{KeptSpot}
use Rattle.posting_core.specs.SpotRows.{spots_at, LeadBack}
use Rattle.posting_core.proofs.spots.Spots.next_back.Goals as goal

-- if some are left, those before the last lead back too
before : (kept : List KeptSpot) (at left : ℕ) (d : KeptSpot) → (left ≡ 0 → ⊥)
    → LeadBack kept at left → LeadBack kept (get_or kept at d).before (left - 1)
before kept at zero d some back = absurd (some refl)
before kept at (suc left) d some (s, found, back) =
    let fewer : suc left - 1 ≡ left = omega arith in
    rw (get_or_from_slice_get kept at s d found, fewer) back

-- and the last comes after them
last_left : (kept : List KeptSpot) (at left : ℕ) (d : KeptSpot) → (left ≡ 0 → ⊥)
    → LeadBack kept at left →
    spots_at kept at left ≡ spots_at kept (get_or kept at d).before (left - 1)
    ++ (get_or kept at d).spot ∷ []
last_left kept at zero d some back = absurd (some refl)
last_left kept at (suc left) d some (s, found, back) =
    let fewer : suc left - 1 ≡ left = omega arith in
    rw (get_or_from_slice_get kept at s d found, found, fewer) refl

pub invariant_of-self : goal.invariant_of-self
invariant_of-self c = before c.self.inside.kept.now c.self.inside.at c.self.inside.left
    c.index-self-self.result c.if-self-eq0.false c.self.invariant

pub returns-clause-last : goal.returns-clause-last
returns-clause-last c = sym c.self.view_is ∙ last_left c.self.inside.kept.now c.self.inside.at
    c.self.inside.left c.index-self-self.result c.if-self-eq0.false c.self.invariant
