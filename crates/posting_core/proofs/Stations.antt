-- What is kept of each station, before and after an entry.
use Rattle.std.specs.Prelude.{ℕ, ◌≡◌, ◌+◌, ◌<◌, ◌==◌, ◌&&◌, ◌||◌, Bool, true, false, List, [], ◌∷◌}
use Rattle.std.specs.Prelude.{Some, length, if◌then◌else◌, refl, replicate, slice_get, slice_set}
use Rattle.std.specs.Prelude.{suc, zero}
use Rattle.std.proofs.Common.{ap, arith, ◌∙◌, subst, sym}
use Rattle.std.proofs.lemmas.Bool.Decides.{nat_tests}
use Rattle.std.proofs.lemmas.List.{length-set}
use Rattle.nest_core.specs.Museum.{Museum}
use Rattle.nest_core.proofs.Writes.{get_set_other, get_set_same}
use Rattle.posting_core.specs.declared.entry.Entry.{Entry}
use Rattle.posting_core.specs.declared.standing.Standing.{Standing}
use Rattle.posting_core.specs.Lawful.{Follows, count_at, is_signed_off}
use Rattle.posting_core.specs.Messages.{is_sign_off}
use Rattle.posting_core.specs.Standings.{no_standing, standing_after, standing_at, standings_with}

-- nothing is posted yet
pub standing_first : (n s : ℕ) → s < n
    → slice_get (replicate n no_standing) s
    ≡ Some (standing_at [] s)
standing_first zero s less = absurd (omega (arith, less))
standing_first (suc n) zero less = refl
standing_first (suc n) (suc s) less = standing_first n s (omega (arith, less))

pub as_many_standings : (T : List Standing) (e : Entry) → length (standings_with T e) ≡ length T
as_many_standings T e = length-set T e.station (standing_after e)

or_none : (b : Bool) → b || false ≡ b
or_none true = refl
or_none false = refl

-- the entry's station has its number now, and has signed off if this is its sign-off
standing_own : (S : Museum) (depth : ℕ) (P : List Entry) (e : Entry) → Follows S depth P e
    → standing_after e ≡ standing_at (e ∷ P) e.station
standing_own S depth P e follows =
    let own : (e.station == e.station) ≡ true = grind (arith, nat_tests) in
    let signed : is_sign_off e.message ≡ is_signed_off e.station (e ∷ P) =
    sym (ap (λ b. (b && is_sign_off e.message) || is_signed_off e.station P) own
    ∙ ap (λ b. is_sign_off e.message || b) follows.unsigned ∙ or_none (is_sign_off e.message)) in
    let counted : e.n ≡ count_at e.station (e ∷ P) =
    sym (ap (λ b. (if b then 1 else 0) + count_at e.station P) own
    ∙ (let one : 1 + count_at e.station P ≡ e.n = omega (arith, follows.next) in one)) in
    ap (λ n. record { count = n; signed_off = is_sign_off e.message }) counted
    ∙ ap (λ b. record { count = count_at e.station (e ∷ P); signed_off = b }) signed

-- every other station stays as it was
standing_other : (P : List Entry) (e : Entry) (s : ℕ) → (e.station == s) ≡ false
    → standing_at (e ∷ P) s ≡ standing_at P s
standing_other P e s not =
    ap (λ b. record {
      count = (if b then 1 else 0) + count_at s P;
      signed_off = (b && is_sign_off e.message) || is_signed_off s P;
    }) not
    ∙ (let none : 0 + count_at s P ≡ count_at s P = omega arith in
    ap (λ n. record { count = n; signed_off = is_signed_off s P }) none)

-- what is kept after an entry
pub standing_next : (S : Museum) (depth : ℕ) (P : List Entry) (T : List Standing) (e : Entry)
    → Follows S depth P e → length T ≡ length S.stations
    → ((s : ℕ) → s < length S.stations → slice_get T s ≡ Some (standing_at P s))
    → (s : ℕ) → s < length S.stations
    → slice_get (standings_with T e) s ≡ Some (standing_at (e ∷ P) s)
standing_next S depth P T e follows many each s known =
    elim (e.station == s) as (λ b. (e.station == s) ≡ b
    → slice_get (standings_with T e) s ≡ Some (standing_at (e ∷ P) s)) [
      | true ↦ λ is.
          let same : e.station ≡ s = grind (arith, nat_tests) in
          let within : e.station < length T = omega (arith, many, follows.known) in
          ap (slice_get (standings_with T e)) (sym same)
          ∙ get_set_same T e.station (standing_after e) within
          ∙ ap Some (standing_own S depth P e follows)
          ∙ ap (λ t. Some (standing_at (e ∷ P) t)) same
      | false ↦ λ is.
          let other : e.station ≡ s → ⊥ = λ same. grind (arith, nat_tests) in
          get_set_other T e.station s (standing_after e) other
          ∙ each s known ∙ ap Some (sym (standing_other P e s is))
    ] refl
