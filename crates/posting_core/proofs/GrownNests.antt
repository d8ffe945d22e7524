-- More things change nothing for the things before: none of the new ones was put anywhere.
use Rattle.std.specs.Prelude.{ℕ, ◌+◌, ◌≡◌, ◌<◌, ◌≤◌, ◌==◌, ◌||◌, Bool, false, nat_lt, List, [], ◌∷◌}
use Rattle.std.specs.Prelude.{length, filter, Option, refl}
use Rattle.std.specs.List.{list_any, range_with_len}
use Rattle.std.proofs.Common.{arith, ap, sym, ◌∙◌}
use Rattle.std.proofs.Math.Path.{fun_ext}
use Rattle.std.proofs.lemmas.Bool.Decides.{nat_tests}
use Rattle.nest_core.specs.declared.put.Target.{Target}
use Rattle.nest_core.specs.declared.put.Target.TheVariants.{Within}
use Rattle.nest_core.specs.Puts.{container_of, above, is_among, is_carried_by}
use Rattle.nest_core.specs.Nest.{put_at, is_too_deep}
use Rattle.nest_core.proofs.Chains.{above-none, length_above}
use Rattle.nest_core.proofs.NestLaws.{IsSound, same_steps, sound_put, chain_ends}
use Rattle.nest_core.proofs.Steady.{filter_on}
use Rattle.posting_core.proofs.GrownSetups.{filter_still, any_still}

sound_more : (n m d : ℕ) (at : ℕ → Option Target) → n ≤ m → IsSound n d at → IsSound m d at
sound_more n m d at le h = record {
  small = λ y c e. let less = h.small y c e in omega arith;
  ended = h.ended;
  far = λ y ge. h.far y (omega arith);
}

pub above_same : (n m d : ℕ) (at : ℕ → Option Target) → n ≤ m → IsSound n d at → (y : ℕ)
    → above at m y ≡ above at n y
above_same n m d at le h y = same_steps m d at (sound_more n m d at le h) y
    ∙ sym (same_steps n d at h y)

-- a thing that was never put has no container
pub alone : (n m d : ℕ) (at : ℕ → Option Target) → IsSound n d at → (y : ℕ) → n ≤ y
    → above at m y ≡ []
alone n m d at h y ge = above-none at m y (ap container_of (h.far y ge))

pub carried_still : (n k d : ℕ) (at : ℕ → Option Target) → IsSound n d at → (x : ℕ) → x < n →
    filter (is_carried_by at (n + k) x) (range_with_len 0 (n + k))
    ≡ filter (is_carried_by at n x) (range_with_len 0 n)
carried_still n k d at h x less =
    filter_on (is_carried_by at (n + k) x) (is_carried_by at n x) 0 (n + k)
    (λ y lt. ap (λ cs. (y == x) || is_among x cs) (above_same n (n + k) d at (omega arith) h y))
    ∙ filter_still (is_carried_by at n x) n k (λ y ge.
    let other : (y == x) ≡ false = grind (arith, nat_tests) in
    rw (other, alone n n d at h y ge) refl)

all_false : (p : ℕ → Bool) (xs : List ℕ) → ((y : ℕ) → p y ≡ false) → list_any p xs ≡ false
all_false p [] h = refl
all_false p (x ∷ xs) h = rw (h x) (all_false p xs h)

not_longer : (n m : ℕ) → m ≤ n → nat_lt n m ≡ false
not_longer n m h = grind (arith, nat_tests)

-- the number of things doesn't decide whether a pack makes something too deep
pub deep_still : (n k d depth : ℕ) (at : ℕ → Option Target) → IsSound n d at → (x c : ℕ) → x < n
    → c < n → is_among x (c ∷ above at n c) ≡ false →
    is_too_deep (put_at at x (Within c)) (n + k) depth
    ≡ is_too_deep (put_at at x (Within c)) n depth
deep_still n k d depth at h x c less_x less_c apart =
    let roomy : IsSound n n at =
    record { small = h.small; ended = λ y. chain_ends n d at h y; far = h.far } in
    let shallow : is_too_deep (put_at at x (Within c)) n n ≡ false =
    all_false _ _ (λ y. not_longer n _ (length_above (put_at at x (Within c)) n y)) in
    let after : IsSound n n (put_at at x (Within c)) =
    sound_put n n at x (Within c) roomy less_x (less_c, apart, shallow) in
    ap (λ (p : ℕ → Bool). list_any p (range_with_len 0 (n + k)))
    (fun_ext (λ y. ap (λ (cs : List ℕ). nat_lt depth (length cs))
    (above_same n (n + k) n (put_at at x (Within c)) (omega arith) after y)))
    ∙ any_still (λ y. nat_lt depth (length (above (put_at at x (Within c)) n y))) n k
    (λ y ge. ap (λ (cs : List ℕ). nat_lt depth (length cs))
    (alone n n n (put_at at x (Within c)) after y ge) ∙ not_longer depth 0 (omega arith))
