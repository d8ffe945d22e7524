-- Lemmas on tests, and on the greatest number that passes one.
use Rattle.std.proofs.Common.{◌≡◌, ℕ, zero, suc, ◌+◌, ◌-◌, ◌<◌, ◌≤◌, ◌&&◌, not, Bool, true, false}
use Rattle.std.proofs.Common.{if◌then◌else◌, refl, arith, ⊎_elim, add-zero, add-suc}
use Rattle.std.proofs.lemmas.Bool.{cases_lt}
use Rattle.station_core.specs.Runs.{greatest}

-- a step of a run after a sign-off
pub ended_test : (a b e : Bool) → e ≡ true → (a && (b && not e)) ≡ false
ended_test false b e h = refl
ended_test true false e h = refl
ended_test true true e h = rw h refl

-- the greatest number passes, if 0 does
holds_step : (p : ℕ → Bool) (n g : ℕ) (b : Bool) → p (suc n) ≡ b → p g ≡ true
    → p (if b then suc n else g) ≡ true
holds_step p n g true e h = e
holds_step p n g false e h = h

pub greatest_holds : (p : ℕ → Bool) (n : ℕ) → p 0 ≡ true → p (greatest p n) ≡ true
greatest_holds p zero h = h
greatest_holds p (suc n) h = holds_step p n (greatest p n) (p (suc n)) refl (greatest_holds p n h)

le_step : (n g : ℕ) (b : Bool) → g ≤ n → (if b then suc n else g) ≤ suc n
le_step n g true h = omega arith
le_step n g false h = omega arith

pub greatest_le : (p : ℕ → Bool) (n : ℕ) → greatest p n ≤ n
greatest_le p zero = omega arith
greatest_le p (suc n) = le_step n (greatest p n) (p (suc n)) (greatest_le p n)

-- the number after it fails
fails_step : (p : ℕ → Bool) (n g : ℕ) (b : Bool) → p (suc n) ≡ b → g ≤ n
    → (g < n → p (suc g) ≡ false) → (if b then suc n else g) < suc n
    → p (suc (if b then suc n else g)) ≡ false
fails_step p n g true e le f h = absurd (omega arith)
fails_step p n g false e le f h =
    ⊎_elim f (λ ge. let eq : g ≡ n = omega arith in rw eq e) (cases_lt g n)

pub greatest_fails : (p : ℕ → Bool) (n : ℕ) → greatest p n < n → p (suc (greatest p n)) ≡ false
greatest_fails p zero h = absurd (omega arith)
greatest_fails p (suc n) h = fails_step p n (greatest p n) (p (suc n)) refl (greatest_le p n)
    (greatest_fails p n) h

-- a test that holds below each number for which it holds
pub down : (p : ℕ → Bool) → ((j : ℕ) → p (suc j) ≡ true → p j ≡ true) → (j d : ℕ) → p (j + d) ≡ true
    → p j ≡ true
down p f j zero h = rw add-zero at h
down p f j (suc d) h = down p f j d (f (j + d) (rw add-suc at h))

-- if it holds at k and not at k + 1, the greatest is k
pub greatest_is : (p : ℕ → Bool) (n k : ℕ) → ((j : ℕ) → p (suc j) ≡ true → p j ≡ true) → p 0 ≡ true
    → p k ≡ true → p (suc k) ≡ false → k ≤ n → greatest p n ≡ k
greatest_is p n k f none on off le =
    let g : ℕ = greatest p n in
    let here : p g ≡ true = greatest_holds p n none in
    let above : k < g → ⊥ = λ lt.
    let e : g ≡ suc k + (g - suc k) = omega arith in
    let t : p (suc k) ≡ true = down p f (suc k) (g - suc k) (rw e at here) in (cc) in
    let below : g < k → ⊥ = λ lt.
    let e : k ≡ suc g + (k - suc g) = omega arith in
    let t : p (suc g) ≡ true = down p f (suc g) (k - suc g) (rw e at on) in
    let u : p (suc g) ≡ false = greatest_fails p n (omega arith) in (cc) in
    ⊎_elim (λ lt. absurd (below lt))
    (λ ge. ⊎_elim (λ lt. absurd (above lt)) (λ ge'. (omega arith)) (cases_lt k g))
    (cases_lt g k)
