-- When a tally is clean.
use Rattle.std.proofs.Common.{◌≡◌, ℕ, zero, suc, ◌+◌, ◌<◌, ◌==◌, ◌&&◌, ◌-◌, Bool, true, false, List}
use Rattle.std.proofs.Common.{[], ◌∷◌, length, take, drop, refl, ap, ◌∙◌, sym, arith, lit<}
use Rattle.std.proofs.Common.{length-set}
use Rattle.std.specs.Prelude.{fold, slice_index, slice_range, slice_set}
use Rattle.std.specs.List.{list_all}
use Rattle.std.proofs.lemmas.List.{length-replicate}
use Rattle.std.proofs.lemmas.Bool.Decides.{nat_tests}
use Rattle.posting_core.specs.declared.verdict.Verdict.{Verdict}
use Rattle.posting_core.specs.declared.verdict.Verdict.TheVariants.{Applied}
use Rattle.posting_core.specs.VerdictNames.{is_applied, verdict_number}
use Rattle.station_core.specs.declared.Refusal.{Refusal}
use Rattle.station_core.specs.declared.Refusal.TheVariants as refusals
use Rattle.hub_core.specs.declared.outcome.Outcome.{Outcome}
use Rattle.hub_core.specs.declared.outcome.Outcome.TheVariants.{Answered, Bad, UnknownStation}
use Rattle.hub_core.specs.declared.outcome.Outcome.TheVariants.{Refused, Held, Posted, Asked}
use Rattle.hub_core.specs.declared.tally.Tally.{Tally}
use Rattle.hub_core.specs.declared.tally.TheConstants.{REFUSALS, VERDICTS}
use Rattle.hub_core.specs.Tallies.{refusal_place, one_more, nothing_seen, tallied, tally_of}
use Rattle.hub_core.specs.Tallies.{is_clean, is_fine}

-- a count that went up isn't 0
more_than_0 : (n : ℕ) → (one_more n == 0) ≡ false
more_than_0 n = grind (arith, nat_tests)

suc_not_0 : (n : ℕ) → (suc n == 0) ≡ false
suc_not_0 n = grind (arith, nat_tests)

applied_is_0 : (v : Verdict) → (verdict_number v == 0) ≡ is_applied v
applied_is_0 Applied = refl
applied_is_0 _ = refl

verdict_within : (v : Verdict) → verdict_number v < VERDICTS
verdict_within Applied = lit< tt
verdict_within _ = lit< tt

refusal_within : (r : Refusal) → refusal_place r < REFUSALS
refusal_within refusals.UnknownStation = lit< tt
refusal_within _ = lit< tt

and_true : (b : Bool) → b ≡ (b && true)
and_true true = refl
and_true false = refl

and_false : (b : Bool) → (b && false) ≡ false
and_false true = refl
and_false false = refl

and_assoc : (a b c : Bool) → ((a && b) && c) ≡ (a && (b && c))
and_assoc true b c = refl
and_assoc false b c = refl

second : (a c : Bool) → (a && (false && c)) ≡ false
second true c = refl
second false c = refl

third : (a b d : Bool) → (a && (b && (false && d))) ≡ false
third true b d = second b d
third false b d = refl

fourth : (a b c : Bool) → (a && (b && (c && false))) ≡ false
fourth true true c = and_false c
fourth true false c = refl
fourth false b c = refl

-- some count isn't 0
some_not_0 : (counts : List ℕ) (place most x : ℕ) → place < length counts → place < most
    → (x == 0) ≡ false → list_all (λ n. n == 0) (take most (slice_set counts place x)) ≡ false
some_not_0 [] place most x within low not = absurd (omega arith)
some_not_0 (n ∷ counts) zero zero x within low not = absurd (omega arith)
some_not_0 (n ∷ counts) zero (suc most) x within low not =
    ap (λ b. b && list_all (λ n. n == 0) (take most counts)) not
some_not_0 (n ∷ counts) (suc place) zero x within low not = absurd (omega arith)
some_not_0 (n ∷ counts) (suc place) (suc most) x within low not =
    ap (λ b. (n == 0) && b) (some_not_0 counts place most x (omega arith) (omega arith) not)
    ∙ and_false (n == 0)

some_not_0_of_all : (counts : List ℕ) (place x : ℕ) → place < length counts → (x == 0) ≡ false
    → list_all (λ n. n == 0) (slice_set counts place x) ≡ false
some_not_0_of_all [] place x within not = absurd (omega arith)
some_not_0_of_all (n ∷ counts) zero x within not = ap (λ b. b && list_all (λ n. n == 0) counts) not
some_not_0_of_all (n ∷ counts) (suc place) x within not =
    ap (λ b. (n == 0) && b) (some_not_0_of_all counts place x (omega arith) not)
    ∙ and_false (n == 0)

-- the counts without the first
behind_first : (counts : List ℕ) (x : ℕ) → drop 1 (slice_set counts 0 x) ≡ drop 1 counts
behind_first [] x = refl
behind_first (n ∷ counts) x = refl

behind : (counts : List ℕ) (place x : ℕ)
    → drop 1 (slice_set counts (suc place) x) ≡ slice_set (drop 1 counts) place x
behind [] place x = refl
behind (n ∷ counts) place x = refl

-- there is a count for each refusal and each verdict
record IsWide (t : Tally) : Type 0 where
  pub refused : length t.refused ≡ REFUSALS
  pub posted : length t.posted ≡ VERDICTS

wide_start : IsWide nothing_seen
wide_start = record {
  refused = length-replicate {A = ℕ} REFUSALS 0;
  posted = length-replicate {A = ℕ} VERDICTS 0;
}

wide_after : (t : Tally) (o : Outcome) → IsWide t → IsWide (tallied t o)
wide_after t Answered w = record { refused = w.refused; posted = w.posted }
wide_after t Bad w = record { refused = w.refused; posted = w.posted }
wide_after t UnknownStation w = record { refused = w.refused; posted = w.posted }
wide_after t (Refused r) w =
    record {
      refused = length-set t.refused (refusal_place r)
          (one_more (slice_index t.refused (refusal_place r))) ∙ w.refused;
      posted = w.posted;
    }
wide_after t Held w = record { refused = w.refused; posted = w.posted }
wide_after t (Posted v) w =
    record {
      refused = w.refused;
      posted = length-set t.posted (verdict_number v)
          (one_more (slice_index t.posted (verdict_number v))) ∙ w.posted;
    }
wide_after t Asked w = record { refused = w.refused; posted = w.posted }

-- one more entry
posted_clean : (counts : List ℕ) (v : Verdict) (n x : ℕ) → length counts ≡ VERDICTS
    → verdict_number v ≡ n → (x == 0) ≡ false
    → list_all (λ n. n == 0) (slice_range (slice_set counts n x) 1 VERDICTS)
    ≡ (list_all (λ n. n == 0) (slice_range counts 1 VERDICTS) && is_applied v)
posted_clean counts v zero x wide is not =
    let applied : is_applied v ≡ true = sym (applied_is_0 v) ∙ ap (λ n. n == 0) is in
    ap (λ (xs : List ℕ). list_all (λ n. n == 0) (take (VERDICTS - 1) xs)) (behind_first counts x)
    ∙ (and_true (list_all (λ n. n == 0) (slice_range counts 1 VERDICTS))
    ∙ ap (λ b. list_all (λ n. n == 0) (slice_range counts 1 VERDICTS) && b) (sym applied))
posted_clean counts v (suc n) x wide is not =
    let below = verdict_within v in
    let none : is_applied v ≡ false = sym (applied_is_0 v) ∙ (ap (λ n. n == 0) is ∙ suc_not_0 n) in
    let rest : length (drop 1 counts) + 1 ≡ VERDICTS = behind_length counts wide in
    ap (λ (xs : List ℕ). list_all (λ n. n == 0) (take (VERDICTS - 1) xs)) (behind counts n x)
    ∙ (some_not_0 (drop 1 counts) n (VERDICTS - 1) x (omega (arith, below, is, rest))
    (omega (arith, below, is)) not
    ∙ sym (ap (λ b. list_all (λ n. n == 0) (slice_range counts 1 VERDICTS) && b) none
    ∙ and_false (list_all (λ n. n == 0) (slice_range counts 1 VERDICTS))))
  where
    behind_length : (counts : List ℕ) → length counts ≡ VERDICTS
        → length (drop 1 counts) + 1 ≡ VERDICTS
    behind_length [] h = absurd (omega arith)
    behind_length (n ∷ counts) h = omega arith

clean_after : (t : Tally) (o : Outcome) → IsWide t
    → is_clean (tallied t o) ≡ (is_clean t && is_fine o)
clean_after t Answered w = and_true (is_clean t)
clean_after t Bad w =
    ap (λ b. b && ((t.unknown_station == 0) &&
    (list_all (λ n. n == 0) t.refused && list_all (λ n. n == 0) (slice_range t.posted 1 VERDICTS))))
    (more_than_0 t.bad) ∙ sym (and_false (is_clean t))
clean_after t UnknownStation w =
    ap (λ b. (t.bad == 0) &&
    (b && (list_all (λ n. n == 0) t.refused && list_all (λ n. n == 0)
    (slice_range t.posted 1 VERDICTS)))) (more_than_0 t.unknown_station)
    ∙ (second (t.bad == 0) (list_all (λ n. n == 0) t.refused && list_all (λ n. n == 0)
    (slice_range t.posted 1 VERDICTS))
    ∙ sym (and_false (is_clean t)))
clean_after t (Refused r) w =
    let below = refusal_within r in
    ap (λ b. (t.bad == 0) && ((t.unknown_station == 0) &&
    (b && list_all (λ n. n == 0) (slice_range t.posted 1 VERDICTS))))
    (some_not_0_of_all t.refused (refusal_place r)
    (one_more (slice_index t.refused (refusal_place r))) (omega (arith, below, w.refused))
    (more_than_0 (slice_index t.refused (refusal_place r))))
    ∙ (third (t.bad == 0) (t.unknown_station == 0)
    (list_all (λ n. n == 0) (slice_range t.posted 1 VERDICTS))
    ∙ sym (and_false (is_clean t)))
clean_after t Held w = and_true (is_clean t)
clean_after t (Posted v) w =
    ap (λ b. (t.bad == 0) && ((t.unknown_station == 0) && (list_all (λ n. n == 0) t.refused && b)))
    (posted_clean t.posted v (verdict_number v)
    (one_more (slice_index t.posted (verdict_number v))) w.posted refl
    (more_than_0 (slice_index t.posted (verdict_number v))))
    ∙ outwards (t.bad == 0) (t.unknown_station == 0) (list_all (λ n. n == 0) t.refused)
    (list_all (λ n. n == 0) (slice_range t.posted 1 VERDICTS)) (is_applied v)
  where
    outwards : (a b c d e : Bool) → (a && (b && (c && (d && e)))) ≡ ((a && (b && (c && d))) && e)
    outwards false b c d e = refl
    outwards true false c d e = refl
    outwards true true false d e = refl
    outwards true true true d e = refl
clean_after t Asked w = and_true (is_clean t)

clean_from : (t : Tally) (outcomes : List Outcome) → IsWide t
    → is_clean (fold tallied t outcomes) ≡ (is_clean t && list_all is_fine outcomes)
clean_from t [] w = and_true (is_clean t)
clean_from t (o ∷ outcomes) w =
    clean_from (tallied t o) outcomes (wide_after t o w)
    ∙ (ap (λ b. b && list_all is_fine outcomes) (clean_after t o w)
    ∙ and_assoc (is_clean t) (is_fine o) (list_all is_fine outcomes))

-- the tally is clean if each outcome is fine
pub clean_of : (t : Tally) (outcomes : List Outcome) → t ≡ tally_of outcomes
    → is_clean t ≡ list_all is_fine outcomes
clean_of t outcomes is = ap is_clean is ∙ clean_from nothing_seen outcomes wide_start
