-- The laws of posted messages.
use Rattle.std.proofs.Common.{◌≡◌, ◌≢◌, ℕ, zero, suc, ◌+◌, ◌<◌, ◌≤◌, ◌==◌, ◌⊎◌, inl, inr, ⊎_elim}
use Rattle.std.proofs.Common.{true, false, List, [], ◌∷◌, ◌++◌, length, Some, refl, ap, ◌∙◌, sym}
use Rattle.std.proofs.Common.{arith, length-append}
use Rattle.std.specs.Prelude.{slice_get, nat_le, nat_lt}
use Rattle.std.proofs.lemmas.Bool.{cases_eq, ne_eqb}
use Rattle.std.proofs.lemmas.Bool.Decides.{nat_tests}
use Rattle.std.proofs.lemmas.Option.{none-some, same_Some}
use Rattle.nest_core.specs.Museum.{Museum}
use Rattle.posting_core.specs.declared.message.Message.{Message}
use Rattle.posting_core.specs.declared.entry.Entry.{Entry}
use Rattle.posting_core.specs.Messages.{is_sign_off}
use Rattle.posting_core.specs.Lawful.{count_at, IsLawful}
use Rattle.station_core.specs.declared.TheConstants.{LAST}
use Rattle.station_core.specs.declared.Refusal.TheVariants.{Double}
use Rattle.station_core.specs.Runs.{Arrived, message_at, ready, due}
use Rattle.station_core.proofs.RunLemmas.{ready_same, due_same}
use Rattle.hub_core.specs.declared.hub.answer.Arrival.{Arrival}
use Rattle.hub_core.specs.declared.hub.answer.Answer.TheVariants.{Refused}
use Rattle.hub_core.specs.Points.{arrival_of, point, reply, cut}
use Rattle.hub_core.proofs.PostLemmas.{count_same, count_other}
use Rattle.hub_core.proofs.StandLemmas.{refused_at, point_more, point_refused}
use Rattle.hub_core.proofs.CutLemmas.{each_run}

-- an item of a list with one more at its end
get_push : {X : Type 0} (xs : List X) (y : X) (i : ℕ) (r : X) → slice_get (xs ++ y ∷ []) i ≡ Some r
    → (slice_get xs i ≡ Some r) ⊎ ((i ≡ length xs) × (y ≡ r))
get_push [] y zero r e = inr (refl, same_Some _ _ e)
get_push [] y (suc i) r e = absurd (none-some _ e)
get_push (x ∷ xs) y zero r e = inl e
get_push (x ∷ xs) y (suc i) r e =
    elim (get_push xs y i r e) [ inl h ↦ inl h | inr h ↦ inr (ap suc h.0, h.1) ]

cut_same : (s : ℕ) (e : Entry) (P : List Entry) → e.station ≡ s
    → cut s (e ∷ P) ≡ cut s P ++ arrival_of e ∷ []
cut_same s e P h = let t : (e.station == s) ≡ true = grind (arith, nat_tests) in rw t refl

cut_other : (s : ℕ) (e : Entry) (P : List Entry) → e.station ≢ s → cut s (e ∷ P) ≡ cut s P
cut_other s e P h = let f : (e.station == s) ≡ false = ne_eqb e.station s h in rw f refl

-- by whether the entry is the station's
by_station : {Q : Type 0} (e : Entry) (s : ℕ) → (e.station ≡ s → Q) → (e.station ≢ s → Q) → Q
by_station e s f g = ⊎_elim f g (cases_eq e.station s)

cut_length : (s : ℕ) (P : List Entry) → length (cut s P) ≡ count_at s P
cut_length s [] = refl
cut_length s (e ∷ P) = by_station e s
    (λ h. ap length (cut_same s e P h)
    ∙ (length-append (cut s P) (arrival_of e ∷ [])
    ∙ (ap (λ n. n + 1) (cut_length s P) ∙ sym (count_same s e P h))))
    (λ h. ap length (cut_other s e P h) ∙ (cut_length s P ∙ sym (count_other s e P h)))

pub numbered : (S : Museum) (depth : ℕ) (P : List Entry) (s i : ℕ) (r : Arrived Message)
    → IsLawful S depth P → slice_get (cut s P) i ≡ Some r → r.n ≡ i + 1
numbered S depth [] s i r law e = absurd (none-some _ e)
numbered S depth (e ∷ P) s i r law at = by_station e s
    (λ h. elim (get_push (cut s P) (arrival_of e) i r
    (ap (λ xs. slice_get xs i) (sym (cut_same s e P h)) ∙ at)) [
      | inl there ↦ numbered S depth P s i r law.1 there
      | inr here ↦
          let n : e.n ≡ count_at s P + 1 = law.0.next ∙ ap (λ t. count_at t P + 1) h in
          let is : e.n ≡ r.n = ap (λ (x : Arrived Message). x.n) here.1 in
          omega (arith, n, is, here.0, cut_length s P)
    ])
    (λ h. numbered S depth P s i r law.1 (ap (λ xs. slice_get xs i) (sym (cut_other s e P h)) ∙ at))

pub unchanged : (S : Museum) (depth : ℕ) (O : List Entry) (A : List Arrival) (r : Arrival) (why : _)
    → refused_at S (point S depth O A) r ≡ Some why
    → point S depth O (A ++ r ∷ []) ≡ point S depth O A
unchanged S depth O A r why h =
    point_more S depth O A r ∙ point_refused S depth (point S depth O A) r why h

pub double : (S : Museum) (depth : ℕ) (O : List Entry) (A : List Arrival) (r : Arrival)
    → r.station < length S.stations → 1 ≤ r.n → r.n ≤ LAST
    → r.n ≤ ready is_sign_off (point S depth O A).taken r.station
    → refused_at S (point S depth O A) r ≡ Some Double
double S depth O A r known first few low =
    let there : nat_le (length S.stations) r.station ≡ false = grind (arith, nat_tests) in
    let some : (r.n == 0) ≡ false = grind (arith, nat_tests) in
    let small : nat_lt LAST r.n ≡ false = grind (arith, nat_tests) in
    let posted : nat_le r.n (ready is_sign_off (point S depth O A).taken r.station) ≡ true =
    grind (arith, nat_tests) in
    rw (there, some, small, posted) refl

pub resent : (S : Museum) (depth : ℕ) (O : List Entry) (A : List Arrival) (r : Arrival)
    → refused_at S (point S depth O A) r ≡ Some Double
    → (reply S depth O A r ≡ Refused Double) × (point S depth O (A ++ r ∷ []) ≡ point S depth O A)
resent S depth O A r h = (rw h refl, unchanged S depth O A r Double h)

pub same : (S T : Museum) (depth limit : ℕ) (O Q : List Entry) (A B : List Arrival) (s : ℕ)
    → IsLawful S depth (point S depth O A).posted → IsLawful T limit (point T limit Q B).posted
    → ((n : ℕ) → n ≤ ready is_sign_off (point S depth O A).taken s + 1
    → message_at (point T limit Q B).taken s n ≡ message_at (point S depth O A).taken s n)
    → cut s (point T limit Q B).posted ≡ cut s (point S depth O A).posted
same S T depth limit O Q A B s law law' h =
    let one = (point S depth O A).taken in
    let two = (point T limit Q B).taken in
    let k : ℕ = ready is_sign_off one s in
    let ready' : ready is_sign_off two s ≡ k =
    ready_same is_sign_off one two s (λ n low. h n (omega (arith, low))) in
    each_run T limit Q B s law' ∙ (ap (due two s 0) ready'
    ∙ (due_same one two s 0 k (λ n low. h n (omega (arith, low)))
    ∙ sym (each_run S depth O A s law)))
