-- The posted list cut to one station is that station's run.
use Rattle.std.proofs.Common.{◌≡◌, ◌≢◌, ℕ, zero, suc, ◌+◌, ◌-◌, ◌<◌, ◌==◌, inl, inr, ⊎_elim, true}
use Rattle.std.proofs.Common.{false, List, [], ◌∷◌, ◌++◌, length, Option, Some, None, refl, ap, ◌∙◌}
use Rattle.std.proofs.Common.{sym, subst, arith, append_assoc, append-nil}
use Rattle.std.proofs.lemmas.Bool.{cases_eq, ne_eqb}
use Rattle.std.proofs.lemmas.Bool.Decides.{nat_tests}
use Rattle.std.specs.Prelude.{fold}
use Rattle.std.proofs.lemmas.List.Sums.{fold-append}
use Rattle.nest_core.specs.Museum.{Museum}
use Rattle.posting_core.specs.declared.message.Message.{Message}
use Rattle.posting_core.specs.declared.entry.Entry.{Entry}
use Rattle.posting_core.specs.Messages.{is_sign_off}
use Rattle.station_core.specs.declared.Refusal.{Refusal}
use Rattle.station_core.specs.Runs.{Arrived, arrived, message_at, ready, refusal, taken_after}
use Rattle.station_core.specs.Runs.{numbered, due, run}
use Rattle.station_core.proofs.StationLemmas.{accepted}
use Rattle.station_core.proofs.GrowLemmas.{starts_next, run_grows, run_other}
use Rattle.station_core.proofs.RunLemmas.{at_its_number, ready_is, stops_at_missing}
use Rattle.station_core.specs.declared.Start.{Start}
use Rattle.station_core.specs.Progress.{StartsFrom}
use Rattle.posting_core.specs.Lawful.{count_at, Follows, IsLawful}
use Rattle.hub_core.specs.declared.hub.answer.Arrival.{Arrival}
use Rattle.hub_core.specs.Points.{seen, arrival_of, post, Point, point_with, point_after, point}
use Rattle.hub_core.specs.Points.{cut}
use Rattle.hub_core.proofs.OpenLemmas.{sent, sent_next, lawful_start}
use Rattle.hub_core.proofs.StandLemmas.{point_refused, point_accepted}

module _ (S : Museum) (depth : ℕ) where
  abbrev AreRuns : Point → Type 0
  AreRuns p = (s : ℕ) → cut s p.posted ≡ run is_sign_off p.taken s

  cut_post_same : (s : ℕ) (P : List Entry) (r : Arrived Message) → r.station ≡ s
      → cut s (post S depth P r) ≡ cut s P ++ r ∷ []
  cut_post_same s P r h = let e : (r.station == s) ≡ true = grind (arith, nat_tests) in rw e refl

  cut_post_other : (s : ℕ) (P : List Entry) (r : Arrived Message) → r.station ≢ s
      → cut s (post S depth P r) ≡ cut s P
  cut_post_other s P r h =
      let e : (r.station == s) ≡ false = ne_eqb r.station s h in rw e refl

  cut_numbered_same : (s n : ℕ) (o : Option Message) (P : List Entry)
      → cut s (fold (post S depth) P (numbered s n o)) ≡ cut s P ++ numbered s n o
  cut_numbered_same s n None P = sym (append-nil (cut s P))
  cut_numbered_same s n (Some m) P = cut_post_same s P (arrived s n m) refl

  cut_numbered_other : (s t n : ℕ) (o : Option Message) (P : List Entry) → s ≢ t
      → cut t (fold (post S depth) P (numbered s n o)) ≡ cut t P
  cut_numbered_other s t n None P h = refl
  cut_numbered_other s t n (Some m) P h = cut_post_other t P (arrived s n m) h

  cut_due_same : (taken : List (Arrived Message)) (s k d : ℕ) (P : List Entry)
      → cut s (fold (post S depth) P (due taken s k d)) ≡ cut s P ++ due taken s k d
  cut_due_same taken s k zero P = sym (append-nil (cut s P))
  cut_due_same taken s k (suc d) P =
      ap (cut s) (fold-append (post S depth) P (due taken s k d)
      (numbered s (k + suc d) (message_at taken s (k + suc d))))
      ∙ (cut_numbered_same s (k + suc d) (message_at taken s (k + suc d)) _
      ∙ rw (cut_due_same taken s k d P, append_assoc) refl)

  cut_due_other : (taken : List (Arrived Message)) (s t k d : ℕ) (P : List Entry) → s ≢ t
      → cut t (fold (post S depth) P (due taken s k d)) ≡ cut t P
  cut_due_other taken s t k zero P h = refl
  cut_due_other taken s t k (suc d) P h =
      ap (cut t) (fold-append (post S depth) P (due taken s k d)
      (numbered s (k + suc d) (message_at taken s (k + suc d))))
      ∙ (cut_numbered_other s t (k + suc d) (message_at taken s (k + suc d)) _ h ∙ cut_due_other
      taken s t k d P h)

  runs_accepted : (p : Point) (r : Arrival) → ready is_sign_off p.taken r.station < r.n → AreRuns p
      → AreRuns (point_with S depth p r.station (p.taken ++ seen r ∷ []))
  runs_accepted p r low runs s =
      let taken = p.taken ++ seen r ∷ [] in
      let k = ready is_sign_off p.taken r.station in
      let d = ready is_sign_off taken r.station - k in
      elim (cases_eq r.station s) [
        | inl e ↦
            rw (← e) (cut_due_same taken r.station k d p.posted ∙ rw (runs r.station)
            (sym (run_grows is_sign_off p.taken (seen r) low)))
        | inr other ↦ cut_due_other taken r.station s k d p.posted other
            ∙ (runs s ∙ sym (run_other is_sign_off p.taken (seen r) s other))
      ]

  runs_after : (p : Point) (r : Arrival) → AreRuns p → AreRuns (point_after S depth p r)
  runs_after p r runs =
      by_refusal (refusal is_sign_off (length S.stations) p.taken r.station r.n) refl
    where
      by_refusal : (o : Option Refusal)
          → refusal is_sign_off (length S.stations) p.taken r.station r.n ≡ o
          → AreRuns (point_after S depth p r)
      by_refusal None h =
          subst AreRuns (sym (point_accepted S depth p r h))
          (runs_accepted p r (accepted is_sign_off (length S.stations) p.taken r.station r.n
          h).low runs)
      by_refusal (Some f) h = subst AreRuns (sym (point_refused S depth p r f h)) runs

  runs_all : (p : Point) (A : List Arrival) → AreRuns p → AreRuns (fold (point_after S depth) p A)
  runs_all p [] runs = runs
  runs_all p (r ∷ A) runs = runs_all (point_after S depth p r) A (runs_after p r runs)

  -- the message that is due under one number
  due_one : (taken : List (Arrived Message)) (s k n : ℕ) (m : Message) → n ≡ k + 1
      → message_at taken s n ≡ Some m → due taken s k 1 ≡ arrived s n m ∷ []
  due_one taken s k n m e at = let q : k + 1 ≡ n = sym e in rw (q, at) refl

  ready_start : (taken : List (Arrived Message)) (s : ℕ) (start : Start)
      → StartsFrom is_sign_off taken s start → ready is_sign_off taken s ≡ start.posted
  ready_start taken s start from =
      ready_is is_sign_off taken s start.posted from.whole
      (stops_at_missing is_sign_off taken s start.posted
      (from.none_above (suc start.posted) (omega arith)))

  run_next : (e : Entry) (P : List Entry) → Follows S depth P e → IsLawful S depth P
      → run is_sign_off (sent P ++ arrival_of e ∷ []) e.station ≡ run is_sign_off (sent P) e.station
      ++ arrival_of e ∷ []
  run_next e P f law =
      let s : ℕ = e.station in
      let taken : List (Arrived Message) = sent P ++ arrival_of e ∷ [] in
      let from = lawful_start S depth P s law in
      let k : ready is_sign_off (sent P) s ≡ count_at s P = ready_start (sent P) s _ from in
      let k' : ready is_sign_off taken s ≡ e.n =
      ready_start taken s _ (starts_next is_sign_off (sent P) (arrival_of e) _ from
      f.unsigned f.next) in
      let one : ready is_sign_off taken s - ready is_sign_off (sent P) s ≡ 1 =
      omega (arith, k, k', f.next) in
      let next : e.n ≡ ready is_sign_off (sent P) s + 1 = omega (arith, k, f.next) in
      let at : message_at taken s e.n ≡ Some e.message =
      at_its_number (sent P) (arrival_of e) (from.none_above e.n (omega (arith, f.next))) in
      run_grows is_sign_off (sent P) (arrival_of e) (omega (arith, next))
      ∙ ap (λ xs. run is_sign_off (sent P) s ++ xs)
      (ap (due taken s (ready is_sign_off (sent P) s)) one ∙ due_one taken s
      (ready is_sign_off (sent P) s) e.n e.message next at)

  -- a lawful list, taken as arrivals, is ready to its end
  pub lawful_run : (P : List Entry) (s : ℕ) → IsLawful S depth P
      → cut s P ≡ run is_sign_off (sent P) s
  lawful_run [] s law = refl
  lawful_run (e ∷ P) s law =
      (⊎_elim
      (λ q. subst (λ u. cut u (e ∷ P) ≡ run is_sign_off (sent P ++ arrival_of e ∷ []) u) q
      (cut_post_same e.station P (arrival_of e) refl
      ∙ (ap (λ xs. xs ++ arrival_of e ∷ []) (lawful_run P e.station law.1)
      ∙ sym (run_next e P law.0 law.1))))
      (λ q. cut_post_other s P (arrival_of e) q
      ∙ (lawful_run P s law.1 ∙ sym (run_other is_sign_off (sent P) (arrival_of e) s q)))
      (cases_eq e.station s))
      ∙ ap (λ (taken : List (Arrived Message)). run is_sign_off taken s) (sym (sent_next e P))

  -- a lawful list stays lawful without its last entries
  posts_lawful : (P : List Entry) (xs : List (Arrived Message))
      → IsLawful S depth (fold (post S depth) P xs) → IsLawful S depth P
  posts_lawful P [] law = law
  posts_lawful P (x ∷ xs) law = (posts_lawful (post S depth P x) xs law).1

  point_lawful : (p : Point) (A : List Arrival)
      → IsLawful S depth (fold (point_after S depth) p A).posted → IsLawful S depth p.posted
  point_lawful p [] law = law
  point_lawful p (r ∷ A) law =
      let taken : List (Arrived Message) =
      taken_after is_sign_off (length S.stations) p.taken (seen r) in
      let k : ℕ = ready is_sign_off p.taken r.station in
      posts_lawful p.posted (due taken r.station k (ready is_sign_off taken r.station - k))
      (point_lawful (point_after S depth p r) A law)

  pub each_run : (O : List Entry) (A : List Arrival) (s : ℕ)
      → IsLawful S depth (point S depth O A).posted
      → cut s (point S depth O A).posted ≡ run is_sign_off (point S depth O A).taken s
  each_run O A s law = runs_all (record { posted = O; taken = sent O }) A
      (λ t. lawful_run O t (point_lawful (record { posted = O; taken = sent O }) A law)) s
