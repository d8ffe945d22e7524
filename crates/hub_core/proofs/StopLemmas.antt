-- A fault in the middle of the due messages.
use Rattle.std.proofs.Common.{◌≡◌, ℕ, suc, ◌+◌, ◌-◌, ◌≤◌, true, false, List, [], ◌∷◌, ◌++◌, Some}
use Rattle.std.proofs.Common.{ap, ◌∙◌, sym, subst, arith, ⊎_elim, append_assoc}
use Rattle.std.proofs.lemmas.Bool.{cases_Bool, cases_lt}
use Rattle.nest_core.specs.Museum.{Museum}
use Rattle.posting_core.specs.declared.message.Message.{Message}
use Rattle.posting_core.specs.declared.entry.Entry.{Entry}
use Rattle.posting_core.specs.Messages.{is_sign_off}
use Rattle.posting_core.specs.Book.{Book}
use Rattle.station_core.specs.Series.{Series, series_at}
use Rattle.station_core.specs.Runs.{Arrived, arrived, message_at, unbroken, ready, due}
use Rattle.station_core.specs.Progress.{ComesDue}
use Rattle.station_core.proofs.BoolLemmas.{down}
use Rattle.station_core.proofs.RunLemmas.{unbroken_down, ready_fails, due_next, due_split}
use Rattle.register_store.specs.Holdings.{Holding}
use Rattle.hub_core.specs.StandsFor.{HasEither, Stopped}
use Rattle.hub_core.proofs.PostLemmas.{Caught}

-- an unbroken run is ready
pub unbroken_ready : (taken : List (Arrived Message)) (s n : ℕ)
    → unbroken is_sign_off taken s n ≡ true → n ≤ ready is_sign_off taken s
unbroken_ready taken s n h =
    let k : ℕ = ready is_sign_off taken s in
    ⊎_elim
    (λ lt.
    let e : n ≡ suc k + (n - suc k) = omega arith in
    let on : unbroken is_sign_off taken s (suc k) ≡ true =
    down (unbroken is_sign_off taken s) (unbroken_down is_sign_off taken s) (suc k) (n - suc k)
    (ap (unbroken is_sign_off taken s) (sym e) ∙ h) in
    let off : unbroken is_sign_off taken s (suc k) ≡ false = ready_fails is_sign_off taken s in
    absurd (cc))
    (λ ge. ge)
    (cases_lt k n)

-- a message that comes due is among those that are ready
pub due_ready : (taken : List (Arrived Message)) (s n : ℕ) (m : Message)
    (all' : List (Series Message)) → ComesDue is_sign_off taken s n m all'
    → (series_at all' s).posted ≡ n → n ≤ ready is_sign_off taken s
due_ready taken s n m all' d is = unbroken_ready taken s n
    (⊎_elim (λ on. ap (unbroken is_sign_off taken s) (sym is) ∙ (d.ends on).here.whole)
    (λ off. ap (unbroken is_sign_off taken s) (sym is) ∙ (d.goes_on off).here.whole)
    (cases_Bool (is_sign_off m)))

-- the due messages, with the one at which posting stops
due_parts : (taken : List (Arrived Message)) (s k j z : ℕ) (m : Message) → k ≤ j → suc j ≤ z
    → message_at taken s (suc j) ≡ Some m
    → due taken s k (z - k) ≡ due taken s k (j - k) ++ arrived s (suc j) m ∷ due taken s
    (suc j) (z - suc j)
due_parts taken s k j z m low high at =
    let sum : z - k ≡ (suc j - k) + (z - suc j) = omega arith in
    let mid : k + (suc j - k) ≡ suc j = omega arith in
    ap (due taken s k) sum ∙ (due_split taken s k (suc j - k) (z - suc j)
    ∙ (ap (λ i. due taken s k (suc j - k) ++ due taken s i (z - suc j)) mid
    ∙ (ap (λ (xs : List (Arrived Message)). xs ++ due taken s (suc j) (z - suc j))
    (due_next taken s k j m low at)
    ∙ append_assoc (due taken s k (j - k)) (arrived s (suc j) m ∷ [])
    (due taken s (suc j) (z - suc j)))))

module _ (store : Holding) where
  pub stopped_at : (S : Museum) (depth : ℕ) (taken : List (Arrived Message)) (s k n : ℕ)
      (before : List Entry) (L L' : Book) (all all' : List (Series Message)) (m : Message)
      → Caught S depth taken s k before all L.posted → n ≡ (series_at all s).posted + 1
      → ComesDue is_sign_off taken s n m all' → (series_at all' s).posted ≡ n
      → L.museum ≡ S → L.depth ≡ depth → L' ≡ L
      → HasEither store L.museum L.depth L.posted (arrived s n m)
      → Stopped store S depth before (due taken s k (ready is_sign_off taken s - k)) L'.posted
  stopped_at S depth taken s k n before L L' all all' m c e d is museum limit same left =
      let j : ℕ = (series_at all s).posted in
      let q : n ≡ suc j = omega arith in
      let high : suc j ≤ ready is_sign_off taken s =
      omega (arith, due_ready taken s n m all' d is) in
      let at : message_at taken s (suc j) ≡ Some m = ap (message_at taken s) (sym q) ∙ d.message in
      let list : L'.posted ≡ L.posted = ap (λ (b : Book). b.posted) same in
      let here : HasEither store S depth L.posted (arrived s n m) =
      subst (λ (S' : Museum). HasEither store S' depth L.posted (arrived s n m)) museum
      (subst (λ z. HasEither store L.museum z L.posted (arrived s n m)) limit left) in
      record {
        done = due taken s k (j - k);
        next = arrived s n m;
        rest = due taken s (suc j) (ready is_sign_off taken s - suc j);
        all = due_parts taken s k j (ready is_sign_off taken s) m c.forward high at
            ∙ ap (λ i. due taken s k (j - k) ++ arrived s i m ∷ due taken s (suc j)
            (ready is_sign_off taken s - suc j)) (sym q);
        list = list ∙ c.list;
        stored = subst (λ (P : List Entry). HasEither store S depth P (arrived s n m))
            (sym list) here;
      }
