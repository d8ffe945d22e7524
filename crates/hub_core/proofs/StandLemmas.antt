-- The arrivals that a hub stands for, after one more.
use Rattle.std.proofs.Common.{◌≡◌, ℕ, ◌+◌, ◌-◌, ◌<◌, ◌==◌, true, false, List, [], ◌∷◌, ◌++◌, length}
use Rattle.std.proofs.Common.{Option, Some, None, inl, inr, append-nil, refl, ap, ◌∙◌, sym, subst}
use Rattle.std.proofs.Common.{arith}
use Rattle.std.proofs.lemmas.Bool.Decides.{nat_tests}
use Rattle.std.specs.Prelude.{slice_set, map, reverse}
use Rattle.std.proofs.lemmas.List.Sums.{fold_push}
use Rattle.std.proofs.lemmas.List.{length-reverse}
use Rattle.std.proofs.Common.{length-append}
use Rattle.std.specs.Prelude.{fold}
use Rattle.nest_core.specs.Museum.{Museum}
use Rattle.posting_core.specs.declared.message.Message.{Message}
use Rattle.posting_core.specs.declared.entry.Entry.{Entry}
use Rattle.posting_core.specs.Messages.{is_sign_off}
use Rattle.station_core.specs.Series.{Series, series_at, with_held}
use Rattle.station_core.specs.Runs.{Arrived, ready, refusal, due}
use Rattle.station_core.specs.Progress.{IsPosting, AllMatch}
use Rattle.station_core.specs.declared.Refusal.{Refusal}
use Rattle.station_core.proofs.StationLemmas.{taken_refused, taken_accepted, series_at_set_same}
use Rattle.station_core.proofs.StationLemmas.{accepted}
use Rattle.register_store.specs.Holdings.{Holding}
use Rattle.hub_core.specs.declared.hub.answer.Arrival.{Arrival}
use Rattle.hub_core.specs.declared.hub.answer.Answer.TheVariants.{Refused, Posted}
use Rattle.hub_core.specs.Points.{seen, post, Point, point_with, point_after, point, reply}
use Rattle.hub_core.specs.Points.{reply_from, due_with, arrival_of}
use Rattle.hub_core.specs.StandsFor.{State, StandsFor, InStep, Done, HasStore, Stopped, TakesSome}

abbrev pub refused_at : Museum → Point → Arrival → Option Refusal
refused_at S p r = refusal is_sign_off (length S.stations) p.taken r.station r.n

pub point_refused : (S : Museum) (depth : ℕ) (p : Point) (r : Arrival) (f : Refusal)
    → refused_at S p r ≡ Some f → point_after S depth p r ≡ p
point_refused S depth p r f h =
    let z : ready is_sign_off p.taken r.station - ready is_sign_off p.taken r.station ≡ 0 =
    omega arith in
    ap (point_with S depth p r.station)
    (taken_refused is_sign_off (length S.stations) p.taken (seen r) f h) ∙ rw z refl

pub point_accepted : (S : Museum) (depth : ℕ) (p : Point) (r : Arrival) → refused_at S p r ≡ None
    → point_after S depth p r ≡ point_with S depth p r.station (p.taken ++ seen r ∷ [])
point_accepted S depth p r h =
    ap (point_with S depth p r.station)
    (taken_accepted is_sign_off (length S.stations) p.taken (seen r) h)

pub point_more : (S : Museum) (depth : ℕ) (O : List Entry) (A : List Arrival) (r : Arrival)
    → point S depth O (A ++ r ∷ []) ≡ point_after S depth (point S depth O A) r
point_more S depth O A r = fold_push (point_after S depth)
    (record { posted = O; taken = map arrival_of (reverse O) }) A r

module _ {R : Type 0} (holding : R → Holding) where
  -- an arrival that is refused
  pub stands_refused : (hub : State R) (O : List Entry) (A : List Arrival) (r : Arrival)
      (f : Refusal) → StandsFor holding hub O A
      → refused_at hub.book.museum (point hub.book.museum hub.book.depth O A) r ≡ Some f
      → (Refused f ≡ reply hub.book.museum hub.book.depth O A r)
      × StandsFor holding hub O (A ++ r ∷ [])
  stands_refused hub O A r f st h =
      let S = hub.book.museum in
      let p : Point = point S hub.book.depth O A in
      let same : p ≡ point S hub.book.depth O (A ++ r ∷ []) =
      sym (point_more S hub.book.depth O A r ∙ point_refused S hub.book.depth p r f h) in (
        rw h refl,
        record {
          up = st.up;
          list = st.list ∙ ap (λ (x : Point). x.posted) same;
          series = subst (λ (x : Point). AllMatch is_sign_off x.taken hub.sequences) same st.series;
          stored = st.stored;
        },
      )

  -- an arrival that is taken
  pub stands_taken : (hub new : State R) (mid : List (Series Message)) (O : List Entry)
      (A : List Arrival) (r : Arrival) → StandsFor holding hub O A
      → length hub.sequences ≡ length hub.book.museum.stations
      → refused_at hub.book.museum (point hub.book.museum hub.book.depth O A) r ≡ None
      → new.down ≡ false → new.book.museum ≡ hub.book.museum → new.book.depth ≡ hub.book.depth
      → mid ≡ slice_set hub.sequences r.station
      (with_held (series_at hub.sequences r.station) r.n r.message)
      → ((taken : List (Arrived Message)) → AllMatch is_sign_off taken hub.sequences
      → IsPosting is_sign_off (taken ++ seen r ∷ []) r.station mid)
      → ((taken : List (Arrived Message)) → IsPosting is_sign_off taken r.station mid
      → Done hub.book.museum hub.book.depth taken r.station (series_at mid r.station).posted
      hub.book.posted new.sequences new.book.posted)
      → (HasStore (holding hub.register) hub.book → HasStore (holding new.register) new.book)
      → (reply_from None (length hub.book.posted) (length new.book.posted) ≡ reply hub.book.museum
      hub.book.depth O A r) × StandsFor holding new O (A ++ r ∷ [])
  stands_taken hub new mid O A r st stations h up museum depth m take done keep =
      let S = hub.book.museum in
      let d' = hub.book.depth in
      let p : Point = point S d' O A in
      let s : ℕ = r.station in
      let q : Series Message = with_held (series_at hub.sequences s) r.n r.message in
      let within : s < length hub.sequences =
      subst (λ n. s < n) (sym stations)
      (accepted is_sign_off (length S.stations) p.taken s r.n h).within in
      let d : Done S d' (p.taken ++ seen r ∷ []) s (series_at mid s).posted hub.book.posted
      new.sequences new.book.posted = done (p.taken ++ seen r ∷ []) (take p.taken st.series) in
      let k : (series_at mid s).posted ≡ ready is_sign_off p.taken s =
      ap (λ (x : List (Series Message)). (series_at x s).posted) m
      ∙ (ap (λ (x : Series Message). x.posted) (series_at_set_same hub.sequences s q within)
      ∙ (st.series.each s within).count) in
      let list : new.book.posted ≡ (point_with S d' p s (p.taken ++ seen r ∷ [])).posted =
      d.list ∙ rw (k, st.list) refl in
      let same : point_with S d' p s (p.taken ++ seen r ∷ []) ≡ point S d' O (A ++ r ∷ []) =
      sym (point_more S d' O A r ∙ point_accepted S d' p r h) in
      let after : point_after S d' p r ≡ point_with S d' p s (p.taken ++ seen r ∷ []) =
      point_accepted S d' p r h in
      let new_list : new.book.posted ≡ (point S d' O (A ++ r ∷ [])).posted =
      list ∙ ap (λ (x : Point). x.posted) same in
      let new_series : AllMatch is_sign_off (point S d' O (A ++ r ∷ [])).taken new.sequences =
      subst (λ (x : Point). AllMatch is_sign_off x.taken new.sequences) same d.matches in (
        ap (λ (x : List Entry). reply_from None (length x) (length new.book.posted)) st.list
            ∙ (ap (λ (x : List Entry). reply_from None (length p.posted) (length x))
            (list ∙ ap (λ (x : Point). x.posted) (sym after))
            ∙ ap (λ (o : Option Refusal). reply_from o (length p.posted)
            (length (point_after S d' p r).posted)) (sym h)),
        record {
          up = up;
          list = subst (λ (S' : Museum). new.book.posted
              ≡ (point S' new.book.depth O (A ++ r ∷ [])).posted) (sym museum)
              (subst (λ n. new.book.posted ≡ (point S n O (A ++ r ∷ [])).posted)
              (sym depth) new_list);
          series =
              subst (λ (S' : Museum). AllMatch is_sign_off
              (point S' new.book.depth O (A ++ r ∷ [])).taken new.sequences) (sym museum)
              (subst (λ n. AllMatch is_sign_off (point S n O (A ++ r ∷ [])).taken new.sequences)
              (sym depth) new_series);
          stored = keep st.stored;
        },
      )

  -- a taken arrival, with a fault that stops the posting
  pub stands_stopped : (hub : State R) (store : Holding) (mid : List (Series Message))
      (now : List Entry) (O : List Entry) (A : List Arrival) (r : Arrival)
      → StandsFor holding hub O A
      → length hub.sequences ≡ length hub.book.museum.stations
      → refused_at hub.book.museum (point hub.book.museum hub.book.depth O A) r ≡ None
      → mid ≡ slice_set hub.sequences r.station
      (with_held (series_at hub.sequences r.station) r.n r.message)
      → ((taken : List (Arrived Message)) → AllMatch is_sign_off taken hub.sequences
      → IsPosting is_sign_off (taken ++ seen r ∷ []) r.station mid)
      → ((taken : List (Arrived Message)) → IsPosting is_sign_off taken r.station mid
      → HasStore (holding hub.register) hub.book
      → Stopped store hub.book.museum hub.book.depth hub.book.posted
      (due taken r.station (series_at mid r.station).posted
      (ready is_sign_off taken r.station - (series_at mid r.station).posted)) now)
      → Stopped store hub.book.museum hub.book.depth hub.book.posted
      (due_with hub.book.museum hub.book.depth O A r) now
  stands_stopped hub store mid now O A r st stations h m take stop =
      let S = hub.book.museum in
      let d' = hub.book.depth in
      let p : Point = point S d' O A in
      let s : ℕ = r.station in
      let q : Series Message = with_held (series_at hub.sequences s) r.n r.message in
      let taken : List (Arrived Message) = p.taken ++ seen r ∷ [] in
      let within : s < length hub.sequences =
      subst (λ n. s < n) (sym stations)
      (accepted is_sign_off (length S.stations) p.taken s r.n h).within in
      let k : (series_at mid s).posted ≡ ready is_sign_off p.taken s =
      ap (λ (x : List (Series Message)). (series_at x s).posted) m
      ∙ (ap (λ (x : Series Message). x.posted) (series_at_set_same hub.sequences s q within)
      ∙ (st.series.each s within).count) in
      let same : due taken s (series_at mid s).posted
      (ready is_sign_off taken s - (series_at mid s).posted) ≡ due_with S d' O A r =
      ap (λ i. due taken s i (ready is_sign_off taken s - i)) k
      ∙ ap (λ (xs : List (Arrived Message)). due xs s (ready is_sign_off p.taken s)
      (ready is_sign_off xs s - ready is_sign_off p.taken s))
      (sym (taken_accepted is_sign_off (length S.stations) p.taken (seen r) h)) in
      subst (λ (messages : List (Arrived Message)). Stopped store S d' hub.book.posted messages now)
      same (stop taken (take p.taken st.series) st.stored)

pub reply_posted : (before now x y : ℕ) → x ≡ before → y ≡ now → (x ≡ y → ⊥)
    → Posted (x + 1) y ≡ reply_from None before now
reply_posted before now x y p q h = let t : (before == now) ≡ false = grind (arith, nat_tests) in
    rw (t, p, q) refl

length_posts : (S : Museum) (depth : ℕ) (P : List Entry) (xs : List (Arrived Message))
    → length (fold (post S depth) P xs) ≡ length P + length xs
length_posts S depth P [] = omega arith
length_posts S depth P (x ∷ xs) = let h = length_posts S depth (post S depth P x) xs in
    omega (arith, h)

-- if a message is due, the reply is Posted
pub reply_due : (S : Museum) (depth : ℕ) (O : List Entry) (A : List Arrival) (r : Arrival)
    (done : List (Arrived Message)) (next : Arrived Message) (rest : List (Arrived Message))
    → refused_at S (point S depth O A) r ≡ None → due_with S depth O A r ≡ done ++ next ∷ rest
    → (first : ℕ) × (last : ℕ) × (reply S depth O A r ≡ Posted first last)
reply_due S depth O A r done next rest h all =
    let p : Point = point S depth O A in
    let before : ℕ = length p.posted in
    let now : ℕ = length (point_after S depth p r).posted in
    let grown : now ≡ before + length (due_with S depth O A r) =
    length_posts S depth p.posted (due_with S depth O A r) in
    let some : length (due_with S depth O A r) ≡ length done + (length rest + 1) =
    ap length all ∙ (length-append done (next ∷ rest) ∙ omega arith) in
    let apart : before ≡ now → ⊥ = λ same. absurd (omega (arith, same, grown, some)) in (
      before + 1,
      now,
      ap (λ (o : Option Refusal). reply_from o before now) h
          ∙ sym (reply_posted before now before now refl refl apart),
    )

pub reply_counted : (before now x y : ℕ) → x ≡ before → y ≡ now
    → reply_from None x y ≡ reply_from None before now
reply_counted before now x y p q = rw (p, q) refl

-- the stations refuse the same arrivals as looking back does
pub refused_by : {R : Type 0} (hub : State R) (O : List Entry) (A : List Arrival) (r : Arrival)
    (o X : Option Refusal) → InStep hub.sequences hub.book.museum hub.book.posted →
    o ≡ refusal is_sign_off (length hub.sequences) (point hub.book.museum hub.book.depth O A).taken
    r.station r.n → o ≡ X → refused_at hub.book.museum
    (point hub.book.museum hub.book.depth O A) r ≡ X
refused_by hub O A r o X step told is =
    subst (λ n. refusal is_sign_off n (point hub.book.museum hub.book.depth O A).taken r.station r.n
    ≡ X) step.stations (sym told ∙ is)

pub length_back : (es P : List Entry) → reverse es ≡ P → length es ≡ length P
length_back es P back = sym (length-reverse es) ∙ ap length back

module _ {R : Type 0} (holding : R → Holding) where
  -- none of the arrivals is taken
  pub takes_none : (hub : State R) (O : List Entry) (A sent : List Arrival)
      → StandsFor holding hub O A → TakesSome holding hub O A sent
  takes_none hub O A sent st = inl (0, subst (StandsFor holding hub O) (sym (append-nil A)) st)

  -- the hub stopped at the only arrival
  pub stops_in : (old new : State R) (O : List Entry) (A : List Arrival) (r : Arrival)
      → StandsFor holding old O A → new.down ≡ true → new.book.museum ≡ old.book.museum
      → new.book.depth ≡ old.book.depth
      → Stopped (holding new.register) old.book.museum old.book.depth old.book.posted
      (due_with old.book.museum old.book.depth O A r) new.book.posted
      → TakesSome holding new O A (r ∷ [])
  stops_in old new O A r st down museum depth stopped =
      let Stops : Museum → ℕ → List Entry → List Arrival → Type 0 =
      λ S d P B. Stopped (holding new.register) S d P (due_with S d O B r) new.book.posted in
      let from_point = subst (λ P. Stops old.book.museum old.book.depth P A) st.list stopped in
      let from_all =
      subst (λ (B : List Arrival). Stops old.book.museum old.book.depth
      (point old.book.museum old.book.depth O B).posted B) (sym (append-nil A)) from_point in
      let of_museum =
      subst (λ S. Stops S old.book.depth (point S old.book.depth O (A ++ [])).posted (A ++ []))
      (sym museum) from_all in
      let of_depth =
      subst (λ d. Stops new.book.museum d (point new.book.museum d O (A ++ [])).posted
      (A ++ [])) (sym depth) of_museum in
      inr (record {
        down = down;
        before = [];
        arrival = r;
        after = [];
        all = refl;
        stopped = of_depth;
      })
