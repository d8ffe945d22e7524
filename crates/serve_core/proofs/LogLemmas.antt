-- One serving after another.
use Rattle.std.proofs.Common.{◌≡◌, ℕ, true, inr, List, [], ◌∷◌, ◌++◌, refl, ap, ◌∙◌, sym, subst}
use Rattle.std.proofs.Common.{append_assoc, append-nil}
use Rattle.std.proofs.lemmas.Grind.{flat_map-append}
use Rattle.std.proofs.lemmas.List.Elements.{All-append, All-nil}
use Rattle.std.specs.Prelude.{All, Result, Ok, Err, OnErr}
use Rattle.hub_core.specs.declared.hub.answer.Arrival.{Arrival}
use Rattle.nest_core.specs.Museum.{Museum}
use Rattle.posting_core.specs.declared.entry.Entry.{Entry}
use Rattle.register_store.specs.Holdings.{Holding}
use Rattle.hub_core.specs.StandsFor.{State, StandsFor, Stopped}
use Rattle.hub_core.specs.Points.{point, due_with}
use Rattle.serve_core.specs.declared.item.Item.{Item}
use Rattle.serve_core.specs.declared.item.LogLine.{LogLine}
use Rattle.serve_core.specs.Logs.{sent_item, log_arrivals, IsAnswered, IsPlacedReply, Answers}
use Rattle.serve_core.specs.Logs.{Meets, Serves, ServesTo}

pub err_any : {T E P : Type 0} (r : Result T E) → P → OnErr r P
err_any (Ok x) p = tt
err_any (Err y) p = p

pub log_arrivals-append : (G H : List LogLine)
    → log_arrivals (G ++ H) ≡ log_arrivals G ++ log_arrivals H
log_arrivals-append G H = flat_map-append (λ (l : LogLine). sent_item l.station l.item) G H

pub answered-append : (S : Museum) (depth : ℕ) (O : List Entry) (A : List Arrival)
    (G H : List LogLine)
    → IsAnswered S depth O A G → IsAnswered S depth O (A ++ log_arrivals G) H
    → IsAnswered S depth O A (G ++ H)
answered-append S depth O A [] H g h =
    subst (λ (B : List Arrival). IsAnswered S depth O B H) (append-nil A) h
answered-append S depth O A (l ∷ G) H g h = (
  g.0,
  answered-append S depth O (A ++ sent_item l.station l.item) G H g.1
      (subst (λ (B : List Arrival). IsAnswered S depth O B H)
      (sym (append_assoc A (sent_item l.station l.item) (log_arrivals G))) h),
)

-- no item was taken
pub answers_none : {R : Type 0} (holding : R → Holding) (a b : State R)
    → b.book.museum ≡ a.book.museum → b.book.depth ≡ a.book.depth → Answers holding a b []
answers_none holding a b museum depth = record {
  museum = museum;
  depth = depth;
  placed = All-nil (λ (l : LogLine). IsPlacedReply a.book.museum l.reply);
  answered = λ O A st. tt;
}

pub serves_none : {R : Type 0} (holding : R → Holding) (hub : State R) → Serves holding hub hub []
serves_none holding hub = record {
  answers = answers_none holding hub hub refl refl;
  stands = λ O A st. subst (λ (B : List Arrival). StandsFor holding hub O B) (sym (append-nil A))
      st;
}

-- a hub took lines, and then more
answers_then : {R : Type 0} (holding : R → Holding) (a b c : State R) (G H : List LogLine)
    → Serves holding a b G → Answers holding b c H → Answers holding a c (G ++ H)
answers_then holding a b c G H g h = record {
  museum = h.museum ∙ g.answers.museum;
  depth = h.depth ∙ g.answers.depth;
  placed = All-append (λ (l : LogLine). IsPlacedReply a.book.museum l.reply) G H g.answers.placed
      (subst (λ (S : Museum). All (λ (l : LogLine). IsPlacedReply S l.reply) H) g.answers.museum
      h.placed);
  answered = λ O A st.
      let mid = g.stands O A st in
      answered-append a.book.museum a.book.depth O A G H (g.answers.answered O A st)
      (subst (λ (S : Museum). IsAnswered S a.book.depth O (A ++ log_arrivals G) H) g.answers.museum
      (subst (λ (d : ℕ). IsAnswered b.book.museum d O (A ++ log_arrivals G) H) g.answers.depth
      (h.answered O (A ++ log_arrivals G) mid)));
}

sent_by_both : (A : List Arrival) (G H : List LogLine)
    → (A ++ log_arrivals G) ++ log_arrivals H ≡ A ++ log_arrivals (G ++ H)
sent_by_both A G H = append_assoc A (log_arrivals G) (log_arrivals H)
    ∙ ap (λ (B : List Arrival). A ++ B) (sym (log_arrivals-append G H))

pub serves_then : {R : Type 0} (holding : R → Holding) (a b c : State R) (G H : List LogLine)
    → Serves holding a b G → Serves holding b c H → Serves holding a c (G ++ H)
serves_then holding a b c G H g h = record {
  answers = answers_then holding a b c G H g h.answers;
  stands = λ O A st. subst (λ (B : List Arrival). StandsFor holding c O B) (sent_by_both A G H)
      (h.stands O (A ++ log_arrivals G) (g.stands O A st));
}

-- and then met a fault
pub serves_to_then : {R : Type 0} (holding : R → Holding) (a b c : State R) (G H : List LogLine)
    (s : ℕ) (x : Item)
    → Serves holding a b G → ServesTo holding b c H s x → ServesTo holding a c (G ++ H) s x
serves_to_then holding a b c G H s x g h = record {
  answers = answers_then holding a b c G H g h.answers;
  meets = λ O A st. subst (λ (B : List Arrival). Meets holding c O B (sent_item s x))
      (sent_by_both A G H) (h.meets O (A ++ log_arrivals G) (g.stands O A st));
}

pub serves_to : {R : Type 0} (holding : R → Holding) (a b c : State R) (G : List LogLine) (s : ℕ)
    (x : Item)
    → Serves holding a b G → ServesTo holding b c [] s x → ServesTo holding a c G s x
serves_to holding a b c G s x g h = subst (λ (L : List LogLine). ServesTo holding a c L s x)
    (append-nil G) (serves_to_then holding a b c G [] s x g h)

-- an item met a fault
pub met_first : {R : Type 0} (holding : R → Holding) (a b : State R) (s : ℕ) (x : Item)
    → b.book.museum ≡ a.book.museum → b.book.depth ≡ a.book.depth
    → ((O : List Entry) (A : List Arrival) → StandsFor holding a O A
    → Meets holding b O A (sent_item s x)) → ServesTo holding a b [] s x
met_first holding a b s x museum depth m = record {
  answers = answers_none holding a b museum depth;
  meets = λ O A st. subst (λ (B : List Arrival). Meets holding b O B (sent_item s x))
      (sym (append-nil A)) (m O A st);
}

-- in the arrival of an item
pub met_in : {R : Type 0} (holding : R → Holding) (old new : State R) (O : List Entry)
    (A : List Arrival) (r : Arrival) → StandsFor holding old O A → new.down ≡ true
    → new.book.museum ≡ old.book.museum → new.book.depth ≡ old.book.depth
    → Stopped (holding new.register) old.book.museum old.book.depth old.book.posted
    (due_with old.book.museum old.book.depth O A r) new.book.posted → Meets holding new O A (r ∷ [])
met_in holding old new O A r st down museum depth stopped =
    let Stops : Museum → ℕ → List Entry → List Arrival → Type 0 =
    λ S d P B. Stopped (holding new.register) S d P (due_with S d O B r) new.book.posted in
    let from_point = subst (λ P. Stops old.book.museum old.book.depth P A) st.list stopped in
    let from_all = subst (λ (B : List Arrival). Stops old.book.museum old.book.depth
    (point old.book.museum old.book.depth O B).posted B) (sym (append-nil A)) from_point in
    let of_museum = subst (λ S. Stops S old.book.depth (point S old.book.depth O (A ++ [])).posted
    (A ++ [])) (sym museum) from_all in
    let of_depth = subst (λ d. Stops new.book.museum d (point new.book.museum d O (A ++ [])).posted
    (A ++ [])) (sym depth) of_museum in
    inr (record {
      down = down;
      before = [];
      arrival = r;
      after = [];
      all = refl;
      stopped = of_depth;
    })
