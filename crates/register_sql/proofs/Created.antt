-- The tables are created in turn, each empty, and those before stay as they were.
use Rattle.std.proofs.Common.{◌≡◌, ◌<◌, ◌+◌, ℕ, zero, suc, List, [], Ok, Err, Result, None, OnOk}
use Rattle.std.proofs.Common.{refl, sym, ap, subst, ◌∙◌, arith}
use Rattle.sqlite.proofs.Callers.{statement_of, runs_as}
use Rattle.sqlite.specs.Change.{next_tree, created, KeepsRows}
use Rattle.sqlite.specs.Command.TheVariants.{CreateTable}
use Rattle.sqlite.specs.Does.{Tally, Does, lacks_sequence}
use Rattle.sqlite.specs.Effect.{Database, IsDatabase}
use Rattle.sqlite.specs.Listing.{understood}
use Rattle.sqlite.specs.Schema.{Schema}
use Rattle.sqlite.specs.State.{State, mode_of, Executes, ExecutesInside}
use Rattle.sqlite.specs.Table.{Table}
use Rattle.sqlite.specs.Tree.{Trees}
use Rattle.sqlite.specs.declared.error.Error.{Error}
use Rattle.register_sql.specs.Making.{create_of, Grown, IsMade, Goes}
use Rattle.register_sql.specs.Tables.{prefix}
use Rattle.register_sql.proofs.Added.{went, same_value}
use Rattle.register_sql.proofs.Creates.{IsCreate, creates_meta, creates_setup, creates_posting}
use Rattle.register_sql.proofs.Creates.{creates_spot, creates_line, creates_term}

-- the schema has the table, which is empty
record Makes (schema after : Schema) (db next : Database) : Type 0 where
  schema_is : next.schema ≡ after
  sound : IsDatabase next
  empty : next.trees (next_tree schema) ≡ []
  others : KeepsRows schema.tables db.trees next.trees

creates : (text : List ℕ) (schema after : Schema) (table : Table) → IsCreate text schema after table
    → (old new : State) (count : ℕ) → old.now.schema ≡ schema → Executes text [] old new (Ok count)
    → Makes schema after old.now new.now
creates text schema after table is old new count has h =
    let w = runs_as text [] old new schema has CreateTable is.command is.plain count h in
    let sql = statement_of text (understood schema text) in
    let done =
    went (subst (λ it. Does old.step_limit (mode_of old) [] (record old.now { schema = it }) sql
    None CreateTable (Ok (w.tally, new.now))) has w.changed) in
    let made = went done.1 in
    let it = made.1 in
    let same : it.table ≡ table = same_value (sym it.defined ∙ is.defined) in
    let schema_is : made.0.schema ≡ after = it.is ∙ ap (created schema) same ∙ is.makes in
    let last : done.0 ≡ made.0 =
    same_value (rw (ap lacks_sequence schema_is ∙ is.counted) at made.2) in
    let now : new.now ≡ done.0 = ap (λ (p : Tally × Database). p.1) (same_value done.2) in
    let all = now ∙ last in
    record {
      schema_is = ap (λ (d : Database). d.schema) all ∙ schema_is;
      sound = w.sound;
      empty = ap (λ (d : Database). d.trees (next_tree schema)) all ∙ it.empty;
      others = subst (λ (d : Database). KeepsRows schema.tables old.now.trees d.trees)
          (sym all) it.others;
    }

made_on : (k : ℕ) (table : Table) → IsCreate (create_of k) (prefix k) (prefix (suc k)) table
    → ((db next : Trees) → next (next_tree (prefix k)) ≡ [] → KeepsRows (prefix k).tables db next
    → Grown k (suc k) db next)
    → (old new : State) (r : Result ℕ Error) → IsMade k old
    → ExecutesInside 0 (create_of k) [] old new r
    → OnOk r (Goes (suc k) (Grown k (suc k)) old new)
made_on k table is grows old new (Err e) made h = tt
made_on k table is grows old new (Ok count) made h =
    let done = creates (create_of k) (prefix k) (prefix (suc k)) table is old new count
    (made.schema h.1.was_open) h.0 in
    record {
      is = record { schema = λ _. done.schema_is; sound = λ _. done.sound; inside = h.1.mode };
      stays = λ _. h.1.is_open;
      rows = grows old.now.trees new.now.trees done.empty done.others;
    }

pub made_at : (k : ℕ) → k < 6 → (old new : State) (r : Result ℕ Error) → IsMade k old
    → ExecutesInside 0 (create_of k) [] old new r → OnOk r (Goes (suc k) (Grown k (suc k)) old new)
made_at zero low = made_on 0 _ creates_meta
    (λ db next none kept. record {
      meta = none;
      setup = refl;
      postings = refl;
      spots = refl;
      lines = refl;
      terms = refl;
    })
made_at (suc zero) low = made_on 1 _ creates_setup
    (λ db next none kept. record {
      meta = kept.0;
      setup = none;
      postings = refl;
      spots = refl;
      lines = refl;
      terms = refl;
    })
made_at (suc (suc zero)) low =
    made_on 2 _ creates_posting (λ db next none kept. record {
      meta = kept.0;
      setup = kept.1.0;
      postings = none;
      spots = refl;
      lines = refl;
      terms = refl;
    })
made_at (suc (suc (suc zero))) low =
    made_on 3 _ creates_spot (λ db next none kept. record {
      meta = kept.0;
      setup = kept.1.0;
      postings = kept.1.1.0;
      spots = none;
      lines = refl;
      terms = refl;
    })
made_at (suc (suc (suc (suc zero)))) low =
    made_on 4 _ creates_line (λ db next none kept. record {
      meta = kept.0;
      setup = kept.1.0;
      postings = kept.1.1.0;
      spots = kept.1.1.1.0;
      lines = none;
      terms = refl;
    })
made_at (suc (suc (suc (suc (suc zero))))) low =
    made_on 5 _ creates_term (λ db next none kept. record {
      meta = kept.0;
      setup = kept.1.0;
      postings = kept.1.1.0;
      spots = kept.1.1.1.0;
      lines = kept.1.1.1.1.0;
      terms = none;
    })
made_at (suc (suc (suc (suc (suc (suc k)))))) low = absurd (omega (arith, low))

pub made_by : (k : ℕ) → k < 6 → (text : List ℕ) → text ≡ create_of k → (old new : State) (n : ℕ)
    → IsMade k old → ExecutesInside 0 text [] old new (Ok n)
    → Goes (k + 1) (Grown k (k + 1)) old new
made_by k low text is old new n made ran =
    let one : suc k ≡ k + 1 = omega arith in
    subst (λ j. Goes j (Grown k j) old new) one
    (made_at k low old new (Ok n) made
    (subst (λ t. ExecutesInside 0 t [] old new (Ok n)) is ran))

pub grown_still : (k : ℕ) (s : State) → IsMade k s → Goes k (Grown k k) s s
grown_still k s is = record {
  is = is;
  stays = λ up. up;
  rows = record {
    meta = refl;
    setup = refl;
    postings = refl;
    spots = refl;
    lines = refl;
    terms = refl;
  };
}

pub grows_then : (i j k : ℕ) (a b c : State) → Goes j (Grown i j) a b → Goes k (Grown j k) b c
    → Goes k (Grown i k) a c
grows_then i j k a b c p q = record {
  is = q.is;
  stays = λ up. q.stays (p.stays up);
  rows = record {
    meta = q.rows.meta ∙ p.rows.meta;
    setup = q.rows.setup ∙ p.rows.setup;
    postings = q.rows.postings ∙ p.rows.postings;
    spots = q.rows.spots ∙ p.rows.spots;
    lines = q.rows.lines ∙ p.rows.lines;
    terms = q.rows.terms ∙ p.rows.terms;
  };
}
