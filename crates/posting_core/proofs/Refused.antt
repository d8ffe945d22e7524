-- Refused messages change no answer.
use Rattle.std.specs.Prelude.{ℕ, ℤ, ◌≡◌, ◌+◌, false, List, [], ◌∷◌, ◌++◌, Option, None, Some}
use Rattle.std.specs.Prelude.{length, map, refl, if◌then◌else◌, Bool, true, not}
use Rattle.std.specs.List.{find}
use Rattle.std.specs.Option.{option_map, option_map_or, option_to_list}
use Rattle.std.specs.Str.{bytes_eq}
use Rattle.std.proofs.Common.{ap, ◌∙◌}
use Rattle.std.proofs.lemmas.Bool.{and_parts, false≢true}
use Rattle.nest_core.specs.Museum.{Museum}
use Rattle.nest_core.specs.Puts.{is_among}
use Rattle.posting_core.specs.declared.entry.Entry.{Entry}
use Rattle.posting_core.specs.Messages.{day_of}
use Rattle.posting_core.specs.VerdictNames.{is_applied}
use Rattle.posting_core.specs.Agreements.{Agreement, agreements, agreement, loans, is_authorised}
use Rattle.posting_core.specs.Agreements.{last_from, last_day}
use Rattle.posting_core.specs.History.{spots, place_at}
use Rattle.posting_core.specs.Loans.{stage, objects_of, objects, line, state_by, loan_state}
use Rattle.posting_core.specs.Book.{Book}
use Rattle.posting_core.specs.Accountability.{AnswerAlike}
use Rattle.posting_core.specs.Onward.{later, are_refused}
use Rattle.posting_core.proofs.Written.{same_place}

to_nil : {A : Type 0} (xs : List A) → xs ++ [] ≡ xs
to_nil [] = refl
to_nil (x ∷ xs) = ap (λ ys. x ∷ ys) (to_nil xs)

same_agreements : (P : List Entry) (e : Entry) → is_applied e.verdict ≡ false
    → agreements (e ∷ P) ≡ agreements P
same_agreements P e refused = rw refused (to_nil (agreements P))

same_agreement : (P : List Entry) (e : Entry) (loan : List ℕ) → is_applied e.verdict ≡ false
    → agreement (e ∷ P) loan ≡ agreement P loan
same_agreement P e loan refused =
    ap (λ ts. find (λ t. bytes_eq loan t.loan) ts) (same_agreements P e refused)

same_stage : (S : Museum) (P : List Entry) (e : Entry) (loan : List ℕ) (o : ℕ)
    → is_applied e.verdict ≡ false → stage S (e ∷ P) loan o ≡ stage S P loan o
same_stage S P e loan o refused = rw refused refl

same_authorised : (P : List Entry) (e : Entry) (loan : List ℕ) → is_applied e.verdict ≡ false
    → is_authorised (e ∷ P) loan ≡ is_authorised P loan
same_authorised P e loan refused = rw refused refl

same_stages : (S : Museum) (P : List Entry) (e : Entry) (loan : List ℕ) (os : List ℕ)
    → is_applied e.verdict ≡ false → map (stage S (e ∷ P) loan) os ≡ map (stage S P loan) os
same_stages S P e loan [] refused = refl
same_stages S P e loan (o ∷ os) refused =
    ap (λ s. s ∷ map (stage S (e ∷ P) loan) os) (same_stage S P e loan o refused)
    ∙ ap (λ ss. stage S P loan o ∷ ss) (same_stages S P e loan os refused)

same_last : (P : List Entry) (e : Entry) (loan : List ℕ) (day : ℤ) → is_applied e.verdict ≡ false
    → last_from (e ∷ P) loan day ≡ last_from P loan day
same_last P e loan day refused = rw refused refl

same_objects : (S : Museum) (P : List Entry) (e : Entry) (loan : List ℕ)
    → is_applied e.verdict ≡ false → objects S (e ∷ P) loan ≡ objects S P loan
same_objects S P e loan refused =
    ap (λ t. option_map_or (objects_of S) t []) (same_agreement P e loan refused)

same_line : (S : Museum) (P : List Entry) (e : Entry) (loan : List ℕ) (o : ℕ)
    → is_applied e.verdict ≡ false → line S (e ∷ P) loan o ≡ line S P loan o
same_line S P e loan o refused =
    ap (λ os. if is_among o os then Some (stage S (e ∷ P) loan o) else None)
    (same_objects S P e loan refused)
    ∙ ap (λ s. if is_among o (objects S P loan) then Some s else None)
    (same_stage S P e loan o refused)

state_of_terms : (S : Museum) (P : List Entry) (e : Entry) (loan : List ℕ) (t : Option Agreement)
    → is_applied e.verdict ≡ false →
    option_map (λ t. state_by (is_authorised (e ∷ P) loan)
    (map (stage S (e ∷ P) loan) (objects_of S t))) t
    ≡ option_map (λ t. state_by (is_authorised P loan) (map (stage S P loan) (objects_of S t)))
    t
state_of_terms S P e loan None refused = refl
state_of_terms S P e loan (Some t) refused =
    ap (λ b. Some (state_by b (map (stage S (e ∷ P) loan) (objects_of S t))))
    (same_authorised P e loan refused)
    ∙ ap (λ ss. Some (state_by (is_authorised P loan) ss))
    (same_stages S P e loan (objects_of S t) refused)

same_state : (S : Museum) (P : List Entry) (e : Entry) (loan : List ℕ)
    → is_applied e.verdict ≡ false → loan_state S (e ∷ P) loan ≡ loan_state S P loan
same_state S P e loan refused =
    ap (λ t. option_map (λ t. state_by (is_authorised (e ∷ P) loan)
    (map (stage S (e ∷ P) loan) (objects_of S t))) t) (same_agreement P e loan refused)
    ∙ state_of_terms S P e loan (agreement P loan) refused

day_of_terms : (P : List Entry) (e : Entry) (loan : List ℕ) (t : Option Agreement)
    → is_applied e.verdict ≡ false
    → option_map (λ t. last_from (e ∷ P) loan t.last) t
    ≡ option_map (λ t. last_from P loan t.last) t
day_of_terms P e loan None refused = refl
day_of_terms P e loan (Some t) refused = ap (λ d. Some d) (same_last P e loan t.last refused)

same_day : (P : List Entry) (e : Entry) (loan : List ℕ) → is_applied e.verdict ≡ false
    → last_day (e ∷ P) loan ≡ last_day P loan
same_day P e loan refused = ap (λ t. option_map (λ t. last_from (e ∷ P) loan t.last) t)
    (same_agreement P e loan refused) ∙ day_of_terms P e loan (agreement P loan) refused

same_spots : (S : Museum) (P : List Entry) (e : Entry) (x : ℕ) → is_applied e.verdict ≡ false
    → spots S (e ∷ P) x ≡ spots S P x
same_spots S P e x refused =
    rw refused (ap (λ o. spots S P x ++ option_to_list o)
    (same_place (length P + 1) (place_at S P x) (day_of e.message)) ∙ to_nil (spots S P x))

pub unchanged : (B : Book) (e : Entry) → is_applied e.verdict ≡ false
    → AnswerAlike (record B { posted = e ∷ B.posted }) B
unchanged B e refused = record {
  places = λ x. rw refused refl;
  chains = λ x. rw refused refl;
  spots = λ x. same_spots B.museum B.posted e x refused;
  loans = let same : loans (e ∷ B.posted) ≡ loans B.posted =
      ap (λ ts. map (λ t. t.loan) ts) (same_agreements B.posted e refused) in same;
  objects = λ loan. same_objects B.museum B.posted e loan refused;
  lines = λ loan o. same_line B.museum B.posted e loan o refused;
  states = λ loan. same_state B.museum B.posted e loan refused;
  days = λ loan. same_day B.posted e loan refused;
}

-- nor do several of them
alike_on : {A B C : Book} → AnswerAlike A B → AnswerAlike B C → AnswerAlike A C
alike_on first next = record {
  places = λ x. first.places x ∙ next.places x;
  chains = λ x. first.chains x ∙ next.chains x;
  spots = λ x. first.spots x ∙ next.spots x;
  loans = first.loans ∙ next.loans;
  objects = λ loan. first.objects loan ∙ next.objects loan;
  lines = λ loan o. first.lines loan o ∙ next.lines loan o;
  states = λ loan. first.states loan ∙ next.states loan;
  days = λ loan. first.days loan ∙ next.days loan;
}

alike_itself : (B : Book) → AnswerAlike B B
alike_itself B = record {
  places = λ x. refl;
  chains = λ x. refl;
  spots = λ x. refl;
  loans = refl;
  objects = λ loan. refl;
  lines = λ loan o. refl;
  states = λ loan. refl;
  days = λ loan. refl;
}

refused_is : (b : Bool) → not b ≡ true → b ≡ false
refused_is true h = absurd (false≢true h)
refused_is false h = refl

pub all_unchanged : (B : Book) (L : List Entry) → are_refused L ≡ true → AnswerAlike (later B L) B
all_unchanged B [] refused = alike_itself B
all_unchanged B (e ∷ L) refused =
    let parts = and_parts (not (is_applied e.verdict)) (are_refused L) refused in
    alike_on (unchanged (later B L) e (refused_is (is_applied e.verdict) parts.0))
    (all_unchanged B L parts.1)
