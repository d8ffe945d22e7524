-- The last day that an entry sets is that of looking back after it.
use Rattle.std.specs.Prelude.{ℕ, ℤ, ◌≡◌, ◌||◌, Bool, true, false, not, cond, List, [], ◌∷◌, ◌++◌}
use Rattle.std.specs.Prelude.{map, Option, None, Some, is_some, if◌then◌else◌, unwrap_or, refl}
use Rattle.std.proofs.Common.{ap, sym, subst, ◌∙◌}
use Rattle.std.specs.List.{find, list_any}
use Rattle.std.specs.Option.{option_map_or, option_to_list}
use Rattle.std.specs.Str.{bytes_eq}
use Rattle.std.specs.List.Sorted.{IsPermutation}
use Rattle.std.proofs.lemmas.Bool.{false≢true, not-false}
use Rattle.std.proofs.lemmas.List.{append-nil, map-append}
use Rattle.std.proofs.lemmas.List.Sorted.{IsPermutation-trans, IsPermutation-to_front}
use Rattle.std.proofs.lemmas.Option.{none-some}
use Rattle.std.proofs.lemmas.Slice.Eq.{bytes_eq-Decides}
use Rattle.sqlite_keyed.proofs.ListLemmas.{map-map, map_same, IsPermutation-same}
use Rattle.nest_core.specs.Museum.{Museum}
use Rattle.posting_core.specs.declared.message.Message.{Message}
use Rattle.posting_core.specs.declared.message.Message.TheVariants.{Move, Pack, Agree, Authorise}
use Rattle.posting_core.specs.declared.message.Message.TheVariants.{Exit, Return, Receive, SignOff}
use Rattle.posting_core.specs.declared.message.Message.TheVariants.{Extend}
use Rattle.posting_core.specs.declared.verdict.Verdict.TheVariants.{Applied}
use Rattle.posting_core.specs.declared.entry.Entry.{Entry}
use Rattle.posting_core.specs.Agreements.{Agreement, agreement_in, agreements, is_agreed}
use Rattle.posting_core.specs.Agreements.{extension_in, last_from}
use Rattle.posting_core.specs.Lawful.{Follows, IsLawful}
use Rattle.posting_core.specs.VerdictNames.{is_applied}
use Rattle.posting_core.specs.Verdicts.{verdict, extend_rows}
use Rattle.posting_core.proofs.AppliedRows.{none_holds, applied_is}
use Rattle.posting_core.proofs.Agreed.{AreApart, agreements_apart, agree_applied, untouched}
use Rattle.register_store.specs.StoredRows.{TermRow, is_same_loan, rows_of_terms, put, term_in}
use Rattle.register_store.specs.StoredRows.{term_of}
use Rattle.register_store.proofs.PutRows.{IsFree, AreOnce, replaced, put_same, put_new}
use Rattle.register_store.proofs.PutRows.{put_replaces}

abbrev row : List ℕ → ℤ → TermRow
row loan day = record { loan = loan; day = day }

abbrev terms_at : (Agreement → ℤ) → List Agreement → List TermRow
terms_at f ts = map (λ t. row t.loan (f t)) ts

same_apart : (r q s : TermRow) → is_same_loan r q ≡ true → is_same_loan q s ≡ false
    → is_same_loan r s ≡ false
same_apart r q s same apart = subst (λ l. bytes_eq l s.loan ≡ false)
    (sym ((bytes_eq-Decides r.loan q.loan).0 same)) apart

free_of : (f : Agreement → ℤ) (loan : List ℕ) (day : ℤ) (ts : List Agreement)
    → find (λ u. bytes_eq loan u.loan) ts ≡ None
    → IsFree is_same_loan (row loan day) (terms_at f ts)
free_of f loan day [] none = tt
free_of f loan day (t ∷ ts) none =
    elim (bytes_eq loan t.loan) as (λ b. cond b (Some t) (find (λ u. bytes_eq loan u.loan) ts)
    ≡ None → (b ≡ false) × IsFree is_same_loan (row loan day) (terms_at f ts)) [
      | true ↦ λ h. absurd (none-some _ (sym h))
      | false ↦ λ h. (refl, free_of f loan day ts h)
    ] none

once_at : (f : Agreement → ℤ) (ts : List Agreement) → AreApart ts
    → AreOnce is_same_loan (terms_at f ts)
once_at f [] apart = tt
once_at f (t ∷ ts) (other, apart) = (free_of f t.loan (f t) ts other, once_at f ts apart)

has_at : (f : Agreement → ℤ) (loan : List ℕ) (day : ℤ) (ts : List Agreement)
    → is_some (find (λ u. bytes_eq loan u.loan) ts) ≡ true
    → list_any (is_same_loan (row loan day)) (terms_at f ts) ≡ true
has_at f loan day [] there = absurd (false≢true there)
has_at f loan day (t ∷ ts) there =
    elim (bytes_eq loan t.loan) as
    (λ b. is_some (cond b (Some t) (find (λ u. bytes_eq loan u.loan) ts)) ≡ true
    → (b || list_any (is_same_loan (row loan day)) (terms_at f ts)) ≡ true) [
      | true ↦ λ h. refl
      | false ↦ λ h. has_at f loan day ts h
    ] there

one_set : (f : Agreement → ℤ) (loan : List ℕ) (day : ℤ) (t : Agreement)
    → replaced is_same_loan (row loan day) (row t.loan (f t))
    ≡ row t.loan (unwrap_or (if bytes_eq loan t.loan then Some day else None) (f t))
one_set f loan day t = elim (bytes_eq loan t.loan) as (λ b. bytes_eq loan t.loan ≡ b
    → (if b then row loan day else row t.loan (f t))
    ≡ row t.loan (unwrap_or (if b then Some day else None) (f t))) [
      | true ↦ λ e. ap (λ l. row l day) ((bytes_eq-Decides loan t.loan).0 e)
      | false ↦ λ e. refl
    ] refl

-- each loan has one last day
pub terms_once : (S : Museum) (depth : ℕ) (P : List Entry) → IsLawful S depth P
    → AreOnce is_same_loan (rows_of_terms P)
terms_once S depth P lawful = once_at (λ t. last_from P t.loan t.last) (agreements P)
    (agreements_apart S depth P lawful)

-- a loan's last day after a message; the flag is whether the message is applied
abbrev last_after : List Entry → Bool → Message → Agreement → ℤ
last_after P b m t = unwrap_or (if b then extension_in m t.loan else None)
    (last_from P t.loan t.last)

abbrev terms_after : List Entry → Bool → Message → List TermRow
terms_after P b m = terms_at (last_after P b m)
    (agreements P ++ option_to_list (if b then agreement_in m else None))

extended : (S : Museum) (depth : ℕ) (P : List Entry) (loan : List ℕ) (day : ℤ) → IsLawful S depth P
    → not (is_agreed P loan) ≡ false
    → IsPermutation (terms_after P true (Extend day loan))
    (put is_same_loan (row loan day) (rows_of_terms P))
extended S depth P loan day lawful known =
    let f : Agreement → ℤ = λ t. last_from P t.loan t.last in
    let each : map (replaced is_same_loan (row loan day)) (rows_of_terms P)
    ≡ terms_at (last_after P true (Extend day loan)) (agreements P) =
    map-map (replaced is_same_loan (row loan day)) (λ t. row t.loan (f t)) (agreements P)
    ∙ map_same _ _ (one_set f loan day) (agreements P) in
    subst (λ ts. IsPermutation (terms_at (last_after P true (Extend day loan)) ts)
    (put is_same_loan (row loan day) (rows_of_terms P))) (sym (append-nil (agreements P)))
    (subst (λ rows. IsPermutation rows (put is_same_loan (row loan day) (rows_of_terms P))) each
    (put_replaces is_same_loan same_apart (row loan day) (rows_of_terms P)
    (terms_once S depth P lawful) (has_at f loan day (agreements P)
    (not-false (is_agreed P loan) known))))

agreed : (S : Museum) (depth : ℕ) (P : List Entry) (m : Message) (t : Agreement)
    → IsLawful S depth P → verdict S depth P m ≡ Applied → agreement_in m ≡ Some t
    → ((u : Agreement) → extension_in m u.loan ≡ None)
    → IsPermutation (terms_after P true m) (put is_same_loan (row t.loan t.last) (rows_of_terms P))
agreed S depth P m t lawful applied is stays =
    let f : Agreement → ℤ = λ u. last_from P u.loan u.last in
    let new = agree_applied S depth P m t applied is in
    let before = untouched S depth P t.loan lawful new.0 in
    let old : terms_after P true m ≡ terms_at f (agreements P ++ t ∷ []) =
    ap (λ o. terms_at (last_after P true m) (agreements P ++ option_to_list o)) is ∙ map_same _ _
    (λ u. ap (λ (o : Option ℤ). row u.loan (unwrap_or o (f u))) (stays u))
    (agreements P ++ t ∷ []) in
    let whole : terms_after P true m ≡ rows_of_terms P ++ row t.loan t.last ∷ [] =
    old ∙ map-append (λ u. row u.loan (f u)) (agreements P) (t ∷ [])
    ∙ ap (λ day. rows_of_terms P ++ row t.loan day ∷ []) (before.ends t.last) in
    subst (λ rows. IsPermutation rows (put is_same_loan (row t.loan t.last) (rows_of_terms P)))
    (sym whole)
    (subst (λ rows. IsPermutation (rows_of_terms P ++ row t.loan t.last ∷ []) rows)
    (sym (put_new is_same_loan (row t.loan t.last) (rows_of_terms P)
    (free_of f t.loan t.last (agreements P) new.0)))
    (IsPermutation-to_front (rows_of_terms P) (row t.loan t.last)))

-- the rows after a last day is set, if one is
abbrev pub with_term : Option TermRow → List TermRow → List TermRow
with_term o rows = option_map_or (λ t. put is_same_loan t rows) o rows

pub with_term_same : (o : Option TermRow) (a b : List TermRow) → IsPermutation a b
    → IsPermutation (with_term o a) (with_term o b)
with_term_same None a b same = same
with_term_same (Some t) a b same = put_same is_same_loan t a b same

unchanged : (P : List Entry) (b : Bool) (m : Message) → (if b then agreement_in m else None) ≡ None
    → ((u : Agreement) → (if b then extension_in m u.loan else None) ≡ None)
    → IsPermutation (terms_after P b m) (rows_of_terms P)
unchanged P b m none stays =
    IsPermutation-same _ _
    (ap (λ o. terms_at (last_after P b m) (agreements P ++ option_to_list o)) none
    ∙ ap (terms_at (last_after P b m)) (append-nil (agreements P))
    ∙ map_same _ _ (λ u. ap (λ (o : Option ℤ). row u.loan (unwrap_or o (last_from P u.loan u.last)))
    (stays u)) (agreements P))

applied_term : (S : Museum) (depth : ℕ) (P : List Entry) (m : Message) → IsLawful S depth P
    → verdict S depth P m ≡ Applied
    → IsPermutation (terms_after P true m) (with_term (term_in m) (rows_of_terms P))
applied_term S depth P (Move day x p) lawful h = unchanged P true (Move day x p) refl (λ u. refl)
applied_term S depth P (Pack day x c) lawful h = unchanged P true (Pack day x c) refl (λ u. refl)
applied_term S depth P (Agree first final loan partner objects) lawful h =
    agreed S depth P (Agree first final loan partner objects)
    (record { loan = loan; partner = partner; objects = objects; first = first; last = final })
    lawful h refl (λ u. refl)
applied_term S depth P (Authorise name loan) lawful h =
    unchanged P true (Authorise name loan) refl (λ u. refl)
applied_term S depth P (Exit day x loan) lawful h =
    unchanged P true (Exit day x loan) refl (λ u. refl)
applied_term S depth P (Return day x loan p) lawful h =
    unchanged P true (Return day x loan p) refl (λ u. refl)
applied_term S depth P (Receive day x loan p) lawful h =
    unchanged P true (Receive day x loan p) refl (λ u. refl)
applied_term S depth P (SignOff name) lawful h = unchanged P true (SignOff name) refl (λ u. refl)
applied_term S depth P (Extend day loan) lawful h =
    extended S depth P loan day lawful (none_holds (extend_rows P loan day) refl h).0

-- the last days after an entry
pub next_terms : (S : Museum) (depth : ℕ) (P : List Entry) (e : Entry) (terms : List TermRow)
    → Follows S depth P e → IsLawful S depth P → IsPermutation (rows_of_terms P) terms
    → IsPermutation (rows_of_terms (e ∷ P)) (with_term (term_of e) terms)
next_terms S depth P e terms follows lawful same =
    IsPermutation-trans _ _ _
    (elim (is_applied e.verdict) as (λ b. is_applied e.verdict ≡ b
    → IsPermutation (terms_after P b e.message)
    (with_term (if b then term_in e.message else None) (rows_of_terms P))) [
      | true ↦ λ h. applied_term S depth P e.message lawful
          (sym follows.judged ∙ applied_is e.verdict h)
      | false ↦ λ h. unchanged P false e.message refl (λ u. refl)
    ] refl)
    (with_term_same (term_of e) (rows_of_terms P) terms same)
