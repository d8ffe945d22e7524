-- A store has only one list: its rows are numbered, and each row has one entry.
use Rattle.std.proofs.Common.{◌≡◌, ◌⊎◌, inl, inr, ℕ, suc, ◌+◌, ◌≤◌, nat_abs, List, [], ◌∷◌, length}
use Rattle.std.proofs.Common.{get_or, reverse, refl, sym, subst, ap, ◌∙◌, arith}
use Rattle.std.specs.List.{AllByRecursion}
use Rattle.std.specs.List.Sorted.{IsPermutation}
use Rattle.std.proofs.lemmas.List.Elements.{recursion_from_All, All-from_recursion}
use Rattle.std.proofs.lemmas.List.Sorted.{IsPermutation-sym, IsPermutation-trans}
use Rattle.std.proofs.lemmas.List.Sorted.{length_permutation, All-permutation}
use Rattle.std.proofs.lemmas.List.{reverse-reverse}
use Rattle.sqlite_keyed.proofs.ListLemmas.{all_weaker}
use Rattle.posting_core.specs.declared.verdict.Verdict.{Verdict}
use Rattle.posting_core.specs.declared.verdict.Verdict.TheVariants.{Applied, UnknownThing}
use Rattle.posting_core.specs.declared.verdict.Verdict.TheVariants.{UnknownPlace, ElsewherePlace}
use Rattle.posting_core.specs.declared.verdict.Verdict.TheVariants.{UnknownContainer, UnknownLoan}
use Rattle.posting_core.specs.declared.verdict.Verdict.TheVariants.{LoanKnown, InsidePartner}
use Rattle.posting_core.specs.declared.verdict.Verdict.TheVariants.{NoObjects, NotObject, Repeated}
use Rattle.posting_core.specs.declared.verdict.Verdict.TheVariants.{WrongOwner, BadTerm}
use Rattle.posting_core.specs.declared.verdict.Verdict.TheVariants.{AlreadyAuthorised}
use Rattle.posting_core.specs.declared.verdict.Verdict.TheVariants.{NotAuthorised, WrongDirection}
use Rattle.posting_core.specs.declared.verdict.Verdict.TheVariants.{NotHere, ContainerNotHere}
use Rattle.posting_core.specs.declared.verdict.Verdict.TheVariants.{Cycle, TooDeep, NotWithPartner}
use Rattle.posting_core.specs.declared.verdict.Verdict.TheVariants.{AlreadyHere, NotListed}
use Rattle.posting_core.specs.declared.verdict.Verdict.TheVariants.{WrongStage, TermOver, NotLater}
use Rattle.posting_core.specs.declared.entry.Entry.{Entry}
use Rattle.posting_core.specs.VerdictNames.{verdict_number}
use Rattle.register_store.specs.StoredRows.{Content, PostingRow, SetupRow, numbered, IsPostingRow}
use Rattle.register_store.specs.StoredRows.{ArePostings, HasList}
use Rattle.register_store.proofs.RoundTrip.{one_message}

module _ {X : Type 0} (number : X → ℕ) where
  -- numbered from 1, last first
  abbrev IsNumbered : List X → Type 0
  IsNumbered [] = Unit {0}
  IsNumbered (x ∷ xs) = (number x ≡ length xs + 1) × IsNumbered xs

  abbrev IsIn : List X → X → Type 0
  IsIn [] x = ⊥
  IsIn (y ∷ ys) x = (x ≡ y) ⊎ IsIn ys x

  in_itself : (xs : List X) → AllByRecursion (IsIn xs) xs
  in_itself [] = tt
  in_itself (x ∷ xs) =
      (inl refl, all_weaker (IsIn xs) (IsIn (x ∷ xs)) (λ y h. inr h) xs (in_itself xs))

  low : (xs : List X) → IsNumbered xs → (x : X) → IsIn xs x → number x ≤ length xs
  low [] h x i = absurd i
  low (y ∷ ys) h x (inl e) = let same = ap number e in let top = h.0 in omega arith
  low (y ∷ ys) h x (inr i) = let below = low ys h.1 x i in omega arith

  -- the first element isn't among the others
  rest : (y : X) (ys zs : List X) (n : ℕ) → number y ≡ n + 1 → ((z : X) → IsIn zs z → number z ≤ n)
      → AllByRecursion (IsIn (y ∷ ys)) zs → AllByRecursion (IsIn ys) zs
  rest y ys [] n top below all = tt
  rest y ys (z ∷ zs) n top below all =
      (one z (below z (inl refl)) all.0, rest y ys zs n top (λ w i. below w (inr i)) all.1)
    where
      one : (z : X) → number z ≤ n → IsIn (y ∷ ys) z → IsIn ys z
      one z less (inl e) = let same = ap number e in absurd (omega arith)
      one z less (inr i) = i

  once : (xs ys : List X) → IsNumbered xs → IsNumbered ys → length xs ≡ length ys
      → AllByRecursion (IsIn ys) xs → xs ≡ ys
  once [] [] h k same all = refl
  once [] (y ∷ ys) h k same all = absurd (omega arith)
  once (x ∷ xs) [] h k same all = absurd (omega arith)
  once (x ∷ xs) (y ∷ ys) h k same all =
      let first : x ≡ y = head all.0 in
      let under : AllByRecursion (IsIn ys) xs =
      rest y ys xs (length xs) (k.0 ∙ omega arith) (low xs h.1) all.1 in
      ap (λ z. z ∷ xs) first ∙ ap (λ l. y ∷ l) (once xs ys h.1 k.1 (omega arith) under)
    where
      head : IsIn (y ∷ ys) x → x ≡ y
      head (inl e) = e
      head (inr i) = let below = low ys k.1 x i in let top = h.0 in absurd (omega arith)

  -- of the orders of numbered elements, only one is that of their numbers
  pub one_order : (xs ys : List X) → IsNumbered xs → IsNumbered ys → IsPermutation xs ys → xs ≡ ys
  one_order xs ys h k same =
      once xs ys h k (sym (length_permutation xs ys same))
      (recursion_from_All (IsIn ys) xs
      (All-permutation (IsIn ys) ys xs (IsPermutation-sym xs ys same)
      (All-from_recursion (IsIn ys) ys (in_itself ys))))

texts_numbered : (texts : List (List ℕ))
    → IsNumbered (λ (r : SetupRow). nat_abs r.id) (numbered texts)
texts_numbered [] = tt
texts_numbered (text ∷ texts) = (ap (λ n. n + 1) (sym (as_long texts)), texts_numbered texts)
  where
    as_long : (texts : List (List ℕ)) → length (numbered texts) ≡ length texts
    as_long [] = refl
    as_long (t ∷ ts) = ap suc (as_long ts)

texts_of : (a b : List (List ℕ)) → numbered a ≡ numbered b → a ≡ b
texts_of a b same = sym (back a) ∙ ap texts same ∙ back b
  where
    texts : List SetupRow → List (List ℕ)
    texts [] = []
    texts (r ∷ rs) = r.text ∷ texts rs

    back : (a : List (List ℕ)) → texts (numbered a) ≡ a
    back [] = refl
    back (t ∷ ts) = ap (λ l. t ∷ l) (back ts)

-- texts by their numbers
pub one_setup : (a b : List (List ℕ))
    → IsPermutation (numbered (reverse a)) (numbered (reverse b)) → a ≡ b
one_setup a b same =
    let turned = texts_of (reverse a) (reverse b)
    (one_order (λ (r : SetupRow). nat_abs r.id) _ _ (texts_numbered (reverse a))
    (texts_numbered (reverse b)) same) in
    sym (reverse-reverse a) ∙ ap reverse turned ∙ reverse-reverse b

pub as_many : (P : List Entry) (rows : List PostingRow) → ArePostings P rows
    → length P ≡ length rows
as_many [] [] h = refl
as_many [] (row ∷ rows) h = absurd h
as_many (e ∷ P) [] h = absurd h
as_many (e ∷ P) (row ∷ rows) h = ap suc (as_many P rows h.1)

rows_numbered : (P : List Entry) (rows : List PostingRow) → ArePostings P rows
    → IsNumbered (λ (r : PostingRow). nat_abs r.id) rows
rows_numbered [] [] h = tt
rows_numbered [] (row ∷ rows) h = absurd h
rows_numbered (e ∷ P) [] h = absurd h
rows_numbered (e ∷ P) (row ∷ rows) h =
    (ap nat_abs h.0.id ∙ ap (λ n. n + 1) (as_many P rows h.1), rows_numbered P rows h.1)

abbrev pub all_verdicts : List Verdict
all_verdicts = Applied ∷ UnknownThing ∷ UnknownPlace ∷ ElsewherePlace ∷ UnknownContainer
    ∷ UnknownLoan ∷ LoanKnown ∷ InsidePartner ∷ NoObjects ∷ NotObject ∷ Repeated
    ∷ WrongOwner ∷ BadTerm
    ∷ AlreadyAuthorised ∷ NotAuthorised ∷ WrongDirection ∷ NotHere ∷ ContainerNotHere ∷ Cycle
    ∷ TooDeep ∷ NotWithPartner ∷ AlreadyHere ∷ NotListed ∷ WrongStage ∷ TermOver ∷ NotLater ∷ []

pub of_number : (v : Verdict) → get_or all_verdicts (verdict_number v) Applied ≡ v
of_number v = elim v as (λ v. get_or all_verdicts (verdict_number v) Applied ≡ v) [
  | Applied ↦ refl
  | UnknownThing ↦ refl
  | UnknownPlace ↦ refl
  | ElsewherePlace ↦ refl
  | UnknownContainer ↦ refl
  | UnknownLoan ↦ refl
  | LoanKnown ↦ refl
  | InsidePartner ↦ refl
  | NoObjects ↦ refl
  | NotObject ↦ refl
  | Repeated ↦ refl
  | WrongOwner ↦ refl
  | BadTerm ↦ refl
  | AlreadyAuthorised ↦ refl
  | NotAuthorised ↦ refl
  | WrongDirection ↦ refl
  | NotHere ↦ refl
  | ContainerNotHere ↦ refl
  | Cycle ↦ refl
  | TooDeep ↦ refl
  | NotWithPartner ↦ refl
  | AlreadyHere ↦ refl
  | NotListed ↦ refl
  | WrongStage ↦ refl
  | TermOver ↦ refl
  | NotLater ↦ refl
]

one_verdict : (v w : Verdict) → verdict_number v ≡ verdict_number w → v ≡ w
one_verdict v w same = sym (of_number v) ∙ ap (λ n. get_or all_verdicts n Applied) same
    ∙ of_number w

pub one_entry : (number : ℕ) (e f : Entry) (row : PostingRow) → IsPostingRow number e row
    → IsPostingRow number f row → e ≡ f
one_entry number e f row h k =
    let station : e.station ≡ f.station = ap nat_abs (sym h.station ∙ k.station) in
    let n : e.n ≡ f.n = ap nat_abs (sym h.n ∙ k.n) in
    let message : e.message ≡ f.message =
    one_message e.message f.message row.body h.reads_back k.reads_back in
    let verdict : e.verdict ≡ f.verdict =
    one_verdict e.verdict f.verdict (ap nat_abs (sym h.verdict ∙ k.verdict)) in
    ap (λ s. let x : Entry = record {
      station = s;
      n = e.n;
      message = e.message;
      verdict = e.verdict;
    } in x) station
    ∙ ap (λ j. let x : Entry = record {
      station = f.station;
      n = j;
      message = e.message;
      verdict = e.verdict;
    } in x) n
    ∙ ap (λ m. let x : Entry = record {
      station = f.station;
      n = f.n;
      message = m;
      verdict = e.verdict;
    } in x) message
    ∙ ap (λ v. let x : Entry = record {
      station = f.station;
      n = f.n;
      message = f.message;
      verdict = v;
    } in x) verdict

same_entries : (P Q : List Entry) (rows : List PostingRow) → ArePostings P rows
    → ArePostings Q rows → P ≡ Q
same_entries [] [] [] h k = refl
same_entries [] (f ∷ Q) [] h k = absurd k
same_entries (e ∷ P) Q [] h k = absurd h
same_entries [] Q (row ∷ rows) h k = absurd h
same_entries (e ∷ P) [] (row ∷ rows) h k = absurd k
same_entries (e ∷ P) (f ∷ Q) (row ∷ rows) h k =
    let before = same_entries P Q rows h.1 k.1 in
    ap (λ x. x ∷ P) (one_entry (length P + 1) e f row h.0
    (subst (λ (l : List Entry). IsPostingRow (length l + 1) f row) (sym before) k.0))
    ∙ ap (λ l. f ∷ l) before

-- two lists of one store are the same
pub one_list : (P Q : List Entry) (c : Content) → HasList P c → HasList Q c → P ≡ Q
one_list P Q c h k =
    let same : IsPermutation h.rows k.rows =
    IsPermutation-trans _ _ _ h.all (IsPermutation-sym _ _ k.all) in
    let rows : h.rows ≡ k.rows = one_order (λ (r : PostingRow). nat_abs r.id) h.rows k.rows
    (rows_numbered P h.rows h.each) (rows_numbered Q k.rows k.each) same in
    same_entries P Q k.rows (subst (ArePostings P) rows h.each) k.each
