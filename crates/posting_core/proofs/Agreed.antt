-- The agreements of a lawful list: each loan once, of known objects, with a known partner; and
-- entries that change nothing of a loan.
use Rattle.std.specs.Prelude.{ℕ, ℤ, ◌≡◌, Bool, true, false, not, cond, List, [], ◌∷◌, ◌++◌, Option}
use Rattle.std.specs.Prelude.{None, Some, refl, is_some, if◌then◌else◌}
use Rattle.std.specs.List.{find, list_any, AllByRecursion}
use Rattle.std.specs.Option.{option_or, option_to_list}
use Rattle.std.specs.Str.{bytes_eq}
use Rattle.std.proofs.Common.{ap, ◌∙◌, sym, subst, rules}
use Rattle.std.proofs.lemmas.Bool.Decides.{same_from_decides}
use Rattle.std.proofs.lemmas.List.{append-nil}
use Rattle.std.proofs.lemmas.List.Folds.{find-append}
use Rattle.std.proofs.lemmas.Option.{none-some, same_Some}
use Rattle.std.proofs.lemmas.Slice.Eq.{bytes_eq-Decides}
use Rattle.nest_core.specs.Museum.{Museum, is_inside}
use Rattle.posting_core.specs.declared.message.Message.{Message}
use Rattle.posting_core.specs.declared.message.Message.TheVariants.{Move, Pack, Agree, Authorise}
use Rattle.posting_core.specs.declared.message.Message.TheVariants.{Exit, Return, Receive, SignOff}
use Rattle.posting_core.specs.declared.message.Message.TheVariants.{Extend}
use Rattle.posting_core.specs.declared.verdict.Verdict.TheVariants.{Applied}
use Rattle.posting_core.specs.declared.entry.Entry.{Entry}
use Rattle.posting_core.specs.declared.stage.LineStage.TheVariants.{Awaiting}
use Rattle.posting_core.specs.VerdictNames.{is_applied}
use Rattle.posting_core.specs.Messages.{place_no}
use Rattle.posting_core.specs.Agreements.{Agreement, agreement_in, agreement_by, agreements}
use Rattle.posting_core.specs.Agreements.{agreement, is_agreed, authorises, is_authorised}
use Rattle.posting_core.specs.Agreements.{extension_in, last_from}
use Rattle.posting_core.specs.Loans.{stage_by, stage}
use Rattle.posting_core.specs.Verdicts.{verdict, is_known, is_known_place, is_container_code}
use Rattle.posting_core.specs.Verdicts.{is_of_wrong_owner, repeats, agree_rows, authorise_rows}
use Rattle.posting_core.specs.Verdicts.{exit_rows, return_rows, receive_rows, extend_rows}
use Rattle.posting_core.specs.Lawful.{IsLawful}
use Rattle.posting_core.proofs.AppliedRows.{none_holds, applied_is}
use Rattle.posting_core.proofs.Known.{all_known_in, place_known_in}

-- two spellings compare the same either way
pub bytes_eq-sym : (a b : List ℕ) → bytes_eq a b ≡ bytes_eq b a
bytes_eq-sym a b =
    let d = bytes_eq-Decides b a in
    same_from_decides (bytes_eq a b) (bytes_eq b a) (bytes_eq-Decides a b) (
      λ e. sym (d.0 e),
      λ e. d.1 (sym e),
    )

pub apart_sym : (a b : List ℕ) → bytes_eq a b ≡ false → bytes_eq b a ≡ false
apart_sym a b apart = bytes_eq-sym b a ∙ apart

-- an agreement of a loan keeps to the rules
pub record IsSound (S : Museum) (t : Agreement) : Type 0 where
  pub known : list_any (λ x. not (is_known S x)) t.objects ≡ false
  pub partner : is_known_place S t.partner ≡ true
  pub elsewhere : is_inside S (place_no S t.partner) ≡ false
  pub objects : list_any is_container_code t.objects ≡ false
  pub once : repeats t.objects ≡ false
  pub owned : list_any (is_of_wrong_owner t.loan) t.objects ≡ false

-- an applied agreement is of a new loan, and keeps to the rules
pub agree_applied : (S : Museum) (depth : ℕ) (P : List Entry) (m : Message) (t : Agreement)
    → verdict S depth P m ≡ Applied → agreement_in m ≡ Some t → (agreement P t.loan ≡ None)
    × IsSound S t
agree_applied S depth P (Agree first last loan partner objects) t applied is =
    let none = none_holds (agree_rows S P loan partner objects first last) refl applied in
    let new : agreement P loan ≡ None = let agreed : is_some (agreement P loan) ≡ false =
    none.1.1.0 in search rules in
    subst (λ u. (agreement P u.loan ≡ None) × IsSound S u) (same_Some _ _ is) (
      new,
      record {
        known = all_known_in S P objects none.0;
        partner = place_known_in S P partner none.1.0;
        elsewhere = none.1.1.1.0;
        objects = none.1.1.1.1.1.0;
        once = none.1.1.1.1.1.1.0;
        owned = none.1.1.1.1.1.1.1.0;
      },
    )
agree_applied S depth P _ t applied is = absurd (none-some _ is)

-- each agreement keeps to the rules
not_found_before : (loan : List ℕ) (ts : List Agreement) (o : Option Agreement)
    → find (λ t. bytes_eq loan t.loan) (ts ++ option_to_list o) ≡ None
    → find (λ t. bytes_eq loan t.loan) ts ≡ None
not_found_before loan ts o none =
    first (find (λ t. bytes_eq loan t.loan) ts)
    (find (λ t. bytes_eq loan t.loan) (option_to_list o))
    (sym (find-append (λ (t : Agreement). bytes_eq loan t.loan) ts (option_to_list o)) ∙ none)
  where
    first : (a b : Option Agreement) → option_or a b ≡ None → a ≡ None
    first None b h = refl
    first (Some u) b h = h

all_append : (Q : Agreement → Type 0) (ts us : List Agreement) → AllByRecursion Q ts
    → AllByRecursion Q us → AllByRecursion Q (ts ++ us)
all_append Q [] us here there = there
all_append Q (t ∷ ts) us (q, here) there = (q, all_append Q ts us here there)

pub agreements_sound : (S : Museum) (depth : ℕ) (P : List Entry) → IsLawful S depth P
    → AllByRecursion (IsSound S) (agreements P)
agreements_sound S depth [] lawful = tt
agreements_sound S depth (e ∷ P) (follows, lawful) =
    all_append (IsSound S) (agreements P) (option_to_list (agreement_by e.verdict e.message))
    (agreements_sound S depth P lawful)
    (elim (is_applied e.verdict) as (λ b. is_applied e.verdict ≡ b
    → AllByRecursion (IsSound S) (option_to_list (if b then agreement_in e.message else None))) [
      | true ↦ λ h. new (agreement_in e.message)
          (λ t is. (agree_applied S depth P e.message t
          (sym follows.judged ∙ applied_is e.verdict h) is).1)
      | false ↦ λ h. tt
    ] refl)
  where
    new : (o : Option Agreement) → ((t : Agreement) → o ≡ Some t → IsSound S t)
        → AllByRecursion (IsSound S) (option_to_list o)
    new None sound = tt
    new (Some t) sound = (sound t refl, tt)

-- the agreement that is found is the loan's, and keeps to the rules
pub found_is : (loan : List ℕ) (ts : List Agreement) (t : Agreement)
    → find (λ u. bytes_eq loan u.loan) ts ≡ Some t → loan ≡ t.loan
found_is loan [] t e = absurd (none-some _ e)
found_is loan (u ∷ ts) t e = elim (bytes_eq loan u.loan) as (λ b. bytes_eq loan u.loan ≡ b
    → cond b (Some u) (find (λ v. bytes_eq loan v.loan) ts) ≡ Some t → loan ≡ t.loan) [
      | true ↦ λ h k. (bytes_eq-Decides loan u.loan).0 h
          ∙ (let same : u ≡ t = cc in ap (λ v. v.loan) same)
      | false ↦ λ h k. found_is loan ts t k
    ] refl e

found_holds : (Q : Agreement → Type 0) (p : Agreement → Bool) (ts : List Agreement) (t : Agreement)
    → AllByRecursion Q ts → find p ts ≡ Some t → Q t
found_holds Q p [] t all e = absurd (none-some _ e)
found_holds Q p (u ∷ ts) t (q, all) e =
    elim (p u) as (λ b. cond b (Some u) (find p ts) ≡ Some t → Q t) [
      | true ↦ λ k. let same : u ≡ t = cc in subst Q same q
      | false ↦ λ k. found_holds Q p ts t all k
    ] e

pub agreement_sound : (S : Museum) (depth : ℕ) (P : List Entry) (loan : List ℕ) (t : Agreement)
    → IsLawful S depth P → agreement P loan ≡ Some t → IsSound S t
agreement_sound S depth P loan t lawful found =
    found_holds (IsSound S) (λ u. bytes_eq loan u.loan) (agreements P) t
    (agreements_sound S depth P lawful) found

-- each loan is agreed once
abbrev pub AreApart : List Agreement → Type 0
AreApart [] = Unit {0}
AreApart (t ∷ ts) = (find (λ u. bytes_eq t.loan u.loan) ts ≡ None) × AreApart ts

missed : (t : Agreement) (u : Agreement) (ts : List Agreement)
    → find (λ v. bytes_eq t.loan v.loan) (u ∷ ts) ≡ None → (bytes_eq t.loan u.loan ≡ false)
    × (find (λ v. bytes_eq t.loan v.loan) ts ≡ None)
missed t u ts none = elim (bytes_eq t.loan u.loan) as
    (λ b. cond b (Some u) (find (λ v. bytes_eq t.loan v.loan) ts) ≡ None
    → (b ≡ false) × (find (λ v. bytes_eq t.loan v.loan) ts ≡ None)) [
      | true ↦ λ k. absurd (let some : Some u ≡ None = k in cc)
      | false ↦ λ k. (refl, k)
    ] none

apart_append : (ts : List Agreement) (t : Agreement) → AreApart ts
    → find (λ u. bytes_eq t.loan u.loan) ts ≡ None → AreApart (ts ++ t ∷ [])
apart_append [] t apart new = (refl, tt)
apart_append (u ∷ ts) t (other, apart) new =
    let both = missed t u ts new in
    let last : find (λ v. bytes_eq u.loan v.loan) (t ∷ []) ≡ None =
    rw (apart_sym t.loan u.loan both.0) refl in (
      find-append (λ (v : Agreement). bytes_eq u.loan v.loan) ts (t ∷ []) ∙ rw (other, last) refl,
      apart_append ts t apart both.1,
    )

pub agreements_apart : (S : Museum) (depth : ℕ) (P : List Entry) → IsLawful S depth P
    → AreApart (agreements P)
agreements_apart S depth [] lawful = tt
agreements_apart S depth (e ∷ P) (follows, lawful) =
    let before = agreements_apart S depth P lawful in
    elim (is_applied e.verdict) as (λ b. is_applied e.verdict ≡ b
    → AreApart (agreements P ++ option_to_list (if b then agreement_in e.message else None))) [
      | true ↦ λ h. new before (agreement_in e.message)
          (λ t is. (agree_applied S depth P e.message t
          (sym follows.judged ∙ applied_is e.verdict h) is).0)
      | false ↦ λ h. subst AreApart (sym (append-nil (agreements P))) before
    ] refl
  where
    new : AreApart (agreements P) → (o : Option Agreement)
        → ((t : Agreement) → o ≡ Some t → agreement P t.loan ≡ None)
        → AreApart (agreements P ++ option_to_list o)
    new before None unknown = subst AreApart (sym (append-nil (agreements P))) before
    new before (Some t) unknown = apart_append (agreements P) t before (unknown t refl)

-- the message is about the loan, which must already be agreed
abbrev pub names : Message → List ℕ → Bool
names (Authorise name l) loan = bytes_eq l loan
names (Exit day x l) loan = bytes_eq l loan
names (Return day x l p) loan = bytes_eq l loan
names (Receive day x l p) loan = bytes_eq l loan
names (Extend last l) loan = bytes_eq l loan
names _ loan = false

apart_from : (P : List Entry) (l loan : List ℕ) → not (is_agreed P l) ≡ false
    → agreement P loan ≡ None → bytes_eq l loan ≡ false
apart_from P l loan agreed none = elim (bytes_eq l loan) as (λ b. bytes_eq l loan ≡ b → b ≡ false) [
  | true ↦ λ e. let same : l ≡ loan = (bytes_eq-Decides l loan).0 e in
      absurd (let gone : not (is_agreed P l) ≡ true = ap (λ k. not (is_agreed P k)) same
      ∙ ap (λ o. not (is_some o)) none in cc)
  | false ↦ λ e. refl
] refl

-- an applied message that names a loan finds it agreed
named_agreed : (S : Museum) (depth : ℕ) (P : List Entry) (m : Message) (loan : List ℕ)
    → verdict S depth P m ≡ Applied → agreement P loan ≡ None → names m loan ≡ false
named_agreed S depth P (Authorise name l) loan applied none =
    apart_from P l loan (none_holds (authorise_rows P l) refl applied).0 none
named_agreed S depth P (Exit day x l) loan applied none =
    apart_from P l loan (none_holds (exit_rows S P x l day) refl applied).1.0 none
named_agreed S depth P (Return day x l p) loan applied none =
    apart_from P l loan (none_holds (return_rows S P x l p) refl applied).1.1.1.0 none
named_agreed S depth P (Receive day x l p) loan applied none =
    apart_from P l loan (none_holds (receive_rows S P x l p day) refl applied).1.1.1.0 none
named_agreed S depth P (Extend last l) loan applied none =
    apart_from P l loan (none_holds (extend_rows P l last) refl applied).0 none
named_agreed S depth P (Move day x p) loan applied none = refl
named_agreed S depth P (Pack day x c) loan applied none = refl
named_agreed S depth P (Agree first last l partner objects) loan applied none = refl
named_agreed S depth P (SignOff name) loan applied none = refl

-- a message changes nothing of a loan that it doesn't name
unnamed : (S : Museum) (P : List Entry) (m : Message) (loan : List ℕ) → names m loan ≡ false
    → ((o : ℕ) → stage_by S P m loan o ≡ None) × (extension_in m loan ≡ None)
    × (authorises m loan ≡ false)
unnamed S P (Move day x p) loan other = (λ o. refl, refl, refl)
unnamed S P (Pack day x c) loan other = (λ o. refl, refl, refl)
unnamed S P (Agree first last l partner objects) loan other = (λ o. refl, refl, refl)
unnamed S P (Authorise name l) loan other = (λ o. refl, refl, other)
unnamed S P (Exit day x l) loan other = (λ o. rw other refl, refl, refl)
unnamed S P (Return day x l p) loan other = (λ o. rw other refl, refl, refl)
unnamed S P (Receive day x l p) loan other = (λ o. rw other refl, refl, refl)
unnamed S P (SignOff name) loan other = (λ o. refl, refl, refl)
unnamed S P (Extend last l) loan other = (λ o. refl, rw other refl, refl)

-- a loan that isn't agreed has no crossing, no authorisation and no extension
pub record IsUntouched (S : Museum) (P : List Entry) (loan : List ℕ) : Type 0 where
  pub awaited : (o : ℕ) → stage S P loan o ≡ Awaiting
  pub ends : (day : ℤ) → last_from P loan day ≡ day
  pub draft : is_authorised P loan ≡ false

pub untouched : (S : Museum) (depth : ℕ) (P : List Entry) (loan : List ℕ) → IsLawful S depth P
    → agreement P loan ≡ None → IsUntouched S P loan
untouched S depth [] loan lawful none =
    record { awaited = λ o. refl; ends = λ day. refl; draft = refl }
untouched S depth (e ∷ P) loan (follows, lawful) none =
    let none' = not_found_before loan (agreements P) (agreement_by e.verdict e.message) none in
    let before = untouched S depth P loan lawful none' in
    elim (is_applied e.verdict) as (λ b. is_applied e.verdict ≡ b → IsUntouched S (e ∷ P) loan) [
      | true ↦ λ h.
          let left = unnamed S P e.message loan
          (named_agreed S depth P e.message loan
          (sym follows.judged ∙ applied_is e.verdict h) none') in
          record {
            awaited = λ o. rw (h, left.0 o) (before.awaited o);
            ends = λ day. rw (h, left.1) (before.ends day);
            draft = rw (h, left.2) before.draft;
          }
      | false ↦ λ h. record {
        awaited = λ o. rw h (before.awaited o);
        ends = λ day. rw h (before.ends day);
        draft = rw h before.draft;
      }
    ] refl
