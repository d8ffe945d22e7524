-- The bytes written so far.
use Rattle.std.proofs.Common.{◌≡◌, ℕ, ◌+◌, ◌-◌, ◌≤◌, List, ◌++◌, length, take, drop, Option, None}
use Rattle.std.proofs.Common.{Some, Result, arith, ap, ◌∙◌, sym, subst}
use Rattle.std.proofs.Math.Seq.{take-add}
use Rattle.std.proofs.lemmas.List.{length-drop}
use Rattle.std.specs.Result.{OnErr, OnOk, IfErr, IsErrAnd}
use Rattle.std.proofs.Common.{Ok, Err}
use Rattle.std.specs.Io.KnownBytes.{Appends, Keeps}
use Rattle.std.proofs.KnownBytes.{Appends-trans}
use Rattle.codes_core.proofs.Parts.{all_taken}

pub on_err : {T E P : Type 0} (r : Result T E) → P → OnErr r P
on_err (Ok x) p = tt
on_err (Err e) p = p

-- the only error, passed on by a call
pub if_err : {T E : Type 0} → (r : Result T E) (P : E → Type 0) (x : E) → IsErrAnd r (λ y. y ≡ x)
    → P x → IfErr r P
if_err (Ok v) P x is p = tt
if_err (Err y) P x is p = subst P (sym is) p

pub appends_kept : (a b c : Option (List ℕ)) (bs : List ℕ) → Appends a b bs → Keeps b c
    → Appends a c bs
appends_kept None b c bs p q = tt
appends_kept (Some x) None c bs p q = absurd p
appends_kept (Some x) (Some y) None bs p q = absurd q
appends_kept (Some x) (Some y) (Some z) bs p q = q ∙ p

pub kept_appends : (a b c : Option (List ℕ)) (bs : List ℕ) → Keeps a b → Appends b c bs
    → Appends a c bs
kept_appends None b c bs p q = tt
kept_appends (Some x) None c bs p q = absurd p
kept_appends (Some x) (Some y) None bs p q = absurd q
kept_appends (Some x) (Some y) (Some z) bs p q = q ∙ ap (λ (l : List ℕ). l ++ bs) p

pub rest_bound : (text : List ℕ) (m n : ℕ) → m ≤ length text
    → n ≤ length (take (length text - m) (drop m text)) → m + n ≤ length text
rest_bound text m n within few =
    let e = ap length (all_taken m text) in
    let d = length-drop m text in
    omega (arith, e, d, few, within)

-- n more bytes of the text
pub more_taken : (a b c : Option (List ℕ)) (text : List ℕ) (m n : ℕ) → Appends a b (take m text)
    → Appends b c (take n (take (length text - m) (drop m text))) → Appends a c (take (m + n) text)
more_taken a b c text m n p q =
    let r : Appends b c (take n (drop m text)) =
    subst (λ (l : List ℕ). Appends b c (take n l)) (all_taken m text) q in
    subst (Appends a c) (sym (take-add m n text))
    (Appends-trans a b c (take m text) (take n (drop m text)) p r)

pub if_cause : {T E : Type 0} → (r : Result T E) (P : E → Type 0) (x : E) → IfErr r (λ y. y ≡ x)
    → P x → IfErr r P
if_cause (Ok v) P x is p = tt
if_cause (Err y) P x is p = subst P (sym is) p

pub if_ok : {T E : Type 0} → (r : Result T E) (P : Type 0) → P → OnOk r P
if_ok (Ok x) P p = p
if_ok (Err e) P p = tt
