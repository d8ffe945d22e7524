-- What is written of a text before and after a fault.
use Rattle.std.proofs.Common.{◌≡◌, ℕ, ◌+◌, ◌-◌, ◌≤◌, List, ◌++◌, [], ◌∷◌, length, take, drop}
use Rattle.std.proofs.Common.{Option, None, Some, Result, Ok, Err, arith, ap, ◌∙◌, sym, subst, refl}
use Rattle.std.proofs.Common.{zero, suc, add-one}
use Rattle.std.specs.Prelude.{IsTrue}
use Rattle.std.proofs.Math.Seq.{take-add}
use Rattle.std.proofs.lemmas.List.{length-drop, take-append-drop, take_all}
use Rattle.std.proofs.lemmas.Grind.{flat_map-append}
use Rattle.std.specs.Io.KnownBytes.{Appends, Keeps}
use Rattle.std.proofs.KnownBytes.{Appends-trans}
use Rattle.std.specs.List.{flat_map, slice_get}
use Rattle.std.specs.Option.{option_to_list}
use Rattle.std.specs.Result.{IsErrAnd}
use Rattle.codes_core.proofs.Parts.{all_taken}
use Rattle.reports.specs.declared.fault.PrintFault.{PrintFault}
use Rattle.reports.specs.declared.fault.PrintFault.TheVariants.{NoMemory, WriteFailed}
use Rattle.reports.specs.Forms.{Prints, Stops, can_end, ends_line}
use Rattle.reports.specs.Writing as writing

pub appends_kept : (a b c : Option (List ℕ)) (bs : List ℕ) → Appends a b bs → Keeps b c
    → Appends a c bs
appends_kept None b c bs p q = tt
appends_kept (Some x) None c bs p q = absurd p
appends_kept (Some x) (Some y) None bs p q = absurd q
appends_kept (Some x) (Some y) (Some z) bs p q = q ∙ p

pub rest_bound : (text : List ℕ) (m n : ℕ) → m ≤ length text → n
    ≤ length (take (length text - m) (drop m text)) → m + n ≤ length text
rest_bound text m n within few =
    let e = ap length (all_taken m text) in
    let d = length-drop m text in
    omega (arith, e, d, few, within)

-- After m bytes of the text, n more are written.
pub more_taken : (a b c : Option (List ℕ)) (text : List ℕ) (m n : ℕ) → Appends a b (take m text)
    → Appends b c (take n (take (length text - m) (drop m text))) → Appends a c (take (m + n) text)
more_taken a b c text m n p q =
    let r : Appends b c (take n (drop m text)) =
    subst (λ (l : List ℕ). Appends b c (take n l)) (all_taken m text) q in
    subst (Appends a c) (sym (take-add m n text))
    (Appends-trans a b c (take m text) (take n (drop m text)) p r)

-- A prefix of s is a prefix of s ++ t.
pub front_of : (k : ℕ) (s t : List ℕ) → (j : ℕ) × (take j (s ++ t) ≡ take k s)
front_of zero s t = (zero, refl)
front_of (suc k) [] t = (zero, refl)
front_of (suc k) (x ∷ s) t = let r = front_of k s t in (suc r.0, ap (λ l. x ∷ l) r.1)

-- Text s with a prefix of t is a prefix of s ++ t.
pub past_of : (k : ℕ) (s t : List ℕ) → (j : ℕ) × (take j (s ++ t) ≡ s ++ take k t)
past_of k [] t = (k, refl)
past_of k (x ∷ s) t = let r = past_of k s t in (suc r.0, ap (λ l. x ∷ l) r.1)

-- If two texts end with a line feed or are empty, so does the first with the second after it.
pub ends_line-append : (s t : List ℕ) → IsTrue (ends_line s) → IsTrue (ends_line t)
    → IsTrue (ends_line (s ++ t))
ends_line-append [] t p q = q
ends_line-append (b ∷ []) [] p q = p
ends_line-append (b ∷ []) (c ∷ t) p q = q
ends_line-append (b ∷ c ∷ s) t p q = ends_line-append (c ∷ s) t p q

-- The same for the texts of a list.
pub lines_end : {X : Type 0} (text : X → List ℕ) → ((x : X) → IsTrue (ends_line (text x)))
    → (xs : List X) → IsTrue (ends_line (flat_map text xs))
lines_end text ends [] = refl
lines_end text ends (x ∷ xs) =
    ends_line-append (text x) (flat_map text xs) (ends x) (lines_end text ends xs)

-- Both faults can come after whole lines.
can_end-lines : (fault : PrintFault) (s : List ℕ) → IsTrue (ends_line s) → IsTrue (can_end fault s)
can_end-lines NoMemory s p = p
can_end-lines WriteFailed s p = refl

can_end-append : (fault : PrintFault) (s t : List ℕ) → IsTrue (ends_line s)
    → IsTrue (can_end fault t) → IsTrue (can_end fault (s ++ t))
can_end-append NoMemory s t p q = ends_line-append s t p q
can_end-append WriteFailed s t p q = refl

-- If a prefix of s is written, it is also a prefix of s ++ t.
pub stops_longer : (a b : Option (List ℕ)) (fault : PrintFault) (s t : List ℕ) → Stops a b fault s
    → Stops a b fault (s ++ t)
stops_longer a b fault s t p =
    let r = front_of p.0 s t in (
      r.0,
      subst (λ l. IsTrue (can_end fault l)) (sym r.1) p.1,
      subst (Appends a b) (sym r.1) p.2,
    )

-- The fault comes after s, which consists of whole lines.
pub stops_after : (a b : Option (List ℕ)) (fault : PrintFault) (s t : List ℕ)
    → IsTrue (ends_line s) → Appends a b s → Stops a b fault (s ++ t)
stops_after a b fault s t ends p =
    let all = take_all (length s) s (omega arith) in
    stops_longer a b fault s t (
      length s,
      subst (λ l. IsTrue (can_end fault l)) (sym all) (can_end-lines fault s ends),
      subst (Appends a b) (sym all) p,
    )

-- The fault comes in t, after s, which consists of whole lines.
pub stops_within : (a b c : Option (List ℕ)) (fault : PrintFault) (s t : List ℕ)
    → IsTrue (ends_line s) → Appends a b s → Stops b c fault t → Stops a c fault (s ++ t)
stops_within a b c fault s t ends p q =
    let r = past_of q.0 s t in (
      r.0,
      subst (λ l. IsTrue (can_end fault l)) (sym r.1)
          (can_end-append fault s (take q.0 t) ends q.1),
      subst (Appends a c) (sym r.1) (Appends-trans a b c s (take q.0 t) p q.2),
    )

-- The rows through row i are the rows before it, and row i.
pub row_taken : {X : Type 0} (rows : List X) (i : ℕ) → take (suc i) rows ≡ take i rows
    ++ option_to_list (slice_get rows i)
row_taken [] zero = refl
row_taken [] (suc i) = refl
row_taken (row ∷ rows) zero = refl
row_taken (row ∷ rows) (suc i) = ap (λ l. row ∷ l) (row_taken rows i)

-- The same for the texts of the rows.
pub lines_more : {X Y : Type 0} (text : X → List Y) (rows : List X) (i : ℕ)
    → flat_map text (take (i + 1) rows) ≡ flat_map text (take i rows)
    ++ flat_map text (option_to_list (slice_get rows i))
lines_more text rows i =
    ap (λ k. flat_map text (take k rows)) (add-one i)
    ∙ (ap (flat_map text) (row_taken rows i)
    ∙ flat_map-append text (take i rows) (option_to_list (slice_get rows i)))

-- The fault comes at row i.
pub stops_at : {X : Type 0} (a b c : Option (List ℕ)) (fault : PrintFault) (text : X → List ℕ)
    → ((x : X) → IsTrue (ends_line (text x))) → (rows : List X) (i : ℕ)
    → Appends a b (flat_map text (take i rows))
    → Stops b c fault (flat_map text (option_to_list (slice_get rows i)))
    → Stops a c fault (flat_map text rows)
stops_at a b c fault text ends rows i p q =
    let rest : List ℕ = flat_map text (drop (i + 1) rows) in
    let whole : flat_map text rows ≡ (flat_map text (take i rows)
    ++ flat_map text (option_to_list (slice_get rows i))) ++ rest
    = ap (flat_map text) (sym (take-append-drop (i + 1) rows))
    ∙ (flat_map-append text (take (i + 1) rows) (drop (i + 1) rows)
    ∙ ap (λ t. t ++ rest) (lines_more text rows i)) in
    subst (Stops a c fault) (sym whole)
    (stops_longer a c fault
    (flat_map text (take i rows) ++ flat_map text (option_to_list (slice_get rows i))) rest
    (stops_within a b c fault (flat_map text (take i rows))
    (flat_map text (option_to_list (slice_get rows i))) (lines_end text ends (take i rows)) p q))

-- A call that fails has written a prefix of its text.
pub prints_err : (a b : Option (List ℕ)) (r : Result Unit PrintFault) (text : List ℕ)
    (x : PrintFault) → IsErrAnd r (λ y. y ≡ x) → Stops a b x text → Prints a b r text
prints_err a b (Ok u) text x is p = absurd is
prints_err a b (Err y) text x is p = subst (λ fault. Stops a b fault text) (sym is) p

-- Text t is printed after s, which consists of whole lines.
pub prints_after : (a b c : Option (List ℕ)) (r : Result Unit PrintFault) (s t : List ℕ)
    → IsTrue (ends_line s) → Appends a b s → Prints b c r t → Prints a c r (s ++ t)
prints_after a b c (Ok u) s t ends p q = Appends-trans a b c s t p q
prints_after a b c (Err y) s t ends p q = stops_within a b c y s t ends p q

-- What is written of a text that was made as a whole is printed of it.
pub prints_whole : (a b : Option (List ℕ)) (r : Result Unit PrintFault) (text : List ℕ)
    → writing.Prints a b r text → Prints a b r text
prints_whole a b (Ok u) text p = p
prints_whole a b (Err NoMemory) text p = (0, refl, p)
prints_whole a b (Err WriteFailed) text p = (p.0, refl, p.1)
