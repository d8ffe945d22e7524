-- What is written of a section before and after a fault.
use Rattle.std.proofs.Common.{◌≡◌, ℕ, ◌+◌, List, ◌++◌, length, take, drop}
use Rattle.std.proofs.Common.{Option, Result, Ok, Err, arith, ap, ◌∙◌, sym, subst}
use Rattle.std.proofs.lemmas.List.{take-append-drop, take_all}
use Rattle.std.proofs.lemmas.Grind.{flat_map-append}
use Rattle.std.specs.Io.KnownBytes.{Appends}
use Rattle.std.proofs.KnownBytes.{Appends-trans}
use Rattle.std.specs.List.{flat_map, slice_get}
use Rattle.std.specs.Option.{option_to_list}
use Rattle.std.specs.Result.{IsErrAnd}
use Rattle.reports.specs.declared.fault.PrintFault.{PrintFault}
use Rattle.reports.specs.Forms.{Prints}
use Rattle.reports.specs.Writes.{Stops, Writes}
use Rattle.reports.proofs.WrittenText.{front_of, lines_more, past_of}

-- If a prefix of a text is written, it is also a prefix of a longer text.
pub stops_longer : (a b : Option (List ℕ)) (s t : List ℕ) → Stops a b s → Stops a b (s ++ t)
stops_longer a b s t p =
    let r = front_of p.0 s t in (r.0, subst (Appends a b) (sym r.1) p.1)

-- The fault comes after text s.
pub stops_after : (a b : Option (List ℕ)) (s t : List ℕ) → Appends a b s
    → Stops a b (s ++ t)
stops_after a b s t p =
    let all = take_all (length s) s (omega arith) in
    stops_longer a b s t (length s, subst (Appends a b) (sym all) p)

-- The fault comes in text t, after s.
pub stops_within : (a b c : Option (List ℕ)) (s t : List ℕ) → Appends a b s → Stops b c t
    → Stops a c (s ++ t)
stops_within a b c s t p q =
    let r = past_of q.0 s t in (
      r.0,
      subst (Appends a c) (sym r.1) (Appends-trans a b c s (take q.0 t) p q.1),
    )

-- The fault comes at row i.
pub stops_at : {X : Type 0} (a b c : Option (List ℕ)) (text : X → List ℕ) (rows : List X)
    (i : ℕ) → Appends a b (flat_map text (take i rows))
    → Stops b c (flat_map text (option_to_list (slice_get rows i)))
    → Stops a c (flat_map text rows)
stops_at a b c text rows i p q =
    let rest : List ℕ = flat_map text (drop (i + 1) rows) in
    let whole : flat_map text rows ≡ (flat_map text (take i rows)
    ++ flat_map text (option_to_list (slice_get rows i))) ++ rest
    = ap (flat_map text) (sym (take-append-drop (i + 1) rows))
    ∙ (flat_map-append text (take (i + 1) rows) (drop (i + 1) rows)
    ∙ ap (λ t. t ++ rest) (lines_more text rows i)) in
    subst (Stops a c) (sym whole)
    (stops_longer a c
    (flat_map text (take i rows) ++ flat_map text (option_to_list (slice_get rows i))) rest
    (stops_within a b c (flat_map text (take i rows))
    (flat_map text (option_to_list (slice_get rows i))) p q))

-- A call that failed has written a prefix of its text.
pub writes_err : (a b : Option (List ℕ)) (r : Result Unit PrintFault) (text : List ℕ)
    (x : PrintFault) → IsErrAnd r (λ y. y ≡ x) → Stops a b text → Writes a b r text
writes_err a b (Ok u) text x is p = absurd is
writes_err a b (Err y) text x is p = p

-- Text t is written after s.
pub writes_after : (a b c : Option (List ℕ)) (r : Result Unit PrintFault) (s t : List ℕ)
    → Appends a b s → Writes b c r t → Writes a c r (s ++ t)
writes_after a b c (Ok u) s t p q = Appends-trans a b c s t p q
writes_after a b c (Err y) s t p q = stops_within a b c s t p q

-- What a report prints of a text is written of it.
pub writes_printed : (a b : Option (List ℕ)) (r : Result Unit PrintFault) (text : List ℕ)
    → Prints a b r text → Writes a b r text
writes_printed a b (Ok u) text p = p
writes_printed a b (Err fault) text p = (p.0, p.2)
