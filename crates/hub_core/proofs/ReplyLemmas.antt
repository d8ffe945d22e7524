-- The replies to lines.
use Rattle.std.proofs.Common.{◌≡◌, ℕ, ◌+◌, ◌≤◌, Bool, true, false, List, [], ◌∷◌, ◌++◌, length, map}
use Rattle.std.proofs.Common.{refl, ap, ◌∙◌, sym, subst, arith, append_assoc, append-nil}
use Rattle.std.proofs.Common.{length-append}
use Rattle.std.specs.Prelude.{flat_map}
use Rattle.nest_core.specs.Museum.{Museum}
use Rattle.posting_core.specs.declared.entry.Entry.{Entry}
use Rattle.hub_core.specs.declared.hub.answer.Arrival.{Arrival}
use Rattle.hub_core.specs.Reading.{HasNoFeed, feed_if}
use Rattle.hub_core.specs.Lines.{pieces, line_of, lines, without_return}
use Rattle.hub_core.specs.LineText.{line_reply, line_arrivals, replies, text, arrivals}
use Rattle.hub_core.specs.declared.outcome.Outcome.{Outcome}
use Rattle.hub_core.specs.Outcomes.{line_outcomes, all_outcomes, outcomes}
use Rattle.hub_core.proofs.LineLemmas.{IsWhole, whole_none, line_fed, line_last, pieces_fed}
use Rattle.hub_core.proofs.LineLemmas.{pieces_last}

zero_more : (k : ℕ) → k ≡ 0 + k
zero_more k = omega arith

module _ (S : Museum) (depth : ℕ) (O : List Entry) where
  replies_more : (A : List Arrival) (k : ℕ) (xs : List (List ℕ)) (line : List ℕ)
      → replies S depth O A k (xs ++ line ∷ []) ≡ replies S depth O A k xs ++ line_reply S depth O
      (A ++ flat_map (line_arrivals S) xs) (length xs + k) line
  replies_more A k [] line =
      append-nil (line_reply S depth O A k line)
      ∙ ap (λ (B : List Arrival). line_reply S depth O B k line) (sym (append-nil A))
      ∙ ap (λ n. line_reply S depth O (A ++ []) n line) (zero_more k)
  replies_more A k (x ∷ xs) line =
      ap (λ (t : List ℕ). line_reply S depth O A k x ++ t)
      (replies_more (A ++ line_arrivals S x) (k + 1) xs line
      ∙ ap (λ (B : List Arrival). replies S depth O (A ++ line_arrivals S x) (k + 1) xs
      ++ line_reply S depth O B (length xs + (k + 1)) line)
      (append_assoc A (line_arrivals S x) (flat_map (line_arrivals S) xs))
      ∙ ap (λ n. replies S depth O (A ++ line_arrivals S x) (k + 1) xs ++ line_reply S depth O
      (A ++ (line_arrivals S x ++ flat_map (line_arrivals S) xs)) n line) (omega arith))
      ∙ sym (append_assoc (line_reply S depth O A k x) _ _)

  outcomes_of_more : (A : List Arrival) (xs : List (List ℕ)) (line : List ℕ)
      → all_outcomes S depth O A (xs ++ line ∷ []) ≡ all_outcomes S depth O A xs ++ line_outcomes S
      depth O (A ++ flat_map (line_arrivals S) xs) line
  outcomes_of_more A [] line =
      append-nil (line_outcomes S depth O A line)
      ∙ ap (λ (B : List Arrival). line_outcomes S depth O B line) (sym (append-nil A))
  outcomes_of_more A (x ∷ xs) line =
      ap (λ (t : List Outcome). line_outcomes S depth O A x ++ t)
      (outcomes_of_more (A ++ line_arrivals S x) xs line
      ∙ ap (λ (B : List Arrival). all_outcomes S depth O (A ++ line_arrivals S x) xs
      ++ line_outcomes S depth O B line)
      (append_assoc A (line_arrivals S x) (flat_map (line_arrivals S) xs)))
      ∙ sym (append_assoc (line_outcomes S depth O A x) _ _)

sent_more : (S : Museum) (xs : List (List ℕ)) (line : List ℕ)
    → flat_map (line_arrivals S) (xs ++ line ∷ []) ≡ flat_map (line_arrivals S) xs
    ++ line_arrivals S line
sent_more S [] line = append-nil (line_arrivals S line)
sent_more S (x ∷ xs) line = ap (λ (B : List Arrival). line_arrivals S x ++ B) (sent_more S xs line)
    ∙ sym (append_assoc (line_arrivals S x) _ _)

map_more : (xs : List (List ℕ)) (y : List ℕ)
    → map line_of (xs ++ y ∷ []) ≡ map line_of xs ++ line_of y ∷ []
map_more [] y = refl
map_more (x ∷ xs) y = ap (λ (q : List (List ℕ)). line_of x ∷ q) (map_more xs y)

lines_fed : (c p : List ℕ) → IsWhole c → HasNoFeed p
    → lines (c ++ (p ++ 10 ∷ [])) ≡ lines c ++ without_return p ∷ []
lines_fed c p w h =
    ap (map line_of) (w.cut (p ++ 10 ∷ []) ∙ ap (λ (q : List (List ℕ)). pieces c ++ q)
    (pieces_fed p [] h))
    ∙ map_more (pieces c) (p ++ 10 ∷ [])
    ∙ ap (λ (l : List ℕ). lines c ++ l ∷ []) (line_fed p h)

lines_last : (c : List ℕ) (x : ℕ) (p : List ℕ) → IsWhole c → HasNoFeed (x ∷ p)
    → lines (c ++ (x ∷ p)) ≡ lines c ++ without_return (x ∷ p) ∷ []
lines_last c x p w h =
    ap (map line_of) (w.cut (x ∷ p) ∙ ap (λ (q : List (List ℕ)). pieces c ++ q) (pieces_last x p h))
    ∙ map_more (pieces c) (x ∷ p)
    ∙ ap (λ (l : List ℕ). lines c ++ l ∷ []) (line_last (x ∷ p) h)

module _ (S : Museum) (depth : ℕ) (O : List Entry) (A : List Arrival) where
  -- one more line, ended by a line feed or by the input
  pub text_more : (c p : List ℕ) (fed : Bool) → IsWhole c → HasNoFeed p
      → text S depth O A (c ++ (p ++ feed_if fed)) ≡ text S depth O A c ++ line_reply S depth O
      (A ++ arrivals S c) (length (lines c) + 1) (without_return p)
  text_more c p true w h = ap (replies S depth O A 1) (lines_fed c p w h) ∙ replies_more S depth O A
      1 (lines c) (without_return p)
  text_more c [] false w h = ap (text S depth O A) (append-nil c)
      ∙ sym (append-nil (text S depth O A c))
  text_more c (x ∷ p) false w h =
      ap (λ (q : List ℕ). text S depth O A (c ++ q)) (append-nil (x ∷ p))
      ∙ ap (replies S depth O A 1) (lines_last c x p w h)
      ∙ replies_more S depth O A 1 (lines c) (without_return (x ∷ p))

  -- the outcomes with one more line
  pub outcomes_more : (c p : List ℕ) (fed : Bool) → IsWhole c → HasNoFeed p
      → outcomes S depth O A (c ++ (p ++ feed_if fed)) ≡ outcomes S depth O A c ++ line_outcomes S
      depth O (A ++ arrivals S c) (without_return p)
  outcomes_more c p true w h = ap (all_outcomes S depth O A) (lines_fed c p w h) ∙ outcomes_of_more
      S depth O A (lines c) (without_return p)
  outcomes_more c [] false w h =
      ap (outcomes S depth O A) (append-nil c) ∙ sym (append-nil (outcomes S depth O A c))
  outcomes_more c (x ∷ p) false w h =
      ap (λ (q : List ℕ). outcomes S depth O A (c ++ q)) (append-nil (x ∷ p))
      ∙ ap (all_outcomes S depth O A) (lines_last c x p w h)
      ∙ outcomes_of_more S depth O A (lines c) (without_return (x ∷ p))

pub arrivals_more : (S : Museum) (c p : List ℕ) (fed : Bool) → IsWhole c → HasNoFeed p
    → arrivals S (c ++ (p ++ feed_if fed)) ≡ arrivals S c ++ line_arrivals S (without_return p)
arrivals_more S c p true w h =
    ap (flat_map (line_arrivals S)) (lines_fed c p w h) ∙ sent_more S (lines c) (without_return p)
arrivals_more S c [] false w h = ap (arrivals S) (append-nil c) ∙ sym (append-nil (arrivals S c))
arrivals_more S c (x ∷ p) false w h =
    ap (λ (q : List ℕ). arrivals S (c ++ q)) (append-nil (x ∷ p))
    ∙ ap (flat_map (line_arrivals S)) (lines_last c x p w h)
    ∙ sent_more S (lines c) (without_return (x ∷ p))

-- one more line counts one
pub count_more : (c p : List ℕ) → IsWhole c → HasNoFeed p
    → length (lines (c ++ (p ++ 10 ∷ []))) ≡ length (lines c) + 1
count_more c p w h = ap length (lines_fed c p w h) ∙ length-append (lines c) (without_return p ∷ [])

pub one_arrivals : (S : Museum) (p : List ℕ) (fed : Bool) → HasNoFeed p
    → arrivals S (p ++ feed_if fed) ≡ line_arrivals S (without_return p)
one_arrivals S p fed h = arrivals_more S [] p fed whole_none h

-- the start of a line counts one at most
pub one_start : (p : List ℕ) → HasNoFeed p → length (lines p) ≤ 1
one_start [] h = omega arith
one_start (x ∷ p) h = let e = ap length (lines_last [] x p whole_none h) in omega (arith, e)

pub one_line : (p : List ℕ) (fed : Bool) → HasNoFeed p → length (lines (p ++ feed_if fed)) ≤ 1
one_line p true h = let e = ap length (lines_fed [] p whole_none h) in omega (arith, e)
one_line p false h = subst (λ (q : List ℕ). length (lines q) ≤ 1) (sym (append-nil p))
    (one_start p h)
