-- Bytes and their lines.
use Rattle.std.proofs.Common.{◌≡◌, ℕ, ◌==◌, if◌then◌else◌, List, [], ◌∷◌, ◌++◌, refl, ap, ◌∙◌, sym}
use Rattle.std.proofs.Common.{append_assoc, append-nil, ne_eqb, not, cond}
use Rattle.std.specs.Prelude.{take_while}
use Rattle.std.proofs.lemmas.List.Sums.{take_while-cons}
use Rattle.hub_core.specs.Reading.{HasNoFeed}
use Rattle.hub_core.specs.Lines.{before, pieces, line_of, ended, is_empty, without_return}

-- the bytes before the line feed
before_feed : (p rest : List ℕ) → HasNoFeed p → take_while (λ b. not (b == 10)) (p ++ 10 ∷ rest) ≡ p
before_feed [] rest h = take_while-cons (λ b. not (b == 10)) 10 rest
before_feed (x ∷ p) rest h =
    take_while-cons (λ b. not (b == 10)) x (p ++ 10 ∷ rest)
    ∙ ap (λ t. cond (not t) (x ∷ take_while (λ b. not (b == 10)) (p ++ 10 ∷ rest)) [])
    (ne_eqb x 10 h.0)
    ∙ ap (λ (xs : List ℕ). x ∷ xs) (before_feed p rest h.1)

before_end : (p : List ℕ) → HasNoFeed p → take_while (λ b. not (b == 10)) p ≡ p
before_end [] h = refl
before_end (x ∷ p) h =
    take_while-cons (λ b. not (b == 10)) x p
    ∙ ap (λ t. cond (not t) (x ∷ take_while (λ b. not (b == 10)) p) []) (ne_eqb x 10 h.0)
    ∙ ap (λ (xs : List ℕ). x ∷ xs) (before_end p h.1)

pub line_fed : (p : List ℕ) → HasNoFeed p → line_of (p ++ 10 ∷ []) ≡ without_return p
line_fed p h = ap without_return (before_feed p [] h)

pub line_last : (p : List ℕ) → HasNoFeed p → line_of p ≡ without_return p
line_last p h = ap without_return (before_end p h)

-- a line with its line feed is the first piece
pub pieces_fed : (p rest : List ℕ) → HasNoFeed p
    → pieces (p ++ 10 ∷ rest) ≡ (p ++ 10 ∷ []) ∷ pieces rest
pieces_fed [] rest h = refl
pieces_fed (x ∷ p) rest h =
    ap (λ t. if t then (x ∷ []) ∷ pieces (p ++ 10 ∷ rest) else before x (pieces (p ++ 10 ∷ rest)))
    (ne_eqb x 10 h.0)
    ∙ ap (before x) (pieces_fed p rest h.1)

pub pieces_last : (x : ℕ) (p : List ℕ) → HasNoFeed (x ∷ p) → pieces (x ∷ p) ≡ (x ∷ p) ∷ []
pieces_last x [] h = ap (λ t. if t then (x ∷ []) ∷ [] else before x []) (ne_eqb x 10 h.0)
pieces_last x (y ∷ p) h =
    ap (λ t. if t then (x ∷ []) ∷ pieces (y ∷ p) else before x (pieces (y ∷ p))) (ne_eqb x 10 h.0)
    ∙ ap (before x) (pieces_last y p h.1)

ended_fed : (p rest : List ℕ) → HasNoFeed p → ended (p ++ 10 ∷ rest) ≡ p ++ 10 ∷ ended rest
ended_fed [] rest h = refl
ended_fed (x ∷ p) rest h =
    ap (λ t. if t then x ∷ ended (p ++ 10 ∷ rest) else
    (if is_empty (ended (p ++ 10 ∷ rest)) then [] else x ∷ ended (p ++ 10 ∷ rest)))
    (ne_eqb x 10 h.0)
    ∙ ap (λ (xs : List ℕ). if is_empty xs then [] else x ∷ xs) (ended_fed p rest h.1)
    ∙ kept p
  where
    kept : (q : List ℕ)
        → (if is_empty (q ++ 10 ∷ ended rest) then [] else x ∷ (q ++ 10 ∷ ended rest)) ≡ x
        ∷ (q ++ 10 ∷ ended rest)
    kept [] = refl
    kept (y ∷ q) = refl

pub ended_none : (p : List ℕ) → HasNoFeed p → ended p ≡ []
ended_none [] h = refl
ended_none (x ∷ p) h =
    ap (λ t. if t then x ∷ ended p else (if is_empty (ended p) then [] else x ∷ ended p))
    (ne_eqb x 10 h.0)
    ∙ ap (λ (xs : List ℕ). if is_empty xs then [] else x ∷ xs) (ended_none p h.1)

-- whole lines: the bytes after them are cut separately
pub record IsWhole (c : List ℕ) : Type 0 where
  pub cut : (x : List ℕ) → pieces (c ++ x) ≡ pieces c ++ pieces x
  pub through : (x : List ℕ) → ended (c ++ x) ≡ c ++ ended x

pub whole_none : IsWhole []
whole_none = record { cut = λ x. refl; through = λ x. refl }

pub whole_more : (c p : List ℕ) → IsWhole c → HasNoFeed p → IsWhole (c ++ (p ++ 10 ∷ []))
whole_more c p w h = record {
  cut = λ x.
      let one : (p ++ 10 ∷ []) ++ x ≡ p ++ 10 ∷ x = append_assoc p (10 ∷ []) x in
      let here : pieces (c ++ (p ++ 10 ∷ [])) ≡ pieces c ++ (p ++ 10 ∷ []) ∷ [] =
      w.cut (p ++ 10 ∷ []) ∙ ap (λ (q : List (List ℕ)). pieces c ++ q) (pieces_fed p [] h) in
      ap pieces (append_assoc c (p ++ 10 ∷ []) x ∙ ap (λ (q : List ℕ). c ++ q) one)
      ∙ w.cut (p ++ 10 ∷ x)
      ∙ ap (λ (q : List (List ℕ)). pieces c ++ q) (pieces_fed p x h)
      ∙ sym (append_assoc (pieces c) ((p ++ 10 ∷ []) ∷ []) (pieces x))
      ∙ ap (λ (q : List (List ℕ)). q ++ pieces x) (sym here);
  through = λ x.
      ap ended (append_assoc c (p ++ 10 ∷ []) x ∙ ap (λ (q : List ℕ). c ++ q)
      (append_assoc p (10 ∷ []) x))
      ∙ w.through (p ++ 10 ∷ x)
      ∙ ap (λ (q : List ℕ). c ++ q) (ended_fed p x h ∙ sym (append_assoc p (10 ∷ []) (ended x)))
      ∙ sym (append_assoc c (p ++ 10 ∷ []) (ended x));
}

-- a line that begins after whole lines has not ended
pub ended_whole : (c p : List ℕ) → IsWhole c → HasNoFeed p → ended (c ++ p) ≡ c
ended_whole c p w h = w.through p ∙ ap (λ (q : List ℕ). c ++ q) (ended_none p h) ∙ append-nil c
