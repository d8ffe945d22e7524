-- A feed text, line by line.
use Rattle.std.proofs.Common.{◌≡◌, ℕ, ◌+◌, ◌-◌, ◌<◌, ◌≤◌, min, List, [], ◌∷◌, ◌++◌, length, take}
use Rattle.std.proofs.Common.{drop, map, ap, ◌∙◌, sym, subst, ⊎_elim, arith, append_assoc}
use Rattle.std.proofs.lemmas.Bool.{cases_lt}
use Rattle.std.proofs.lemmas.List.{take-append-drop, drop-drop, drop_all, length-drop}
use Rattle.std.proofs.lemmas.List.{length-take-le, take_all}
use Rattle.hub_core.specs.Reading.{HasNoFeed}
use Rattle.hub_core.specs.Lines.{line_of, lines, pieces, without_return}
use Rattle.hub_core.proofs.LineLemmas.{line_fed, line_last, pieces_fed, pieces_last}
use Rattle.serve_core.specs.declared.item.Item.{Item}
use Rattle.serve_core.specs.declared.text_feed.Place.{Place}
use Rattle.serve_core.specs.Feeds.{line_items, items_from, items_left}

-- a text up to a line feed, and the text after it
cut_at : (xs : List ℕ) (n : ℕ) → take (n + 1) xs ≡ take n xs ++ 10 ∷ []
    → xs ≡ take n xs ++ 10 ∷ drop (n + 1) xs
cut_at xs n e = sym (take-append-drop (n + 1) xs) ∙ ap (λ (ys : List ℕ). ys ++ drop (n + 1) xs) e
    ∙ append_assoc (take n xs) (10 ∷ []) (drop (n + 1) xs)

lines_fed : (p rest : List ℕ) → HasNoFeed p → lines (p ++ 10 ∷ rest) ≡ without_return p ∷ lines rest
lines_fed p rest h = ap (map line_of) (pieces_fed p rest h) ∙ ap (λ (l : List ℕ). l ∷ lines rest)
    (line_fed p h)

lines_last : (p : List ℕ) → 0 < length p → HasNoFeed p → lines p ≡ without_return p ∷ []
lines_last [] there h = absurd (omega arith)
lines_last (x ∷ p) there h = ap (map line_of) (pieces_last x p h) ∙ ap (λ (l : List ℕ). l ∷ [])
    (line_last (x ∷ p) h)

-- the text from a position on
pub rest_is : (bytes : List ℕ) (at : ℕ) → take (length bytes - at) (drop at bytes) ≡ drop at bytes
rest_is bytes at = let l : length (drop at bytes) ≡ length bytes - at = length-drop at bytes in
    take_all (length bytes - at) (drop at bytes) (omega (arith, l))

-- the first line of the remaining text, and the rest
pub next_line : (bytes rest : List ℕ) (at n next : ℕ) → rest ≡ drop at bytes → at < length bytes
    → n ≤ length rest → HasNoFeed (take n rest)
    → (n < length rest → take (n + 1) rest ≡ take n rest ++ 10 ∷ [])
    → next ≡ min (length bytes) (at + length (take n rest) + 1)
    → lines (drop at bytes) ≡ without_return (take n rest) ∷ lines (drop next bytes)
next_line bytes rest at n next same lt le h fed given =
    let is : next ≡ min (length bytes) (at + n + 1) =
    given ∙ ap (λ k. min (length bytes) (at + k + 1)) (length-take-le n rest le) in
    let l : length rest ≡ length bytes - at = ap length same ∙ length-drop at bytes in
    ap lines (sym same)
    ∙ ⊎_elim
    (λ (less : n < length rest).
    let e : next ≡ at + (n + 1) = omega (arith, is, less, l) in
    ap lines (cut_at rest n (fed less)) ∙ lines_fed (take n rest) (drop (n + 1) rest) h
    ∙ ap (λ (ys : List ℕ). without_return (take n rest) ∷ lines ys)
    (ap (drop (n + 1)) same ∙ drop-drop (n + 1) at bytes ∙ ap (λ k. drop k bytes) (sym e)))
    (λ (all : length rest ≤ n).
    let e : length bytes ≤ next = omega (arith, is, all, l) in
    let whole : take n rest ≡ rest = take_all n rest all in
    let there : 0 < length rest = omega (arith, lt, l) in
    rw (whole, drop_all next bytes e) (lines_last rest there (subst HasNoFeed whole h)))
    (cases_lt n (length rest))

-- the items of the remaining text are those of its first line and of the rest
pub next_items : (bytes : List ℕ) (p q : Place) (line : List ℕ) → q.number ≡ p.number + 1
    → lines (drop p.at bytes) ≡ line ∷ lines (drop q.at bytes)
    → items_left bytes p ≡ line_items p.number line ++ items_left bytes q
next_items bytes p q line n e =
    ap (items_from p.number) e ∙ ap
    (λ k. line_items p.number line ++ items_from k (lines (drop q.at bytes))) (sym n)

pub none_left : (bytes : List ℕ) (p : Place) → length bytes ≤ p.at → items_left bytes p ≡ []
none_left bytes p le = ap (λ (ys : List ℕ). items_from p.number (lines ys)) (drop_all p.at bytes le)

pub next_none : (bytes : List ℕ) (p q : Place) (line : List ℕ) → q.number ≡ p.number + 1
    → lines (drop p.at bytes) ≡ line ∷ lines (drop q.at bytes)
    → line_items p.number line ≡ [] → items_left bytes p ≡ items_left bytes q
next_none bytes p q line n e none =
    next_items bytes p q line n e ∙ ap (λ (ys : List Item). ys ++ items_left bytes q) none

pub next_some : (bytes : List ℕ) (p q : Place) (line : List ℕ) (x : Item) → q.number ≡ p.number + 1
    → lines (drop p.at bytes) ≡ line ∷ lines (drop q.at bytes)
    → line_items p.number line ≡ x ∷ [] → items_left bytes p ≡ x ∷ items_left bytes q
next_some bytes p q line x n e some =
    next_items bytes p q line n e ∙ ap (λ (ys : List Item). ys ++ items_left bytes q) some
