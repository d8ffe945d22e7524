-- The head of a run, line by line.
use Rattle.std.proofs.Common.{◌≡◌, ℕ, suc, ◌+◌, ◌-◌, ◌<◌, ◌≤◌, ◌==◌, ◌||◌, Bool, true, false}
use Rattle.std.proofs.Common.{true≢false, if◌then◌else◌, ◌⊎◌, inl, inr, ◌≢◌, nat_eq, List, [], ◌∷◌}
use Rattle.std.proofs.Common.{◌++◌, length, length-append, length-take, take, drop, refl, ap, ◌∙◌}
use Rattle.std.proofs.Common.{sym, arith, append_assoc, append-nil, cond, not}
use Rattle.std.specs.List.{concat, before_first, after_first, list_any, prefix_len, ends_with}
use Rattle.std.proofs.lemmas.Bool.{or_parts}
use Rattle.std.proofs.lemmas.Bool.Decides.{eqb_tells}
use Rattle.std.proofs.lemmas.List.Folds.{concat-append, list_any-append}
use Rattle.hub_core.specs.Reading.{HasNoFeed}
use Rattle.hub_core.specs.Lines.{before, pieces, is_empty, is_blank, without_return, head}
use Rattle.hub_core.specs.Lines.{after_head}
use Rattle.hub_core.specs.WholeRun.{has_empty_line}
use Rattle.hub_core.proofs.FeedLemmas.{no_feed_join}
use Rattle.hub_core.proofs.LineLemmas.{IsWhole, whole_none, whole_more, ended_whole, line_fed}
use Rattle.hub_core.proofs.LineLemmas.{line_last, pieces_fed, pieces_last}

-- bytes cut apart and joined again
pub pieces_joined : (bytes : List ℕ) → concat (pieces bytes) ≡ bytes
pieces_joined [] = refl
pieces_joined (b ∷ bs) = cut (b == 10) ∙ ap (λ (l : List ℕ). b ∷ l) (pieces_joined bs)
  where
    joined : (ps : List (List ℕ)) → concat (before b ps) ≡ b ∷ concat ps
    joined [] = refl
    joined (p ∷ ps) = refl

    cut : (t : Bool) → concat (if t then (b ∷ []) ∷ pieces bs else before b (pieces bs)) ≡ b
        ∷ concat (pieces bs)
    cut true = refl
    cut false = joined (pieces bs)

module _ {X : Type 0} (test : X → Bool) where
  abbrev before_next : X → List X → Bool → List X
  before_next x xs t = take (cond (not t) (1 + prefix_len (λ y. not (test y)) xs) 0) (x ∷ xs)

  abbrev after_next : X → List X → Bool → List X
  after_next x xs t = drop (cond (not t) (1 + prefix_len (λ y. not (test y)) xs) 0 + 1) (x ∷ xs)

  -- the first element passes
  before_passed : (x : X) (xs : List X) → test x ≡ true → before_first test (x ∷ xs) ≡ []
  before_passed x xs e = ap (before_next x xs) e

  after_passed : (x : X) (xs : List X) → test x ≡ true → after_first test (x ∷ xs) ≡ xs
  after_passed x xs e = ap (after_next x xs) e

  -- it fails
  before_failed : (x : X) (xs : List X) → test x ≡ false
      → before_first test (x ∷ xs) ≡ x ∷ before_first test xs
  before_failed x xs e =
      let n : ℕ = prefix_len (λ y. not (test y)) xs in
      let more : 1 + n ≡ suc n = omega arith in
      ap (before_next x xs) e ∙ ap (λ k. take k (x ∷ xs)) more

  after_failed : (x : X) (xs : List X) → test x ≡ false
      → after_first test (x ∷ xs) ≡ after_first test xs
  after_failed x xs e =
      let n : ℕ = prefix_len (λ y. not (test y)) xs in
      let more : (1 + n) + 1 ≡ suc (n + 1) = omega arith in
      ap (after_next x xs) e ∙ ap (λ k. drop k (x ∷ xs)) more

  -- none of the first elements passes
  pub before_none : (xs ys : List X) → list_any test xs ≡ false
      → before_first test (xs ++ ys) ≡ xs ++ before_first test ys
  before_none [] ys h = refl
  before_none (x ∷ xs) ys h =
      let both = or_parts (test x) (list_any test xs) h in
      before_failed x (xs ++ ys) both.0 ∙ ap (λ (l : List X). x ∷ l) (before_none xs ys both.1)

  pub after_none : (xs ys : List X) → list_any test xs ≡ false
      → after_first test (xs ++ ys) ≡ after_first test ys
  after_none [] ys h = refl
  after_none (x ∷ xs) ys h =
      let both = or_parts (test x) (list_any test xs) h in
      after_failed x (xs ++ ys) both.0 ∙ after_none xs ys both.1

-- whole lines, none of which is empty
pub record IsFull (c : List ℕ) : Type 0 where
  pub whole : IsWhole c
  pub none : list_any is_blank (pieces c) ≡ false

pub full_none : IsFull []
full_none = record { whole = whole_none; none = refl }

-- the head, with bytes after them
pub head_behind : (c x : List ℕ) → IsFull c → head (c ++ x) ≡ c ++ head x
head_behind c x f =
    ap (λ (ps : List (List ℕ)). concat (before_first is_blank ps)) (f.whole.cut x)
    ∙ ap concat (before_none is_blank (pieces c) (pieces x) f.none)
    ∙ concat-append (pieces c) (before_first is_blank (pieces x))
    ∙ ap (λ (l : List ℕ). l ++ head x) (pieces_joined c)

pub after_behind : (c x : List ℕ) → IsFull c → after_head (c ++ x) ≡ after_head x
after_behind c x f =
    ap (λ (ps : List (List ℕ)). concat (after_first is_blank ps)) (f.whole.cut x)
    ∙ ap concat (after_none is_blank (pieces c) (pieces x) f.none)

-- a line with its line feed, and the bytes after it
blank_fed : (p : List ℕ) → HasNoFeed p → is_blank (p ++ 10 ∷ []) ≡ is_empty (without_return p)
blank_fed p one = ap is_empty (line_fed p one)

pub head_ends : (p x : List ℕ) → HasNoFeed p → is_empty (without_return p) ≡ true
    → head (p ++ 10 ∷ x) ≡ []
head_ends p x one e =
    ap (λ (ps : List (List ℕ)). concat (before_first is_blank ps)) (pieces_fed p x one)
    ∙ ap concat (before_passed is_blank (p ++ 10 ∷ []) (pieces x) (blank_fed p one ∙ e))

pub after_ends : (p x : List ℕ) → HasNoFeed p → is_empty (without_return p) ≡ true
    → after_head (p ++ 10 ∷ x) ≡ x
after_ends p x one e =
    ap (λ (ps : List (List ℕ)). concat (after_first is_blank ps)) (pieces_fed p x one)
    ∙ ap concat (after_passed is_blank (p ++ 10 ∷ []) (pieces x) (blank_fed p one ∙ e))
    ∙ pieces_joined x

-- one more line that isn't empty
pub full_more : (c p : List ℕ) → IsFull c → HasNoFeed p → is_empty (without_return p) ≡ false
    → IsFull (c ++ (p ++ 10 ∷ []))
full_more c p f one e = record {
  whole = whole_more c p f.whole one;
  none =
      ap (list_any is_blank) (f.whole.cut (p ++ 10 ∷ []) ∙ ap (λ (q : List (List ℕ)). pieces c ++ q)
      (pieces_fed p [] one))
      ∙ list_any-append is_blank (pieces c) ((p ++ 10 ∷ []) ∷ [])
      ∙ ap (λ t. t || (is_blank (p ++ 10 ∷ []) || false)) f.none
      ∙ ap (λ t. t || false) (blank_fed p one ∙ e);
}

-- a line without a line feed at its end
pub head_blank : (p : List ℕ) → HasNoFeed p → is_empty (without_return p) ≡ true → head p ≡ []
head_blank [] one e = refl
head_blank (x ∷ p) one e =
    ap (λ (ps : List (List ℕ)). concat (before_first is_blank ps)) (pieces_last x p one)
    ∙ ap concat (before_passed is_blank (x ∷ p) [] (ap is_empty (line_last (x ∷ p) one) ∙ e))

pub head_last : (p : List ℕ) → HasNoFeed p → is_empty (without_return p) ≡ false → head p ≡ p
head_last [] one e = refl
head_last (x ∷ p) one e =
    ap (λ (ps : List (List ℕ)). concat (before_first is_blank ps)) (pieces_last x p one)
    ∙ ap concat (before_failed is_blank (x ∷ p) [] (ap is_empty (line_last (x ∷ p) one) ∙ e))
    ∙ append-nil (x ∷ p)

pub after_last : (p : List ℕ) → HasNoFeed p → after_head p ≡ []
after_last [] one = refl
after_last (x ∷ p) one = ap (λ (ps : List (List ℕ)). concat (after_first is_blank ps))
    (pieces_last x p one) ∙ by_test (is_blank (x ∷ p)) refl
  where
    by_test : (t : Bool) → is_blank (x ∷ p) ≡ t → concat (after_first is_blank ((x ∷ p) ∷ [])) ≡ []
    by_test true e = ap concat (after_passed is_blank (x ∷ p) [] e)
    by_test false e = ap concat (after_failed is_blank (x ∷ p) [] e)

-- the lines up to the last line feed
pub part_of : (c p : List ℕ) → IsFull c → HasNoFeed p → has_empty_line (c ++ p) ≡ false
part_of c p f one = ap (λ (b : List ℕ). list_any is_blank (pieces b))
    (ended_whole c p f.whole one) ∙ f.none

-- two bytes are more than a carriage return
two : (x y : ℕ) (q : List ℕ) → is_empty (without_return (x ∷ y ∷ q)) ≡ false
two x y q = cut (ends_with nat_eq (x ∷ y ∷ q) (13 ∷ []))
  where
    cut : (t : Bool)
        → is_empty (if t then take (length (x ∷ y ∷ q) - 1) (x ∷ y ∷ q) else x ∷ y ∷ q) ≡ false
    cut true = let less : length (x ∷ y ∷ q) - 1 ≡ suc (length q) = omega arith in
        ap (λ n. is_empty (take n (x ∷ y ∷ q))) less
    cut false = refl

-- a line that isn't empty so far stays so
still_full : (p q : List ℕ) → is_empty (without_return p) ≡ false
    → is_empty (without_return (p ++ q)) ≡ false
still_full [] q e = absurd (true≢false e)
still_full (x ∷ []) [] e = e
still_full (x ∷ []) (y ∷ q) e = two x y q
still_full (x ∷ y ∷ p) q e = two x y (p ++ q)

-- the first bytes of a line decide whether it is empty
pub kept_blank : (n : ℕ) (p : List ℕ)
    → is_empty (without_return (take (n + 2) p)) ≡ is_empty (without_return p)
kept_blank n p = let more : n + 2 ≡ suc (suc n) = omega arith in
    ap (λ m. is_empty (without_return (take m p))) more ∙ tell p
  where
    tell : (p : List ℕ) → is_empty (without_return (take (suc (suc n)) p))
        ≡ is_empty (without_return p)
    tell [] = refl
    tell (x ∷ []) = refl
    tell (x ∷ y ∷ q) = two x y (take n q) ∙ sym (two x y q)

-- bytes up to their first line feed
first_feed : (x : List ℕ) → (line : List ℕ) × HasNoFeed line
    × ((x ≡ line) ⊎ ((more : List ℕ) × (x ≡ line ++ 10 ∷ more)))
first_feed [] = ([], tt, inl refl)
first_feed (b ∷ bs) = cut (eqb_tells b 10) (first_feed bs)
  where
    cut : ((b == 10) ≡ true) × (b ≡ 10) ⊎ ((b == 10) ≡ false) × (b ≢ 10) → (line : List ℕ)
        × HasNoFeed line × ((bs ≡ line) ⊎ ((more : List ℕ) × (bs ≡ line ++ 10 ∷ more)))
        → (line : List ℕ) × HasNoFeed line
        × ((b ∷ bs ≡ line) ⊎ ((more : List ℕ) × (b ∷ bs ≡ line ++ 10 ∷ more)))
    cut (inl is) found = ([], tt, inr (bs, ap (λ c. c ∷ bs) is.1))
    cut (inr is) found = (b ∷ found.0, (is.1, found.1), further found.2)
      where
        further : (bs ≡ found.0) ⊎ ((more : List ℕ) × (bs ≡ found.0 ++ 10 ∷ more))
            → (b ∷ bs ≡ b ∷ found.0) ⊎ ((more : List ℕ) × (b ∷ bs ≡ (b ∷ found.0) ++ 10 ∷ more))
        further (inl e) = inl (ap (λ (l : List ℕ). b ∷ l) e)
        further (inr e) = inr (e.0, ap (λ (l : List ℕ). b ∷ l) e.1)

-- a line that isn't empty is in the head
pub head_goes_on : (p x : List ℕ) → HasNoFeed p → is_empty (without_return p) ≡ false
    → head (p ++ 10 ∷ x) ≡ (p ++ 10 ∷ []) ++ head x
head_goes_on p x one e = ap head (sym (append_assoc p (10 ∷ []) x)) ∙ head_behind (p ++ 10 ∷ []) x
    (full_more [] p full_none one e)

-- if the head of the first bytes is longer than n, the head of all bytes is too
pub head_grows : (n : ℕ) (p x : List ℕ) → HasNoFeed p → n < length (head p)
    → n < length (head (p ++ x))
head_grows n p x one long = by_test (is_empty (without_return p)) refl
  where
    whole_line : is_empty (without_return p) ≡ false → (q : List ℕ) → HasNoFeed q
        → (x ≡ q) ⊎ ((more : List ℕ) × (x ≡ q ++ 10 ∷ more)) → length p ≤ length (head (p ++ x))
    whole_line e q h (inl is) =
        let all =
        ap length (ap (λ (l : List ℕ). head (p ++ l)) is ∙ head_last (p ++ q)
        (no_feed_join p q one h) (still_full p q e)) in
        omega (arith, all, length-append p q)
    whole_line e q h (inr (more, is)) =
        let all =
        ap length (ap head (ap (λ (l : List ℕ). p ++ l) is ∙ sym (append_assoc p q (10 ∷ more)))
        ∙ head_goes_on (p ++ q) more (no_feed_join p q one h) (still_full p q e)) in
        omega (
          arith,
          all,
          length-append ((p ++ q) ++ 10 ∷ []) (head more),
          length-append (p ++ q) (10 ∷ []),
          length-append p q,
        )

    by_test : (t : Bool) → is_empty (without_return p) ≡ t → n < length (head (p ++ x))
    by_test true e = let none = ap length (head_blank p one e) in absurd (omega arith)
    by_test false e =
        let found = first_feed x in
        let all = whole_line e found.0 found.1 found.2 in
        let same = ap length (head_last p one e) in
        omega arith

-- the first bytes of a line decide whether it fits
pub line_too_long : (room : ℕ) (kept p : List ℕ) → HasNoFeed p → kept ≡ take (room + 2) p
    → room < length kept → is_empty (without_return kept) ≡ false → room < length (head p)
line_too_long room kept p one is long full =
    let same =
    ap length
    (head_last p one (sym (kept_blank room p) ∙ ap (λ l. is_empty (without_return l))
    (sym is) ∙ full)) in
    let few = ap length is in
    omega (arith, same, few, length-take (room + 2) p)

pub line_fits : (room : ℕ) (kept p : List ℕ) → HasNoFeed p → kept ≡ take (room + 2) p
    → (length kept ≤ room) ⊎ (is_empty (without_return kept) ≡ true) → length (head p) ≤ room
line_fits room kept p one is fits = by_test (is_empty (without_return p)) refl fits
  where
    by_test : (t : Bool) → is_empty (without_return p) ≡ t → (length kept ≤ room)
        ⊎ (is_empty (without_return kept) ≡ true) → length (head p) ≤ room
    by_test true e f = let none = ap length (head_blank p one e) in omega arith
    by_test false e (inl few) =
        let same = ap length (head_last p one e) in
        let as_long = ap length is in
        omega (arith, same, as_long, length-take (room + 2) p)
    by_test false e (inr blank) =
        absurd (true≢false (sym blank ∙ ap (λ l. is_empty (without_return l)) is
        ∙ kept_blank room p ∙ e))
