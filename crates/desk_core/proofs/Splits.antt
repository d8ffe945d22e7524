-- The words of a text are its first word, and those of the text after it.
use Rattle.std.proofs.Common.{◌≡◌, ℕ, ◌+◌, ◌<◌, ◌≤◌, ◌==◌, Bool, true, false, not, cond, suc, List}
use Rattle.std.proofs.Common.{[], ◌∷◌, ◌++◌, append_assoc, append-nil, length, drop, refl, ap, sym}
use Rattle.std.proofs.Common.{◌∙◌, subst, arith}
use Rattle.std.specs.List.{prefix_len}
use Rattle.std.proofs.lemmas.Bool.{eqb-true, eqb-false}
use Rattle.std.proofs.lemmas.List.Sums.{take_while-cons}
use Rattle.codes_core.specs.Grammar.{in_first}
use Rattle.desk_core.specs.LineTexts.{after_word, begins_with_word, first_word, is_blank, is_ink}
use Rattle.desk_core.specs.LineTexts.{without_front, words}

-- the text after the bytes that pass
dropped : (p : ℕ → Bool) (b : ℕ) (bs : List ℕ) → drop (prefix_len p (b ∷ bs)) (b ∷ bs)
    ≡ cond (p b) (drop (prefix_len p bs) bs) (b ∷ bs)
dropped p b bs =
    let more : 1 + prefix_len p bs ≡ suc (prefix_len p bs) = omega arith in
    elim (p b) as (λ t. drop (cond t (1 + prefix_len p bs) 0) (b ∷ bs)
    ≡ cond t (drop (prefix_len p bs) bs) (b ∷ bs)) [
      | true ↦ rw more refl
      | false ↦ refl
    ]

-- the words of a text that begins with a byte of a word
abbrev inked : ℕ → List ℕ → List (List ℕ)
inked b bs = cond (begins_with_word bs) (in_first b (words bs)) ((b ∷ []) ∷ words bs)

words_by : (t : Bool) (b : ℕ) (bs : List ℕ) → is_blank b ≡ t
    → words (b ∷ bs) ≡ cond t (words bs) (inked b bs)
words_by t b bs e = ap (λ u. cond u (words bs) (inked b bs)) e

words-without_front : (text : List ℕ) → words (without_front text) ≡ words text
words-without_front [] = refl
words-without_front (b ∷ bs) =
    rw (dropped is_blank b bs)
    (elim (is_blank b) as (λ t. is_blank b ≡ t
    → words (cond t (without_front bs) (b ∷ bs)) ≡ words (b ∷ bs)) [
      | true ↦ λ e. words-without_front bs ∙ sym (words_by true b bs e)
      | false ↦ λ e. refl
    ] refl)

-- the text after its first word, blanks and all
abbrev behind : List ℕ → List ℕ
behind text = drop (prefix_len is_ink text) text

inked-first : (b : ℕ) (bs : List ℕ) → inked b bs ≡ (b ∷ first_word bs) ∷ words (behind bs)
inked-first b [] = refl
inked-first b (c ∷ cs) =
    rw (take_while-cons is_ink c cs, dropped is_ink c cs)
    (elim (is_blank c) as (λ t. is_blank c ≡ t
    → cond (not t) (in_first b (cond t (words cs) (inked c cs)))
    ((b ∷ []) ∷ cond t (words cs) (inked c cs))
    ≡ (b ∷ cond (not t) (c ∷ first_word cs) []) ∷ words (cond (not t) (behind cs) (c ∷ cs))) [
      | true ↦ λ e. ap (λ ws. (b ∷ []) ∷ ws) (sym (words_by true c cs e))
      | false ↦ λ e. ap (in_first b) (inked-first c cs)
    ] refl)

words-first : (b : ℕ) (bs : List ℕ) → is_blank b ≡ false
    → words (b ∷ bs) ≡ first_word (b ∷ bs) ∷ words (after_word (b ∷ bs))
words-first b bs e =
    words_by false b bs e ∙ inked-first b bs
    ∙ rw (
      take_while-cons is_ink b bs,
      words-without_front (behind (b ∷ bs)),
      dropped is_ink b bs,
      e,
    ) refl

-- the text without the blanks before it, by its first byte
front-blank : (b : ℕ) (bs : List ℕ) → is_blank b ≡ true
    → without_front (b ∷ bs) ≡ without_front bs
front-blank b bs e = dropped is_blank b bs ∙ ap (λ t. cond t (without_front bs) (b ∷ bs)) e

front-ink : (b : ℕ) (bs : List ℕ) → is_blank b ≡ false → without_front (b ∷ bs) ≡ b ∷ bs
front-ink b bs e = dropped is_blank b bs ∙ ap (λ t. cond t (without_front bs) (b ∷ bs)) e

-- what is left without blanks is empty, or begins with a word
pub record IsNext (text left : List ℕ) : Type 0 where
  pub split : words text ≡ first_word left ∷ words (after_word left)
  pub some : 0 < prefix_len is_ink left

pub next_is : (text : List ℕ) → 0 < length (without_front text) → IsNext text (without_front text)
next_is [] some = absurd (omega arith)
next_is (b ∷ bs) some =
    elim (is_blank b) as (λ t. is_blank b ≡ t → IsNext (b ∷ bs) (without_front (b ∷ bs))) [
      | true ↦ λ e.
          let left = front-blank b bs e in
          let there : 0 < length (without_front bs) = omega (arith, ap length left) in
          let found = next_is bs there in
          let P : List ℕ → Type 0 = λ x. IsNext (b ∷ bs) x in
          subst P (sym left)
          (record { split = words_by true b bs e ∙ found.split; some = found.some })
      | false ↦ λ e.
          let P : List ℕ → Type 0 = λ x. IsNext (b ∷ bs) x in
          let one : prefix_len is_ink (b ∷ bs) ≡ 1 + prefix_len is_ink bs =
          ap (λ t. cond (not t) (1 + prefix_len is_ink bs) 0) e in
          subst P (sym (front-ink b bs e))
          (record { split = words-first b bs e; some = omega (arith, one) })
    ] refl

nothing : (left : List ℕ) → length left ≡ 0 → words left ≡ []
nothing [] e = refl
nothing (b ∷ bs) e = absurd (omega arith)

pub none_left : (text left : List ℕ) → left ≡ without_front text → (length left == 0) ≡ true
    → words text ≡ []
none_left text left e none =
    sym (words-without_front text) ∙ ap words (sym e)
    ∙ nothing left (eqb-true (length left) 0 none)

pub taken : (text left first after : List ℕ) → left ≡ without_front text
    → (length left == 0) ≡ false → first ≡ first_word left → after ≡ after_word left
    → length after + prefix_len is_ink left ≤ length left → length left ≤ length text
    → (words text ≡ first ∷ words after) × (length after < length text)
taken text left first after e some f a less shorter =
    let more : ¬ (length left ≡ 0) = eqb-false (length left) 0 some in
    let there : 0 < length (without_front text) = omega (arith, ap length e) in
    let found = next_is text there in
    let one : 0 < prefix_len is_ink left = omega (arith, found.some, ap (prefix_len is_ink) e) in (
      found.split ∙ ap (λ l. first_word l ∷ words (after_word l)) (sym e)
          ∙ ap (λ w. w ∷ words (after_word left)) (sym f) ∙ ap (λ t. first ∷ words t) (sym a),
      omega arith,
    )

-- a word moves from the front of those left to the end of those done
pub word_moves : {X : Type 0} (all done left after more : List X) (word : X)
    → all ≡ done ++ left → left ≡ word ∷ after → more ≡ done ++ word ∷ [] → all ≡ more ++ after
word_moves all done left after more word e l m =
    e ∙ ap (λ ws. done ++ ws) l ∙ sym (append_assoc done (word ∷ []) after)
    ∙ ap (λ ws. ws ++ after) (sym m)

-- if none is left, all are done
pub all_done : {X : Type 0} (all done left : List X) → all ≡ done ++ left → left ≡ [] → done ≡ all
all_done all done left e none =
    sym (append-nil done) ∙ ap (λ ws. done ++ ws) (sym none) ∙ sym e
