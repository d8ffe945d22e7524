-- The widths of columns, and the texts of a line.
use Rattle.std.proofs.Common.{◌≡◌, ◌∙◌, ℕ, ◌+◌, ◌<◌, ◌≤◌, List, [], ◌∷◌, ◌++◌, length, map, take}
use Rattle.std.proofs.Common.{ap, sym, refl, zero, suc, Some, max, set, get_or, arith}
use Rattle.std.proofs.Common.{add-one}
use Rattle.std.proofs.lemmas.List.{length-map, length-take-le, map-append, take_more}
use Rattle.std.specs.List.{flat_map, slice_get}
use Rattle.std.specs.Option.{option_to_list}
use Rattle.reports.specs.Aligned.{column_widths, filled, filled_texts, row_texts, wider, width}
use Rattle.reports.specs.Cells.{Cell}
use Rattle.reports.proofs.EachRows.{each, pieces_more}
use Rattle.reports.proofs.WrittenText.{row_taken}

pub wider-none : (vs : List ℕ) → wider vs [] ≡ vs
wider-none [] = refl
wider-none (v ∷ vs) = refl

max_assoc : (a b c : ℕ) → max (max a b) c ≡ max a (max b c)
max_assoc a b c = omega arith

wider_assoc : (us vs ws : List ℕ) → wider (wider us vs) ws ≡ wider us (wider vs ws)
wider_assoc [] vs ws = refl
wider_assoc (u ∷ us) [] ws = refl
wider_assoc (u ∷ us) (v ∷ vs) [] = refl
wider_assoc (u ∷ us) (v ∷ vs) (w ∷ ws) =
    ap (λ m. m ∷ wider (wider us vs) ws) (max_assoc u v w)
    ∙ ap (λ l. max u (max v w) ∷ l) (wider_assoc us vs ws)

-- the widths of some lines and of more
column_widths-append : (xs ys : List (List (List ℕ))) → column_widths (xs ++ ys)
    ≡ wider (column_widths xs) (column_widths ys)
column_widths-append [] ys = refl
column_widths-append (x ∷ xs) ys =
    ap (wider (map width x)) (column_widths-append xs ys)
    ∙ sym (wider_assoc (map width x) (column_widths xs) (column_widths ys))

-- one more text, in a column that is there
pub wider_set : (vs ws : List ℕ) (w : ℕ) → length ws < length (wider vs ws)
    → wider vs (ws ++ w ∷ [])
    ≡ set (wider vs ws) (length ws) (max (get_or (wider vs ws) (length ws) 0) w)
wider_set [] ws w h = absurd (omega (arith, h))
wider_set (v ∷ vs) [] w h = ap (λ l. max v w ∷ l) (wider-none vs)
wider_set (v ∷ vs) (x ∷ ws) w h = ap (λ l. max v x ∷ l) (wider_set vs ws w (omega (arith, h)))

-- one more text, in a new column
pub wider_push : (vs ws : List ℕ) (w : ℕ) → length (wider vs ws) ≤ length ws
    → wider vs (ws ++ w ∷ []) ≡ wider vs ws ++ w ∷ []
wider_push [] ws w h = refl
wider_push (v ∷ vs) [] w h = absurd (omega (arith, h))
wider_push (v ∷ vs) (x ∷ ws) w h = ap (λ l. max v x ∷ l) (wider_push vs ws w (omega (arith, h)))

-- the texts through text i
texts_next : {X : Type 0} (f : X → List ℕ) (xs : List X) (i : ℕ) (x : X) → i < length xs
    → x ≡ get_or xs i x → map f (take (i + 1) xs) ≡ map f (take i xs) ++ f x ∷ []
texts_next f xs i x h at =
    ap (map f) (take_more xs i x h)
    ∙ (map-append f (take i xs) (get_or xs i x ∷ [])
    ∙ ap (λ y. map f (take i xs) ++ f y ∷ []) (sym at))

module _ {X : Type 0} (f : X → List ℕ) (vs acc : List ℕ) (xs : List X) (i : ℕ) (x : X) where
  widths_next : i < length xs → x ≡ get_or xs i x
      → wider vs (map width (map f (take (i + 1) xs)))
      ≡ wider vs (map width (map f (take i xs)) ++ width (f x) ∷ [])
  widths_next h at = ap (λ ts. wider vs (map width ts)) (texts_next f xs i x h at)
      ∙ ap (wider vs) (map-append width (map f (take i xs)) (f x ∷ []))

  length_so_far : i < length xs → length (map width (map f (take i xs))) ≡ i
  length_so_far h = length-map (map f (take i xs)) width
      ∙ (length-map (take i xs) f ∙ length-take-le i xs (omega (arith, h)))

  -- a column that is there is widened to one more text
  pub widened_in : i < length xs → x ≡ get_or xs i x
      → acc ≡ wider vs (map width (map f (take i xs))) → i < length acc
      → set acc i (max (get_or acc i 0) (width (f x)))
      ≡ wider vs (map width (map f (take (i + 1) xs)))
  widened_in h at is within =
      let n = length_so_far h in
      let e = ap length is in
      let more = wider_set vs (map width (map f (take i xs))) (width (f x))
      (omega (arith, n, e, within)) in
      let next = widths_next h at in
      cc

  -- a column that is not is added
  pub widened_by : i < length xs → x ≡ get_or xs i x
      → acc ≡ wider vs (map width (map f (take i xs))) → length acc ≤ i
      → acc ++ width (f x) ∷ [] ≡ wider vs (map width (map f (take (i + 1) xs)))
  widened_by h at is past =
      let n = length_so_far h in
      let e = ap length is in
      let more = wider_push vs (map width (map f (take i xs))) (width (f x))
      (omega (arith, n, e, past)) in
      let next = widths_next h at in
      cc

-- the widths of one row
pub row_widths : (rows : List (List Cell)) (i : ℕ) (row : List Cell) → slice_get rows i ≡ Some row
    → column_widths (map row_texts (option_to_list (slice_get rows i)))
    ≡ map width (row_texts row)
row_widths rows i row is =
    ap (λ o. column_widths (map row_texts (option_to_list o))) is
    ∙ wider-none (map width (row_texts row))

-- the widths of the rows through row i
widths_more : (rows : List (List Cell)) (i : ℕ)
    → column_widths (map row_texts (take (i + 1) rows))
    ≡ wider (column_widths (map row_texts (take i rows)))
    (column_widths (map row_texts (option_to_list (slice_get rows i))))
widths_more rows i =
    ap (λ k. column_widths (map row_texts (take k rows))) (add-one i)
    ∙ (ap (λ l. column_widths (map row_texts l)) (row_taken rows i)
    ∙ (ap column_widths (map-append row_texts (take i rows) (option_to_list (slice_get rows i)))
    ∙ column_widths-append (map row_texts (take i rows))
    (map row_texts (option_to_list (slice_get rows i)))))

-- the widths of the heading and of the rows, with those of more rows
pub wider_more : (heading rows more old new : List ℕ) → new ≡ wider old more
    → old ≡ wider heading rows → new ≡ wider heading (wider rows more)
wider_more heading rows more old new p q =
    p ∙ (ap (λ ws. wider ws more) q ∙ wider_assoc heading rows more)

-- one more row
pub widened_by_row : (heading : List ℕ) (rows : List (List Cell)) (i : ℕ) (old new : List ℕ)
    → new ≡ wider old (column_widths (map row_texts (option_to_list (slice_get rows i))))
    → old ≡ wider heading (column_widths (map row_texts (take i rows)))
    → new ≡ wider heading (column_widths (map row_texts (take (i + 1) rows)))
widened_by_row heading rows i old new p q =
    wider_more heading (column_widths (map row_texts (take i rows)))
    (column_widths (map row_texts (option_to_list (slice_get rows i)))) old new p q
    ∙ ap (wider heading) (sym (widths_more rows i))

-- the rows of one more entry
pub widened_by_entry : (heading : List ℕ) (rows : ℕ → List (List Cell)) (n i : ℕ)
    (old new : List ℕ) → i < n → new ≡ wider old (column_widths (map row_texts (rows i)))
    → old ≡ wider heading (column_widths (flat_map (map row_texts) (take i (each rows n))))
    → new ≡ wider heading (column_widths (flat_map (map row_texts) (take (i + 1) (each rows n))))
widened_by_entry heading rows n i old new within p q =
    wider_more heading (column_widths (flat_map (map row_texts) (take i (each rows n))))
    (column_widths (map row_texts (rows i))) old new p q
    ∙ ap (wider heading)
    (sym (ap column_widths (pieces_more (map row_texts) rows n i within)
    ∙ column_widths-append (flat_map (map row_texts) (take i (each rows n)))
    (map row_texts (rows i))))

-- a text that is not the last is filled
pub filled_at : (ws : List ℕ) (ts : List (List ℕ)) (i w : ℕ) (t : List ℕ) → i + 1 < length ts
    → slice_get ws i ≡ Some w → slice_get ts i ≡ Some t
    → slice_get (filled_texts ws ts) i ≡ Some (filled w t)
filled_at [] ts i w t h p q = cc
filled_at (v ∷ ws) [] i w t h p q = absurd (omega (arith, h))
filled_at (v ∷ ws) (s ∷ []) i w t h p q = absurd (omega (arith, h))
filled_at (v ∷ ws) (s ∷ next ∷ ts) zero w t h p q = cc
filled_at (v ∷ ws) (s ∷ next ∷ ts) (suc i) w t h p q =
    filled_at ws (next ∷ ts) i w t (omega (arith, h)) p q

-- the last one is not
pub last_at : (ws : List ℕ) (ts : List (List ℕ)) (i : ℕ) (t : List ℕ) → length ts ≤ i + 1
    → slice_get ts i ≡ Some t → slice_get (filled_texts ws ts) i ≡ Some t
last_at [] [] i t h q = q
last_at [] (s ∷ ts) i t h q = q
last_at (v ∷ ws) [] i t h q = q
last_at (v ∷ ws) (s ∷ []) i t h q = q
last_at (v ∷ ws) (s ∷ next ∷ ts) zero t h q = absurd (omega (arith, h))
last_at (v ∷ ws) (s ∷ next ∷ ts) (suc i) t h q = last_at ws (next ∷ ts) i t (omega (arith, h)) q

-- nor is one in a column without a width
pub beyond_at : (ws : List ℕ) (ts : List (List ℕ)) (i : ℕ) (t : List ℕ) → length ws ≤ i
    → slice_get ts i ≡ Some t → slice_get (filled_texts ws ts) i ≡ Some t
beyond_at [] [] i t h q = q
beyond_at [] (s ∷ ts) i t h q = q
beyond_at (v ∷ ws) [] i t h q = q
beyond_at (v ∷ ws) (s ∷ []) i t h q = q
beyond_at (v ∷ ws) (s ∷ next ∷ ts) zero t h q = absurd (omega (arith, h))
beyond_at (v ∷ ws) (s ∷ next ∷ ts) (suc i) t h q =
    beyond_at ws (next ∷ ts) i t (omega (arith, h)) q

-- no text is lost
pub length-filled_texts : (ws : List ℕ) (ts : List (List ℕ)) → length (filled_texts ws ts)
    ≡ length ts
length-filled_texts [] ts = refl
length-filled_texts (w ∷ ws) [] = refl
length-filled_texts (w ∷ ws) (t ∷ []) = refl
length-filled_texts (w ∷ ws) (t ∷ next ∷ ts) =
    ap (λ n. suc n) (length-filled_texts ws (next ∷ ts))
