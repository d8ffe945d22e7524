-- The rows of a setup written as a file, and the setup that is read back from it.
use Rattle.std.proofs.Common.{◌≡◌, ◌<◌, ◌≤◌, ◌+◌, ◌-◌, inl, inr, ℕ, suc, ℤ, pos}
use Rattle.std.proofs.Common.{List, [], ◌∷◌, ◌++◌, length, map, take, get_or}
use Rattle.std.proofs.Common.{All, refl, sym, ap, ◌∙◌, arith}
use Rattle.std.specs.Str.{IsUtf8}
use Rattle.std.proofs.Math.Seq.{take-suc}
use Rattle.std.proofs.lemmas.List.{append_assoc, length-append, take_all}
use Rattle.nest_core.specs.declared.growth.Growth.{Growth}
use Rattle.nest_core.specs.Museum.{Museum}
use Rattle.nest_core.specs.SetupRows.{museum_of, rows_of}
use Rattle.nest_core.specs.SetupTexts.{setup_rows}
use Rattle.sqlite.specs.Order.{Row}
use Rattle.register_sql.specs.Says.{setup_rows_shown}
use Rattle.register_sql.specs.Shown.{setup_shown}
use Rattle.register_sql.specs.StoredSetups.{FitsGrowth, IsPlain, ReadsBack, file_of, growth_text}
use Rattle.register_sql.specs.StoredSetups.{plain_rows}
use Rattle.register_sql.proofs.Setups.{shown_length}
use Rattle.register_sql.proofs.StoredSetups.{IsRow, all_plain, at_plain, row_is}

file_more : (texts : List (List ℕ)) (text : List ℕ)
    → file_of (texts ++ text ∷ []) ≡ file_of texts ++ text ++ 10 ∷ []
file_more [] text = refl
file_more (x ∷ texts) text =
    let rest = 10 ∷ file_of texts in
    ap (λ l. x ++ 10 ∷ l) (file_more texts text)
    ∙ sym (ap (λ l. l ++ 10 ∷ []) (append_assoc x rest text)
    ∙ append_assoc x (rest ++ text) (10 ∷ []))

-- one more row is written, if it isn't that of a growth
pub more_file : (S : Museum) (rows : List Row) (i : ℕ) (row : Row) (old new : List ℕ)
    → ((n : ℤ) (text : List ℕ) → IsPlain text → IsUtf8 text
    → row ≡ setup_shown (record { id = n; text = text }) → new ≡ old ++ text ++ 10 ∷ [])
    → ((n : ℤ) (g : Growth) → FitsGrowth g
    → row ≡ setup_shown (record { id = n; text = growth_text g }) → new ≡ old)
    → All IsUtf8 (plain_rows S) → All FitsGrowth S.growths
    → rows ≡ setup_rows_shown (setup_rows S) → i < length rows → row ≡ get_or rows i row
    → old ≡ file_of (take i (plain_rows S)) → new ≡ file_of (take (i + 1) (plain_rows S))
more_file S rows i row old new plain growth utf8 fits are low is before =
    go (row_is S rows i row are low is)
  where
    lines : List (List ℕ)
    lines = plain_rows S

    go : IsRow S i row → new ≡ file_of (take (i + 1) (plain_rows S))
    go (inl (less, here)) =
        let text = get_or (plain_rows S) i [] in
        let one : suc i ≡ i + 1 = omega arith in
        plain (pos (1 + i)) text (at_plain (plain_rows S) i [] less (all_plain S))
        (utf8 i [] less) (here [])
        ∙ ap (λ l. l ++ text ++ 10 ∷ []) before
        ∙ sym (file_more (take i (plain_rows S)) text)
        ∙ ap file_of (sym (take-suc (plain_rows S) i [] less))
        ∙ ap (λ n. file_of (take n (plain_rows S))) one
    go (inr (more, few, here)) =
        let any : Growth = record { after = 0; listed = record { places = 0; things = 0 } } in
        let at = i - length (plain_rows S) in
        growth (pos (1 + i)) (get_or S.growths at any) (fits at any few) (here any) ∙ before
        ∙ ap file_of (take_all i (plain_rows S) more)
        ∙ sym (ap file_of (take_all (i + 1) (plain_rows S) (omega (arith, more))))

pub all_written : (S : Museum) (rows : List Row) (i : ℕ) (file : List ℕ)
    → rows ≡ setup_rows_shown (setup_rows S) → length rows ≤ i
    → file ≡ file_of (take i (plain_rows S)) → file ≡ file_of (plain_rows S)
all_written S rows i file are high before =
    let many : length (plain_rows S) ≤ i = omega (
      arith,
      high,
      ap length are,
      shown_length 1 (setup_rows S),
      length-append (plain_rows S) (map growth_text S.growths),
    ) in
    before ∙ ap file_of (take_all i (plain_rows S) many)

-- ---- the setup that is read from that file

module _ (S : Museum) (reads : ReadsBack S) where
  pub plain_is : (bytes : List ℕ) (T : Museum) → bytes ≡ file_of (plain_rows S)
      → T ≡ museum_of (rows_of bytes) → T ≡ record S { growths = [] }
  plain_is bytes T written is =
      is ∙ ap (λ b. museum_of (rows_of b)) written ∙ reads.lists

  pub whole : (T found : Museum) (growths : List Growth) → T ≡ record S { growths = [] }
      → growths ≡ S.growths → found ≡ record T { growths = growths } → found ≡ S
  whole T found growths plain same is = is ∙ rw (plain, same) refl
