-- A growth of the setup changes no stored row but those of the setup.
use Rattle.std.specs.Prelude.{ℕ, ◌≡◌, true, false, List, [], ◌∷◌, ◌++◌, map, reverse, refl}
use Rattle.std.specs.Prelude.{if◌then◌else◌}
use Rattle.std.specs.List.{flat_map, AllByRecursion}
use Rattle.std.specs.List.Sorted.{IsPermutation}
use Rattle.std.proofs.Common.{ap, sym, subst, ◌∙◌}
use Rattle.std.proofs.Math.Path.{fun_ext}
use Rattle.std.proofs.lemmas.List.Sorted.{IsPermutation-refl}
use Rattle.nest_core.specs.Museum.{Museum, listed_now, NeverFell}
use Rattle.posting_core.specs.declared.entry.Entry.{Entry}
use Rattle.posting_core.specs.declared.entry.NewLine.{NewLine}
use Rattle.posting_core.specs.declared.entry.NewSpot.{NewSpot}
use Rattle.posting_core.specs.declared.stage.LineStage.{LineStage}
use Rattle.posting_core.specs.Agreements.{Agreement, agreements}
use Rattle.posting_core.specs.Book.{new_spots}
use Rattle.posting_core.specs.Lawful.{IsLawful}
use Rattle.posting_core.specs.Loans.{objects_of, stage}
use Rattle.posting_core.specs.VerdictNames.{is_applied}
use Rattle.posting_core.proofs.Agreed.{IsSound, agreements_sound}
use Rattle.posting_core.proofs.GrownLists.{same_past}
use Rattle.posting_core.proofs.GrownRows.{new_spots_same}
use Rattle.posting_core.proofs.GrownSetups.{Grew, numbers_same}
use Rattle.register_store.specs.StoredRows.{Content, HasRows, IsStoreOf, rows_of_setup, spot_row}
use Rattle.register_store.specs.StoredRows.{line_row, written, all_written, lines_under}

module _ (n : ℕ) (S T : Museum) (depth : ℕ) (g : Grew n S T)
    (kept : NeverFell S.growths (listed_now S)) where
  written_same : (P : List Entry) (e : Entry) → IsLawful S depth (e ∷ P)
      → written T P e ≡ written S P e
  written_same P e lawful =
      elim (is_applied e.verdict) as (λ b. is_applied e.verdict ≡ b
      → (if b then new_spots T P e.message else [])
      ≡ (if b then new_spots S P e.message else [])) [
        | true ↦ λ h. new_spots_same n S T depth g kept P e lawful h
        | false ↦ λ h. refl
      ] refl

  all_written_same : (P : List Entry) → IsLawful S depth P → all_written T P ≡ all_written S P
  all_written_same [] lawful = refl
  all_written_same (e ∷ P) (follows, lawful) =
      ap (λ (w : List NewSpot). reverse w ++ all_written T P) (written_same P e (follows, lawful))
      ∙ ap (λ (rest : List NewSpot). reverse (written S P e) ++ rest) (all_written_same P lawful)

  lines_same : (P : List Entry) → IsLawful S depth P → (ts : List Agreement)
      → AllByRecursion (IsSound S) ts → flat_map (lines_under T P) ts
      ≡ flat_map (lines_under S P) ts
  lines_same P lawful [] all = refl
  lines_same P lawful (t ∷ ts) (is, all) =
      let under : lines_under T P t ≡ lines_under S P t =
      ap (λ (f : ℕ → LineStage). map (λ (o : ℕ). record { loan = t.loan; object = o; stage = f o })
      (objects_of T t)) (fun_ext ((same_past n S T depth g kept P lawful).stages t.loan))
      ∙ ap (map (λ (o : ℕ). record { loan = t.loan; object = o; stage = stage S P t.loan o }))
      (numbers_same n S T g kept t.objects is.known) in
      ap (λ (ls : List NewLine). ls ++ flat_map (lines_under T P) ts) under
      ∙ ap (λ (rest : List NewLine). lines_under S P t ++ rest) (lines_same P lawful ts all)

  pub rows_grown : (P : List Entry) (c : Content) → IsLawful S depth P → HasRows S P c
      → HasRows T P c
  rows_grown P c lawful has = record {
    spots = subst (λ rows. IsPermutation rows c.spots)
        (ap (map spot_row) (sym (all_written_same P lawful))) has.spots;
    lines = subst (λ rows. IsPermutation rows c.lines)
        (ap (map line_row)
        (sym (lines_same P lawful (agreements P) (agreements_sound S depth P lawful))))
        has.lines;
    terms = has.terms;
  }

  pub store_grown : (P : List Entry) (c : Content) → IsLawful S depth P → IsStoreOf S depth P c
      → IsStoreOf T depth P (record c { setup = rows_of_setup T })
  store_grown P c lawful is =
      let rows = rows_grown P c lawful is.rows in
      record {
        bound = record {
          setup = IsPermutation-refl (rows_of_setup T);
          meta = is.bound.meta;
          limit = is.bound.limit;
        };
        list = record { rows = is.list.rows; each = is.list.each; all = is.list.all };
        rows = record { spots = rows.spots; lines = rows.lines; terms = rows.terms };
      }
