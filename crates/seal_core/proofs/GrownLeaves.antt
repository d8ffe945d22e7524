-- A growth of the setup changes no leaf of the entries posted before it.
use Rattle.std.proofs.Common.{◌≡◌, ℕ, zero, suc, ◌+◌, ◌<◌, List, [], ◌∷◌, ◌++◌, length, refl}
use Rattle.std.proofs.Common.{sym, ap, ap₂, ◌∙◌, reverse, add-one, subst}
use Rattle.std.specs.Prelude.{Option, Some, None, IfSome, unwrap_or}
use Rattle.std.specs.List.{slice_get}
use Rattle.std.specs.Option.{option_map_or}
use Rattle.std.proofs.lemmas.List.{reverse-append}
use Rattle.seal_core.specs.Trees.{tree_head}
use Rattle.nest_core.specs.Museum.{Museum}
use Rattle.nest_core.specs.SetupGrowing.{Extends, grown}
use Rattle.posting_core.specs.declared.entry.Entry.{Entry}
use Rattle.posting_core.specs.Book.{Book}
use Rattle.posting_core.specs.Lawful.{IsLawful}
use Rattle.posting_core.specs.VerdictNames.{verdict_name}
use Rattle.register_store.specs.MessageText.{body_of}
use Rattle.reports.specs.Cells.{json, number, text, joined_words}
use Rattle.reports.specs.Stations.{entry_row}
use Rattle.reports.specs.Texts.{station_text}
use Rattle.seal_core.specs.declared.seal.Seal.{Seal}
use Rattle.seal_core.specs.Leaves.{leaves}
use Rattle.seal_core.specs.Seals.{Holds}
use Rattle.seal_core.proofs.Kept.{slice_get_front}
use Rattle.seal_core.proofs.MoreLeaves.{leaves_more}

abbrev IsKnown : Museum → Entry → Type 0
IsKnown S e = e.station < length S.stations

abbrev AreKnown : Museum → List Entry → Type 0
AreKnown S [] = Unit {0}
AreKnown S (e ∷ P) = IsKnown S e × AreKnown S P

all_known : (S : Museum) (depth : ℕ) (P : List Entry) → IsLawful S depth P → AreKnown S P
all_known S depth [] lawful = tt
all_known S depth (e ∷ P) lawful = (lawful.0.known, all_known S depth P lawful.1)

known_append : (S : Museum) (P Q : List Entry) → AreKnown S P → AreKnown S Q → AreKnown S (P ++ Q)
known_append S [] Q known others = others
known_append S (e ∷ P) Q known others = (known.0, known_append S P Q known.1 others)

all_reversed : (S : Museum) (P : List Entry) → AreKnown S P → AreKnown S (reverse P)
all_reversed S [] known = tt
all_reversed S (e ∷ P) known =
    subst (AreKnown S) (sym (reverse-append (e ∷ []) P))
    (known_append S (reverse P) (e ∷ []) (all_reversed S P known.1) (known.0, tt))

known_at : (S : Museum) (P : List Entry) (i : ℕ) → AreKnown S P
    → IfSome (slice_get P i) (IsKnown S)
known_at S [] i known = tt
known_at S (e ∷ P) zero known = known.0
known_at S (e ∷ P) (suc i) known = known_at S P i known.1

abbrev book : Museum → ℕ → List Entry → Book
book S depth P = record { museum = S; depth = depth; posted = P }

same_station : (S T : Museum) (more : List (List ℕ)) (s : ℕ) → T.stations ≡ S.stations ++ more
    → s < length S.stations → station_text T s ≡ station_text S s
same_station S T more s grew known = ap (λ found. unwrap_or found [])
    (ap (λ (stations : List (List ℕ)). slice_get stations s) grew
    ∙ slice_get_front S.stations more s known)

same_line : (S T : Museum) (more : List (List ℕ)) (n : ℕ) (found : Option Entry)
    → T.stations ≡ S.stations ++ more → IfSome found (IsKnown S)
    → joined_words (option_map_or (entry_row T n) found [])
    ≡ joined_words (option_map_or (entry_row S n) found [])
same_line S T more n None grew known = refl
same_line S T more n (Some e) grew known =
    ap (λ (station : List ℕ). joined_words (number n ∷ text station ∷ number e.n
    ∷ text (verdict_name e.verdict) ∷ json (body_of e.message) ∷ []))
    (same_station S T more e.station grew known)

same_leaves : (S T : Museum) (more : List (List ℕ)) (depth : ℕ) (P : List Entry) (n : ℕ)
    → T.stations ≡ S.stations ++ more → IsLawful S depth P
    → leaves (book T depth P) n ≡ leaves (book S depth P) n
same_leaves S T more depth P zero grew lawful = refl
same_leaves S T more depth P (suc n) grew lawful =
    ap (leaves (book T depth P)) (sym (add-one n)) ∙ leaves_more (book T depth P) n
    ∙ ap₂ (λ (front : List (List ℕ)) (leaf : List ℕ). front ++ leaf ∷ [])
    (same_leaves S T more depth P n grew lawful)
    (same_line S T more (n + 1) (slice_get (reverse P) n) grew
    (known_at S (reverse P) n
    (all_reversed S P (all_known S depth P lawful))))
    ∙ sym (leaves_more (book S depth P) n) ∙ ap (leaves (book S depth P)) (add-one n)

pub holds_grown : (S T : Museum) (depth : ℕ) (P : List Entry) (seal : Seal) → Extends S T
    → IsLawful S depth P → Holds (book S depth P) seal
    → Holds (book (grown (length P) S T) depth P) seal
holds_grown S T depth P seal extends lawful held = record {
  posted = held.posted;
  head = held.head ∙ ap tree_head (sym (same_leaves S (grown (length P) S T)
      extends.more_stations depth P seal.entries extends.stations lawful));
}
