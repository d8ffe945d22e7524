use Rattle.std.proofs.Common.{◌≡◌, ◌∙◌, ℕ, ◌+◌, ◌<◌, ◌≤◌, List, [], ◌∷◌, ◌++◌, length, get_or, take}
use Rattle.std.proofs.Common.{drop, ap, sym, subst, arith}
use Rattle.std.specs.Prelude.{reverse}
use Rattle.std.proofs.lemmas.List.{reverse-append, reverse-reverse, length-reverse, take_more}
use Rattle.std.proofs.lemmas.List.{take-append-drop}
use Rattle.nest_core.specs.Museum.{Museum}
use Rattle.posting_core.specs.declared.entry.Entry.{Entry}
use Rattle.posting_core.specs.Book.{Book}
use Rattle.posting_core.specs.Past.{upto}
use Rattle.posting_core.specs.Lawful.{Follows, IsLawful}
use Rattle.posting_core.proofs.past_ledger.post_next.Goals as goal

-- The older entries of a lawful list are lawful.
lawful_rest : (S : Museum) (depth : ℕ) (newer older : List Entry)
    → IsLawful S depth (newer ++ older) → IsLawful S depth older
lawful_rest S depth [] older h = h
lawful_rest S depth (e ∷ newer) older h = lawful_rest S depth newer older h.1

-- The first i + 1 entries, the newest first, are entry i and then the first i.
reverse-take : (xs : List Entry) (i : ℕ) (d : Entry) → i < length xs
    → reverse (take (i + 1) xs) ≡ get_or xs i d ∷ reverse (take i xs)
reverse-take xs i d lt =
    ap reverse (take_more xs i d lt) ∙ reverse-append (take i xs) (get_or xs i d ∷ [])

-- Entry i of a lawful list may follow those before it.
follows_earlier : (S : Museum) (depth : ℕ) (xs : List Entry) (i : ℕ) (d : Entry) → i < length xs
    → IsLawful S depth (reverse xs) → Follows S depth (reverse (take i xs)) (get_or xs i d)
follows_earlier S depth xs i d lt lawful =
    let all : reverse xs ≡ reverse (drop (i + 1) xs) ++ reverse (take (i + 1) xs) =
    ap reverse (sym (take-append-drop (i + 1) xs))
    ∙ reverse-append (take (i + 1) xs) (drop (i + 1) xs) in
    let first : IsLawful S depth (reverse (take (i + 1) xs)) =
    lawful_rest S depth (reverse (drop (i + 1) xs)) (reverse (take (i + 1) xs))
    (subst (IsLawful S depth) all lawful) in
    (subst (IsLawful S depth) (reverse-take xs i d lt) first).0

pub post_again-requires : goal.post_again-requires
post_again-requires c =
    let L = c.args.ledger.now in
    let xs = c.posted-entries.result.now in
    let e = c.index-entries-i.result in
    let i = c.args.i in
    let older : xs ≡ reverse L.posted =
    sym (reverse-reverse xs) ∙ ap reverse c.posted-entries.ensures in
    let within : i < length xs =
    subst (λ n. i < n) (sym (ap length older ∙ length-reverse L.posted)) c.requires.within in
    let lawful : IsLawful L.museum L.depth (reverse xs) =
    subst (IsLawful L.museum L.depth) (sym c.posted-entries.ensures) c.is_lawful.ensures in
    let then : Follows L.museum L.depth (reverse (take i xs)) (get_or xs i e) =
    follows_earlier L.museum L.depth xs i e within lawful in
    subst (λ (B : Book). Follows B.museum B.depth B.posted e) (sym c.requires.before)
    (subst (λ (y : Entry). Follows L.museum L.depth (upto L i).posted y) (sym c.index-entries-i.is)
    (subst (λ (ys : List Entry). Follows L.museum L.depth (reverse (take i ys)) (get_or xs i e))
    older then))
