-- The growths among the rows of a setup: their texts read back, and no other row is one.
use Rattle.std.proofs.Common.{◌≡◌, ◌≢◌, ◌<◌, ◌≤◌, ◌+◌, ◌-◌, ◌==◌, ◌^◌, ◌⊎◌, inl, inr, ℕ, zero, suc}
use Rattle.std.proofs.Common.{pos, List, [], ◌∷◌, ◌++◌, length, map, take, drop, get_or, Bool, true}
use Rattle.std.proofs.Common.{false, Bor, Option, Some, None, All, refl, sym, ap, subst, ◌∙◌, arith}
use Rattle.std.proofs.Common.{ltb, ltb-true, ltb-false, rules}
use Rattle.std.specs.Prelude.{IfSome, IfNone, if◌then◌else◌, codes, decimal, not, cond, MatchOption}
use Rattle.std.specs.Prelude.{◌↔◌}
use Rattle.std.specs.List.Sorted.{IsPermutation, IsSorted}
use Rattle.std.proofs.lemmas.List.Sorted.{IsPermutation-refl, length_permutation}
use Rattle.std.specs.List.{AllByRecursion, after_first, before_first, position_or_len, prefix_len}
use Rattle.std.specs.Str.{IsAscii, IsUtf8}
use Rattle.std.specs.Char.{digit_value}
use Rattle.std.specs.Str.Parse.{AllDigits}
use Rattle.std.proofs.lemmas.Bool.{eqb-true}
use Rattle.std.proofs.lemmas.Fmt.{decimal_is_IsNumeral, IsAscii-from_digits}
use Rattle.std.proofs.lemmas.Str.{IsAscii-append, IsUtf8-from_ascii}
use Rattle.std.proofs.lemmas.List.{length-append, length-map, get_or-append-add}
use Rattle.std.proofs.lemmas.List.{get_or_append_left, get_or-map, take_all}
use Rattle.std.proofs.Math.Seq.{take-append_seam, drop-append-add, take-suc}
use Rattle.codes_core.specs.Thing.{thing_kind}
use Rattle.codes_core.specs.declared.thing.ThingKind.{ThingKind}
use Rattle.codes_core.specs.declared.thing.ThingKind.TheVariants.{Own, Borrowed, Container}
use Rattle.nest_core.specs.Museum.{Museum}
use Rattle.nest_core.specs.SetupTexts.{joined, kind_word, normal_fields}
use Rattle.nest_core.specs.SetupTexts.{place_fields, setup_rows}
use Rattle.nest_core.specs.SetupTexts.{station_fields, thing_fields}
use Rattle.nest_core.specs.declared.growth.Growth.{Growth}
use Rattle.sqlite.specs.Effect.{Database}
use Rattle.sqlite.specs.Order.{Row}
use Rattle.sqlite.specs.Tree.{Trees}
use Rattle.sqlite_catalog.specs.Listing.{IsSound}
use Rattle.register_store.specs.StoredRows.{Content, rows_of_setup}
use Rattle.register_sql.specs.Queries.{shown_in}
use Rattle.register_sql.specs.Rows.{HasPart, IsStored}
use Rattle.register_sql.specs.Says.{HasSetup, setup_in, setup_rows_shown}
use Rattle.register_sql.specs.Shown.{id_cmp, setup_shown, shown_setup}
use Rattle.register_sql.specs.Tables.{prefix}
use Rattle.register_sql.specs.declared.queries.Query.TheVariants.{Setups}
use Rattle.register_sql.specs.StoredSetups.{AreGrowthsIn, AreSetupRows, FitsGrowth, HoldsSetup}
use Rattle.register_sql.specs.StoredSetups.{IsPlain, LacksSetup, ReadsBack, growth_text}
use Rattle.register_sql.specs.StoredSetups.{plain_rows}
use Rattle.register_sql.proofs.Binds.{part_of}
use Rattle.register_sql.proofs.Profiles.{has_setup, has_the_setup}
use Rattle.register_sql.proofs.Rising.{here, gone}
use Rattle.register_sql.proofs.Setups.{got_from, rows_told, shown_length}

-- ---- where a text is cut

abbrev is_comma : ℕ → Bool
is_comma b = b == 44

-- a text without commas
abbrev pub Free : List ℕ → Type 0
Free [] = Unit {0}
Free (c ∷ cs) = (is_comma c ≡ false) × Free cs

digits_free : (ds : List ℕ) → AllDigits 10 ds → Free ds
digits_free [] all = tt
digits_free (d ∷ ds) all = (no (is_comma d) refl, digits_free ds all.1)
  where
    no : (b : Bool) → is_comma d ≡ b → is_comma d ≡ false
    no false is = is
    no true is = absurd (let low : digit_value 44 < 10 =
        subst (λ c. digit_value c < 10) (eqb-true d 44 is) all.0 in omega (arith, low))

pub decimal_free : (n : ℕ) → n < 2 ^ 64 → Free (decimal n)
decimal_free n low = digits_free (decimal n) (decimal_is_IsNumeral n low).0.1

pub cut_at : (word rest : List ℕ) → Free word
    → position_or_len is_comma (word ++ 44 ∷ rest) ≡ length word
cut_at [] rest free = refl
cut_at (c ∷ word) rest free =
    let more = prefix_len (λ x. not (is_comma x)) (word ++ 44 ∷ rest) in
    let one : 1 + more ≡ suc more = omega arith in
    ap (λ b. cond (not b) (1 + more) 0) free.0 ∙ one ∙ ap suc (cut_at word rest free.1)

pub first_part : (word rest : List ℕ) → Free word
    → before_first is_comma (word ++ 44 ∷ rest) ≡ word
first_part word rest free = ap (λ n. take n (word ++ 44 ∷ rest)) (cut_at word rest free)
    ∙ take-append_seam word (44 ∷ rest)

pub second_part : (word rest : List ℕ) → Free word
    → after_first is_comma (word ++ 44 ∷ rest) ≡ rest
second_part word rest free = ap (λ n. drop (n + 1) (word ++ 44 ∷ rest)) (cut_at word rest free)
    ∙ drop-append-add word (44 ∷ rest) 1

digits_ascii : (n : ℕ) → n < 2 ^ 64 → IsAscii (decimal n)
digits_ascii n low = IsAscii-from_digits (decimal n) (decimal_is_IsNumeral n low).0.1

pub growth_text_utf8 : (g : Growth) → FitsGrowth g → IsUtf8 (growth_text g)
growth_text_utf8 g fits = IsUtf8-from_ascii (growth_text g)
    (IsAscii-append (codes "grew,") _ (search rules)
    (IsAscii-append (decimal g.after) _ (digits_ascii g.after (omega (arith, fits.after)))
    (IsAscii-append (codes ",") _ (search rules)
    (IsAscii-append (decimal g.listed.places) _
    (digits_ascii g.listed.places (omega (arith, fits.places)))
    (IsAscii-append (codes ",") _ (search rules)
    (digits_ascii g.listed.things (omega (arith, fits.things))))))))

-- a text was cut into these two parts
abbrev pub IsCut : List ℕ → List ℕ → Option (Bor (List ℕ) × Bor (List ℕ)) → Type 0
IsCut word rest None = ⊥
IsCut word rest (Some x) = (x.0.now ≡ word) × (x.1.now ≡ rest)

pub cut : (word rest text : List ℕ) (r : Option (Bor (List ℕ) × Bor (List ℕ))) → Free word
    → text ≡ word ++ 44 ∷ rest
    → MatchOption r (position_or_len is_comma text ≡ length text)
    (λ x. (x.0.now ≡ before_first is_comma text) × (x.1.now ≡ after_first is_comma text)
    × (position_or_len is_comma text < length text))
    → IsCut word rest r
cut word rest text None free is at = absurd (omega (
  arith,
  ap (position_or_len is_comma) is ∙ cut_at word rest free,
  at,
  ap length is,
  length-append word (44 ∷ rest),
))
cut word rest text (Some x) free is at = (
  at.0 ∙ ap (before_first is_comma) is ∙ first_part word rest free,
  at.1 ∙ ap (after_first is_comma) is ∙ second_part word rest free,
)

-- ---- the rows of a setup but those of its growths

pub rows_split : (S : Museum) → setup_rows S ≡ plain_rows S ++ map growth_text S.growths
rows_split S = refl

plain_word : (word rest : List ℕ) → Free word → word ≢ codes "grew" → IsPlain (word ++ 44 ∷ rest)
plain_word word rest free other is = other (sym (first_part word rest free) ∙ is)

kind_free : (k : ThingKind) → Free (kind_word k) × (kind_word k ≢ codes "grew")
kind_free Own = (
  (refl, (refl, (refl, tt))),
  λ is. absurd (let e : 3 ≡ 4 = ap length is in omega (arith, e)),
)
kind_free Borrowed = (
  (refl, (refl, (refl, (refl, tt)))),
  λ is.
      absurd (let e : 108 ≡ 103 = ap (λ l. get_or l 0 0) is in omega (arith, e)),
)
kind_free Container = (
  (refl, (refl, (refl, tt))),
  λ is. absurd (let e : 3 ≡ 4 = ap length is in omega (arith, e)),
)

all_append : {X : Type 0} (P : X → Type 0) (xs ys : List X) → AllByRecursion P xs
    → AllByRecursion P ys → AllByRecursion P (xs ++ ys)
all_append P [] ys a b = b
all_append P (x ∷ xs) ys a b = (a.0, all_append P xs ys a.1 b)

all_map : {X Y : Type 0} (P : Y → Type 0) (f : X → Y) (xs : List X) → ((x : X) → P (f x))
    → AllByRecursion P (map f xs)
all_map P f [] each = tt
all_map P f (x ∷ xs) each = (each x, all_map P f xs each)

plain_fields : (word field : List ℕ) (fields : List (List ℕ)) → Free word → word ≢ codes "grew"
    → IsPlain (joined (word ∷ field ∷ fields))
plain_fields word field fields = plain_word word (joined (field ∷ fields))

pub all_plain : (S : Museum) → AllByRecursion IsPlain (plain_rows S)
all_plain S = all_append IsPlain _ _ (all_append IsPlain _ _ stations places) things
  where
    stations : AllByRecursion IsPlain (map (λ name. joined (station_fields name)) S.stations)
    stations = all_map IsPlain _ S.stations (λ name. plain_fields (codes "station") name []
        (refl, (refl, (refl, (refl, (refl, (refl, (refl, tt)))))))
        (λ is. absurd (let e : 7 ≡ 4 = ap length is in omega (arith, e))))

    places : AllByRecursion IsPlain (map (λ row. joined (place_fields row)) S.places)
    places = all_map IsPlain _ S.places (λ row. plain_fields (codes "place") row.0
        ((if row.1 then codes "inside" else codes "elsewhere") ∷ [])
        (refl, (refl, (refl, (refl, (refl, tt)))))
        (λ is. absurd (let e : 5 ≡ 4 = ap length is in omega (arith, e))))

    things : AllByRecursion IsPlain (map (λ row. joined (thing_fields S row)) S.things)
    things = all_map IsPlain _ S.things (λ row. let kind = kind_free (thing_kind row.0) in
        plain_fields (kind_word (thing_kind row.0)) row.0 (normal_fields S row.1) kind.0 kind.1)

-- ---- one row after another

pub at_plain : (rows : List (List ℕ)) (i : ℕ) (d : List ℕ) → i < length rows
    → AllByRecursion IsPlain rows → IsPlain (get_or rows i d)
at_plain [] i d low all = absurd (omega (arith, low))
at_plain (r ∷ rows) zero d low all = all.0
at_plain (r ∷ rows) (suc i) d low all = at_plain rows i d (omega (arith, low)) all.1

-- row i is that of a station, place or thing, or that of a growth
abbrev pub IsRow : Museum → ℕ → Row → Type 0
IsRow S i row =
    let first = length (plain_rows S) in
    ((i < first) × ((d : List ℕ)
    → row ≡ setup_shown (record { id = pos (1 + i); text = get_or (plain_rows S) i d })))
    ⊎ ((first ≤ i) × (i - first < length S.growths) × ((d : Growth)
    → let text = growth_text (get_or S.growths (i - first) d) in
    row ≡ setup_shown (record { id = pos (1 + i); text = text })))

pub row_is : (S : Museum) (rows : List Row) (i : ℕ) (row : Row)
    → rows ≡ setup_rows_shown (setup_rows S) → i < length rows → row ≡ get_or rows i row
    → IsRow S i row
row_is S rows i row are low is = go (ltb i first) refl
  where
    first : ℕ
    first = length (plain_rows S)

    texts : List (List ℕ)
    texts = plain_rows S ++ map growth_text S.growths

    all : rows ≡ setup_rows_shown texts
    all = are ∙ ap setup_rows_shown (rows_split S)

    many : i < length texts
    many = omega (arith, low, ap length all, shown_length 1 texts)

    here : (t : List ℕ) → row ≡ setup_shown (record { id = pos (1 + i); text = get_or texts i t })
    here t = is ∙ ap (λ l. get_or l i row) all ∙ got_from 1 texts i row t many

    go : (b : Bool) → ltb i first ≡ b → IsRow S i row
    go true before =
        let less : i < first = ltb-true i first before in
        inl (
          less,
          λ d. here d ∙ ap (λ t. setup_shown (record { id = pos (1 + i); text = t }))
              (get_or_append_left (plain_rows S) (map growth_text S.growths) d i less),
        )
    go false other =
        let more : first ≤ i = ltb-false i first other in
        let j = i - first in
        let at : first + j ≡ i = omega (arith, more) in
        let few : j < length S.growths = omega (
          arith,
          more,
          many,
          length-append (plain_rows S) (map growth_text S.growths),
          length-map S.growths growth_text,
        ) in
        inr (
          more,
          few,
          λ d. here (growth_text d)
              ∙ ap (λ t. setup_shown (record { id = pos (1 + i); text = t }))
              (ap (λ n. get_or texts n (growth_text d)) (sym at)
              ∙ get_or-append-add (plain_rows S) (map growth_text S.growths) j (growth_text d)
              ∙ get_or-map growth_text S.growths j d (growth_text d) few),
        )

-- what reading row i finds
abbrev pub Finds : Museum → ℕ → Option Growth → Type 0
Finds S i r =
    let first = length (plain_rows S) in
    ((i < first) × (r ≡ None))
    ⊎ ((first ≤ i) × (i - first < length S.growths)
    × ((d : Growth) → r ≡ Some (get_or S.growths (i - first) d)))

pub found : (S : Museum) (rows : List Row) (i : ℕ) (row : Row) (r : Option Growth)
    → ((n : _) (g : Growth) → FitsGrowth g
    → row ≡ setup_shown (record { id = n; text = growth_text g }) → r ≡ Some g)
    → ((n : _) (text : List ℕ) → IsPlain text
    → row ≡ setup_shown (record { id = n; text = text }) → r ≡ None)
    → All FitsGrowth S.growths → rows ≡ setup_rows_shown (setup_rows S) → i < length rows
    → row ≡ get_or rows i row → Finds S i r
found S rows i row r growth plain fits are low is = go (row_is S rows i row are low is)
  where
    go : IsRow S i row → Finds S i r
    go (inl (less, here)) = inl (
      less,
      plain (pos (1 + i)) (get_or (plain_rows S) i [])
          (at_plain (plain_rows S) i [] less (all_plain S)) (here []),
    )
    go (inr (more, few, here)) =
        let j = i - length (plain_rows S) in
        inr (
          more,
          few,
          λ d. growth (pos (1 + i)) (get_or S.growths j d) (fits j d few) (here d),
        )

-- reading goes on
pub next_some : (S : Museum) (i : ℕ) (g : Growth) (growths : List Growth)
    → Finds S i (Some g) → growths ≡ take (i - length (plain_rows S)) S.growths
    → growths ++ g ∷ [] ≡ take (i + 1 - length (plain_rows S)) S.growths
next_some S i g growths (inl (low, none)) before = absurd (let e : Some g ≡ None = none in cc)
next_some S i g growths (inr (high, few, is)) before =
    let first = length (plain_rows S) in
    let one : suc (i - first) ≡ i + 1 - first = omega (arith, high) in
    let same : g ≡ get_or S.growths (i - first) g = (let e = is g in cc) in
    ap (λ l. l ++ g ∷ []) before
    ∙ ap (λ x. take (i - first) S.growths ++ x ∷ []) same
    ∙ sym (take-suc S.growths (i - first) g few) ∙ ap (λ n. take n S.growths) one

pub next_none : (S : Museum) (i : ℕ) (growths : List Growth)
    → Finds S i None → growths ≡ take (i - length (plain_rows S)) S.growths
    → growths ≡ take (i + 1 - length (plain_rows S)) S.growths
next_none S i growths (inl (low, none)) before =
    let first = length (plain_rows S) in
    let same : i - first ≡ i + 1 - first = omega (arith, low) in
    before ∙ ap (λ n. take n S.growths) same
next_none S i growths (inr (high, few, is)) before =
    let any : Growth = record { after = 0; listed = record { places = 0; things = 0 } } in
    absurd (let e : None ≡ Some (get_or S.growths (i - length (plain_rows S)) any) = is any in cc)

pub read_all : (S : Museum) (rows : List Row) (i : ℕ) (growths : List Growth)
    → rows ≡ setup_rows_shown (setup_rows S) → length rows ≤ i
    → growths ≡ take (i - length (plain_rows S)) S.growths → growths ≡ S.growths
read_all S rows i growths are high before =
    let first = length (plain_rows S) in
    let many : first + length S.growths ≤ i = omega (
      arith,
      high,
      ap length are,
      shown_length 1 (setup_rows S),
      length-append (plain_rows S) (map growth_text S.growths),
      length-map S.growths growth_text,
    ) in
    before ∙ take_all (i - first) S.growths (omega (arith, many))

-- ---- what the whole table holds

pub rows_held : (S : Museum) (made : ℕ) → made ≤ 6 → 2 ≤ made → (db : Trees) (rows : List Row)
    → IsSound (prefix made) db → IsPermutation (shown_in Setups db) rows → IsSorted id_cmp rows
    → (c : Content) → IsStored db c
    → (rows ≡ setup_rows_shown (setup_rows S)) ↔ IsPermutation (rows_of_setup S) c.setup
rows_held S made few some db rows sound read sorted c stored = (
  λ are. has_the_setup S made db (there (to.0 are)) c held,
  λ same. to.1 (subst (λ l. IsPermutation (setup_rows_shown (setup_rows S)) (map shown_setup l))
      (here 2 made (db 2) some) (has_setup S made db c held same)),
)
  where
    held : HasPart made db c
    held = part_of made few db sound c stored

    to : (rows ≡ setup_rows_shown (setup_rows S))
        ↔ IsPermutation (setup_rows_shown (setup_rows S)) (shown_in Setups db)
    to = rows_told (setup_rows S) db rows read sorted

    there : IsPermutation (setup_rows_shown (setup_rows S)) (shown_in Setups db)
        → HasSetup S made db
    there = subst (λ l. IsPermutation (setup_rows_shown (setup_rows S)) (map shown_setup l))
        (sym (here 2 made (db 2) some))

pub no_rows_held : (S : Museum) (made : ℕ) → made ≤ 6 → made < 2 → (db : Trees)
    → IsSound (prefix made) db → (c : Content) → IsStored db c
    → ([] ≡ setup_rows_shown (setup_rows S)) ↔ IsPermutation (rows_of_setup S) c.setup
no_rows_held S made few none db sound c stored = (
  λ are. has_the_setup S made db (subst (λ l. IsPermutation l (setup_in made db)) are
      (subst (λ l. IsPermutation [] (map shown_setup l)) (sym (gone 2 made (db 2) none))
      (IsPermutation-refl []))) c held,
  λ same. empty (setup_rows_shown (setup_rows S))
      (subst (λ l. IsPermutation (setup_rows_shown (setup_rows S)) (map shown_setup l))
      (gone 2 made (db 2) none) (has_setup S made db c held same)),
)
  where
    held : HasPart made db c
    held = part_of made few db sound c stored

    empty : (rows : List Row) → IsPermutation rows [] → [] ≡ rows
    empty [] h = refl
    empty (r ∷ rows) h = absurd (omega (arith, length_permutation _ _ h))

pub growths_held : (db : Database) (rows : List Row) (growths : List Growth) → AreSetupRows db rows
    → ((S : Museum) → All FitsGrowth S.growths → rows ≡ setup_rows_shown (setup_rows S)
    → growths ≡ S.growths)
    → AreGrowthsIn db growths
growths_held db rows growths (inl none) all = inl none
growths_held db rows growths (inr held) all =
    inr (λ S c fits stored same. all S fits ((held S c stored).1 same))

pub setup_held : (db : Database) (rows : List Row) (found : Option Museum) → AreSetupRows db rows
    → IfSome found (λ S. rows ≡ setup_rows_shown (setup_rows S)) → IfSome found (HoldsSetup db)
setup_held db rows None held is = tt
setup_held db rows (Some S) (inl none) is = inl none
setup_held db rows (Some S) (inr held) is = inr (λ c stored. (held S c stored).0 is)

pub none_held : (db : Database) (rows : List Row) (found : Option Museum) → AreSetupRows db rows
    → IfNone found ((S : Museum) → ReadsBack S → rows ≡ setup_rows_shown (setup_rows S) → ⊥)
    → IfNone found (LacksSetup db)
none_held db rows (Some S) held none = tt
none_held db rows None (inl other) none = inl other
none_held db rows None (inr held) none =
    inr (λ S c reads stored same. none S reads ((held S c stored).1 same))
