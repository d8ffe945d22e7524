-- The definitions of a growing setup computed on a store with two entries.
use Rattle.std.specs.Prelude.{◌≡◌, ℕ, pos, true, List, [], ◌∷◌, Some, None, codes, length, map}
use Rattle.std.specs.Prelude.{refl}
use Rattle.std.specs.Fmt.{digits}
use Rattle.std.specs.Str.{IsUtf8, chars, is_utf8}
use Rattle.std.proofs.Common.{ap, arith, lit<}
use Rattle.std.proofs.Math.Utf8.{encode}
use Rattle.std.proofs.lemmas.List.Elements.{All-from_recursion}
use Rattle.std.proofs.lemmas.List.Sorted.{IsPermutation-refl, IsPermutation-reverse}
use Rattle.std.proofs.lemmas.List.Sorted.{length_permutation}
use Rattle.std.proofs.lemmas.Str.{IsUtf8-from_is_utf8}
use Rattle.nest_core.specs.Museum.{Museum}
use Rattle.nest_core.specs.SetupGrowing.{grown}
use Rattle.nest_core.specs.SetupRows.{museum_of, rows_of, setup_fault}
use Rattle.register_store.specs.StoredRows.{Content, PostingRow, SetupRow, SpotRow}
use Rattle.register_store.specs.StoredRows.{rows_of_meta, rows_of_setup}
use Rattle.register_sql.specs.Growing.{with_setup, IsGrown}
use Rattle.register_sql.specs.StoredSetups.{FitsGrowth, IsPlain, ReadsBack, file_of, growth_text}
use Rattle.register_sql.specs.StoredSetups.{plain_rows}

abbrev museum : Museum
museum = record {
  stations = codes "PACK" ∷ [];
  places = (codes "S1", true) ∷ [];
  things = (codes "2001.4.1", Some 0) ∷ [];
  growths = [];
}

-- After two entries the setup gets a second place and a second thing.
abbrev later : Museum
later = grown 2 museum (record museum {
  places = (codes "S1", true) ∷ (codes "S2", true) ∷ [];
  things = (codes "2001.4.1", Some 0) ∷ (codes "2001.4.2", Some 1) ∷ [];
})

abbrev setup_row : ℕ → List ℕ → SetupRow
setup_row id text = record { id = pos id; text = text }

abbrev posting : ℕ → PostingRow
posting n =
    record { id = pos n; station = pos 0; n = pos n; body = codes "a message"; verdict = pos 0 }

abbrev spot : ℕ → SpotRow
spot n = record { thing = pos 0; k = pos n; entry = pos n; place = pos 0; day = pos 19844 }

-- Its rows before, and after the growth. The rows of the setup are in the order of their numbers.
abbrev before : Content
before = record {
  setup = setup_row 1 (codes "station,PACK") ∷ setup_row 2 (codes "place,S1,inside")
      ∷ setup_row 3 (codes "own,2001.4.1,S1") ∷ [];
  meta = rows_of_meta 12;
  postings = posting 1 ∷ posting 2 ∷ [];
  spots = spot 1 ∷ spot 2 ∷ [];
  lines = record { loan = codes "LO2024.1"; object = pos 0; stage = pos 0 } ∷ [];
  terms = record { loan = codes "LO2024.1"; day = pos 19874 } ∷ [];
}

abbrev after : Content
after = record {
  setup = setup_row 1 (codes "station,PACK") ∷ setup_row 2 (codes "place,S1,inside")
      ∷ setup_row 3 (codes "place,S2,inside") ∷ setup_row 4 (codes "own,2001.4.1,S1")
      ∷ setup_row 5 (codes "own,2001.4.2,S2") ∷ setup_row 6 (codes "grew,2,1,1") ∷ [];
  meta = rows_of_meta 12;
  postings = posting 1 ∷ posting 2 ∷ [];
  spots = spot 1 ∷ spot 2 ∷ [];
  lines = record { loan = codes "LO2024.1"; object = pos 0; stage = pos 0 } ∷ [];
  terms = record { loan = codes "LO2024.1"; day = pos 19874 } ∷ [];
}

-- `with_setup` lists the rows of the setup the last one first, and takes all others from before
replaced : with_setup later before ≡ record after {
  setup = setup_row 6 (codes "grew,2,1,1") ∷ setup_row 5 (codes "own,2001.4.2,S2")
      ∷ setup_row 4 (codes "own,2001.4.1,S1") ∷ setup_row 3 (codes "place,S2,inside")
      ∷ setup_row 2 (codes "place,S1,inside") ∷ setup_row 1 (codes "station,PACK") ∷ [];
}
unfolding digits
replaced = refl

is_grown : IsGrown later before after
unfolding digits
is_grown = record {
  setup = IsPermutation-reverse (rows_of_setup later);
  meta = IsPermutation-refl _;
  postings = IsPermutation-refl _;
  spots = IsPermutation-refl _;
  lines = IsPermutation-refl _;
  terms = IsPermutation-refl _;
}

-- the store has not grown without the new rows of the setup, or with an entry less
not_grown : IsGrown later before before → ⊥
not_grown grew = absurd (omega (arith, length_permutation _ _ grew.setup))

entry_missing : IsGrown later before (record after { postings = posting 1 ∷ [] }) → ⊥
entry_missing grew = absurd (omega (arith, length_permutation _ _ grew.postings))

-- ---- the rows of its setup are read back

growth_row : map growth_text later.growths ≡ codes "grew,2,1,1" ∷ []
unfolding digits
growth_row = refl

grew_not_plain : IsPlain (codes "grew,2,1,1") → ⊥
grew_not_plain plain = plain refl

place_plain : IsPlain (codes "place,S2,inside")
place_plain is = absurd (let e : 5 ≡ 4 = ap length is in omega (arith, e))

abbrev file : List ℕ
file = codes "station,PACK\nplace,S1,inside\nplace,S2,inside\nown,2001.4.1,S1\nown,2001.4.2,S2\n"

file_is : file_of (plain_rows later) ≡ file
file_is = refl

-- what `csv` makes of that file is computed in `nest_core`, on files like it
reads_back : setup_fault file ≡ None → museum_of (rows_of file) ≡ record later { growths = [] }
    → ReadsBack later
unfolding digits is_utf8 chars encode
reads_back no_fault lists = record {
  texts = All-from_recursion IsUtf8 (plain_rows later) (
    IsUtf8-from_is_utf8 _ refl,
    (
      IsUtf8-from_is_utf8 _ refl,
      (
        IsUtf8-from_is_utf8 _ refl,
        (IsUtf8-from_is_utf8 _ refl, (IsUtf8-from_is_utf8 _ refl, tt)),
      ),
    ),
  );
  no_fault = no_fault;
  lists = lists;
  fits = All-from_recursion FitsGrowth later.growths
      (record { after = lit< tt; places = lit< tt; things = lit< tt }, tt);
  few = omega arith;
  never_fell = (omega arith, omega arith, tt);
}
