-- A store of version 1 computed on a worked list, the result of its migration, and why an extension
-- is no entry of it.
use lib.Ieee.{is_nan, lt}
use Rattle.std.specs.Prelude.{◌≡◌, ℕ, pos, true, false, List, [], ◌∷◌, Some, slice_index_or, codes}
use Rattle.std.specs.Prelude.{refl}
use Rattle.std.specs.List.{IsDistinct}
use Rattle.std.specs.Str.{is_utf8, chars}
use Rattle.std.proofs.Common.{ap, arith, inl, inr, length, zero, suc, ⊎_elim}
use Rattle.std.proofs.Math.Utf8.{encode}
use Rattle.std.proofs.lemmas.List.Elements.{All-from_recursion}
use Rattle.std.proofs.lemmas.List.Sorted.{IsPermutation-refl, IsPermutation-reverse}
use Rattle.jiff_core.specs.Calendar.{days_from_civil, day_count, days_of_years, days_of_months}
use Rattle.json.specs.Json.{value}
use Rattle.json.specs.Lex.{punctuate, lex}
use Rattle.json.specs.Print.{escape_byte}
use Rattle.json.specs.Text.{content}
use Rattle.nest_core.specs.Museum.{Museum}
use Rattle.posting_core.specs.declared.entry.Entry.{Entry}
use Rattle.posting_core.specs.declared.message.Message.{Message}
use Rattle.posting_core.specs.declared.message.Message.TheVariants.{Move, Agree, Extend}
use Rattle.posting_core.specs.declared.verdict.Verdict.{Verdict}
use Rattle.posting_core.specs.declared.verdict.Verdict.TheVariants.{Applied, NotLater}
use Rattle.sqlite.specs.Effect.{Database}
use Rattle.sqlite.specs.Order.{Row}
use Rattle.sqlite.specs.Schema.{Schema}
use Rattle.sqlite.specs.Tree.{Trees}
use Rattle.sqlite.specs.declared.types.Value.TheVariants.{Null, Int, Text}
use Rattle.sqlite_catalog.specs.Listing.{IsSound}
use Rattle.sqlite_value.specs.Order.{value_cmp}
use Rattle.register_store.proofs.WorkedTexts.{may, may-text, end_of_may, end_of_may-text}
use Rattle.register_store.specs.StoredRows.{Content, SetupRow, PostingRow, TermRow, IsPostingRow}
use Rattle.register_store.specs.StoredRows.{HasList, rows_of_setup, rows_of_meta}
use Rattle.register_store.specs.declared.store_fault.StoreFault.TheVariants.{Store}
use Rattle.register_sql.specs.Ages.{first_meta}
use Rattle.register_sql.specs.Early.{IsEarlyOf}
use Rattle.register_sql.specs.Binding.{IsUnfitFor}
use Rattle.register_sql.specs.Migrating.{AreFirstApart, IsMigrated, IsOfFirst, IsUnfit, days_given}
use Rattle.register_sql.specs.Profiles.{IsProfileFault, IsComplete, IsCompareFault}
use Rattle.register_sql.specs.Rows.{HasPart, IsStored}
use Rattle.register_sql.specs.Tables.{of_tables, prefix, term, IsNoStore}

-- ---- an object is agreed for a loan, and moved

abbrev museum : Museum
museum = record {
  stations = codes "PACK" ∷ [];
  places = (codes "S1", true) ∷ (codes "MUSEUM-X", false) ∷ [];
  things = (codes "2001.4.1", Some 0) ∷ [];
  growths = [];
}

abbrev entry : ℕ → Message → Verdict → Entry
entry n m v = record { station = 0; n = n; message = m; verdict = v }

abbrev agreed : Entry
agreed =
    entry 1 (Agree may end_of_may (codes "LO2024.1") (codes "MUSEUM-X")
    (codes "2001.4.1" ∷ [])) Applied

abbrev moved : Entry
moved = entry 2 (Move may (codes "2001.4.1") (codes "S1")) Applied

abbrev entries : List Entry
entries = moved ∷ agreed ∷ []

-- ---- its store

abbrev agreed_text : List ℕ
agreed_text =
    codes "{\"first\":\"2024-05-01\",\"kind\":\"agree\",\"last\":\"2024-05-31\",\"loan\":\"LO2024.1\",\"objects\":[\"2001.4.1\"],\"partner\":\"MUSEUM-X\"}"

abbrev moved_text : List ℕ
moved_text =
    codes "{\"day\":\"2024-05-01\",\"kind\":\"move\",\"place\":\"S1\",\"thing\":\"2001.4.1\"}"

abbrev posting : ℕ → List ℕ → PostingRow
posting n body = record { id = pos n; station = pos 0; n = pos n; body = body; verdict = pos 0 }

abbrev setup_row : ℕ → List ℕ → SetupRow
setup_row id text = record { id = pos id; text = text }

abbrev first : Content
first = record {
  setup = setup_row 1 (codes "station,PACK") ∷ setup_row 2 (codes "place,S1,inside") ∷ setup_row 3
      (codes "place,MUSEUM-X,elsewhere") ∷ setup_row 4 (codes "own,2001.4.1,S1") ∷ [];
  meta = first_meta;
  postings = posting 1 agreed_text ∷ posting 2 moved_text ∷ [];
  spots = record { thing = pos 0; k = pos 1; entry = pos 2; place = pos 0; day = may } ∷ [];
  lines = record { loan = codes "LO2024.1"; object = pos 0; stage = pos 0 } ∷ [];
  terms = [];
}

agreed_kept : IsPostingRow 1 agreed (posting 1 agreed_text)
unfolding is_utf8 chars encode value punctuate lex content escape_byte days_from_civil day_count
    days_of_years days_of_months
agreed_kept = record {
  id = refl;
  station = refl;
  n = refl;
  body = rw (may-text, end_of_may-text) refl;
  reads_back = refl;
  verdict = refl;
}

moved_kept : IsPostingRow 2 moved (posting 2 moved_text)
unfolding is_utf8 chars encode value punctuate lex content escape_byte days_from_civil day_count
    days_of_years days_of_months
moved_kept = record {
  id = refl;
  station = refl;
  n = refl;
  body = rw may-text refl;
  reads_back = refl;
  verdict = refl;
}

listed : HasList entries first
listed = record {
  rows = posting 2 moved_text ∷ posting 1 agreed_text ∷ [];
  each = (moved_kept, (agreed_kept, tt));
  all =
      IsPermutation-reverse (posting 2 moved_text ∷ posting 1 agreed_text ∷ []);
}

agreed_known : IsEarlyOf 1 agreed
agreed_known =
    record {
      stationed = record { known = omega arith; first = omega arith; few = omega arith };
      early = refl;
    }

moved_known : IsEarlyOf 1 moved
moved_known =
    record {
      stationed = record { known = omega arith; first = omega arith; few = omega arith };
      early = refl;
    }

is_first : IsOfFirst museum entries first
is_first = record {
  meta = IsPermutation-refl first_meta;
  setup = IsPermutation-reverse (rows_of_setup museum);
  list = listed;
  known = All-from_recursion (IsEarlyOf 1) entries (moved_known, (agreed_known, tt));
}

-- ---- in its five tables, as in a store of version 1 from another program

abbrev says : ℕ → List ℕ → ℕ → Row
says rowid name val = Int (pos rowid) ∷ Text name ∷ Int (pos val) ∷ []

abbrev meta_table : List Row
meta_table = says 1 (codes "version") 1 ∷ says 2 (codes "depth") 8 ∷ []

abbrev setup_at : ℕ → List ℕ → Row
setup_at id text = Int (pos id) ∷ Null ∷ Text text ∷ []

abbrev setup_table : List Row
setup_table = setup_at 1 (codes "station,PACK") ∷ setup_at 2 (codes "place,S1,inside")
    ∷ setup_at 3 (codes "place,MUSEUM-X,elsewhere") ∷ setup_at 4 (codes "own,2001.4.1,S1") ∷ []

abbrev posting_at : ℕ → List ℕ → Row
posting_at n body = Int (pos n) ∷ Null ∷ Int (pos 0) ∷ Int (pos n) ∷ Text body ∷ Int (pos 0) ∷ []

abbrev posting_table : List Row
posting_table = posting_at 1 agreed_text ∷ posting_at 2 moved_text ∷ []

abbrev spot_table : List Row
spot_table =
    (Int (pos 1) ∷ Int (pos 0) ∷ Int (pos 1) ∷ Int (pos 2) ∷ Int (pos 0) ∷ Int may ∷ []) ∷ []

abbrev line_table : List Row
line_table = (Int (pos 1) ∷ Text (codes "LO2024.1") ∷ Int (pos 0) ∷ Int (pos 0) ∷ []) ∷ []

abbrev tables : Trees
tables t = slice_index_or (meta_table ∷ [] ∷ setup_table ∷ posting_table ∷ [] ∷ spot_table ∷ []
    ∷ line_table ∷ []) t []

held : HasPart 5 tables first
held = record {
  meta = IsPermutation-refl _;
  setup = IsPermutation-refl _;
  postings = IsPermutation-refl _;
  spots = IsPermutation-refl _;
  lines = IsPermutation-refl _;
  terms = IsPermutation-refl _;
}

stored : IsSound (prefix 5) tables → IsStored tables first
stored sound = record { made = 5; few = omega arith; sound = sound; rows = held }

-- ---- fit to be migrated: the rowids of its tables are distinct numbers

abbrev database : Database
database = record { schema = prefix 5; trees = tables }

apart : AreFirstApart tables
unfolding IsDistinct value_cmp is_nan lt
apart = (
  record { ints = (refl, (refl, tt)); differ = ((refl, tt), (tt, tt)) },
  record {
    setup = record {
      ints = (refl, (refl, (refl, (refl, tt))));
      differ = ((refl, (refl, (refl, tt))), ((refl, (refl, tt)), ((refl, tt), (tt, tt))));
    };
    postings = record { ints = (refl, (refl, tt)); differ = ((refl, tt), (tt, tt)) };
    lines = record { ints = (refl, tt); differ = (tt, tt) };
    terms = record { ints = tt; differ = tt };
  },
)

is_store : IsNoStore database → ⊥
is_store h = h 5 refl

complete : IsComplete museum 5 5 tables
complete = record { setup = IsPermutation-refl _; tables = refl; apart = apart.1 }

fit : IsUnfit museum database → ⊥
fit (inl h) = is_store h
fit (inr h) = ⊎_elim (λ other. other refl) (λ not. not apart) h.unfit

-- ---- unfit: two rows about the store with the same rowid, or a table that no store has

abbrev doubled : Trees
doubled t = slice_index_or ((says 1 (codes "version") 1 ∷ says 1 (codes "depth") 8 ∷ []) ∷ []) t []

not_apart : AreFirstApart doubled → ⊥
unfolding IsDistinct value_cmp is_nan lt
not_apart h = absurd (let e : true ≡ false = h.0.differ.0.0 in cc)

no_store : IsNoStore (record { schema = of_tables (term ∷ []) []; trees = tables })
no_store zero e = absurd (omega (arith, ap (λ (s : Schema). length s.tables) e))
no_store (suc zero) e = absurd (omega (arith, ap (λ (s : Schema). length s.indexes) e))
no_store (suc (suc zero)) e = absurd (omega (arith, ap (λ (s : Schema). length s.indexes) e))
no_store (suc (suc (suc zero))) e = absurd (omega (arith, ap (λ (s : Schema). length s.indexes) e))
no_store (suc (suc (suc (suc zero)))) e =
    absurd (omega (arith, ap (λ (s : Schema). length s.indexes) e))
no_store (suc (suc (suc (suc (suc zero))))) e =
    absurd (omega (arith, ap (λ (s : Schema). length s.indexes) e))
no_store (suc (suc (suc (suc (suc (suc made)))))) e =
    absurd (omega (arith, ap (λ (s : Schema). length s.indexes) e))

no_profile : IsProfileFault (record { schema = of_tables (term ∷ []) []; trees = tables }) Store
no_profile = no_store

-- a store of version 1 lacks a table of version 2
lacks_a_table : IsCompareFault museum 5 6 tables Store
lacks_a_table = (complete.setup, inl (λ same. absurd (omega (arith, same))))

-- nor can a database with another table be bound
unbound : (S : Museum) → IsUnfitFor S (record { schema = of_tables (term ∷ []) []; trees = tables })
unbound S = inl no_store

-- ---- migrated

abbrev last : TermRow
last = record { loan = codes "LO2024.1"; day = end_of_may }

given : days_given entries ≡ last ∷ []
given = refl

abbrev second : Content
second = record first { meta = rows_of_meta 8; terms = last ∷ [] }

is_migrated : IsMigrated museum first second
is_migrated = (
  entries,
  is_first,
  record {
    setup = IsPermutation-refl _;
    meta = IsPermutation-refl _;
    postings = IsPermutation-refl _;
    spots = IsPermutation-refl _;
    lines = IsPermutation-refl _;
    terms = IsPermutation-refl _;
  },
)

-- ---- no entries of version 1

extension : IsEarlyOf 1 (entry 3 (Extend (pos 19904) (codes "LO2024.1")) Applied) → ⊥
extension h = absurd (let no : false ≡ true = h.early in cc)

not_later : IsEarlyOf 1 (entry 3 (Move may (codes "2001.4.1") (codes "S1")) NotLater) → ⊥
not_later h = absurd (let no : false ≡ true = h.early in cc)
