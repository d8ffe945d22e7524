-- The definitions of leaves and seals, computed on a small record: two messages of GAL, the first
-- of them refused, and one of PACK. No SHA-256 is computed.
use Rattle.std.specs.Fmt.{digits}
use Rattle.std.specs.Prelude.{◌≡◌, ◌∷◌, ◌++◌, [], List, ℕ, None, Some, codes, false, refl, true}
use Rattle.hex.specs.Hex.{encode_with}
use Rattle.json.specs.Print.{escape_byte}
use Rattle.seal_core.specs.Hashes.{leaf_hash, node_hash}
use Rattle.seal_core.specs.Trees.{head_within, tree_head}
use Rattle.posting_core.specs.declared.message.Message.TheVariants.{Authorise, SignOff}
use Rattle.posting_core.specs.Book.{Book}
use Rattle.posting_core.proofs.WorkedRows.{book, gal, pack, run}
use Rattle.seal_core.specs.declared.seal.Seal.{Seal}
use Rattle.seal_core.specs.Leaves.{entry_leaf, leaves}
use Rattle.seal_core.specs.declared.reading.LineFault.TheVariants.{NoMark}
use Rattle.seal_core.specs.Readings.{digits_part, has_mark, number_part, IsFirstFault}
use Rattle.seal_core.specs.Seals.{check_text, seal_text, sealed_count}

abbrev three : Book
three = book (run [] (
    (gal, Authorise (codes "Ada") (codes "LO2024.1"))
    ∷ (gal, SignOff (codes "Ada"))
    ∷ (pack, SignOff (codes "Bob"))
    ∷ []))

abbrev first : List ℕ
first = codes
    "1 GAL 1 UnknownLoan {\"by\":\"Ada\",\"kind\":\"authorise\",\"loan\":\"LO2024.1\"}"

abbrev second : List ℕ
second = codes "2 GAL 2 Applied {\"by\":\"Ada\",\"kind\":\"signoff\"}"

abbrev third : List ℕ
third = codes "3 PACK 1 Applied {\"by\":\"Bob\",\"kind\":\"signoff\"}"

-- The first entry is at index 0.
first_leaf : entry_leaf three 0 ≡ first
unfolding digits escape_byte
first_leaf = refl

all_leaves : leaves three 3 ≡ first ∷ second ∷ third ∷ []
unfolding digits escape_byte
all_leaves = refl

no_leaves : leaves three 0 ≡ []
no_leaves = refl

all_sealed : sealed_count three None ≡ 3
all_sealed = refl

two_sealed : sealed_count three (Some 2) ≡ 2
two_sealed = refl

two_entries-head : tree_head (leaves three 2) ≡ node_hash (leaf_hash first) (leaf_hash second)
unfolding head_within digits escape_byte
two_entries-head = refl

abbrev sealed : Seal
sealed = record {
  entries = 79;
  head = 16 ∷ 41 ∷ 171 ∷ 205 ∷ 1 ∷ 2 ∷ 3 ∷ 4 ∷ 16 ∷ 41 ∷ 171 ∷ 205 ∷ 1 ∷ 2 ∷ 3 ∷ 4 ∷ 16 ∷ 41
      ∷ 171 ∷ 205 ∷ 1 ∷ 2 ∷ 3 ∷ 4 ∷ 16 ∷ 41 ∷ 171 ∷ 205 ∷ 1 ∷ 2 ∷ 3 ∷ 255 ∷ [];
}

sealed-text : seal_text sealed ≡ codes
    "79 sha256:1029abcd010203041029abcd010203041029abcd010203041029abcd010203ff"
unfolding digits encode_with
sealed-text = refl

sealed-holds : check_text 79 true ≡ codes "79 holds"
unfolding digits
sealed-holds = refl

sealed-broken : check_text 79 false ≡ codes "79 broken"
unfolding digits
sealed-broken = refl

-- The parts of a seal's line, and of a line with another mark.

abbrev digits_of_sealed : List ℕ
digits_of_sealed = codes "1029abcd010203041029abcd010203041029abcd010203041029abcd010203ff"

abbrev line : List ℕ
line = codes "79 sha256:" ++ digits_of_sealed

abbrev other_line : List ℕ
other_line = codes "79 sha512:" ++ digits_of_sealed

line-marked : has_mark line ≡ true
line-marked = refl

line-number : number_part line ≡ codes "79"
line-number = refl

line-digits : digits_part line ≡ digits_of_sealed
line-digits = refl

other_line-marked : IsFirstFault other_line NoMark
other_line-marked = refl
