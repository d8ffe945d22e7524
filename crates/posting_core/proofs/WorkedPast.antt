-- The definitions, computed on a record of three entries.
use Rattle.std.proofs.Common.{◌≡◌, [], ◌∷◌, Some, refl}
use Rattle.nest_core.specs.Museum.{Museum}
use Rattle.posting_core.specs.declared.entry.Entry.{Entry}
use Rattle.posting_core.specs.Book.{Book}
use Rattle.posting_core.specs.Past.{as_of, upto}

-- Entry 1 is `a`, entry 2 is `b` and entry 3 is `c`.
abbrev three : Museum → Entry → Entry → Entry → Book
three S a b c = record { museum = S; depth = 12; posted = c ∷ b ∷ a ∷ [] }

-- After entry 2 the record has the first two, the newest first.
after_two : (S : Museum) (a b c : Entry)
    → upto (three S a b c) 2 ≡ record { museum = S; depth = 12; posted = b ∷ a ∷ [] }
after_two S a b c = refl

-- Before the first entry it has none.
at_the_start : (S : Museum) (a b c : Entry) → (upto (three S a b c) 0).posted ≡ []
at_the_start S a b c = refl

-- There is no entry 9, so the record is as it is.
after_all : (S : Museum) (a b c : Entry) → as_of (Some 9) (three S a b c) ≡ three S a b c
after_all S a b c = refl
