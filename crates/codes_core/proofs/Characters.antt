-- A loop over the characters of a text has had them all when it ends.
use Rattle.std.specs.Prelude.{ℕ, ◌≡◌, List, Option, None, IsUtf8}
use Rattle.std.specs.Iterator.{Yields}
use Rattle.std.specs.declared.str.Chars.{Chars}
use Rattle.std.specs.Str.{chars}
use Rattle.std.specs.Str.Iter.{chars_rest}
use Rattle.std.proofs.Common.{sym, ◌∙◌}
use Rattle.std.proofs.iter.TextItems.{spells}
use Rattle.std.proofs.lemmas.Iterator.{YieldsList-from_chars}
use Rattle.std.proofs.lemmas.Iterator.Consumers.{YieldsList-end}
use Rattle.std.proofs.lemmas.List.{map-id}

pub all_yielded : (s : Chars) (bs : List ℕ) → IsUtf8 bs → chars_rest s ≡ bs → (xs : List ℕ)
    (t : Chars) → Yields spells s xs t → (r : Option ℕ) (u : Chars) → r ≡ None → spells t r u
    → xs ≡ chars bs
all_yielded s bs utf8 rest xs t y r u none steps =
    sym (map-id xs) ∙ (YieldsList-end (YieldsList-from_chars bs utf8 rest) xs t y r u none steps).0
