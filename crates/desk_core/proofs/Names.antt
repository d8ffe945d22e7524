-- Which texts are names.
use Rattle.std.proofs.Common.{◌≡◌, ◌&&◌, ℕ, List, length, Some, None, if◌then◌else◌}
use Rattle.std.proofs.Common.{false, lt-ltb, le-leb, refl, true, nat_lt, nat_le}
use Rattle.std.specs.List.{list_all}
use Rattle.std.specs.Str.{is_utf8}
use Rattle.std.proofs.lemmas.Bool.{and_from, and_parts, leb-true, ltb-true}
use Rattle.std.proofs.lemmas.Str.{IsUtf8-from_is_utf8, is_utf8-from_IsUtf8}
use Rattle.codes_core.specs.declared.TheConstants.{LONGEST_NAME}
use Rattle.codes_core.specs.Name.{IsName, is_name_byte}
use Rattle.desk_core.specs.declared.said.Rejection.TheVariants.{NotUnderstood}
use Rattle.desk_core.specs.Codes.{is_name, name_rejection}

passes : (text : List ℕ) → IsName text → is_name text ≡ true
passes text h =
    and_from _ _ (and_from _ _ (and_from _ _ (is_utf8-from_IsUtf8 text h.utf8) (lt-ltb _ _ h.some))
    (le-leb _ _ h.few)) h.plain

parts : (text : List ℕ) → is_name text ≡ true → IsName text
parts text h =
    let some = is_utf8 text && nat_lt 0 (length text) in
    let few = some && nat_le (length text) LONGEST_NAME in
    let whole = and_parts few (list_all is_name_byte text) h in
    let short = and_parts some (nat_le (length text) LONGEST_NAME) whole.0 in
    let filled = and_parts (is_utf8 text) (nat_lt 0 (length text)) short.0 in
    record {
      utf8 = IsUtf8-from_is_utf8 text filled.0;
      some = ltb-true _ _ filled.1;
      few = leb-true _ _ short.1;
      plain = whole.1;
    }

pub name_passes : (text : List ℕ) → IsName text → name_rejection text ≡ None
unfolding name_rejection
name_passes text h = rw (passes text h) refl

pub name_fails : (text : List ℕ) → ¬ (IsName text) → name_rejection text ≡ Some NotUnderstood
unfolding name_rejection
name_fails text h =
    elim (is_name text) as (λ v. is_name text ≡ v
    → (if v then None else Some NotUnderstood) ≡ Some NotUnderstood) [
      | true ↦ λ e. absurd (h (parts text e))
      | false ↦ λ e. refl
    ] refl
