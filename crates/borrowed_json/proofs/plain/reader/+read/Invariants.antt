use denote.Shadow.{shadow}
use denote.Text.{Utf8}
use Rattle.std.proofs.Common.{◌≡◌, ℕ, ◌+◌, ◌*◌, ◌≤◌, false, length}
use Rattle.json.specs.Json.{items, members, value, parse_map}
use Rattle.serde_json.specs.Data.{no_members}
use Rattle.serde_json.specs.Read.{of_items, of_members, converted}
use Rattle.borrowed_json.specs.View.{members_view}
use Rattle.borrowed_json.specs.Plain.{IsPlain}
use Rattle.borrowed_json.specs.Steps.{tokens_at}
use Rattle.borrowed_json.proofs.Reading.{items_before}
use Rattle.borrowed_json.proofs.plain.reader.+read.Given as goal

abbrev pub decreases-read_value : goal.decreases-read_value
decreases-read_value l = 2 * l.depth

abbrev pub decreases-read_items : goal.decreases-read_items
decreases-read_items l = 2 * l.depth + 1

abbrev pub decreases-read_members : goal.decreases-read_members
decreases-read_members l = 2 * l.depth + 1

abbrev pub invariant-read_items-items : goal.invariant-read_items-items
invariant-read_items-items l =
    (n : ℕ) × (length (tokens_at l.later l.left) ≤ n)
    × (converted of_items
    (items (value l.depth) (length (tokens_at false l.text)) (tokens_at false l.text))
    ≡ parse_map (items_before l.found.items)
    (converted of_items (items (value l.depth) n (tokens_at l.later l.left))))
    × (length l.left ≤ length l.text) × (IsPlain l.text → IsPlain l.left)
    × shadow (Utf8 l.left)

abbrev pub decreases-read_items-items : goal.decreases-read_items-items
decreases-read_items-items l = length l.left

abbrev pub invariant-read_members-members : goal.invariant-read_members-members
invariant-read_members-members l =
    (n : ℕ) × (length (tokens_at l.later l.left) ≤ n)
    × (converted (λ ms. of_members ms no_members)
    (members (value l.depth) (length (tokens_at false l.text)) (tokens_at false l.text))
    ≡ converted (λ ms. of_members ms (members_view l.found.items))
    (members (value l.depth) n (tokens_at l.later l.left)))
    × (length l.left ≤ length l.text) × (IsPlain l.text → IsPlain l.left)
    × shadow (Utf8 l.left)

abbrev pub decreases-read_members-members : goal.decreases-read_members-members
decreases-read_members-members l = length l.left
