use Rattle.std.proofs.Common.{◌∙◌, ap, map}
use Rattle.std.specs.Option.{option_and_then, unwrap_or}
use Rattle.hex.specs.Hex.{encode_lower}
use Rattle.serde_json.specs.Data.{no_items, string}
use Rattle.serde_json.specs.Find.{as_array}
use Rattle.borrowed_json.specs.View.{view}
use Rattle.seal_core.proofs.HashItems.{items_same}
use Rattle.seal_core.proofs.receipt_fields.path_at.Goals as goal

pub returns-in-Some : goal.returns-in-Some
returns-in-Some c = λ hashes all is.
    let same = c.in-Some.ensures ∙ ap (option_and_then as_array) is in
    c.hashes_of.ensures hashes all
    (items_same (map view c.in-Some.items.now) (map string (map encode_lower hashes))
    (ap (λ o. unwrap_or o no_items) same))
