-- The compact text of a value reads back as what its members put together make.
use Rattle.std.specs.Prelude.{◌≡◌, ◌≤◌, [], Some, option_and_then}
use Rattle.std.proofs.Common.{sym, ap, ◌∙◌, append-nil}
use Rattle.json.specs.Json.{value, if_last}
use Rattle.json.specs.Lex.{tokens}
use Rattle.json.specs.Tree as tree
use Rattle.json.specs.Tree.{json_tokens, HasNumbers}
use Rattle.json.proofs.Printed.Tokens.{tokens-print}
use Rattle.json.proofs.Printed.Trees.{value-json_tokens, ArePrintable-json_tokens}
use Rattle.serde_json.specs.Data.{Data}
use Rattle.serde_json.specs.Read as serde
use Rattle.serde_json.specs.Read.{read, max_depth}
use Rattle.serde_json.specs.Written.{outline, compact_text}
use Rattle.serde_json.proofs.Texts.{print-outline}

pub read_compact : (d e : Data) → HasNumbers (outline d) → tree.depth (outline d) ≤ max_depth
    → serde.of_json (outline d) ≡ Some e → read (compact_text d) ≡ Some e
read_compact d e numbers shallow made =
    let ts = json_tokens (outline d) in
    let told : tokens (compact_text d) ≡ ts = ap tokens (sym (print-outline d)) ∙ tokens-print ts
    (ArePrintable-json_tokens (outline d) numbers) in
    ap (λ r. option_and_then serde.of_json (option_and_then (λ p. if_last p.0 p.1) r))
    (ap (value max_depth) (told ∙ sym (append-nil ts)) ∙ value-json_tokens (outline d) max_depth
    [] shallow)
    ∙ made
