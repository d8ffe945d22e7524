use Rattle.std.proofs.Common.{◌≡◌, ◌∷◌, get_or, arith}
use Rattle.std.proofs.lemmas.Str.{IsCharBoundary-after_ascii}
use Rattle.std.proofs.lemmas.List.{drop_more}
use Rattle.borrowed_json.proofs.Lexemes.{passed}
use Rattle.borrowed_json.proofs.plain.lexeme.after_space.Goals as goal

pub range_from-requires : goal.range_from-requires
range_from-requires c some =
    IsCharBoundary-after_ascii c.args.text.now 0 c.utf8.text (grind arith) (grind arith)

pub returns : goal.returns
returns c =
    let t = c.args.text.now in
    let parts : t ≡ get_or t 0 0 ∷ c.range_from.result.now = grind (arith, drop_more t 0 0) in
    let p = passed t c.range_from.result.now (get_or t 0 0) parts (grind arith) in
    (p.lexemes, p.plain, p.shorter)
