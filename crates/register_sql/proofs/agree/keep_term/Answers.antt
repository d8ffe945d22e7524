use Rattle.std.proofs.Common.{◌≡◌, ℕ, ℤ, List, None, rules}
use Rattle.std.specs.Map.{lookup}
use Rattle.std.specs.Str.{bytes_eq}
use Rattle.indexmap.specs.IndexMap.{insert_entry}
use Rattle.register_sql.proofs.Agrees.{keeps_term}
use Rattle.register_sql.proofs.agree.keep_term.Goals as goal

pub returns-in-Ok-None-clause-kept : goal.returns-in-Ok-None-clause-kept
returns-in-Ok-None-clause-kept c =
    let kept = c.args.kept.now.entries in
    let loan : List ℕ = c.in-Some.loan in
    let day : ℤ = c.in-Some.day in
    let none : lookup (bytes_eq loan) kept ≡ None = search rules in
    let done : c.insert.new.self.entries ≡ insert_entry bytes_eq kept loan day = search rules in
    keeps_term bytes_eq kept c.insert.new.self.entries loan day c.args.row.now none done
    c.in-Some.ensures'.read
