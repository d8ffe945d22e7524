use Rattle.std.proofs.Common.{MatchResult, subst}
use Rattle.clap.specs.Words.{App, found_of, rows_of}
use Rattle.command_words.specs.Words.{IsRead, IsRefused, texts_of}
use Rattle.command_words.proofs.Tables.{simple_by}
use Rattle.command_words.proofs.reading.read.Goals as goal

pub read_by-requires : goal.read_by-requires
read_by-requires c = simple_by c.args.name _ c.in_ok-command_of.ensures

pub returns : goal.returns
returns c =
    subst (λ (app : App). MatchResult c.read_by.result
    (λ m. IsRead app (texts_of c.args.words.now) (rows_of (found_of m)))
    (IsRefused app (texts_of c.args.words.now)))
    c.in_ok-command_of.ensures c.read_by.ensures
