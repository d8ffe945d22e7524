use Rattle.std.proofs.Common.{◌≡◌, ◌∷◌, ◌∙◌, ap, codes, refl, rules}
use Rattle.command_words.specs.Words.{IsFaultBy, texts_of}
use Rattle.std.specs.Prelude.{None}
use Rattle.command_words.proofs.Naming.{refused_by_none, taken_by_none}
use Rattle.command_words.proofs.Tables.{simple_overview}
use Rattle.command_words.proofs.words.no_command.Goals as goal

pub read_by-requires : goal.read_by-requires
read_by-requires c = simple_overview _ c.in_ok-overview_command.ensures

pub returns-in_err-read_by : goal.returns-in_err-read_by
returns-in_err-read_by c =
    let line_is : texts_of c.as_slice.result.now ≡ codes "pairsalder" ∷ texts_of c.args.words.now =
    ap texts_of c.as_slice.ensures.value ∙ c.in_ok-line.ensures in
    let refused = rw (c.in_ok-overview_command.ensures, line_is) at c.in_err-read_by.ensures in
    let fault : IsFaultBy None (texts_of c.args.words.now) c.in_err-read_by.field-0.0 =
    refused_by_none _ _ refused in
    search rules

pub returns : goal.returns
returns c =
    let line_is : texts_of c.as_slice.result.now ≡ codes "pairsalder" ∷ texts_of c.args.words.now =
    ap texts_of c.as_slice.ensures.value ∙ c.in_ok-line.ensures in
    (taken_by_none _ _ _ c.in_ok-overview_command.ensures line_is c.in_ok-read_by.ensures.0, refl)
