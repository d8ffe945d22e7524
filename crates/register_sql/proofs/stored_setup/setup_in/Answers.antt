use Rattle.std.proofs.Common.{◌≡◌, true, false, map, ap, rules, sym, ◌∙◌}
use Rattle.std.specs.Prelude.{string_bytes}
use Rattle.nest_core.specs.SetupTexts.{setup_rows}
use Rattle.register_sql.specs.Says.{setup_rows_shown}
use Rattle.register_sql.specs.StoredSetups.{file_of, plain_rows}
use Rattle.register_sql.proofs.SetupFiles.{plain_is, whole}
use Rattle.register_sql.proofs.stored_setup.setup_in.Goals as goal

pub returns-clause-none : goal.returns-clause-none
returns-clause-none c S reads are =
    let bytes = c.as_bytes.result.now in
    let same : bytes ≡ string_bytes c.in_ok-file.file = search rules in
    let written : bytes ≡ file_of (plain_rows S) =
    same ∙ c.in_ok-file.ensures S reads.texts reads.fits are in
    let growths = c.in_ok-growths.ensures S reads.fits are in
    let plain = plain_is S reads bytes c.in-Ok.setup written c.in-Ok.ensures.exact.1 in
    let found = whole S reads c.in-Ok.setup c.in-Some.setup c.in_ok-growths.growths.items plain
    growths c.in-Some.ensures.some in
    let texts : map string_bytes c.deref.result.now ≡ setup_rows c.in-Some.setup = search rules in
    let yes = c.are_setup.ensures.1
    (are ∙ ap setup_rows_shown (ap setup_rows (sym found) ∙ sym texts)) in
    let no : c.are_setup.result ≡ false = search rules in
    absurd (let e : true ≡ false = sym yes ∙ no in cc)
