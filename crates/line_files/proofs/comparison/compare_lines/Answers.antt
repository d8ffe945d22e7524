use Rattle.std.proofs.Common.{◌≡◌, ◌++◌, ◌≤◌, ◌∙◌, None, ap, map, subst, sym}
use Rattle.std.specs.Prelude.{IfOk}
use Rattle.posting_core.specs.declared.TheConstants.{LAST_NUMBER}
use Rattle.posting_core.specs.Lawful.{count_at}
use Rattle.station_core.specs.Runs.{message_at}
use Rattle.line_files.specs.Known.{file_messages, recorded}
use Rattle.line_files.proofs.Above.{all_free}
use Rattle.line_files.proofs.Whole.{whole}
use Rattle.line_files.proofs.comparison.compare_lines.Goals as goal

pub of-progress-requires : goal.of-progress-requires
of-progress-requires c = λ q above.
    let B = c.args.ledger.now in
    let s = c.args.station in
    let ls = map (λ line. line.now) c.deref.result.now in
    let few : count_at s B.posted ≤ LAST_NUMBER =
    subst (λ n. n ≤ LAST_NUMBER) c.number_of-few.ensures.count c.number_of-few.ensures.few in
    c.in_ok-found.ensures.known (recorded B.posted) c.in_ok-known.ensures q
    ∙ subst (λ S. message_at (recorded B.posted ++ file_messages S s ls) s q ≡ None)
    (sym c.setup.ensures) (all_free B.museum s q above B.depth B.posted ls c.is_lawful.ensures few)

pub returns : goal.returns
returns c =
    let B = c.args.ledger.now in
    let s = c.args.station in
    let ls = map (λ line. line.now) c.deref.result.now in
    let known = c.in_ok-found.ensures.known (recorded B.posted) c.in_ok-known.ensures in
    subst (λ all. IfOk c.compared.result (λ them. them.items ≡ all))
    (whole B s c.args.bytes.now c.setup.result.now ls c.of-progress.result
    c.in_ok-found.found.items c.deref-2.result.now c.deref-3.result.now c.setup.ensures
    (ap (map (λ line. line.now)) c.deref.ensures.value ∙ c.in_ok-lines.ensures)
    (c.in_ok-found.ensures.found (recorded B.posted) c.in_ok-known.ensures)
    c.deref-2.ensures.value c.deref-3.ensures.value
    (c.of-progress.ensures.exact s (recorded B.posted ++ file_messages c.setup.result.now s ls)
    known))
    c.compared.ensures
