use Rattle.std.proofs.Common.{◌≡◌, refl, sym, ap, ◌∙◌, arith}
use Rattle.std.specs.List.{prefix_len}
use Rattle.json.specs.Run.{is_stop, is_plain}
use Rattle.borrowed_json.proofs.Runs.{run_through, run_stops}
use Rattle.borrowed_json.proofs.plain.run.plain_len.Goals as goal
use lib.Count.{count_trailing_zeros}

pub returns-then-found-ne0 : goal.returns-then-found-ne0
returns-then-found-ne0 c =
    let found = c.stops-found in
    let bytes = c.as_bytes-bytes.result.now in
    let run = run_stops is_stop is_plain (λ x. refl) bytes c.loop-len.len 16 (omega arith)
    (omega arith) (omega (arith, found.ensures))
    ∙ ap (count_trailing_zeros 64) (sym found.ensures)
    in
    let told : prefix_len is_plain bytes ≡ prefix_len is_plain c.args.text.now =
    ap (prefix_len is_plain) c.as_bytes-bytes.ensures.value in
    omega (arith, run, c.loop-len.invariant.0, told)

pub loop-len-preserved : goal.loop-len-preserved
loop-len-preserved c =
    let run = run_through is_stop is_plain (λ x. refl) c.as_bytes-bytes.result.now c.loop-len.len
    16 (omega arith) (omega (arith, c.stops-found.ensures)) in
    (omega (arith, run, c.loop-len.invariant.0), omega arith)
