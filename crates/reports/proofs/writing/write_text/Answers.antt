use Rattle.std.proofs.Common.{◌+◌, take, subst, sym, arith}
use Rattle.std.specs.Io.KnownBytes.{Appends}
use Rattle.reports.proofs.WrittenText.{appends_kept, more_taken, rest_bound}
use Rattle.reports.proofs.writing.write_text.Goals.{in-Ok, in-Err+else-ne}
use Rattle.reports.proofs.writing.write_text.Goals as goal

pub returns-in-Ok-eq0 : goal.returns-in-Ok-eq0
returns-in-Ok-eq0 g c = (
  c.loop.done + c.in-Ok-eq0.field-0,
  more_taken _ _ _ c.args.text.now
      c.loop.done c.in-Ok-eq0.field-0 c.loop.invariant.1 c.in-Ok-eq0.ensures.bytes,
)

pub returns-then-ne : goal.returns-then-ne
returns-then-ne g c = (c.loop.done, appends_kept _ _ _ _ c.loop.invariant.1 c.in-Err.ensures.bytes)

pub loop-preserved : goal.loop-preserved
loop-preserved g c =
    let text = c.args.text.now in
    let old = g.W.Write.contents c.args.out.now in
    let new = g.W.Write.contents c.write.new.self in
    elim c.match-write.branch [
      | in-Ok w ↦
          let within = rest_bound text c.loop.done w.in-Ok.count c.loop.invariant.0
          w.in-Ok.ensures.bound in (
            omega (arith, w.done-is, within),
            subst (λ n. Appends old new (take n text)) (sym w.done-is) (more_taken _ _ _ text
                c.loop.done w.in-Ok.count c.loop.invariant.1 w.in-Ok.ensures.bytes),
          )
      | in-Err+else-ne w ↦ (
        omega (arith, w.done-is, c.loop.invariant.0),
        subst (λ n. Appends old new (take n text)) (sym w.done-is)
            (appends_kept _ _ _ _ c.loop.invariant.1 w.in-Err.ensures.bytes),
      )
    ]

pub returns : goal.returns
returns g c = (c.loop.done, c.loop.invariant.1)
