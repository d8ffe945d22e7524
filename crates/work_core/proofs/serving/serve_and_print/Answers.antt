use Rattle.std.proofs.Common.{arith, sym, subst, inl, inr, reverse}
use Rattle.std.proofs.lemmas.Result.{on_ok_weaker}
use Rattle.std.proofs.lemmas.List.{length-map}
use Rattle.std.specs.List.{flat_map}
use Rattle.std.specs.Io.KnownBytes.{Appends}
use Rattle.serve_core.specs.Wording.{logged_text}
use Rattle.work_core.proofs.ServingLemmas.{of_stations, named_there, merge_of, fault_of}
use Rattle.work_core.proofs.ServingLemmas.{on_err_always}
use Rattle.work_core.proofs.serving.serve_and_print.Goals as goal

pub print_log-ended-requires-clause-stations : goal.print_log-ended-requires-clause-stations
print_log-ended-requires-clause-stations g c =
    of_stations c.args.hub.book.museum c.in-Ok.field-0.hub.book.museum
    c.in-Ok.field-0.hub.book.museum c.in-Ok.ensures.served.answers.museum (cc) _ _
    (length-map c.args.feeds.items (λ f. f))
    (omega (arith, c.args.feeds.ok.0, c.requires.feeds)) c.in-Ok.field-0.log c.lines.result.now (cc)
    c.in-Ok.ensures.merge.stations

pub write_log-requires-clause-stations : goal.write_log-requires-clause-stations
write_log-requires-clause-stations g c =
    of_stations c.args.hub.book.museum c.in-Err.field-0.hub.book.museum
    c.ledger.result.now.museum c.in-Err.ensures.answered.museum (cc) _ _
    (length-map c.args.feeds.items (λ f. f))
    (omega (arith, c.args.feeds.ok.0, c.requires.feeds)) c.in-Err.field-0.log
    c.lines-in-Err.result.now (cc) c.in-Err.ensures.fronts.stations

pub serve_fault-fault-requires : goal.serve_fault-fault-requires
serve_fault-fault-requires g c =
    named_there c.args.hub.book.museum c.in-Err.field-0.hub.book.museum c.setup.result.now
    c.in-Err.ensures.answered.museum (cc) _ _ (length-map c.args.feeds.items (λ f. f))
    (omega (arith, c.args.feeds.ok.0, c.requires.feeds)) c.in-Err.field-0.fault
    c.in-Err.ensures.fronts.named

pub returns-in-Ok-clause-served : goal.returns-in-Ok-clause-served
returns-in-Ok-clause-served g c =
    on_ok_weaker c.print_log-ended.result
    (λ written. record {
      ended = c.in-Ok.field-0.hub;
      register_is = sym c.close.ensures.same;
      log = c.in-Ok.field-0.log;
      merge = merge_of _ _ c.in-Ok.ensures.merge;
      serves = c.in-Ok.ensures.served;
      written = subst (λ lines. Appends (g.W.Write.contents c.args.output.now)
          (g.W.Write.contents c.print_log-ended.new.output)
          (flat_map (logged_text c.in-Ok.field-0.hub.book.museum
          (reverse c.in-Ok.field-0.hub.book.posted)) lines)) c.lines.ensures written;
    })
    c.print_log-ended.ensures

pub returns-in-Ok-clause-stops : goal.returns-in-Ok-clause-stops
returns-in-Ok-clause-stops g c =
    on_err_always c.print_log-ended.result (record {
      ended = c.in-Ok.field-0.hub;
      register_is = sym c.close.ensures.same;
      log = c.in-Ok.field-0.log;
      taken = inl c.in-Ok.ensures.served;
    })

pub returns-in-Err-clause-stops : goal.returns-in-Err-clause-stops
returns-in-Err-clause-stops g c =
    record {
      ended = c.in-Err.field-0.hub;
      register_is = sym c.close-in-Err.ensures.same;
      log = c.in-Err.field-0.log;
      taken = inr (c.in-Err.field-0.fault, fault_of _ _ _ _ _ _ c.in-Err.ensures.left);
    }
