use Rattle.std.proofs.Common.{◌≡◌, ◌++◌, ◌∙◌, ap, sym, refl, inl, List, ℕ, length, Bool, true}
use Rattle.std.proofs.Common.{false, rules, arith}
use mir.Val.{bool_byte}
use Rattle.hub_core.specs.declared.run_fault.RunFault.TheVariants.{NoMemory}
use Rattle.hub_core.specs.Reading.{feed_if}
use Rattle.hub_core.specs.Lines.{is_empty, without_return}
use Rattle.hub_core.proofs.Written.{if_err}
use Rattle.hub_core.proofs.HeadTaken.{stops_between, stops_in_line, ends_there, too_long_there}
use Rattle.hub_core.proofs.HeadTaken.{last_there, more_there, unkept_there}
use Rattle.hub_core.proofs.stream.head.read_head.Goals as goal

-- the length of the line feed
counted : (fed : Bool) → bool_byte fed ≡ length (feed_if fed)
counted true = refl
counted false = refl

-- a test on a slice of the line
told : (line held : List ℕ) (blank t : Bool) → line ≡ held → blank ≡ is_empty (without_return line)
    → blank ≡ t → is_empty (without_return held) ≡ t
told line held blank t at is e = ap (λ l. is_empty (without_return l)) (sym at) ∙ sym is ∙ e

-- the head with the line at its end
longer : (now head line held feed : List ℕ) → now ≡ head ++ (line ++ feed) → line ≡ held
    → now ≡ head ++ (held ++ feed)
longer now head line held feed is at = is ∙ ap (λ (l : List ℕ). head ++ (l ++ feed)) at

pub returns-in_err-fed-clause-fault : goal.returns-in_err-fed-clause-fault
returns-in_err-fed-clause-fault g c =
    let inv = c.loop-reads.invariant in
    let fault = c.in_err-fed.field-0.0 in
    if_err c.from_residual.result _ fault c.from_residual.ensures.1
    (stops_in_line _ _ _ c.loop-reads.head.items inv.0 inv.1 c.saturating_sub-room.result
    (omega arith) fault c.in_err-fed.ensures.fault)

pub returns-then-is_blank-clause-head : goal.returns-then-is_blank-clause-head
returns-then-is_blank-clause-head g c =
    let inv = c.loop-reads.invariant in
    let held = c.next_head_line.new.line.items in
    let blank = told c.as_slice.result.now held c.is_blank.result true c.as_slice.ensures.value
    c.is_blank.ensures c.if-is_blank.true in
    ends_there _ _ _ c.loop-reads.head.items inv.0 inv.1 c.saturating_sub-room.result (omega arith)
    held c.in_ok-fed.fed c.in_ok-fed.ensures.line blank

pub returns-then-len-from-clause-fault : goal.returns-then-len-from-clause-fault
returns-then-len-from-clause-fault g c =
    let inv = c.loop-reads.invariant in
    let held = c.next_head_line.new.line.items in
    let some = told c.as_slice.result.now held c.is_blank.result false c.as_slice.ensures.value
    c.is_blank.ensures c.if-is_blank.false in
    let size = counted c.in_ok-fed.fed in
    too_long_there _ _ _ c.loop-reads.head.items inv.0 inv.1 c.saturating_sub-room.result
    (omega arith) held c.in_ok-fed.fed c.in_ok-fed.ensures.line some (omega arith)

pub returns-in_err-add_line-clause-fault : goal.returns-in_err-add_line-clause-fault
returns-in_err-add_line-clause-fault g c =
    let inv = c.loop-reads.invariant in
    let held = c.next_head_line.new.line.items in
    let some = told c.as_slice.result.now held c.is_blank.result false c.as_slice.ensures.value
    c.is_blank.ensures c.if-is_blank.false in
    let size = counted c.in_ok-fed.fed in
    if_err c.from_residual-in_err-add_line.result _ NoMemory
    c.from_residual-in_err-add_line.ensures.1
    (inl (unkept_there _ _ _ c.loop-reads.head.items inv.0 inv.1 c.saturating_sub-room.result
    (omega arith) held c.in_ok-fed.fed c.in_ok-fed.ensures.line some (omega arith)))

pub returns-then-not-fed-clause-head : goal.returns-then-not-fed-clause-head
returns-then-not-fed-clause-head g c =
    let inv = c.loop-reads.invariant in
    let held = c.next_head_line.new.line.items in
    let some = told c.as_slice.result.now held c.is_blank.result false c.as_slice.ensures.value
    c.is_blank.ensures c.if-is_blank.false in
    let size = counted c.in_ok-fed.fed in
    let is = longer c.add_line.new.head.items c.loop-reads.head.items
    c.as_slice-in-loop-reads.result.now held (feed_if c.in_ok-fed.fed) c.in_ok-add_line.ensures
    c.as_slice-in-loop-reads.ensures.value in
    last_there _ _ _ c.loop-reads.head.items inv.0 inv.1 c.saturating_sub-room.result (omega arith)
    held c.in_ok-fed.fed c.add_line.new.head.items (search rules) is c.in_ok-fed.ensures.line
    some (omega arith)

pub loop-reads-preserved : goal.loop-reads-preserved
loop-reads-preserved g c =
    let inv = c.loop-reads.invariant in
    let held = c.next_head_line.new.line.items in
    let some = told c.as_slice.result.now held c.is_blank.result false c.as_slice.ensures.value
    c.is_blank.ensures c.if-is_blank.false in
    let size = counted c.in_ok-fed.fed in
    let is = longer c.add_line.new.head.items c.loop-reads.head.items
    c.as_slice-in-loop-reads.result.now held (feed_if c.in_ok-fed.fed) c.in_ok-add_line.ensures
    c.as_slice-in-loop-reads.ensures.value in
    let more = more_there _ _ _ c.loop-reads.head.items inv.0 inv.1 c.saturating_sub-room.result
    (omega arith) held c.in_ok-fed.fed c.add_line.new.head.items (search rules) is
    c.in_ok-fed.ensures.line some (omega arith) in
    (more.0, more.1, more.2, omega (arith, inv.3, c.in_ok-fed.ensures.reads))

pub returns-clause-fault : goal.returns-clause-fault
returns-clause-fault g c =
    let inv = c.loop-reads.invariant in
    stops_between _ _ c.loop-reads.head.items inv.0 inv.1 inv.2
