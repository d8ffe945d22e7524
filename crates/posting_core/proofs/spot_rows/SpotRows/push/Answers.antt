use Rattle.std.proofs.Common.{ap, ◌∙◌, ◌≡◌, ◌+◌, ◌∷◌, ◌++◌, [], ℕ, List, length, slice_set, subst}
use Rattle.std.proofs.Common.{sym, arith, All}
use Rattle.posting_core.specs.declared.spot_rows.KeptSpot.{KeptSpot}
use Rattle.posting_core.specs.SpotRows.{Rows, IsLast}
use Rattle.posting_core.proofs.SpotRows.{rows_of, is_last, row_at, pushed_kept, pushed_rows}
use Rattle.posting_core.proofs.spot_rows.SpotRows.push.Goals as goal

pub invariant_of-self : goal.invariant_of-self
invariant_of-self c =
    let at : c.len-at.result ≡ length c.self.inside.spots.items = omega (arith, c.len-at.ensures) in
    let lasts = c.self.inside.last.items in
    let last = c.index-last.result.now in
    let was = is_last lasts c.self.invariant (ap (λ (r : Rows). r.rows) c.self.view_is)
    c.args.new.thing last c.requires.within c.index-last.ensures in
    subst (λ (spots : List KeptSpot). All (IsLast spots)
    (slice_set lasts c.args.new.thing
    (record { at = c.len-at.result; count = last.count + 1 })))
    (sym c.push_reserved.ensures.items)
    (subst (λ (k : ℕ). All
    (IsLast (c.self.inside.spots.items ++ record { spot = c.args.new.spot; before = last.at }
    ∷ [])) (slice_set lasts c.args.new.thing (record { at = k; count = last.count + 1 })))
    (sym at)
    (pushed_kept was c.args.new.spot lasts c.args.new.thing c.self.invariant))

pub returns-clause-rows : goal.returns-clause-rows
returns-clause-rows c =
    let at : c.len-at.result ≡ length c.self.inside.spots.items = omega (arith, c.len-at.ensures) in
    let lasts = c.self.inside.last.items in
    let last = c.index-last.result.now in
    let same = ap (λ (r : Rows). r.rows) c.self.view_is in
    let was = is_last lasts c.self.invariant same c.args.new.thing last c.requires.within
    c.index-last.ensures in
    ap (λ (spots : List KeptSpot). rows_of spots
    (slice_set lasts c.args.new.thing
    (record { at = c.len-at.result; count = last.count + 1 }))) c.push_reserved.ensures.items
    ∙ ap (λ (k : ℕ). rows_of (c.self.inside.spots.items ++ record {
      spot = c.args.new.spot;
      before = last.at;
    } ∷ []) (slice_set lasts c.args.new.thing
    (record { at = k; count = last.count + 1 }))) at
    ∙ pushed_rows was c.args.new.spot lasts c.args.new.thing c.args.self.now.rows c.self.invariant
    same (row_at lasts c.self.invariant same c.args.new.thing last c.requires.within
    c.index-last.ensures)

pub push_reserved-requires : goal.push_reserved-requires
push_reserved-requires c = omega (arith, c.requires.room, ap (λ (r : Rows). r.room) c.self.view_is)

pub returns-clause-room : goal.returns-clause-room
returns-clause-room c = omega (
  arith,
  c.push_reserved.ensures.len,
  c.push_reserved.ensures.capacity,
  c.requires.room,
  ap (λ (r : Rows). r.room) c.self.view_is,
)
