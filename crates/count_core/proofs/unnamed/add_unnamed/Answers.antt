use Rattle.std.proofs.Common.{◌≡◌, ◌==◌, ◌<◌, ◌++◌, ◌&&◌, ℕ, Bool, All, filter, length, map, ap}
use Rattle.std.proofs.Common.{sym, subst, ◌∙◌}
use Rattle.std.proofs.lemmas.List.{length-map}
use Rattle.std.specs.Prelude.{Vec}
use Rattle.std.specs.declared.alloc.Global.{Global}
use Rattle.nest_core.specs.Museum.{Museum, IsMuseum}
use Rattle.count_core.specs.Counts.{is_within}
use Rattle.count_core.specs.Inside.{lists, list_at, outer_of, AreOuter}
use Rattle.count_core.specs.Marks.{is_unflagged}
use Rattle.count_core.proofs.OuterPlaces.{outer_within}
use Rattle.count_core.proofs.Unflagged.{code_at, outer_at, unplaced_within, with_unflagged}
use Rattle.count_core.proofs.Unflagged.{without_unflagged}
use Rattle.count_core.proofs.unnamed.add_unnamed.Goals as goal

pub push_to_each-requires : goal.push_to_each-requires
push_to_each-requires c =
    let S = c.args.ledger.now.museum in
    let p = c.in-Some.place in
    let below = c.in-Some.ensures.within in
    let text = code_at S p below in
    let table = c.ask.new.outer.items in
    let museum : c.setup-setup.result.now ≡ S = c.setup-setup.ensures in
    let outer : AreOuter S (lists table) =
    subst (λ T. AreOuter T (lists table)) museum c.in_ok-ask.ensures.outer in
    let asked : list_at (lists table) p ≡ outer_of S p =
    subst (λ T. list_at (lists table) p ≡ outer_of T p) museum c.in_ok-ask.ensures.asked in
    let places = c.as_slice.ensures.value ∙ outer_at S table p c.index.result.now text.0 outer asked
    below c.index.ensures text.1 in
    let count : length S.places ≡ length c.args.unnamed.now.items =
    sym c.requires.before.many ∙ length-map c.args.unnamed.now.items
    (λ (v : Vec ℕ Global). v.items) in
    subst (λ n. All (λ q. q < n) c.as_slice.result.now) count
    (subst (All (λ q. q < length S.places)) (sym places) (outer_within S text.0))

pub returns-in_ok-push_to_each-clause-unnamed : goal.returns-in_ok-push_to_each-clause-unnamed
returns-in_ok-push_to_each-clause-unnamed c =
    let B = c.args.ledger.now in
    let S = B.museum in
    let x = c.args.thing in
    let p = c.in-Some.place in
    let old = c.args.unnamed.now.items in
    let new = c.push_to_each.new.unnamed.items in
    let below = c.in-Some.ensures.within in
    let text = code_at S p below in
    let table = c.ask.new.outer.items in
    let museum : c.setup-setup.result.now ≡ S = c.setup-setup.ensures in
    let outer : AreOuter S (lists table) =
    subst (λ T. AreOuter T (lists table)) museum c.in_ok-ask.ensures.outer in
    let asked : list_at (lists table) p ≡ outer_of S p =
    subst (λ T. list_at (lists table) p ≡ outer_of T p) museum c.in_ok-ask.ensures.asked in
    let places = c.as_slice.ensures.value ∙ outer_at S table p c.index.result.now text.0 outer asked
    below c.index.ensures text.1 in
    let free = sym (ap (λ (T : Museum). is_unflagged T c.args.flags.now x) c.setup-setup.ensures)
    ∙ (sym c.is_unflagged.ensures ∙ c.if-is_unflagged.true) in
    let many : length (lists new) ≡ length (lists old) =
    length-map new (λ (v : Vec ℕ Global). v.items)
    ∙ (c.in_ok-push_to_each.ensures.many ∙ sym (length-map old (λ (v : Vec ℕ Global). v.items)))
    in
    with_unflagged B c.args.flags.now x p text.0 (lists old) (lists new)
    (subst IsMuseum c.setup-setup.ensures c.is_museum.ensures) c.requires.before free
    (sym c.place_of.ensures.place ∙ c.in-Some.is) text.1 many
    (λ q. subst (λ ps. list_at (lists new) q ≡ list_at (lists old) q ++ map (λ k. x)
    (filter (λ k. k == q) ps)) places (c.in_ok-push_to_each.ensures.each q))

pub returns-in_default-clause-unnamed : goal.returns-in_default-clause-unnamed
returns-in_default-clause-unnamed c =
    let B = c.args.ledger.now in
    let x = c.args.thing in
    without_unflagged B c.args.flags.now x (lists c.args.unnamed.now.items) c.requires.before
    (λ q. unplaced_within B q x (is_unflagged B.museum c.args.flags.now x)
    (sym c.place_of.ensures.place ∙ c.in_default.is))

pub returns-else-is_unflagged-clause-unnamed : goal.returns-else-is_unflagged-clause-unnamed
returns-else-is_unflagged-clause-unnamed c =
    let B = c.args.ledger.now in
    let x = c.args.thing in
    let flagged = sym (ap (λ (T : Museum). is_unflagged T c.args.flags.now x) c.setup-setup.ensures)
    ∙ (sym c.is_unflagged.ensures ∙ c.if-is_unflagged.false) in
    without_unflagged B c.args.flags.now x (lists c.args.unnamed.now.items) c.requires.before
    (λ q. ap (λ (b : Bool). b && is_within B q x) flagged)
