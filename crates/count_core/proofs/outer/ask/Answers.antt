use Rattle.std.proofs.Common.{◌≡◌, ◌<◌, ◌==◌, ◌∙◌, ℕ, Vec, Global, true, false, length, ap, refl}
use Rattle.std.proofs.Common.{sym, arith}
use Rattle.std.proofs.lemmas.Bool.Decides.{nat_tests}
use Rattle.std.proofs.lemmas.List.{length-map}
use Rattle.std.proofs.lemmas.Option.{slice_get_read}
use Rattle.count_core.proofs.Unflagged.{asked, asked_more, at_of}
use Rattle.count_core.proofs.outer.ask.Goals as goal

pub returns-in_ok-outer-clause-outer : goal.returns-in_ok-outer-clause-outer
returns-in_ok-outer-clause-outer c =
    let before = c.requires.outer in
    let below : c.args.place < length c.args.outer.now.items =
    omega (
      arith,
      c.requires.known,
      before.many,
      length-map c.args.outer.now.items (λ (v : Vec ℕ Global). v.items),
    ) in
    asked_more c.args.setup.now c.args.outer.now.items c.args.place c.in_ok-outer.field-0 before
    below c.in_ok-outer.ensures

pub returns-in_ok-outer-clause-asked : goal.returns-in_ok-outer-clause-asked
returns-in_ok-outer-clause-asked c =
    let below : c.args.place < length c.args.outer.now.items =
    omega (
      arith,
      c.requires.known,
      c.requires.outer.many,
      length-map c.args.outer.now.items (λ (v : Vec ℕ Global). v.items),
    ) in
    asked c.args.setup.now c.args.outer.now.items c.args.place c.in_ok-outer.field-0 below
    ∙ c.in_ok-outer.ensures

pub returns-else-is_empty-clause-asked : goal.returns-else-is_empty-clause-asked
returns-else-is_empty-clause-asked c =
    let v : Vec ℕ Global = c.index.result.now in
    let items = c.args.outer.now.items in
    let below : c.args.place < length items =
    omega (
      arith,
      c.requires.known,
      c.requires.outer.many,
      length-map items (λ (w : Vec ℕ Global). w.items),
    ) in
    let at = slice_get_read items (length items) c.args.place v refl below c.index.ensures in
    c.requires.outer.each c.args.place (λ none.
    let len : v.len ≡ 0 = v.ok.0 ∙ ap length (sym (at_of items c.args.place v at) ∙ none) in
    let yes : (v.len == 0) ≡ true = grind (arith, nat_tests) in
    let no : true ≡ false = sym yes ∙ (sym c.is_empty.ensures ∙ c.if-is_empty.false) in cc)
