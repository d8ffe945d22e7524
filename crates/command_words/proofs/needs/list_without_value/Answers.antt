use Rattle.std.proofs.Common.{◌++◌, ◌+◌, ◌∙◌, Global, List, Vec, ap, arith, drop, not, sym}
use Rattle.std.proofs.lemmas.List.{append-nil, at_drop_all}
use Rattle.std.specs.Borrow.{Bor}
use Rattle.clap.specs.Words.{Text, found_of, rows_of}
use Rattle.command_words.specs.Needs.{without_value}
use Rattle.command_words.specs.Words.{texts_of}
use Rattle.command_words.proofs.Missing.{has_value, is_added, is_passed}
use Rattle.command_words.proofs.needs.list_without_value.Goals as goal
use Rattle.command_words.proofs.needs.list_without_value.Goals.{then-is_none+in_ok-push}
use Rattle.command_words.proofs.needs.list_without_value.Goals.{else-is_none}

pub loop-id-preserved : goal.loop-id-preserved
loop-id-preserved c =
    let rows = rows_of (found_of c.args.matches.now) in
    let has = has_value c.one.result _ rows c.is_none.result c.one.ensures c.is_none.ensures in
    let whole : List (Bor Text) → List Text = λ items. texts_of items
    ++ without_value rows (texts_of (drop (c.loop-id.id-index + 1) c.args.ids.now)) in
    elim c.if-is_none.branch [
      | then-is_none+in_ok-push w ↦
          ap (λ (v : Vec (Bor Text) Global). whole v.items) w.without-is
          ∙ (ap whole w.in_ok-push.ensures.items
          ∙ is_added rows c.args.ids.now c.loop-id.id-index _ c.loop-id-test.true
          c.loop-id.without.items c.loop-id.invariant (has ∙ ap not w.if-is_none.true))
      | else-is_none w ↦
          ap (λ (v : Vec (Bor Text) Global). whole v.items) w.without-is
          ∙ is_passed rows c.args.ids.now c.loop-id.id-index _ c.loop-id-test.true
          c.loop-id.without.items c.loop-id.invariant (has ∙ ap not w.if-is_none.false)
    ]

pub returns : goal.returns
returns c =
    let rows = rows_of (found_of c.args.matches.now) in
    let items = c.loop-id.without.items in
    sym (append-nil (texts_of items))
    ∙ (sym (at_drop_all (λ ids. texts_of items ++ without_value rows (texts_of ids))
    c.args.ids.now c.loop-id.id-index (omega (arith, c.loop-id-test.false)))
    ∙ c.loop-id.invariant)
