use Rattle.std.proofs.Common.{sym, ap, ◌∙◌}
use Rattle.csv.specs.Records.{fields_of}
use Rattle.nest_core.specs.SetupRows.{row_kind}
use Rattle.nest_core.proofs.Listings.{IsRead, is_read, listed_right, none_own, item_read}
use Rattle.nest_core.proofs.setup_row.SetupRow.read.Goals as goal

pub returns-in-Some-listed-clause-ok : goal.returns-in-Some-listed-clause-ok
returns-in-Some-listed-clause-ok c =
    let row = fields_of c.args.row.now in
    let is : IsRead row c.in-Some.kind c.in-Some-listed.item =
    is_read row c.in-Some.kind c.in-Some-listed.item c.field_count-count.result
    c.fields_of_kind.result c.has_word.result
    c.field_count-count.ensures c.if-count-eq0.false
    (ap row_kind (sym c.field.ensures) ∙ sym c.row_kind.ensures ∙ c.in-Some.is)
    c.fields_of_kind.ensures c.if-count-fields_of_kind.false c.has_word.ensures
    c.if-not-has_word.false
    (sym c.listed.ensures ∙ c.in-Some-listed.is) in (
      none_own c.args.number row c.in-Some.kind c.in-Some-listed.item is,
      item_read row c.in-Some.kind c.in-Some-listed.item is,
    )

pub returns-in-Some-listed-clause-right : goal.returns-in-Some-listed-clause-right
returns-in-Some-listed-clause-right c =
    let row = fields_of c.args.row.now in
    let is : IsRead row c.in-Some.kind c.in-Some-listed.item =
    is_read row c.in-Some.kind c.in-Some-listed.item c.field_count-count.result
    c.fields_of_kind.result c.has_word.result
    c.field_count-count.ensures c.if-count-eq0.false
    (ap row_kind (sym c.field.ensures) ∙ sym c.row_kind.ensures ∙ c.in-Some.is)
    c.fields_of_kind.ensures c.if-count-fields_of_kind.false c.has_word.ensures
    c.if-not-has_word.false
    (sym c.listed.ensures ∙ c.in-Some-listed.is) in
    rw is.item_is (listed_right c.in-Some.kind row is.codes)
