-- What a row without faults has: a kind, and a value in each of its columns.
use Rattle.std.proofs.Common.{◌≡◌, ℕ, ◌<◌, List, [], ◌∷◌, ◌++◌, length, nat_lt, Option, Some}
use Rattle.std.proofs.Common.{None, refl, sym, ap, ◌∙◌, arith}
use Rattle.std.specs.Prelude.{is_some, if◌then◌else◌}
use Rattle.std.specs.Option.{option_map, option_map_or, option_or, option_to_list}
use Rattle.std.specs.List.{AllByRecursion, cons_option, filter_map}
use Rattle.table_core.specs.declared.column.Column.{Column}
use Rattle.table_core.specs.declared.column.Column.TheVariants as columns
use Rattle.table_core.specs.declared.fault.CellFault.{CellFault}
use Rattle.table_core.specs.declared.fault.CellFault.TheVariants.{NotAKind}
use Rattle.table_core.specs.declared.fault.FaultyCell.{FaultyCell}
use Rattle.table_core.specs.declared.kind.Kind.{Kind}
use Rattle.table_core.specs.declared.options.DateOrder.{DateOrder}
use Rattle.table_core.specs.declared.row.TableLine.{TableLine}
use Rattle.table_core.specs.Cells.{cell_fault, end_fault, value_fault}
use Rattle.table_core.specs.Kinds.{kind_columns, kind_named}
use Rattle.table_core.specs.RowCells.{HasValue, HasValues}
use Rattle.table_core.specs.TableRows.{Cells, fault_at, line_of, number_faults, row_columns}
use Rattle.table_core.specs.TableRows.{row_faults, row_lines}

or_none : (a b : Option CellFault) → option_or a b ≡ None → b ≡ None
or_none None b none = none
or_none (Some x) b none = cc

map_none : {X Y : Type 0} (f : X → Y) (o : Option X) → option_map f o ≡ None → o ≡ None
map_none f None none = refl
map_none f (Some x) none = cc

cons_none : {X : Type 0} (o : Option X) (xs : List X) → cons_option o xs ≡ []
    → (o ≡ None) × (xs ≡ [])
cons_none None xs none = (refl, none)
cons_none (Some x) xs none = cc

append_none : {X : Type 0} (xs ys : List X) → xs ++ ys ≡ [] → xs ≡ []
append_none [] ys none = refl
append_none (x ∷ xs) ys none = cc

-- a cell without a fault has a value
has_value : (order : DateOrder) (column : Column) (text : List ℕ)
    → cell_fault order column text ≡ None
    → (value_fault order column text ≡ None) × (0 < length text)
has_value order column [] none = cc
has_value order column (b ∷ bs) none =
    (or_none (end_fault (b ∷ bs)) (value_fault order column (b ∷ bs)) none, omega arith)

-- cells without faults have values
have_values : (order : DateOrder) (row : ℕ) (cells : Cells) (cs : List Column)
    → filter_map (fault_at order row cells) cs ≡ [] → AllByRecursion (HasValue order cells) cs
have_values order row cells [] none = tt
have_values order row cells (c ∷ cs) none =
    let parts = cons_none (fault_at order row cells c)
    (filter_map (fault_at order row cells) cs) none in (
      has_value order c (cells c) (map_none _ (cell_fault order c (cells c)) parts.0),
      have_values order row cells cs parts.1,
    )

read_none : (order : DateOrder) (row : ℕ) (cells : Cells) (next : ℕ)
    → row_faults order row cells next ≡ []
    → filter_map (fault_at order row cells) (row_columns cells) ≡ []
read_none order row cells next none =
    append_none (filter_map (fault_at order row cells) (row_columns cells))
    (number_faults order row cells next) none

pub right_values : (order : DateOrder) (row : ℕ) (cells : Cells) (next : ℕ) (kind : Kind)
    → row_faults order row cells next ≡ [] → kind_named (cells columns.Kind) ≡ Some kind
    → HasValues order cells kind
right_values order row cells next kind none named =
    have_values order row cells (kind_columns kind)
    (ap (λ o. filter_map (fault_at order row cells)
    (option_map_or kind_columns o (columns.Kind ∷ []))) (sym named)
    ∙ read_none order row cells next none)

no_kind : (o : Option Kind) → o ≡ None → (if is_some o then None else Some NotAKind) ≡ None → ⊥
no_kind None e none = cc
no_kind (Some kind) e none = cc

pub some_kind : (order : DateOrder) (row : ℕ) (cells : Cells) (next : ℕ)
    → row_faults order row cells next ≡ [] → kind_named (cells columns.Kind) ≡ None → ⊥
some_kind order row cells next none named =
    no_kind (kind_named (cells columns.Kind)) named
    (have_values order row cells (columns.Kind ∷ [])
    (ap (λ o. filter_map (fault_at order row cells)
    (option_map_or kind_columns o (columns.Kind ∷ []))) (sym named)
    ∙ read_none order row cells next none)).0.0

pub one_line : (order : DateOrder) (row : ℕ) (cells : Cells) (next : ℕ) (kind : Kind)
    → row_faults order row cells next ≡ [] → kind_named (cells columns.Kind) ≡ Some kind
    → row_lines order row cells next ≡ line_of order row cells next kind ∷ []
one_line order row cells next kind none named =
    ap (λ (faults : List FaultyCell). let lines : List TableLine =
    (if nat_lt 0 (length faults) then []
    else option_to_list (option_map (line_of order row cells next)
    (kind_named (cells columns.Kind)))) in lines) none
    ∙ ap (λ o. option_to_list (option_map (line_of order row cells next) o)) named
