-- Labels that a setup accepts hide no code of the setup.
use Rattle.std.specs.Prelude.{ℕ, ◌≡◌, ◌+◌, ◌++◌, ◌&&◌, ◌||◌, Bool, true, false, not, List, [], ◌∷◌}
use Rattle.std.specs.Prelude.{length, Option, Some, None, is_some, unwrap_or, refl, cond}
use Rattle.std.specs.List.{AllByRecursion, cons_option}
use Rattle.std.specs.Option.{option_map_or, option_or}
use Rattle.std.specs.Str.{bytes_eq}
use Rattle.std.proofs.Common.{ap, sym, subst, ◌∙◌}
use Rattle.std.proofs.lemmas.Slice.Eq.{bytes_eq-Decides}
use Rattle.table_core.specs.LabelRows.{columns_of, fault_below, first_fault, is_empty}
use Rattle.table_core.specs.LabelRows.{is_listed, label_in, labels_in, own_fault, row_fault}
use Rattle.table_core.specs.Labels.{Label, code_for, code_of, without_blanks}
use Rattle.table_core.specs.declared.labels.fault.LabelFault.{LabelFault}
use Rattle.table_core.specs.declared.labels.fault.LabelFault.TheVariants as fault
use Rattle.nest_core.specs.InOrder.{◌if◌, first_or}
use Rattle.nest_core.specs.Museum.{Museum}
use Rattle.nest_core.specs.SetupRows.{Fields}
use Rattle.table_core.specs.Laws.{HideNoCode}

-- the label is no code of the setup, unless it stands for itself
abbrev HidesNone : Museum → Label → Type 0
HidesNone S l = is_listed S l.label ≡ true → l.label ≡ l.code

third_none : (a b c : Bool) (f g h : LabelFault)
    → first_or None ((Some f if a) ∷ (Some g if b) ∷ (Some h if c) ∷ []) ≡ None → c ≡ false
third_none true b c f g h none = absurd (cc)
third_none false true c f g h none = absurd (cc)
third_none false false true f g h none = absurd (cc)
third_none false false false f g h none = refl

same_if : (same listed : Bool) → (not same && listed) ≡ false → listed ≡ true → same ≡ true
same_if true listed none is = refl
same_if false listed none is = absurd (let e : true ≡ false = sym is ∙ none in cc)

own_none : (S : Museum) (labels : List Label) (n : ℕ) (l : Label)
    → own_fault S labels n l ≡ None → HidesNone S l
own_none S labels n l none listed =
    (bytes_eq-Decides l.label l.code).0
    (same_if (bytes_eq l.label l.code) (is_listed S l.label)
    (third_none (is_empty l.label || is_empty l.code) (is_some (code_of labels l.label))
    (not (bytes_eq l.label l.code) && is_listed S l.label) (fault.Fields n) (fault.Repeated n)
    (fault.IsCode n) none) listed)

or_none : (a b : Option LabelFault) → option_or a b ≡ None → (a ≡ None) × (b ≡ None)
or_none None b none = (refl, none)
or_none (Some x) b none = absurd (cc)

-- one more row
with_row : (S : Museum) (labels : List Label) (n : ℕ) (o : Option Label) (rest : List Label)
    → row_fault S labels n o ≡ None → AllByRecursion (HidesNone S) rest
    → AllByRecursion (HidesNone S) (cons_option o rest)
with_row S labels n None rest none all = all
with_row S labels n (Some l) rest none all = (own_none S labels n l none, all)

rows_hide_none : (S : Museum) (columns : _) (before rows : List Fields)
    → first_fault S columns before rows ≡ None
    → AllByRecursion (HidesNone S) (labels_in columns rows)
rows_hide_none S columns before [] none = tt
rows_hide_none S columns before (row ∷ rows) none =
    let both = or_none
    (row_fault S (labels_in columns before) (length before + 2) (label_in columns row))
    (first_fault S columns (before ++ row ∷ []) rows) none in
    with_row S (labels_in columns before) (length before + 2) (label_in columns row)
    (labels_in columns rows) both.0 (rows_hide_none S columns (before ++ row ∷ []) rows both.1)

-- the first label that is looked at, or one of the others
found_first : (S : Museum) (l : Label) (others : Option (List ℕ)) (code : List ℕ) (b : Bool)
    → HidesNone S l → is_listed S code ≡ true → (b ≡ true → code ≡ l.label)
    → unwrap_or others code ≡ code → unwrap_or (cond b (Some l.code) others) code ≡ code
found_first S l others code true hides listed same rest =
    let is = same refl in
    sym (hides (subst (λ c. is_listed S c ≡ true) is listed)) ∙ sym is
found_first S l others code false hides listed same rest = rest

-- a look-up of a code of the setup finds that code
found : (S : Museum) (labels : List Label) (code : List ℕ)
    → AllByRecursion (HidesNone S) labels → is_listed S code ≡ true
    → unwrap_or (code_of labels code) code ≡ code
found S [] code all listed = refl
found S (l ∷ ls) code all listed =
    found_first S l (code_of ls code) code (bytes_eq code l.label) all.0 listed
    (λ e. (bytes_eq-Decides code l.label).0 e) (found S ls code all.1 listed)

below : (S : Museum) (rows : List Fields) (columns : _) (code : List ℕ)
    → first_fault S columns [] rows ≡ None → is_listed S code ≡ true
    → without_blanks code ≡ code → code_for (labels_in columns rows) code ≡ code
below S rows columns code none listed plain =
    ap (λ c. unwrap_or (code_of (labels_in columns rows) c) code) plain
    ∙ found S (labels_in columns rows) code (rows_hide_none S columns [] rows none) listed

-- with the columns of the heading
by_columns : (S : Museum) (rows : List Fields) (o : Option _) (code : List ℕ)
    → fault_below S rows o ≡ None → is_listed S code ≡ true → without_blanks code ≡ code
    → code_for (option_map_or (λ columns. labels_in columns rows) o []) code ≡ code
by_columns S rows None code none listed plain = absurd (cc)
by_columns S rows (Some columns) code none listed plain =
    below S rows columns code none listed plain

pub hide_no_code : (S : Museum) (rows : List Fields) → HideNoCode S rows
hide_no_code S [] none code listed plain = absurd (cc)
hide_no_code S (heading ∷ rows) none code listed plain =
    by_columns S rows (columns_of heading) code none listed plain
