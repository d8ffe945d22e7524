-- The item that a row lists, and the fault of a row, from the values read.
use Rattle.std.specs.Prelude.{◌≡◌, ℕ, ◌==◌, ◌&&◌, Bool, true, false, not, cond, List, [], ◌∷◌}
use Rattle.std.specs.Prelude.{Option, Some, None, option_map, refl}
use Rattle.std.proofs.lemmas.Bool.Decides.{nat_tests}
use Rattle.std.proofs.Common.{arith, ap, sym, ◌∙◌}
use Rattle.codes_core.specs.Thing.{thing_kind}
use Rattle.codes_core.specs.declared.thing.ThingKind.{ThingKind}
use Rattle.codes_core.specs.declared.thing.ThingKind.TheVariants.{Own, Borrowed, Container}
use Rattle.nest_core.specs.SetupRows.{Fields, field, field_count, fields_of_kind, has_word}
use Rattle.nest_core.specs.SetupRows.{has_codes, has_normal, is_of_kind, is_place_code, is_right}
use Rattle.nest_core.specs.SetupRows.{is_thing_code, item_of, listed, kind_fault, own_fault}
use Rattle.nest_core.specs.SetupRows.{row_kind}
use Rattle.nest_core.specs.InOrder.{◌if◌, first_or}
use Rattle.nest_core.specs.declared.setup_fault.SetupFault.{SetupFault}
use Rattle.nest_core.specs.declared.setup_fault.SetupFault.TheVariants.{BadFields, BadCode}
use Rattle.nest_core.specs.declared.setup_row.RowKind.{RowKind}
use Rattle.nest_core.specs.declared.setup_row.RowKind.TheVariants as kind
use Rattle.nest_core.specs.declared.setup_row.SetupRow.{SetupRow}
use Rattle.nest_core.specs.declared.setup_row.SetupRow.TheVariants as lists
use Rattle.nest_core.proofs.Choices.{no_choice, no_first, no_second, choice, choices}

box_right : (t : Bool) (k : ThingKind) → (t && is_of_kind Container k) ≡ true
    → (t && has_normal k None) ≡ true
box_right true Own e = absurd (cc)
box_right true Borrowed e = refl
box_right true Container e = refl
box_right false k e = absurd (cc)

lent_right : (t : Bool) (k : ThingKind) → (t && is_of_kind Borrowed k) ≡ true
    → (t && has_normal k None) ≡ true
lent_right true Own e = absurd (cc)
lent_right true Borrowed e = refl
lent_right true Container e = refl
lent_right false k e = absurd (cc)

own_right : (t u : Bool) (k : ThingKind) (place : List ℕ) → (t && is_of_kind Own k && u) ≡ true
    → (t && has_normal k (Some place)) ≡ true
own_right true u Own place e = refl
own_right true u Borrowed place e = absurd (cc)
own_right true u Container place e = absurd (cc)
own_right false u k place e = absurd (cc)

-- the item of a row with valid codes can be listed
pub listed_right : (k : RowKind) (row : Fields) → has_codes k row ≡ true
    → is_right (listed k row) ≡ true
listed_right kind.Station row h = h
listed_right kind.Place row h = h
listed_right kind.Box row h = box_right _ (thing_kind (field row 1)) h
listed_right kind.Own row h = own_right _ _ (thing_kind (field row 1)) (field row 2) h
listed_right kind.Lent row h = lent_right _ (thing_kind (field row 1)) h

-- the fault and the item of a row by its parts
fault_of : (n : ℕ) (row : Fields) (t : Bool) (k : Option RowKind)
    → (field_count row == 0) ≡ t → row_kind (field row 0) ≡ k
    → own_fault n row ≡ cond t None (kind_fault n row k)
fault_of n row t k e f =
    ap (λ b. cond b None (kind_fault n row (row_kind (field row 0)))) e
    ∙ ap (λ q. cond t None (kind_fault n row q)) f

item_by : (row : Fields) (t : Bool) (k : Option RowKind)
    → (field_count row == 0) ≡ t → row_kind (field row 0) ≡ k
    → item_of row ≡ cond t None (option_map (λ k. listed k row) k)
item_by row t k e f =
    ap (λ b. cond b None (option_map (λ k. listed k row) (row_kind (field row 0)))) e
    ∙ ap (λ q. cond t None (option_map (λ k. listed k row) q)) f

no_faults : (n : ℕ) (a b : Bool) → a ≡ true → b ≡ true
    → ◌≡◌ {A = Option SetupFault}
    (first_or None ((Some (BadFields n) if not a) ∷ (Some (BadCode n) if not b) ∷ [])) None
no_faults n a b e f = rw (e, f) refl

-- the values read from a row that lists an item
pub record IsRead (row : Fields) (k : RowKind) (item : SetupRow) : Type 0 where
  pub some : (field_count row == 0) ≡ false
  pub kind_is : row_kind (field row 0) ≡ Some k
  pub fields : ((field_count row == fields_of_kind k) && has_word k row) ≡ true
  pub codes : has_codes k row ≡ true
  pub item_is : item ≡ listed k row

not_zero : (n : ℕ) → (n ≡ 0 → ⊥) → (n == 0) ≡ false
not_zero n h = grind (arith, nat_tests)

same_number : (n m : ℕ) → n ≡ m → (n == m) ≡ true
same_number n m h = grind (arith, nat_tests)

chosen_is : {A : Type 0} (t : Bool) (x y : A) → cond t (Some x) None ≡ Some y → (t ≡ true) × (y ≡ x)
chosen_is true x y e = (refl, cc)
chosen_is false x y e = absurd (cc)

-- the results of a row's tests
pub is_read : (row : Fields) (k : RowKind) (item : SetupRow) (count wanted : ℕ) (word : Bool)
    → count ≡ field_count row → (count ≡ 0 → ⊥)
    → row_kind (field row 0) ≡ Some k → wanted ≡ fields_of_kind k → count ≡ wanted
    → word ≡ has_word k row → word ≡ true
    → cond (has_codes k row) (Some (listed k row)) None ≡ Some item → IsRead row k item
is_read row k item count wanted word counted some kind_is wants enough has right chosen =
    let codes = chosen_is (has_codes k row) (listed k row) item chosen in
    let fields : (field_count row == fields_of_kind k) ≡ true =
    same_number _ _ (sym counted ∙ enough ∙ wants) in
    let said : has_word k row ≡ true = sym has ∙ right in
    record {
      some = not_zero (field_count row) (λ none. some (counted ∙ none));
      kind_is = kind_is;
      fields = rw (fields, said) refl;
      codes = codes.0;
      item_is = codes.1;
    }

pub none_own : (n : ℕ) (row : Fields) (k : RowKind) (item : SetupRow)
    → IsRead row k item → own_fault n row ≡ None
none_own n row k item is =
    fault_of n row false (Some k) is.some is.kind_is ∙ no_faults n _ _ is.fields is.codes

pub item_read : (row : Fields) (k : RowKind) (item : SetupRow) → IsRead row k item
    → ◌≡◌ {A = Option SetupRow} (Some item) (item_of row)
item_read row k item is =
    ap Some is.item_is ∙ sym (item_by row false (Some k) is.some is.kind_is)

-- the item that a row of this kind lists, if its codes are valid
abbrev chosen : RowKind → Fields → Option SetupRow
chosen k row = cond (has_codes k row) (Some (listed k row)) None

-- the code that the bytes spell, if they spell one
abbrev thing_read : ThingKind → List ℕ → Option (List ℕ)
thing_read wanted code = cond (is_thing_code wanted code) (Some code) None

abbrev place_read : List ℕ → Option (List ℕ)
place_read code = cond (is_place_code code) (Some code) None

pub box_listed : (k : RowKind) (row : Fields) (code thing : List ℕ) → k ≡ kind.Box
    → code ≡ field row 1 → thing_read Container code ≡ Some thing
    → Some (lists.Thing thing None) ≡ chosen k row
box_listed k row code thing is at read =
    rw is (choice (is_thing_code Container (field row 1)) (field row 1) thing
    (λ c. lists.Thing c None) (rw at at read))

pub lent_listed : (k : RowKind) (row : Fields) (code thing : List ℕ) → k ≡ kind.Lent
    → code ≡ field row 1 → thing_read Borrowed code ≡ Some thing
    → Some (lists.Thing thing None) ≡ chosen k row
lent_listed k row code thing is at read =
    rw is (choice (is_thing_code Borrowed (field row 1)) (field row 1) thing
    (λ c. lists.Thing c None) (rw at at read))

pub lent_refused : (k : RowKind) (row : Fields) (code : List ℕ) → k ≡ kind.Lent → code ≡ field row 1
    → thing_read Borrowed code ≡ None → ◌≡◌ {A = Option SetupRow} None (chosen k row)
lent_refused k row code is at read =
    rw is (no_choice (is_thing_code Borrowed (field row 1)) (field row 1)
    (lists.Thing (field row 1) None) (rw at at read))

pub own_listed : (k : RowKind) (row : Fields) (code thing place normal : List ℕ) → k ≡ kind.Own
    → code ≡ field row 1 → place ≡ field row 2
    → thing_read Own code ≡ Some thing → place_read place ≡ Some normal
    → Some (lists.Thing thing (Some normal)) ≡ chosen k row
own_listed k row code thing place normal is at then read found =
    rw is (choices (is_thing_code Own (field row 1)) (is_place_code (field row 2)) (field row 1)
    thing (field row 2) normal (λ c p. lists.Thing c (Some p)) (rw at at read)
    (rw then at found))

pub own_refused : (k : RowKind) (row : Fields) (code : List ℕ) → k ≡ kind.Own → code ≡ field row 1
    → thing_read Own code ≡ None → ◌≡◌ {A = Option SetupRow} None (chosen k row)
own_refused k row code is at read =
    rw is (no_first (is_thing_code Own (field row 1)) (is_place_code (field row 2)) (field row 1)
    (lists.Thing (field row 1) (Some (field row 2))) (rw at at read))

pub normal_refused : (k : RowKind) (row : Fields) (place : List ℕ) → k ≡ kind.Own
    → place ≡ field row 2 → place_read place ≡ None → ◌≡◌ {A = Option SetupRow} None (chosen k row)
normal_refused k row place is then found =
    rw is (no_second (is_thing_code Own (field row 1)) (is_place_code (field row 2)) (field row 2)
    (lists.Thing (field row 1) (Some (field row 2))) (rw then at found))
