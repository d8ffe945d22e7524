use Rattle.std.proofs.Common.{◌≡◌, ◌-◌, [], ◌∷◌, ◌++◌, length, true, Some, None}
use Rattle.std.proofs.Common.{sym, ap, ◌∙◌}
use Rattle.std.proofs.Common.{refl, subst, rules, arith}
use Rattle.std.proofs.lemmas.Bool.Decides.{nat_tests}
use Rattle.json.specs.Json.{parse_map, after_end_array, read_key, items, members, value}
use Rattle.json.specs.Lex.{between, lex, fresh, punctuate}
use Rattle.json.proofs.Grammar.{read_key-shorter, value_is}
use Rattle.serde_json.specs.Data.{string, number, put}
use Rattle.serde_json.specs.Read.{of_json, of_items, of_members, converted}
use Rattle.serde_json.specs.View.{number_view}
use Rattle.borrowed_json.specs.View.{view, items_view, members_view}
use Rattle.borrowed_json.specs.declared.value.Value.{String, Number, the_lemmas}
use Rattle.borrowed_json.proofs.Views.{view-Array, view-Object, members_view-push}
use Rattle.borrowed_json.specs.Steps.{Reads, tokens_at}
use Rattle.borrowed_json.proofs.Reading.{item_read, items_over, member_read, members_over}
use Rattle.borrowed_json.proofs.Reading.{items_before}
use Rattle.borrowed_json.proofs.Reading.{items_before-no_items, one_more_item, value_shorter}
use Rattle.borrowed_json.proofs.Reading.{item_refused, member_refused, key_refused}
use Rattle.borrowed_json.proofs.Refusals.{name_none, deep_object, deep_array, array_none}
use Rattle.borrowed_json.proofs.Refusals.{object_none}
use Rattle.borrowed_json.proofs.Refusals.{nothing, lasts_value, lasts_key, name_missing, no_tokens}
use Rattle.borrowed_json.proofs.Places.{close_array, close_object, open_array, string_reads}
use Rattle.borrowed_json.proofs.Places.{number_reads, array_reads, object_reads, name_reads}
use Rattle.borrowed_json.proofs.plain.reader.+read.Goals as goal

pub read_items-returns-in-Some-clause-ok : goal.read_items-returns-in-Some-clause-ok
read_items-returns-in-Some-clause-ok t c =
    let p = value c.args.depth in
    let l = c.items in
    let n = l.invariant.0 in
    let ts = tokens_at l.later l.left.now in
    let r = tokens_at true c.in-Some.rest.now in
    let closed : after_end_array ts ≡ Some r =
    close_array l.later l.left.now c.in-Some.rest.now c.in-Some.ensures.lexeme in
    record {
      reads = l.invariant.2 ∙ ap (parse_map (items_before l.found.items))
          (items_over p n ts r l.invariant.1 closed)
          ∙ ap (λ ds. Some (ds, r)) (items_before-no_items l.found.items)
          ∙ ap (λ vs. Some (items_view vs, r)) (sym c.into_bump_slice.ensures);
      plain = λ h. c.in-Some.ensures.plain (l.invariant.4 h);
      no_longer = omega (arith, c.in-Some.ensures.shorter, l.invariant.3);
    }

pub read_items-items-preserved : goal.read_items-items-preserved
read_items-items-preserved t c =
    let p = value c.args.depth in
    let l = c.items in
    let n = l.invariant.0 in
    let ts = tokens_at l.later l.left.now in
    let b = c.in-Some-next_start.ensures in
    let done = c.in_ok-item.ensures.ok in
    let v = c.in_ok-item.item in
    let r = tokens_at true c.in_ok-item.rest.now in
    let going : after_end_array ts ≡ None =
    open_array l.later l.left.now c.in_default.ensures in
    let one : converted of_json (p ts) ≡ Some (view v, r) =
    ap (λ us. converted of_json (p us)) b.tokens ∙ done.reads b.place b.begins in
    let less = value_shorter c.args.depth ts r (view v) one in
    let pushed : c.push.new.self.items ≡ l.found.items ++ v ∷ [] = grind arith in (
      n - 1,
      omega (arith, l.invariant.1),
      l.invariant.2 ∙ ap (parse_map (items_before l.found.items))
          (item_read p n ts r (view v) (omega (arith, l.invariant.1)) going one)
          ∙ one_more_item l.found.items v _
          ∙ ap (λ vs. parse_map (items_before vs) (converted of_items (items p (n - 1) r)))
          (sym pushed),
      omega (arith, l.invariant.3, done.shorter, b.no_longer),
      λ h. done.plain (b.plain (l.invariant.4 h)),
      search rules,
    )

pub read_members-returns-in-Some-clause-ok : goal.read_members-returns-in-Some-clause-ok
read_members-returns-in-Some-clause-ok t c =
    let p = value c.args.depth in
    let l = c.members in
    let n = l.invariant.0 in
    let old = members_view l.found.items in
    let ts = tokens_at l.later l.left.now in
    let r = tokens_at true c.in-Some.rest.now in
    let closed : read_key ts ≡ Some (None, r) =
    close_object l.later l.left.now c.in-Some.rest.now c.in-Some.ensures.lexeme in
    record {
      reads = l.invariant.2 ∙ members_over p old n ts r l.invariant.1 closed
          ∙ ap (λ ms. Some (members_view ms, r)) (sym c.into_bump_slice.ensures);
      plain = λ h. c.in-Some.ensures.plain (l.invariant.4 h);
      no_longer = omega (arith, c.in-Some.ensures.shorter, l.invariant.3);
    }

pub read_members-members-preserved : goal.read_members-members-preserved
read_members-members-preserved t c =
    let p = value c.args.depth in
    let l = c.members in
    let n = l.invariant.0 in
    let old = members_view l.found.items in
    let ts = tokens_at l.later l.left.now in
    let b = c.in-Some-next_start.ensures in
    let name = c.in-Some-read_name.name in
    let inside = c.in-Some-read_name.inside.now in
    let s = punctuate fresh (lex between inside) in
    let named : read_key ts ≡ Some (Some name.now, s) =
    name_reads l.later l.left.now c.in-Some-next_start.start.now inside name.now b
    c.in-Some-read_name.ensures in
    let done = c.in_ok-member.ensures.ok in
    let v = c.in_ok-member.member in
    let r = tokens_at true c.in_ok-member.rest.now in
    let one : converted of_json (p s) ≡ Some (view v, r) = done.reads fresh refl in
    let less = read_key-shorter ts (Some name.now) s named in
    let lesser = value_shorter c.args.depth s r (view v) one in
    let pushed : c.push.new.self.items ≡ l.found.items ++ (name, v) ∷ [] = grind arith in
    let inserted : members_view c.push.new.self.items ≡ put name.now (view v) old =
    ap members_view pushed ∙ members_view-push l.found.items (name, v) in (
      n - 1,
      omega (arith, l.invariant.1),
      l.invariant.2 ∙ member_read p old n name.now ts s r (view v) (omega (arith, l.invariant.1))
          named one
          ∙ ap (λ found. converted (λ ms. of_members ms found) (members p (n - 1) r))
          (sym inserted),
      omega (arith, l.invariant.3, done.shorter, b.no_longer, c.in-Some-read_name.ensures.shorter),
      λ h. done.plain (c.in-Some-read_name.ensures.plain (b.plain (l.invariant.4 h))),
      search rules,
    )

pub read_value-returns-in-Some-clause-ok : goal.read_value-returns-in-Some-clause-ok
read_value-returns-in-Some-clause-ok t c =
    let found = c.in-Some.found in
    let rest = c.in-Some.rest.now in
    let seen : view (String found) ≡ string found.now = search (rules, the_lemmas) in
    subst (λ d. Reads c.args.depth c.args.text.now d rest) (sym seen)
    (string_reads c.args.depth c.args.text.now rest found.now c.in-Some.ensures
    c.in_default-after.ensures)

pub read_value-returns-in-Some-after-2-clause-ok : goal.read_value-returns-in-Some-after-2-clause-ok
read_value-returns-in-Some-after-2-clause-ok t c =
    let v = c.in_ok-members.members in
    subst (λ d. Reads c.args.depth c.args.text.now d c.in_ok-members.rest.now)
    (sym (view-Object v))
    (object_reads c.args.depth c.args.text.now c.in-Some-after-2.inside.now
    c.in_ok-members.rest.now (members_view v.now) (omega arith) c.in-Some-after-2.ensures
    c.in_ok-members.ensures.ok)

pub read_value-returns-in-Some-after-3-clause-ok : goal.read_value-returns-in-Some-after-3-clause-ok
read_value-returns-in-Some-after-3-clause-ok t c =
    let v = c.in_ok-items.items in
    subst (λ d. Reads c.args.depth c.args.text.now d c.in_ok-items.rest.now)
    (sym (view-Array v))
    (array_reads c.args.depth c.args.text.now c.in-Some-after-3.inside.now
    c.in_ok-items.rest.now (items_view v.now) (omega arith) c.in-Some-after-3.ensures
    c.in_ok-items.ensures.ok)

pub read_value-returns-clause-ok : goal.read_value-returns-clause-ok
read_value-returns-clause-ok t c =
    let x = c.in-Some-whole_number.number in
    let found = c.in-Some-whole_number.ensures in
    let seen : view (Number x) ≡ number (number_view x) = search (rules, the_lemmas) in
    subst (λ d. Reads c.args.depth c.args.text.now d c.in-Some-whole_number.rest.now) (sym seen)
    (number_reads c.args.depth c.args.text.now c.in-Some-whole_number.rest.now found.0
    (number_view x) found.1 found.2)

-- ---- what isn't read

pub read_items-returns-in_default-next_start-clause-unusual :
    goal.read_items-returns-in_default-next_start-clause-unusual
read_items-returns-in_default-next_start-clause-unusual t c u h =
    let p = value c.args.depth in
    let l = c.items in
    let ts = tokens_at l.later l.left.now in
    l.invariant.2 ∙ ap (parse_map (items_before l.found.items))
    (item_refused p l.invariant.0 ts (open_array l.later l.left.now c.in_default.ensures)
    (ap (converted of_json) (lasts_value c.args.depth l.later l.left.now
    c.in_default-next_start.ensures)))

pub read_items-returns-in_err-item-clause-unusual :
    goal.read_items-returns-in_err-item-clause-unusual
read_items-returns-in_err-item-clause-unusual t c u h =
    let p = value c.args.depth in
    let l = c.items in
    let ts = tokens_at l.later l.left.now in
    let b = c.in-Some-next_start.ensures in
    let none = c.read_value.ensures.unusual (grind arith) (b.plain (l.invariant.4 h)) in
    l.invariant.2 ∙ ap (parse_map (items_before l.found.items))
    (item_refused p l.invariant.0 ts (open_array l.later l.left.now c.in_default.ensures)
    (ap (λ us. converted of_json (p us)) b.tokens ∙ none b.place b.begins))

pub read_items-returns-clause-unusual : goal.read_items-returns-clause-unusual
read_items-returns-clause-unusual t c u h =
    let p = value c.args.depth in
    let l = c.items in
    let ts = tokens_at l.later l.left.now in
    let over : length l.left.now ≡ 0 = grind (arith, nat_tests) in
    let none : ts ≡ [] = no_tokens l.later l.left.now over in
    l.invariant.2 ∙ ap (parse_map (items_before l.found.items))
    (item_refused p l.invariant.0 ts (ap after_end_array none)
    (ap (λ us. converted of_json (p us)) none ∙ ap (converted of_json)
    (value_is c.args.depth [])))

pub read_members-returns-in_default-next_start-clause-unusual :
    goal.read_members-returns-in_default-next_start-clause-unusual
read_members-returns-in_default-next_start-clause-unusual t c u h =
    let p = value c.args.depth in
    let l = c.members in
    let ts = tokens_at l.later l.left.now in
    l.invariant.2 ∙ key_refused p (members_view l.found.items) l.invariant.0 ts
    (lasts_key l.later l.left.now c.in_default-next_start.ensures c.in_default-after.ensures)

pub read_members-returns-in_default-read_name-clause-unusual :
    goal.read_members-returns-in_default-read_name-clause-unusual
read_members-returns-in_default-read_name-clause-unusual t c u h =
    let p = value c.args.depth in
    let l = c.members in
    let ts = tokens_at l.later l.left.now in
    let b = c.in-Some-next_start.ensures in
    l.invariant.2 ∙ key_refused p (members_view l.found.items) l.invariant.0 ts
    (name_missing l.later l.left.now c.in-Some-next_start.start.now b c.in_default-after.ensures
    (c.in_default-read_name.ensures (b.plain (l.invariant.4 h))))

pub read_members-returns-in_err-member-clause-unusual :
    goal.read_members-returns-in_err-member-clause-unusual
read_members-returns-in_err-member-clause-unusual t c u h =
    let p = value c.args.depth in
    let l = c.members in
    let ts = tokens_at l.later l.left.now in
    let b = c.in-Some-next_start.ensures in
    let name = c.in-Some-read_name.name.now in
    let inside = c.in-Some-read_name.inside.now in
    let s = punctuate fresh (lex between inside) in
    let named : read_key ts ≡ Some (Some name, s) =
    name_reads l.later l.left.now c.in-Some-next_start.start.now inside name b
    c.in-Some-read_name.ensures in
    let plain = c.in-Some-read_name.ensures.plain (b.plain (l.invariant.4 h)) in
    l.invariant.2 ∙ member_refused p (members_view l.found.items) l.invariant.0 name ts s named
    (c.read_value.ensures.unusual (grind arith) plain fresh refl)

pub read_members-returns-clause-unusual : goal.read_members-returns-clause-unusual
read_members-returns-clause-unusual t c u h =
    let p = value c.args.depth in
    let l = c.members in
    let ts = tokens_at l.later l.left.now in
    let over : length l.left.now ≡ 0 = grind (arith, nat_tests) in
    l.invariant.2 ∙ key_refused p (members_view l.found.items) l.invariant.0 ts
    (ap read_key (no_tokens l.later l.left.now over))

pub read_value-returns-in-Some-after-clause-unusual :
    goal.read_value-returns-in-Some-after-clause-unusual
read_value-returns-in-Some-after-clause-unusual t c u h =
    name_none c.args.depth c.args.text.now c.in-Some.rest.now _ c.in-Some.found.now
    c.in-Some.ensures c.in-Some-after.ensures

pub read_value-returns-then-depth-eq0-clause-unusual :
    goal.read_value-returns-then-depth-eq0-clause-unusual
read_value-returns-then-depth-eq0-clause-unusual t c u h =
    deep_object c.args.depth c.args.text.now c.in-Some-after-2.inside.now (omega arith)
    c.in-Some-after-2.ensures

pub read_value-returns-in_err-members-clause-unusual :
    goal.read_value-returns-in_err-members-clause-unusual
read_value-returns-in_err-members-clause-unusual t c u h =
    let opened = c.in-Some-after-2.ensures in
    object_none c.args.depth c.args.text.now c.in-Some-after-2.inside.now (omega arith) opened
    (c.read_members.ensures.unusual (grind arith) (opened.plain h))

pub read_value-returns-then-depth-eq0-2-clause-unusual :
    goal.read_value-returns-then-depth-eq0-2-clause-unusual
read_value-returns-then-depth-eq0-2-clause-unusual t c u h =
    deep_array c.args.depth c.args.text.now c.in-Some-after-3.inside.now (omega arith)
    c.in-Some-after-3.ensures

pub read_value-returns-in_err-items-clause-unusual :
    goal.read_value-returns-in_err-items-clause-unusual
read_value-returns-in_err-items-clause-unusual t c u h =
    let opened = c.in-Some-after-3.ensures in
    array_none c.args.depth c.args.text.now c.in-Some-after-3.inside.now (omega arith) opened
    (c.read_items.ensures.unusual (grind arith) (opened.plain h))

pub read_value-returns-in_default-whole_number-clause-unusual :
    goal.read_value-returns-in_default-whole_number-clause-unusual
read_value-returns-in_default-whole_number-clause-unusual t c u h =
    nothing c.args.depth c.args.text.now h (c.in_default.ensures h) c.in_default-after-2.ensures
    c.in_default-after-3.ensures (c.in_default-whole_number.ensures h)
