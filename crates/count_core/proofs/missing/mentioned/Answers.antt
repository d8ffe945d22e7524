use Rattle.std.proofs.Common.{Some, ◌≡◌, ◌<◌, ◌+◌, ◌++◌, ◌∷◌, [], ℕ, Bool, Vec, Global, length}
use Rattle.std.proofs.Common.{take, ap, sym, subst, ◌∙◌, arith}
use Rattle.count_core.specs.Marks.{with_flag}
use Rattle.count_core.proofs.RowMarks.{looked_length, found_at, place_below}
use Rattle.count_core.proofs.Mentions.{AreMentioned, mention_new, mention_old, mention_unknown}
use Rattle.count_core.proofs.missing.mentioned.Goals as goal
use Rattle.count_core.proofs.missing.mentioned.Goals.{in-Some+then-not-set_flag+in_ok-push}
use Rattle.count_core.proofs.missing.mentioned.Goals.{in-Some+else-not-set_flag, in_default}

pub looked_in-first-requires : goal.looked_in-first-requires
looked_in-first-requires c = omega (
  arith,
  c.loop-i-test.true,
  looked_length c.args.ledger.now c.args.rows.now c.args.looked.now c.requires,
)

pub loop-i-preserved : goal.loop-i-preserved
loop-i-preserved c =
    let S = c.args.ledger.now.museum in
    let rows = c.args.rows.now in
    let i = c.loop-i.i in
    let before = take i rows in
    let are = c.loop-i.invariant in
    let below : i < length rows = omega (arith, c.loop-i-test.true) in
    let found = found_at c.args.ledger.now rows c.args.looked.now i c.looked_in-first.result below
    c.requires c.looked_in-first.ensures in
    let r = found.0 in
    let more : before ++ r ∷ [] ≡ take (i + 1) rows = sym found.1 in
    let here = found.2 in
    elim c.match-first.branch [
      | in-Some+then-not-set_flag+in_ok-push w ↦
          let q = w.in-Some.place in
          let places : c.loop-i.places.items ++ q ∷ [] ≡ c.match-first.places.items =
          sym (ap (λ (v : Vec ℕ Global). v.items) w.places-is ∙ w.in_ok-push.ensures.items) in
          let flags : with_flag c.loop-i.flags.items (Some q) ≡ c.match-first.flags.items =
          sym (ap (λ (v : Vec Bool Global). v.items) w.flags-is ∙ w.set_flag.ensures.flags) in
          subst (λ rs. AreMentioned S rs c.match-first.places.items c.match-first.flags.items) more
          (subst (λ ps. AreMentioned S (before ++ r ∷ []) ps c.match-first.flags.items) places
          (subst (λ fs. AreMentioned S (before ++ r ∷ []) (c.loop-i.places.items ++ q ∷ []) fs)
          flags
          (mention_new S before r c.loop-i.places.items c.loop-i.flags.items q are
          (here ∙ w.in-Some.is) (place_below S r.place q (here ∙ w.in-Some.is))
          (sym w.set_flag.ensures.before ∙ w.if-not-set_flag.true))))
      | in-Some+else-not-set_flag w ↦
          let q = w.in-Some.place in
          let places : c.loop-i.places.items ≡ c.match-first.places.items =
          sym (ap (λ (v : Vec ℕ Global). v.items) w.places-is) in
          let flags : with_flag c.loop-i.flags.items (Some q) ≡ c.match-first.flags.items =
          sym (ap (λ (v : Vec Bool Global). v.items) w.flags-is ∙ w.set_flag.ensures.flags) in
          subst (λ rs. AreMentioned S rs c.match-first.places.items c.match-first.flags.items) more
          (subst (λ ps. AreMentioned S (before ++ r ∷ []) ps c.match-first.flags.items) places
          (subst (λ fs. AreMentioned S (before ++ r ∷ []) c.loop-i.places.items fs) flags
          (mention_old S before r c.loop-i.places.items c.loop-i.flags.items q are
          (here ∙ w.in-Some.is) (place_below S r.place q (here ∙ w.in-Some.is))
          (sym w.set_flag.ensures.before ∙ w.if-not-set_flag.false))))
      | in_default w ↦
          let places : c.loop-i.places.items ≡ c.match-first.places.items =
          sym (ap (λ (v : Vec ℕ Global). v.items) w.places-is) in
          let flags : c.loop-i.flags.items ≡ c.match-first.flags.items =
          sym (ap (λ (v : Vec Bool Global). v.items) w.flags-is) in
          subst (λ rs. AreMentioned S rs c.match-first.places.items c.match-first.flags.items) more
          (subst (λ ps. AreMentioned S (before ++ r ∷ []) ps c.match-first.flags.items) places
          (subst (λ fs. AreMentioned S (before ++ r ∷ []) c.loop-i.places.items fs) flags
          (mention_unknown S before r c.loop-i.places.items c.loop-i.flags.items are
          (here ∙ w.in_default.is))))
    ]
