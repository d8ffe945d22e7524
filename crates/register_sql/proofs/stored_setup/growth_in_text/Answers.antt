use Rattle.std.proofs.Common.{◌≡◌, ◌<◌, ◌^◌, ◌∷◌, ◌++◌, arith, Some, None}
use Rattle.std.proofs.Common.{rules, refl, subst, sym, ◌∙◌}
use Rattle.std.specs.Prelude.{codes, decimal}
use Rattle.register_sql.proofs.StoredSetups.{IsCut, cut, decimal_free}
use Rattle.register_sql.proofs.stored_setup.growth_in_text.Goals as goal

pub returns-in_err-after-clause-growth : goal.returns-in_err-after-clause-growth
returns-in_err-after-clause-growth c g fits is =
    let text = c.args.text.now in
    let rest = decimal g.after ++ 44 ∷ (decimal g.listed.places ++ 44 ∷ decimal g.listed.things) in
    let one : c.split_once.result ≡ Some (c.in_ok-word.word, c.in_ok-word.numbers) = search rules in
    let word = subst (IsCut (codes "grew") rest) one
    (cut (codes "grew") rest text c.split_once.result (refl, (refl, (refl, (refl, tt)))) is
    (c.split_once.ensures.byte (omega arith) (λ w o h. h))) in
    let small : g.after < 2 ^ 64 = omega (arith, fits.after) in
    let after-cut = cut (decimal g.after) (decimal g.listed.places ++ 44 ∷ decimal g.listed.things)
    c.in_ok-word.numbers.now c.split_once-2.result (decimal_free g.after small) word.1
    (c.split_once-2.ensures.byte (omega arith) (λ w o h. h)) in
    let none : c.split_once-2.result ≡ None = search rules in
    absurd (subst (IsCut (decimal g.after)
    (decimal g.listed.places ++ 44 ∷ decimal g.listed.things)) none after-cut)

pub returns-in_err-places-clause-growth : goal.returns-in_err-places-clause-growth
returns-in_err-places-clause-growth c g fits is =
    let text = c.args.text.now in
    let rest = decimal g.after ++ 44 ∷ (decimal g.listed.places ++ 44 ∷ decimal g.listed.things) in
    let one : c.split_once.result ≡ Some (c.in_ok-word.word, c.in_ok-word.numbers) = search rules in
    let word = subst (IsCut (codes "grew") rest) one
    (cut (codes "grew") rest text c.split_once.result (refl, (refl, (refl, (refl, tt)))) is
    (c.split_once.ensures.byte (omega arith) (λ w o h. h))) in
    let small : g.after < 2 ^ 64 = omega (arith, fits.after) in
    let after-cut = cut (decimal g.after) (decimal g.listed.places ++ 44 ∷ decimal g.listed.things)
    c.in_ok-word.numbers.now c.split_once-2.result (decimal_free g.after small) word.1
    (c.split_once-2.ensures.byte (omega arith) (λ w o h. h)) in
    let two : c.split_once-2.result ≡ Some (c.in_ok-after.after, c.in_ok-after.listed) =
    search rules in
    let after = subst (IsCut (decimal g.after)
    (decimal g.listed.places ++ 44 ∷ decimal g.listed.things)) two after-cut in
    let few : g.listed.places < 2 ^ 64 = omega (arith, fits.places) in
    let places-cut = cut (decimal g.listed.places) (decimal g.listed.things)
    c.in_ok-after.listed.now c.split_once-3.result (decimal_free g.listed.places few) after.1
    (c.split_once-3.ensures.byte (omega arith) (λ w o h. h)) in
    let none : c.split_once-3.result ≡ None = search rules in
    absurd (subst (IsCut (decimal g.listed.places) (decimal g.listed.things)) none places-cut)

pub returns-in_err-number_in-clause-growth : goal.returns-in_err-number_in-clause-growth
returns-in_err-number_in-clause-growth c g fits is =
    let text = c.args.text.now in
    let rest = decimal g.after ++ 44 ∷ (decimal g.listed.places ++ 44 ∷ decimal g.listed.things) in
    let one : c.split_once.result ≡ Some (c.in_ok-word.word, c.in_ok-word.numbers) = search rules in
    let word = subst (IsCut (codes "grew") rest) one
    (cut (codes "grew") rest text c.split_once.result (refl, (refl, (refl, (refl, tt)))) is
    (c.split_once.ensures.byte (omega arith) (λ w o h. h))) in
    let small : g.after < 2 ^ 64 = omega (arith, fits.after) in
    let after-cut = cut (decimal g.after) (decimal g.listed.places ++ 44 ∷ decimal g.listed.things)
    c.in_ok-word.numbers.now c.split_once-2.result (decimal_free g.after small) word.1
    (c.split_once-2.ensures.byte (omega arith) (λ w o h. h)) in
    let two : c.split_once-2.result ≡ Some (c.in_ok-after.after, c.in_ok-after.listed) =
    search rules in
    let after = subst (IsCut (decimal g.after)
    (decimal g.listed.places ++ 44 ∷ decimal g.listed.things)) two after-cut in
    let a : c.number_in.result ≡ Some g.after =
    c.number_in.ensures g.after fits.after after.0 in
    let none : c.number_in.result ≡ None = search rules in
    absurd (let e : None ≡ Some g.after = sym none ∙ a in cc)

pub returns-in_err-number_in-2-clause-growth : goal.returns-in_err-number_in-2-clause-growth
returns-in_err-number_in-2-clause-growth c g fits is =
    let text = c.args.text.now in
    let rest = decimal g.after ++ 44 ∷ (decimal g.listed.places ++ 44 ∷ decimal g.listed.things) in
    let one : c.split_once.result ≡ Some (c.in_ok-word.word, c.in_ok-word.numbers) = search rules in
    let word = subst (IsCut (codes "grew") rest) one
    (cut (codes "grew") rest text c.split_once.result (refl, (refl, (refl, (refl, tt)))) is
    (c.split_once.ensures.byte (omega arith) (λ w o h. h))) in
    let small : g.after < 2 ^ 64 = omega (arith, fits.after) in
    let after-cut = cut (decimal g.after) (decimal g.listed.places ++ 44 ∷ decimal g.listed.things)
    c.in_ok-word.numbers.now c.split_once-2.result (decimal_free g.after small) word.1
    (c.split_once-2.ensures.byte (omega arith) (λ w o h. h)) in
    let two : c.split_once-2.result ≡ Some (c.in_ok-after.after, c.in_ok-after.listed) =
    search rules in
    let after = subst (IsCut (decimal g.after)
    (decimal g.listed.places ++ 44 ∷ decimal g.listed.things)) two after-cut in
    let few : g.listed.places < 2 ^ 64 = omega (arith, fits.places) in
    let places-cut = cut (decimal g.listed.places) (decimal g.listed.things)
    c.in_ok-after.listed.now c.split_once-3.result (decimal_free g.listed.places few) after.1
    (c.split_once-3.ensures.byte (omega arith) (λ w o h. h)) in
    let three : c.split_once-3.result ≡ Some (c.in_ok-places.places, c.in_ok-places.things) =
    search rules in
    let places =
    subst (IsCut (decimal g.listed.places) (decimal g.listed.things)) three places-cut in
    let p : c.number_in-2.result ≡ Some g.listed.places =
    c.number_in-2.ensures g.listed.places fits.places places.0 in
    let none : c.number_in-2.result ≡ None = search rules in
    absurd (let e : None ≡ Some g.listed.places = sym none ∙ p in cc)

pub returns-in_err-number_in-3-clause-growth : goal.returns-in_err-number_in-3-clause-growth
returns-in_err-number_in-3-clause-growth c g fits is =
    let text = c.args.text.now in
    let rest = decimal g.after ++ 44 ∷ (decimal g.listed.places ++ 44 ∷ decimal g.listed.things) in
    let one : c.split_once.result ≡ Some (c.in_ok-word.word, c.in_ok-word.numbers) = search rules in
    let word = subst (IsCut (codes "grew") rest) one
    (cut (codes "grew") rest text c.split_once.result (refl, (refl, (refl, (refl, tt)))) is
    (c.split_once.ensures.byte (omega arith) (λ w o h. h))) in
    let small : g.after < 2 ^ 64 = omega (arith, fits.after) in
    let after-cut = cut (decimal g.after) (decimal g.listed.places ++ 44 ∷ decimal g.listed.things)
    c.in_ok-word.numbers.now c.split_once-2.result (decimal_free g.after small) word.1
    (c.split_once-2.ensures.byte (omega arith) (λ w o h. h)) in
    let two : c.split_once-2.result ≡ Some (c.in_ok-after.after, c.in_ok-after.listed) =
    search rules in
    let after = subst (IsCut (decimal g.after)
    (decimal g.listed.places ++ 44 ∷ decimal g.listed.things)) two after-cut in
    let few : g.listed.places < 2 ^ 64 = omega (arith, fits.places) in
    let places-cut = cut (decimal g.listed.places) (decimal g.listed.things)
    c.in_ok-after.listed.now c.split_once-3.result (decimal_free g.listed.places few) after.1
    (c.split_once-3.ensures.byte (omega arith) (λ w o h. h)) in
    let three : c.split_once-3.result ≡ Some (c.in_ok-places.places, c.in_ok-places.things) =
    search rules in
    let places =
    subst (IsCut (decimal g.listed.places) (decimal g.listed.things)) three places-cut in
    let t : c.number_in-3.result ≡ Some g.listed.things =
    c.number_in-3.ensures g.listed.things fits.things places.1 in
    let none : c.number_in-3.result ≡ None = search rules in
    absurd (let e : None ≡ Some g.listed.things = sym none ∙ t in cc)

pub returns-clause-growth : goal.returns-clause-growth
returns-clause-growth c g fits is =
    let text = c.args.text.now in
    let rest = decimal g.after ++ 44 ∷ (decimal g.listed.places ++ 44 ∷ decimal g.listed.things) in
    let one : c.split_once.result ≡ Some (c.in_ok-word.word, c.in_ok-word.numbers) = search rules in
    let word = subst (IsCut (codes "grew") rest) one
    (cut (codes "grew") rest text c.split_once.result (refl, (refl, (refl, (refl, tt)))) is
    (c.split_once.ensures.byte (omega arith) (λ w o h. h))) in
    let small : g.after < 2 ^ 64 = omega (arith, fits.after) in
    let after-cut = cut (decimal g.after) (decimal g.listed.places ++ 44 ∷ decimal g.listed.things)
    c.in_ok-word.numbers.now c.split_once-2.result (decimal_free g.after small) word.1
    (c.split_once-2.ensures.byte (omega arith) (λ w o h. h)) in
    let two : c.split_once-2.result ≡ Some (c.in_ok-after.after, c.in_ok-after.listed) =
    search rules in
    let after = subst (IsCut (decimal g.after)
    (decimal g.listed.places ++ 44 ∷ decimal g.listed.things)) two after-cut in
    let few : g.listed.places < 2 ^ 64 = omega (arith, fits.places) in
    let places-cut = cut (decimal g.listed.places) (decimal g.listed.things)
    c.in_ok-after.listed.now c.split_once-3.result (decimal_free g.listed.places few) after.1
    (c.split_once-3.ensures.byte (omega arith) (λ w o h. h)) in
    let three : c.split_once-3.result ≡ Some (c.in_ok-places.places, c.in_ok-places.things) =
    search rules in
    let places =
    subst (IsCut (decimal g.listed.places) (decimal g.listed.things)) three places-cut in
    let a : c.number_in.result ≡ Some g.after =
    c.number_in.ensures g.after fits.after after.0 in
    let p : c.number_in-2.result ≡ Some g.listed.places =
    c.number_in-2.ensures g.listed.places fits.places places.0 in
    let t : c.number_in-3.result ≡ Some g.listed.things =
    c.number_in-3.ensures g.listed.things fits.things places.1 in
    let a' : c.number_in.result ≡ Some c.in_ok-number_in.field-0 = search rules in
    let p' : c.number_in-2.result ≡ Some c.in_ok-number_in-2.field-0 = search rules in
    let t' : c.number_in-3.result ≡ Some c.in_ok-number_in-3.field-0 = search rules in
    let a-is : c.in_ok-number_in.field-0 ≡ g.after = (let h = sym a' ∙ a in cc) in
    let p-is : c.in_ok-number_in-2.field-0 ≡ g.listed.places = (let h = sym p' ∙ p in cc) in
    let t-is : c.in_ok-number_in-3.field-0 ≡ g.listed.things = (let h = sym t' ∙ t in cc) in
    rw (a-is, p-is, t-is)
