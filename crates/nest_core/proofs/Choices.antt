-- A value that is present if a test passes.
use Rattle.std.specs.Prelude.{◌≡◌, ◌&&◌, Bool, true, false, cond, Option, Some, None, refl}
use Rattle.std.proofs.Common.{ap, ◌∙◌}

pub no_choice : {A B : Type 0} (t : Bool) (x : A) (y : B) → cond t (Some x) None ≡ None
    → ◌≡◌ {A = Option B} None (cond t (Some y) None)
no_choice true x y e = absurd (cc)
no_choice false x y e = refl

pub no_first : {A B : Type 0} (t u : Bool) (x : A) (y : B) → cond t (Some x) None ≡ None
    → ◌≡◌ {A = Option B} None (cond (t && u) (Some y) None)
no_first true u x y e = absurd (cc)
no_first false u x y e = refl

pub no_second : {A B : Type 0} (t u : Bool) (x : A) (y : B) → cond u (Some x) None ≡ None
    → ◌≡◌ {A = Option B} None (cond (t && u) (Some y) None)
no_second t true x y e = absurd (cc)
no_second true false x y e = refl
no_second false false x y e = refl

pub choice : {A B : Type 0} (t : Bool) (x z : A) (f : A → B) → cond t (Some x) None ≡ Some z
    → Some (f z) ≡ cond t (Some (f x)) None
choice true x z f e = let same : z ≡ x = cc in ap (λ a. Some (f a)) same
choice false x z f e = absurd (cc)

pub choices : {A B C : Type 0} (t u : Bool) (x z : A) (y w : B) (f : A → B → C)
    → cond t (Some x) None ≡ Some z → cond u (Some y) None ≡ Some w
    → Some (f z w) ≡ cond (t && u) (Some (f x y)) None
choices true true x z y w f e g = let first : z ≡ x = cc in let second : w ≡ y = cc in
    ap (λ a. Some (f a w)) first ∙ ap (λ b. Some (f x b)) second
choices true false x z y w f e g = absurd (cc)
choices false u x z y w f e g = absurd (cc)
