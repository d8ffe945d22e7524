-- The things that a put carries, when a call fails.
use Rattle.std.specs.Prelude.{ℕ, ◌≡◌, ◌<◌, ◌&&◌, Bool, true, false, List, Option, Some, None}
use Rattle.std.specs.Prelude.{Result, OnErr, if◌then◌else◌, length}
use Rattle.std.proofs.Common.{ap, ◌∙◌, arith}
use Rattle.std.proofs.lemmas.Result.{on_err_weaker}
use Rattle.nest_core.specs.declared.put.Put.{Put}
use Rattle.nest_core.specs.Museum.{Museum}
use Rattle.nest_core.proofs.Alone.{more_hold}
use Rattle.posting_core.specs.declared.message.Message.{Message}
use Rattle.posting_core.specs.declared.verdict.Verdict.{Verdict}
use Rattle.posting_core.specs.declared.entry.Entry.{Entry}
use Rattle.posting_core.specs.History.{puts, put_in, put_by, carried_at, carried_with, holds_at}
use Rattle.posting_core.specs.History.{takes_along}
use Rattle.posting_core.specs.VerdictNames.{is_applied}

-- a thing that carries more than itself has something in it
pub more_held : (S : Museum) (P : List Entry) (x : ℕ) (ys : List ℕ) → ys ≡ carried_at S P x
    → 1 < length ys → holds_at S P x ≡ true
more_held S P x ys is more = more_hold (length S.things) (puts S P) x
    (omega (arith, more, ap length is))

pub more_along : (S : Museum) (P : List Entry) (put : Option Put) (ys : List ℕ)
    → ys ≡ carried_with S P put → 1 < length ys → takes_along S P put ≡ true
more_along S P None ys is more = absurd (omega (arith, more, ap length is))
more_along S P (Some p) ys is more = more_held S P p.thing ys is more

-- If a put under a verdict carries more than one thing, the message is applied, and its thing has
-- something in it.
pub asked_along : {X Y : Type 0} (S : Museum) (P : List Entry) (verdict : Verdict) (m : Message)
    (put : Option Put) (ys : List ℕ) (r : Result X Y) →
    put ≡ put_by S P verdict m → ys ≡ carried_with S P put → OnErr r (1 < length ys)
    → OnErr r ((is_applied verdict && takes_along S P (put_in S P m)) ≡ true)
asked_along S P verdict m put ys r is carries =
    on_err_weaker r (λ more. applied (is_applied verdict) (put_in S P m)
    (more_along S P (put_by S P verdict m) ys (carries ∙ ap (carried_with S P) is) more))
  where
    applied : (b : Bool) (o : Option Put) → takes_along S P (if b then o else None) ≡ true
        → (b && takes_along S P o) ≡ true
    applied true o h = h
    applied false o h = h
