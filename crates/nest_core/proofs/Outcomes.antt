-- Lemmas about failed calls.
use Rattle.std.specs.Prelude.{Result, Ok, Err, OnErr, IsErrAnd, MatchResult}

pub match_err : {A E : Type 0} (r : Result A E) (G : E → Type 0) (P : A → Type 0) (Q : E → Type 0)
    → IsErrAnd r G → ((e : E) → G e → Q e) → MatchResult r P Q
match_err (Ok x) G P Q h gives = absurd h
match_err (Err e) G P Q h gives = gives e h

pub at_err : {X Y : Type 0} (r : Result X Y) (P : Type 0) → P → OnErr r P
at_err (Ok x) P p = tt
at_err (Err y) P p = p
