-- The first rejection of a list of things.
use Rattle.std.proofs.Common.{◌≡◌, ℕ, Bool, List, [], ◌∷◌, None, Some, refl}
use Rattle.nest_core.specs.Museum.{Museum}
use Rattle.desk_core.specs.declared.said.Rejection.{Rejection}
use Rattle.desk_core.specs.Codes.{thing_rejection, things_rejection}

pub things-none : (S : Museum) (forced : Bool) → things_rejection S forced [] ≡ None
unfolding things_rejection
things-none S forced = refl

pub things-passed : (S : Museum) (forced : Bool) (word : List ℕ) (others : List (List ℕ))
    → thing_rejection S forced word ≡ None
    → things_rejection S forced (word ∷ others) ≡ things_rejection S forced others
unfolding things_rejection
things-passed S forced word others e = rw e refl

pub things-rejected : (S : Museum) (forced : Bool) (word : List ℕ) (others : List (List ℕ))
    (rejection : Rejection) → thing_rejection S forced word ≡ Some rejection
    → things_rejection S forced (word ∷ others) ≡ Some rejection
unfolding things_rejection
things-rejected S forced word others rejection e = rw e refl
