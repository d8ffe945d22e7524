-- The things of the spots that an entry adds.
use Rattle.std.specs.Prelude.{ℕ, ◌≡◌, ◌+◌, ◌<◌, ◌≤◌, All, None, Option, Some, length, suc, zero}
use Rattle.std.specs.List.{cons_option, filter_map, range_with_len}
use Rattle.std.proofs.Common.{[], arith, cond, false, refl, true}
use Rattle.std.proofs.lemmas.List.Elements.{All-cons, All-nil}
use Rattle.posting_core.specs.declared.entry.NewSpot.{NewSpot}
use Rattle.posting_core.specs.declared.message.Message.{Message}
use Rattle.posting_core.specs.Book.{Book, changes_of, new_spot, new_spots, place_after}
use Rattle.posting_core.specs.Book.{verdict_in}
use Rattle.posting_core.specs.History.{place_at, spots}
use Rattle.posting_core.specs.Messages.{day_of}
use Rattle.posting_core.specs.VerdictNames.{is_applied}
use Rattle.posting_core.proofs.Written.{IsOwn, own_spot}

pub all_within : (f : ℕ → Option NewSpot) (n a k : ℕ) → IsOwn f → a + k ≤ n
    → All (λ s. s.thing < n) (filter_map f (range_with_len a k))
all_within f n a zero own less = All-nil (λ s. s.thing < n)
all_within f n a (suc k) own less =
    elim (f a) as (λ o. f a ≡ o
    → All (λ s. s.thing < n) (cons_option o (filter_map f (range_with_len (a + 1) k)))) [
      | None ↦ λ e. all_within f n (a + 1) k own (omega (arith, less))
      | Some s ↦ λ e.
          let thing : s.thing ≡ a = own a s e in
          All-cons (λ t. t.thing < n) s _ (omega (arith, thing, less))
          (all_within f n (a + 1) k own (omega (arith, less)))
    ] refl

-- the things of the spots are in the setup
pub spots_in_setup : (B : Book) (m : Message)
    → All (λ s. s.thing < length B.museum.things) (changes_of B m).spots
spots_in_setup B m =
    let n = length B.museum.things in
    elim (is_applied (verdict_in B m)) as (λ b. All (λ s. s.thing < n)
    (cond b (new_spots B.museum B.posted m) [])) [
      | true ↦ all_within
          (λ x. new_spot (length B.posted + 1) (length (spots B.museum B.posted x))
          (place_at B.museum B.posted x) (place_after B.museum B.posted m x) (day_of m) x)
          n 0 n
          (λ y s e. own_spot (length B.posted + 1) (length (spots B.museum B.posted y))
          (place_at B.museum B.posted y) (place_after B.museum B.posted m y) (day_of m) y s e)
          (omega arith)
      | false ↦ All-nil (λ s. s.thing < n)
    ]
