use Rattle.std.proofs.Common.{◌≡◌, ◌∙◌, ℕ, ap, [], arith, length, sym, take}
use Rattle.std.specs.Prelude.{min, reverse}
use Rattle.std.proofs.lemmas.List.{reverse-reverse, take_min}
use Rattle.nest_core.specs.Museum.{Museum}
use Rattle.posting_core.specs.Book.{Book}
use Rattle.posting_core.proofs.past_ledger.past.Goals as goal

-- A record without entries.
abbrev empty : Museum → ℕ → Book
empty S depth = record { museum = S; depth = depth; posted = [] }

pub entries-init : goal.entries-init
entries-init c =
    c.in_ok-past.ensures
    ∙ (ap (λ S. empty S c.depth.result) (c.in_ok-setup.ensures ∙ c.setup.ensures)
    ∙ ap (empty c.args.ledger.now.museum) c.depth.ensures)

pub returns : goal.returns
returns c =
    let L = c.args.ledger.now in
    let xs = c.posted.result.now in
    let older : xs ≡ reverse L.posted = sym (reverse-reverse xs) ∙ ap reverse c.posted.ensures in
    let few : c.entries.i ≡ min c.args.count (length (reverse L.posted)) =
    omega (arith, c.entries-test.false, c.entries.auto.i-end)
    ∙ (c.min-few.ensures ∙ ap (λ ys. min c.args.count (length ys)) older) in
    c.entries.invariant
    ∙ ap (λ ys. record L { posted = reverse ys })
    (ap (λ k. take k (reverse L.posted)) few ∙ take_min c.args.count (reverse L.posted))
