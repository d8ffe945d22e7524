-- Refused entries change no answer.
use Rattle.std.specs.Prelude.{ℕ, ◌≡◌, true, List, ◌++◌, Option, Some, None, refl}
use Rattle.std.specs.Option.{option_map_or}
use Rattle.std.proofs.Common.{ap, ◌∙◌, sym, subst}
use Rattle.nest_core.specs.Museum.{Museum, find_thing}
use Rattle.posting_core.specs.declared.entry.Entry.{Entry}
use Rattle.posting_core.specs.History.{place_at, chain_at}
use Rattle.posting_core.specs.Book.{Book}
use Rattle.posting_core.specs.Accountability.{AnswerAlike}
use Rattle.posting_core.specs.Onward.{are_refused}
use Rattle.posting_core.proofs.Refused.{all_unchanged}
use Rattle.hub_core.specs.declared.hub.answer.Where.TheVariants.{UnknownThing}
use Rattle.hub_core.specs.Points.{where_from, whereabouts}

abbrev pub book_at : Museum → ℕ → List Entry → Book
book_at S depth P = record { museum = S; depth = depth; posted = P }

pub alike_after : (S : Museum) (depth : ℕ) (Q P L : List Entry) → Q ≡ L ++ P → are_refused L ≡ true
    → AnswerAlike (book_at S depth Q) (book_at S depth P)
alike_after S depth Q P L is refused =
    subst (λ (K : List Entry). AnswerAlike (book_at S depth K) (book_at S depth P)) (sym is)
    (all_unchanged (book_at S depth P) L refused)

pub same_whereabouts : (S : Museum) (depth : ℕ) (Q P L : List Entry) (code : List ℕ) → Q ≡ L ++ P
    → are_refused L ≡ true → whereabouts S Q code ≡ whereabouts S P code
same_whereabouts S depth Q P L code is refused = by (find_thing S code)
  where
    alike : AnswerAlike (book_at S depth Q) (book_at S depth P)
    alike = alike_after S depth Q P L is refused

    by : (x : Option ℕ) → option_map_or (λ x. where_from (place_at S Q x) (chain_at S Q x)) x
        UnknownThing ≡ option_map_or (λ x. where_from (place_at S P x) (chain_at S P x)) x
        UnknownThing
    by None = refl
    by (Some x) = ap (λ p. where_from p (chain_at S Q x)) (alike.places x)
        ∙ ap (where_from (place_at S P x)) (alike.chains x)
