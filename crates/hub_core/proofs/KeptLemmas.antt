-- A line whose first bytes are kept.
use Rattle.std.proofs.Common.{◌≡◌, ℕ, ◌+◌, ◌-◌, ◌<◌, ◌≤◌, Bool, true, false, if◌then◌else◌, List}
use Rattle.std.proofs.Common.{[], ◌∷◌, length, take, refl, ap, ◌∙◌, sym, arith, take_all}
use Rattle.std.proofs.Common.{length-take-le, codes}
use Rattle.std.specs.Prelude.{nat_eq, nat_le}
use Rattle.std.specs.List.{ends_with}
use Rattle.std.proofs.lemmas.Bool.Decides.{nat_tests}
use Rattle.nest_core.specs.Museum.{Museum}
use Rattle.posting_core.specs.declared.entry.Entry.{Entry}
use Rattle.hub_core.specs.declared.hub.answer.Arrival.{Arrival}
use Rattle.hub_core.specs.declared.line.reply.TheConstants.{LONGEST_LINE}
use Rattle.hub_core.specs.Replies.{bad_line}
use Rattle.hub_core.specs.Requests.{line_in}
use Rattle.hub_core.specs.Lines.{without_return}
use Rattle.hub_core.specs.LineText.{is_too_long, line_reply, line_arrivals, read_reply, sent}
use Rattle.hub_core.specs.declared.outcome.Outcome.TheVariants as outcome
use Rattle.hub_core.specs.Outcomes.{line_outcomes, read_outcomes}

one_off : (line : List ℕ) (b : Bool)
    → length line ≤ length (if b then take (length line - 1) line else line) + 1
one_off line true = let t = length-take-le (length line - 1) line (omega arith) in omega (arith, t)
one_off line false = omega arith

-- at most one byte is dropped
return_length : (line : List ℕ) → length line ≤ length (without_return line) + 1
return_length line = one_off line (ends_with nat_eq line (13 ∷ []))

module _ (S : Museum) where
  long_arrivals : (line : List ℕ) → LONGEST_LINE < length line → line_arrivals S line ≡ []
  long_arrivals [] h = absurd (omega arith)
  long_arrivals (x ∷ line) h =
      let t : is_too_long (x ∷ line) ≡ true = grind (arith, nat_tests) in
      ap (λ b. if b then [] else sent (line_in S (x ∷ line))) t

  long_reply : (depth : ℕ) (O : List Entry) (A : List Arrival) (number : ℕ) (line : List ℕ)
      → LONGEST_LINE < length line → line_reply S depth O A number line ≡ bad_line number
      (codes "TooLong")
  long_reply depth O A number [] h = absurd (omega arith)
  long_reply depth O A number (x ∷ line) h =
      let t : is_too_long (x ∷ line) ≡ true = grind (arith, nat_tests) in
      ap (λ b. if b then bad_line number (codes "TooLong") else read_reply S depth O A number
      (line_in S (x ∷ line))) t

  long_outcomes : (depth : ℕ) (O : List Entry) (A : List Arrival) (line : List ℕ)
      → LONGEST_LINE < length line → line_outcomes S depth O A line ≡ outcome.Answered
      ∷ outcome.Bad ∷ []
  long_outcomes depth O A [] h = absurd (omega arith)
  long_outcomes depth O A (x ∷ line) h =
      let t : is_too_long (x ∷ line) ≡ true = grind (arith, nat_tests) in
      ap (λ b. if b then outcome.Answered ∷ outcome.Bad ∷ [] else read_outcomes S depth O A
      (line_in S (x ∷ line))) t

  module _ (most : ℕ) (enough : LONGEST_LINE + 2 ≤ most) (p : List ℕ) where
    cut_long : most ≤ length p → LONGEST_LINE < length (without_return (take most p))
    cut_long h =
        let t = length-take-le most p h in
        let r = return_length (take most p) in
        omega (arith, t, r, enough)

    whole_long : most ≤ length p → LONGEST_LINE < length (without_return p)
    whole_long h = let r = return_length p in omega (arith, r, enough, h)

    pub kept_arrivals : line_arrivals S (without_return (take most p)) ≡ line_arrivals S
        (without_return p)
    kept_arrivals = by (nat_le (length p) most) refl
      where
        by : (b : Bool) → nat_le (length p) most ≡ b
            → line_arrivals S (without_return (take most p)) ≡ line_arrivals S (without_return p)
        by true e = let less : length p ≤ most = grind (arith, nat_tests) in
            ap (λ (q : List ℕ). line_arrivals S (without_return q)) (take_all most p less)
        by false e =
            let more : most ≤ length p = grind (arith, nat_tests) in
            long_arrivals (without_return (take most p)) (cut_long more)
            ∙ sym (long_arrivals (without_return p) (whole_long more))

    pub kept_reply : (depth : ℕ) (O : List Entry) (A : List Arrival) (number : ℕ)
        → line_reply S depth O A number (without_return (take most p)) ≡ line_reply S depth O A
        number (without_return p)
    kept_reply depth O A number = by (nat_le (length p) most) refl
      where
        by : (b : Bool) → nat_le (length p) most ≡ b
            → line_reply S depth O A number (without_return (take most p)) ≡ line_reply S depth O A
            number (without_return p)
        by true e = let less : length p ≤ most = grind (arith, nat_tests) in
            ap (λ (q : List ℕ). line_reply S depth O A number (without_return q))
            (take_all most p less)
        by false e =
            let more : most ≤ length p = grind (arith, nat_tests) in
            long_reply depth O A number (without_return (take most p)) (cut_long more)
            ∙ sym (long_reply depth O A number (without_return p) (whole_long more))

    pub kept_outcomes : (depth : ℕ) (O : List Entry) (A : List Arrival)
        → line_outcomes S depth O A (without_return (take most p)) ≡ line_outcomes S depth O A
        (without_return p)
    kept_outcomes depth O A = by (nat_le (length p) most) refl
      where
        by : (b : Bool) → nat_le (length p) most ≡ b
            → line_outcomes S depth O A (without_return (take most p)) ≡ line_outcomes S depth O A
            (without_return p)
        by true e = let less : length p ≤ most = grind (arith, nat_tests) in
            ap (λ (q : List ℕ). line_outcomes S depth O A (without_return q)) (take_all most p less)
        by false e =
            let more : most ≤ length p = grind (arith, nat_tests) in
            long_outcomes depth O A (without_return (take most p)) (cut_long more)
            ∙ sym (long_outcomes depth O A (without_return p) (whole_long more))
