use Rattle.std.proofs.Common.{◌≡◌, ◌+◌, ◌-◌, ◌≤◌, ℕ, List, take, drop, length, replicate, sym, ap}
use Rattle.std.proofs.Common.{subst, ◌∙◌, arith}
use Rattle.std.proofs.lemmas.List.{length-take-le, take-append-le, take-append-drop, drop-take}
use Rattle.std.proofs.lemmas.List.{take-replicate}
use Rattle.std.specs.Str.{IsAscii}
use Rattle.codes_core.proofs.spelling.Spelling.shortened.Goals as goal

-- the first part of the first part
within : (n k : ℕ) (t : List ℕ) → n ≤ k → k ≤ length t → take n (take k t) ≡ take n t
within n k t less fits =
    let here : n ≤ length (take k t) = rw (length-take-le k t fits) less in
    sym (take-append-le n (take k t) (drop k t) here) ∙ ap (take n) (take-append-drop k t)

-- all padding is in the part that the shorter room cuts off
padding : (n k m : ℕ) (t : List ℕ) → n ≤ k → k ≤ m → drop n t ≡ replicate (m - n) 0
    → drop n (take k t) ≡ replicate (k - n) 0
padding n k m t less room zeros =
    let whole : n + (k - n) ≡ k = omega arith in
    ap (λ j. drop n (take j t)) (sym whole) ∙ drop-take n (k - n) t ∙ ap (take (k - n)) zeros
    ∙ take-replicate (k - n) (m - n) 0 (omega arith)

pub invariant_of-result : goal.invariant_of-result
invariant_of-result g c =
    let t = c.self.inside.text in
    let n = c.self.inside.len in
    let new = c.copy_from_slice.new.self in
    let kept = c.self.invariant in
    let fits : n ≤ g.row.K = omega (arith, c.if-self.false) in
    let room : g.row.K ≤ length t = rw kept.1 c.requires in
    let is : new ≡ take g.row.K t = grind arith in (
      subst IsAscii (sym (within n g.row.K t fits room) ∙ ap (take n) (sym is)) kept.0,
      ap length is ∙ length-take-le g.row.K t room,
      fits,
      ap (drop n) is ∙ padding n g.row.K g.row.N t fits c.requires kept.3,
    )
