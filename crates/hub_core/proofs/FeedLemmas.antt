-- The pieces of a line.
use Rattle.std.proofs.Common.{◌≡◌, ◌≢◌, ℕ, zero, suc, ◌+◌, ◌-◌, ◌<◌, ◌≤◌, min, List, [], ◌∷◌, ◌++◌}
use Rattle.std.proofs.Common.{length, take, get_or, Option, None, Some, refl, ap, ◌∙◌, sym, subst}
use Rattle.std.proofs.Common.{arith, append-nil}
use Rattle.std.specs.Prelude.{OnSome, unwrap_or}
use Rattle.std.specs.Io.KnownBytes.{Consumes, IsAtEnd}
use Rattle.std.proofs.lemmas.List.{take_more}
use Rattle.memchr.specs.Find.{Nowhere, Passes, IsFirstByte, is_byte}
use Rattle.hub_core.specs.declared.line.bytes.End.{End}
use Rattle.hub_core.specs.declared.line.bytes.End.TheVariants.{Feed, Input, Open}
use Rattle.hub_core.specs.Reading.{HasNoFeed, feed_if, is_feed}

pub no_feed_join : (p q : List ℕ) → HasNoFeed p → HasNoFeed q → HasNoFeed (p ++ q)
no_feed_join [] q h k = k
no_feed_join (x ∷ p) q h k = (h.0, no_feed_join p q h.1 k)

-- one more byte that isn't a line feed
pub no_feed_more : (bytes : List ℕ) (i d : ℕ) → i < length bytes → HasNoFeed (take i bytes)
    → get_or bytes i d ≢ 10 → HasNoFeed (take (i + 1) bytes)
no_feed_more bytes i d less h ne =
    subst HasNoFeed (sym (take_more bytes i d less))
    (no_feed_join (take i bytes) (get_or bytes i d ∷ []) h (ne, tt))

-- no line feed among the bytes before the result of a search
none_fed : (bytes : List ℕ) (n : ℕ) → n ≤ length bytes → Nowhere (Passes (is_byte 10) bytes) 0 n
    → HasNoFeed (take n bytes)
none_fed bytes zero within none = tt
none_fed bytes (suc n) within none =
    let on : n + 1 ≡ suc n = omega arith in
    let first : HasNoFeed (take n bytes) =
    none_fed bytes n (omega arith) (λ k low high. none k low (omega arith)) in
    subst (λ m. HasNoFeed (take m bytes)) on
    (no_feed_more bytes n 0 (omega arith) first
    (λ e. none n (omega arith) (omega arith) (rw e refl)))

-- no line feed before the position found, or in any byte
pub none_before : (bytes : List ℕ) (found : Option ℕ) (n : ℕ) → IsFirstByte (is_byte 10) bytes found
    → n ≡ unwrap_or found (length bytes) → HasNoFeed (take n bytes)
none_before bytes None n first e =
    subst (λ m. HasNoFeed (take m bytes)) (sym e)
    (none_fed bytes (length bytes) (omega arith) first)
none_before bytes (Some k) n first e =
    let below : k < length bytes = first.0.high in
    subst (λ m. HasNoFeed (take m bytes)) (sym e) (none_fed bytes k (omega arith) first.0.before)

-- the first `most` bytes of a line that grows
pub take_join : (most n : ℕ) (line piece : List ℕ)
    → n ≡ min (length piece) (most - length (take most line))
    → take most line ++ take n piece ≡ take most (line ++ piece)
take_join zero n line piece e = let z : n ≡ 0 = omega arith in rw z refl
take_join (suc m) n [] piece e = short (suc m) n piece (omega arith)
  where
    short : (m n : ℕ) (piece : List ℕ) → n ≡ min (length piece) m → take n piece ≡ take m piece
    short zero n piece e = let z : n ≡ 0 = omega arith in rw z refl
    short (suc m) n [] e = let z : n ≡ 0 = omega arith in rw z refl
    short (suc m) zero (x ∷ piece) e = absurd (omega arith)
    short (suc m) (suc n) (x ∷ piece) e = ap (λ (q : List ℕ). x ∷ q) (short m n piece (omega arith))
take_join (suc m) n (x ∷ line) piece e =
    ap (λ (q : List ℕ). x ∷ q) (take_join m n line piece (omega arith))

abbrev pub Cut : List ℕ → ℕ → ℕ → End → Type 0
Cut shown feed taken end = (taken ≤ length shown)
    × (take taken shown ≡ take feed shown ++ feed_if (is_feed end))
    × (end ≡ Input → length shown ≡ 0)

feed_input : Feed ≡ Input → ⊥
feed_input e = cc

open_input : Open ≡ Input → ⊥
open_input e = cc

pub cut_feed : (shown : List ℕ) (feed taken : ℕ) (end : End) → end ≡ Feed → taken ≡ feed + 1
    → feed < length shown → (feed < length shown
    → take (feed + 1) shown ≡ take feed shown ++ 10 ∷ []) → Cut shown feed taken end
cut_feed shown feed taken end e t less cut = (
  omega arith,
  ap (λ n. take n shown) t ∙ cut less
      ∙ ap (λ (x : End). take feed shown ++ feed_if (is_feed x)) (sym e),
  λ i. absurd (feed_input (sym e ∙ i)),
)

pub cut_open : (shown : List ℕ) (feed taken : ℕ) (end : End) → end ≡ Open → taken ≡ feed
    → feed ≤ length shown → Cut shown feed taken end
cut_open shown feed taken end e t less = (
  omega arith,
  ap (λ n. take n shown) t ∙ sym (append-nil (take feed shown))
      ∙ ap (λ (x : End). take feed shown ++ feed_if (is_feed x)) (sym e),
  λ i. absurd (open_input (sym e ∙ i)),
)

pub cut_input : (shown : List ℕ) (feed taken : ℕ) (end : End) → end ≡ Input → taken ≡ feed
    → feed ≤ length shown → length shown ≡ 0 → Cut shown feed taken end
cut_input shown feed taken end e t less none = (
  omega arith,
  ap (λ n. take n shown) t ∙ sym (append-nil (take feed shown))
      ∙ ap (λ (x : End). take feed shown ++ feed_if (is_feed x)) (sym e),
  λ i. none,
)

-- a reader that is at its end after a later read is so after both reads
pub end_after : (a b c : Option (List ℕ)) (bytes : List ℕ) → Consumes a b bytes
    → OnSome b (IsAtEnd c) → OnSome a (IsAtEnd c)
end_after None b c bytes p e = tt
end_after (Some x) None c bytes p e = absurd p
end_after (Some x) (Some y) c bytes p e = e
