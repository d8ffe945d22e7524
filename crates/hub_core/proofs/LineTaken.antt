-- A line taken piece by piece.
use Rattle.std.proofs.Common.{◌≡◌, ℕ, Bool, true, false, List, ◌++◌, take, Option, ap, sym, subst}
use Rattle.std.proofs.Common.{append_assoc, append-nil, true≢false}
use Rattle.std.specs.Io.KnownBytes.{Consumes}
use Rattle.std.proofs.KnownBytes.{Consumes-trans}
use Rattle.hub_core.specs.declared.line.bytes.End.{End}
use Rattle.hub_core.specs.declared.line.bytes.End.TheVariants.{Feed, Input, Open}
use Rattle.hub_core.specs.Reading.{HasNoFeed, feed_if, is_feed, TakesPiece, TakesLine}
use Rattle.hub_core.proofs.FeedLemmas.{no_feed_join, end_after}

module _ (a b c : Option (List ℕ)) (most : ℕ) (held held_new bytes : List ℕ) (end : End) where
  abbrev grown : TakesPiece b c most held held_new end → List ℕ
  grown p = bytes ++ p.bytes

  joined : (p : TakesPiece b c most held held_new end) (fed : Bool) → is_feed end ≡ fed
      → Consumes a b bytes → Consumes a c ((bytes ++ p.bytes) ++ feed_if fed)
  joined p fed e taken =
      subst (Consumes a c) (sym (append_assoc bytes p.bytes (feed_if fed)))
      (subst (λ t. Consumes a c (bytes ++ (p.bytes ++ feed_if t))) e
      (Consumes-trans a b c bytes _ taken p.taken))

  pub line_fed : Consumes a b bytes → HasNoFeed bytes → held ≡ take most bytes
      → TakesPiece b c most held held_new end → end ≡ Feed → TakesLine a c most held_new true
  line_fed taken one kept p e = record {
    bytes = bytes ++ p.bytes;
    taken = joined p true (ap is_feed e) taken;
    one = no_feed_join bytes p.bytes one p.one;
    kept = p.kept bytes kept;
    last = λ f. absurd (true≢false f);
  }

  pub line_last : Consumes a b bytes → HasNoFeed bytes → held ≡ take most bytes
      → TakesPiece b c most held held_new end → end ≡ Input → TakesLine a c most held_new false
  line_last taken one kept p e = record {
    bytes = bytes ++ p.bytes;
    taken = joined p false (ap is_feed e) taken;
    one = no_feed_join bytes p.bytes one p.one;
    kept = p.kept bytes kept;
    last = λ f. end_after a b c bytes taken (p.last e);
  }

  pub line_open : Consumes a b bytes → HasNoFeed bytes → held ≡ take most bytes
      → TakesPiece b c most held held_new end → end ≡ Open
      → (more : List ℕ) × Consumes a c more × HasNoFeed more × (held_new ≡ take most more)
  line_open taken one kept p e = (
    bytes ++ p.bytes,
    subst (Consumes a c) (append-nil (bytes ++ p.bytes)) (joined p false (ap is_feed e) taken),
    no_feed_join bytes p.bytes one p.one,
    p.kept bytes kept,
  )
