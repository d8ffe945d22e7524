-- Takes a head, line by line. The reader has `i` left at first, `i1` before the line, and `i2`
-- after it.
use Rattle.std.proofs.Common.{◌≡◌, ℕ, ◌+◌, ◌<◌, ◌≤◌, inl, ◌∷◌, ◌++◌, Bool, true, false, true≢false}
use Rattle.std.proofs.Common.{if◌then◌else◌, List, [], length, length-append, length-take, take_all}
use Rattle.std.proofs.Common.{Option, None, Some, refl, ap, ◌∙◌, sym, subst, arith, append_assoc}
use Rattle.std.proofs.Common.{append-nil}
use Rattle.std.specs.Prelude.{IfSome, OnSome}
use Rattle.std.specs.Option.{option_map}
use Rattle.std.specs.Io.KnownBytes.{Consumes, IsAtEnd}
use Rattle.std.proofs.KnownBytes.{Consumes-trans}
use Rattle.std.proofs.lemmas.Bool.{lt-ltb}
use Rattle.nest_core.specs.SetupRows.{setup_fault}
use Rattle.hub_core.specs.declared.stream.head.TheConstants.{LONGEST_HEAD}
use Rattle.hub_core.specs.declared.run_fault.RunFault.{RunFault}
use Rattle.hub_core.specs.declared.run_fault.RunFault.TheVariants.{NoMemory, Store, ReadFailed}
use Rattle.hub_core.specs.declared.run_fault.RunFault.TheVariants.{WriteFailed, Setup, HeadTooLong}
use Rattle.hub_core.specs.Reading.{HasNoFeed, feed_if, TakesLine}
use Rattle.hub_core.specs.Lines.{is_empty, without_return, head, after_head}
use Rattle.hub_core.specs.WholeRun.{head_fault, InHead, TakesHead, StopsInLine, BeforeLines}
use Rattle.hub_core.specs.WholeRun.{has_empty_line}
use Rattle.hub_core.proofs.FeedLemmas.{end_after}
use Rattle.hub_core.proofs.HeadLemmas.{IsFull, full_more, head_behind, after_behind, head_ends}
use Rattle.hub_core.proofs.HeadLemmas.{after_ends, head_blank, head_last, after_last, head_goes_on}
use Rattle.hub_core.proofs.HeadLemmas.{head_grows, kept_blank, part_of}

-- whatever is true of the bytes read, with any bytes after them, is true of all bytes
of_all : (i i' : Option (List ℕ)) (bytes : List ℕ) (P : List ℕ → Type 0) → Consumes i i' bytes
    → ((x : List ℕ) → i' ≡ Some x → P (bytes ++ x)) → IfSome i P
of_all None i' bytes P read f = tt
of_all (Some xs) None bytes P read f = absurd read
of_all (Some xs) (Some ys) bytes P read f = subst P (sym read) (f ys refl)

-- at the end of the input, no bytes come after them
of_ended : (i i' : Option (List ℕ)) (bytes : List ℕ) (P : List ℕ → Type 0) → Consumes i i' bytes
    → OnSome i (IsAtEnd i') → (i' ≡ Some [] → P bytes) → IfSome i P
of_ended None i' bytes P read end f = tt
of_ended (Some xs) None bytes P read end f = absurd read
of_ended (Some xs) (Some ys) bytes P read end f =
    subst P (sym (read ∙ ap (λ (l : List ℕ). bytes ++ l) end ∙ append-nil bytes)) (f (ap Some end))

long_fault : (bytes : List ℕ) → LONGEST_HEAD < length bytes → head_fault bytes ≡ Some HeadTooLong
long_fault bytes long =
    ap (λ t. if t then Some HeadTooLong else option_map Setup (setup_fault bytes))
    (lt-ltb LONGEST_HEAD (length bytes) long)

-- no more is read
pub stops_between : (i i' : Option (List ℕ)) (c : List ℕ) → Consumes i i' c → IsFull c
    → length c ≤ LONGEST_HEAD → InHead i i'
stops_between i i' c read full few = record {
  bytes = c;
  read = read;
  part = ap has_empty_line (sym (append-nil c)) ∙ part_of c [] full tt;
  short = let same = ap length (ap head (sym (append-nil c)) ∙ head_behind c [] full) in
      omega (arith, same, length-append c (head []));
}

-- the next line, with room for this many of its bytes
module _ (i i1 i2 : Option (List ℕ)) (c : List ℕ) (read : Consumes i i1 c) (full : IsFull c)
    (room : ℕ) (fits : length c + room ≡ LONGEST_HEAD) where
  in_line : (p : List ℕ) → Consumes i1 i2 p → HasNoFeed p → length (head p) ≤ room → InHead i i2
  in_line p taken one short = record {
    bytes = c ++ p;
    read = Consumes-trans i i1 i2 c p read taken;
    part = part_of c p full one;
    short = let same = ap length (head_behind c p full) in
        omega (arith, same, length-append c (head p));
  }

  too_long : (p : List ℕ) → Consumes i1 i2 p → ((x : List ℕ) → room < length (head (p ++ x)))
      → IfSome i (λ bytes. head_fault (head bytes) ≡ Some HeadTooLong)
  too_long p taken long = of_all i i2 (c ++ p) (λ bytes. head_fault (head bytes) ≡ Some HeadTooLong)
      (Consumes-trans i i1 i2 c p read taken)
      (λ x is. long_fault (head ((c ++ p) ++ x))
      (let same = ap length (ap head (append_assoc c p x) ∙ head_behind c (p ++ x) full) in
      let more = long x in omega (arith, same, more, length-append c (head (p ++ x)))))

  -- a fault before the line has ended
  pub stops_in_line : (fault : RunFault) → StopsInLine i1 i2 room fault → BeforeLines i i2 fault
  stops_in_line NoMemory s = inl (in_line s.bytes s.taken s.one s.cause)
  stops_in_line Store s = absurd s.cause
  stops_in_line ReadFailed s = in_line s.bytes s.taken s.one s.cause
  stops_in_line WriteFailed s = absurd s.cause
  stops_in_line (Setup fault) s = absurd s.cause
  stops_in_line HeadTooLong s = too_long s.bytes s.taken
      (λ x. head_grows room s.bytes x s.one s.cause)

  module _ (held : List ℕ) where
    blank_as_kept : (fed : Bool) (t : TakesLine i1 i2 (room + 2) held fed) (b : Bool)
        → is_empty (without_return held) ≡ b → is_empty (without_return t.bytes) ≡ b
    blank_as_kept fed t b e = sym (kept_blank room t.bytes) ∙ ap (λ l. is_empty (without_return l))
        (sym t.kept) ∙ e

    abbrev Ended : List ℕ → Type 0
    Ended bytes = (c ≡ head bytes) × (length c ≤ LONGEST_HEAD) × (i2 ≡ Some (after_head bytes))

    -- the empty line ends the head
    pub ends_there : (fed : Bool) → TakesLine i1 i2 (room + 2) held fed
        → is_empty (without_return held) ≡ true → TakesHead i i2 c
    ends_there true t blank =
        let e = blank_as_kept true t true blank in
        of_all i i2 (c ++ (t.bytes ++ 10 ∷ [])) Ended
        (Consumes-trans i i1 i2 c _ read t.taken) (λ x is.
        let line : (c ++ (t.bytes ++ 10 ∷ [])) ++ x ≡ c ++ (t.bytes ++ 10 ∷ x) =
        append_assoc c (t.bytes ++ 10 ∷ []) x ∙ ap (λ (l : List ℕ). c ++ l)
        (append_assoc t.bytes (10 ∷ []) x) in (
          sym (ap head line ∙ head_behind c (t.bytes ++ 10 ∷ x) full ∙ ap (λ (l : List ℕ). c ++ l)
              (head_ends t.bytes x t.one e) ∙ append-nil c),
          omega arith,
          is ∙ ap Some
              (sym (ap after_head line ∙ after_behind c (t.bytes ++ 10 ∷ x) full
              ∙ after_ends t.bytes x t.one e)),
        ))
    ends_there false t blank =
        let e = blank_as_kept false t true blank in
        let line : c ++ (t.bytes ++ []) ≡ c ++ t.bytes =
        ap (λ (l : List ℕ). c ++ l) (append-nil t.bytes) in
        of_ended i i2 (c ++ (t.bytes ++ [])) Ended (Consumes-trans i i1 i2 c _ read t.taken)
        (end_after i i1 i2 c read (t.last refl)) (λ is. (
          sym (ap head line ∙ head_behind c t.bytes full ∙ ap (λ (l : List ℕ). c ++ l)
              (head_blank t.bytes t.one e) ∙ append-nil c),
          omega arith,
          is ∙ ap Some
              (sym (ap after_head line ∙ after_behind c t.bytes full ∙ after_last t.bytes t.one)),
        ))

    -- the line makes the head too long
    pub too_long_there : (fed : Bool) → TakesLine i1 i2 (room + 2) held fed
        → is_empty (without_return held) ≡ false → room < length held + length (feed_if fed)
        → IfSome i (λ bytes. head_fault (head bytes) ≡ Some HeadTooLong)
    too_long_there true t some long =
        let e = blank_as_kept true t false some in
        let few = ap length t.kept in
        too_long (t.bytes ++ 10 ∷ []) t.taken (λ x.
        let same =
        ap length (ap head (append_assoc t.bytes (10 ∷ []) x) ∙ head_goes_on t.bytes
        x t.one e) in
        omega (
          arith,
          same,
          few,
          length-take (room + 2) t.bytes,
          length-append (t.bytes ++ 10 ∷ []) (head x),
          length-append t.bytes (10 ∷ []),
        ))
    too_long_there false t some long =
        let e = blank_as_kept false t false some in
        let few = ap length t.kept in
        let line : c ++ (t.bytes ++ []) ≡ c ++ t.bytes =
        ap (λ (l : List ℕ). c ++ l) (append-nil t.bytes) in
        let same =
        ap length (ap head line ∙ head_behind c t.bytes full ∙ ap (λ (l : List ℕ). c ++ l)
        (head_last t.bytes t.one e)) in
        of_ended i i2 (c ++ (t.bytes ++ [])) (λ bytes. head_fault (head bytes) ≡ Some HeadTooLong)
        (Consumes-trans i i1 i2 c _ read t.taken) (end_after i i1 i2 c read (t.last refl))
        (λ is. long_fault (head (c ++ (t.bytes ++ [])))
        (omega (arith, same, few, length-take (room + 2) t.bytes, length-append c t.bytes)))

    kept_whole : (fed : Bool) (t : TakesLine i1 i2 (room + 2) held fed) → length held ≤ room
        → held ≡ t.bytes
    kept_whole fed t short =
        let few = ap length t.kept in
        t.kept ∙ take_all (room + 2) t.bytes (omega (arith, few, length-take (room + 2) t.bytes))

    -- the head ends with the input
    pub last_there : (fed : Bool) (now : List ℕ) → fed ≡ false → now ≡ c ++ (held ++ feed_if fed)
        → TakesLine i1 i2 (room + 2) held fed → is_empty (without_return held) ≡ false
        → length held + length (feed_if fed) ≤ room → TakesHead i i2 now
    last_there true now ends is t some short = absurd (true≢false ends)
    last_there false now ends is t some short =
        let e = blank_as_kept false t false some in
        let line : c ++ (t.bytes ++ []) ≡ c ++ t.bytes =
        ap (λ (l : List ℕ). c ++ l) (append-nil t.bytes) in
        let whole = kept_whole false t (omega arith) in
        let same : now ≡ c ++ t.bytes =
        is ∙ ap (λ (l : List ℕ). c ++ l) (append-nil held ∙ whole) in
        let size = ap length same in
        let line_size = ap length whole in
        of_ended i i2 (c ++ (t.bytes ++ [])) (λ bytes. (now ≡ head bytes)
        × (length now ≤ LONGEST_HEAD) × (i2 ≡ Some (after_head bytes)))
        (Consumes-trans i i1 i2 c _ read t.taken) (end_after i i1 i2 c read (t.last refl)) (λ at. (
          same ∙ sym (ap head line ∙ head_behind c t.bytes full ∙ ap (λ (l : List ℕ). c ++ l)
              (head_last t.bytes t.one e)),
          omega (arith, size, line_size, length-append c t.bytes),
          at ∙ ap Some
              (sym (ap after_head line ∙ after_behind c t.bytes full ∙ after_last t.bytes t.one)),
        ))

    -- the head goes on
    pub more_there : (fed : Bool) (now : List ℕ) → fed ≡ true → now ≡ c ++ (held ++ feed_if fed)
        → TakesLine i1 i2 (room + 2) held fed → is_empty (without_return held) ≡ false
        → length held + length (feed_if fed) ≤ room → Consumes i i2 now × IsFull now
        × (length now ≤ LONGEST_HEAD)
    more_there false now goes is t some short = absurd (true≢false (sym goes))
    more_there true now goes is t some short =
        let whole : t.bytes ≡ held = sym (kept_whole true t (omega arith)) in
        let same : c ++ (t.bytes ++ 10 ∷ []) ≡ now =
        ap (λ (l : List ℕ). c ++ (l ++ 10 ∷ [])) whole ∙ sym is in
        let size = ap length is in (
          subst (Consumes i i2) same (Consumes-trans i i1 i2 c _ read t.taken),
          subst IsFull (sym is) (full_more c held full (subst HasNoFeed whole t.one) some),
          omega (arith, size, length-append c (held ++ 10 ∷ []), length-append held (10 ∷ [])),
        )

    -- the line can't be kept
    pub unkept_there : (fed : Bool) → TakesLine i1 i2 (room + 2) held fed
        → is_empty (without_return held) ≡ false → length held + length (feed_if fed) ≤ room
        → InHead i i2
    unkept_there true t some short = let more =
        more_there true (c ++ (held ++ 10 ∷ [])) refl refl t some short in
        stops_between i i2 _ more.0 more.1 more.2
    unkept_there false t some short =
        let e = blank_as_kept false t false some in
        let size = ap length (head_last t.bytes t.one e) in
        let bytes_size = ap length (kept_whole false t (omega arith)) in
        in_line t.bytes (subst (Consumes i1 i2) (append-nil t.bytes) t.taken) t.one (omega arith)
