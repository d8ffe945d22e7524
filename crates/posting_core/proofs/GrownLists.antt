-- The entries before a growth leave the same places, stages and spots under the grown setup.
use Rattle.std.specs.Prelude.{ℕ, ◌+◌, ◌≡◌, ◌<◌, ◌&&◌, true, false, not, List, [], ◌∷◌, ◌++◌, length}
use Rattle.std.specs.Prelude.{filter, Option, None, Some, refl, if◌then◌else◌}
use Rattle.std.specs.List.{range_with_len}
use Rattle.std.specs.Option.{option_map, option_map_or, option_to_list}
use Rattle.std.specs.Str.{bytes_eq}
use Rattle.std.proofs.Common.{arith, ap, sym, ◌∙◌}
use Rattle.std.proofs.lemmas.Bool.{not-false}
use Rattle.nest_core.specs.declared.put.Target.TheVariants.{At}
use Rattle.nest_core.specs.declared.put.Put.{Put}
use Rattle.nest_core.specs.Museum.{Museum, listed_now, is_container, NeverFell}
use Rattle.nest_core.specs.Puts.{last, with_put, place_of, above, outermost, place_by, is_among}
use Rattle.nest_core.specs.Puts.{is_carried_by}
use Rattle.nest_core.proofs.NestLaws.{IsSound}
use Rattle.posting_core.specs.declared.message.Message.{Message}
use Rattle.posting_core.specs.declared.message.Message.TheVariants.{Move, Pack, Agree, Authorise}
use Rattle.posting_core.specs.declared.message.Message.TheVariants.{Exit, Return, Receive, SignOff}
use Rattle.posting_core.specs.declared.message.Message.TheVariants.{Extend}
use Rattle.posting_core.specs.declared.verdict.Verdict.TheVariants.{Applied}
use Rattle.posting_core.specs.declared.entry.Entry.{Entry}
use Rattle.posting_core.specs.declared.entry.Spot.{Spot}
use Rattle.posting_core.specs.declared.stage.LineStage.{LineStage}
use Rattle.posting_core.specs.Agreements.{Agreement, agreement}
use Rattle.posting_core.specs.History.{puts, put_in, chain_at, place_at, carried_at, spots}
use Rattle.posting_core.specs.History.{spot_from}
use Rattle.posting_core.specs.Lawful.{IsLawful}
use Rattle.posting_core.specs.Loans.{Crossing, exit_of, return_of, receive_of, objects_with}
use Rattle.posting_core.specs.Loans.{objects_in, stage_by, stage, objects_of, objects}
use Rattle.posting_core.specs.Messages.{thing_no, place_no, day_of}
use Rattle.posting_core.specs.VerdictNames.{is_applied}
use Rattle.posting_core.specs.Verdicts.{verdict, move_rows, pack_rows, exit_rows, return_rows}
use Rattle.posting_core.specs.Verdicts.{receive_rows, is_known, is_known_container}
use Rattle.posting_core.proofs.Agreed.{agreement_sound}
use Rattle.posting_core.proofs.AppliedRows.{none_holds, applied_is}
use Rattle.posting_core.proofs.GrownSetups.{Grew}
use Rattle.posting_core.proofs.GrownSetups.{more_things, thing_no_same, place_no_same, numbers_same}
use Rattle.posting_core.proofs.GrownSetups.{container_same, filter_twice}
use Rattle.posting_core.proofs.Known.{known_in, place_known_in}
use Rattle.posting_core.proofs.Placed.{thing_below, container_known, lawful_sound}
use Rattle.posting_core.proofs.GrownNests.{above_same, carried_still}

-- the stage of an object's line after these objects have crossed
abbrev by_objects : Crossing → List ℕ → ℕ → List ℕ → Option LineStage
by_objects c loan o os = if bytes_eq c.loan loan && is_among o os then Some c.stage else None

-- the put of a thing that leaves under a loan with these terms
abbrev leaving : Museum → List ℕ → Agreement → Put
leaving S x t = record { thing = thing_no S x; to = At (place_no S t.partner) }

-- the setup S grew to T
module _ (n : ℕ) (S T : Museum) (depth : ℕ) (g : Grew n S T)
    (kept : NeverFell S.growths (listed_now S)) where
  pub count : length T.things ≡ length S.things + length g.more_things
  count = more_things n S T g kept

  -- for a lawful list P with the same puts under both setups
  module _ (P : List Entry) (lawful : IsLawful S depth P) (same : puts T P ≡ puts S P) where
    sound : IsSound (length S.things) depth (last (puts S P))
    sound = lawful_sound S depth P lawful

    pub chain_same : (y : ℕ) → chain_at T P y ≡ chain_at S P y
    chain_same y =
        ap (λ (Q : List Put). above (last Q) (length T.things) y) same
        ∙ above_same (length S.things) (length T.things) depth (last (puts S P))
        (omega (arith, count)) sound y

    pub place_same : (y : ℕ) → place_at T P y ≡ place_at S P y
    place_same y =
        ap (λ (Q : List Put). place_by (last Q) (length T.things) y) same
        ∙ ap (λ (cs : List ℕ). place_of (last (puts S P) (outermost y cs)))
        (above_same (length S.things) (length T.things) depth (last (puts S P))
        (omega (arith, count)) sound y)

    carried_same : (x : ℕ) → x < length S.things → carried_at T P x ≡ carried_at S P x
    carried_same x less =
        ap (λ (Q : List Put). filter (is_carried_by (last Q) (length T.things) x)
        (range_with_len 0 (length T.things))) same
        ∙ ap (λ m. filter (is_carried_by (last (puts S P)) m x) (range_with_len 0 m)) count
        ∙ carried_still (length S.things) (length g.more_things) depth
        (last (puts S P)) sound x less

    objects_same : (x : ℕ) → x < length S.things → objects_with T P x ≡ objects_with S P x
    objects_same x less =
        ap (filter (λ o. not (is_container T o))) (carried_same x less)
        ∙ filter_twice (λ o. not (is_container T o)) (λ o. not (is_container S o))
        (is_carried_by (last (puts S P)) (length S.things) x) 0 (length S.things)
        (λ y lt. ap not (container_same n S T g kept y (omega arith)))

    pub objects_in_same : (x : List ℕ) → is_known S x ≡ true → objects_in T P x ≡ objects_in S P x
    objects_in_same x known = ap (objects_with T P) (thing_no_same n S T g kept x known)
        ∙ objects_same (thing_no S x) (thing_below S x known)

    -- a loan's objects keep their numbers
    pub terms_same : (loan : List ℕ) → objects T P loan ≡ objects S P loan
    terms_same loan =
        elim (agreement P loan) as (λ o. agreement P loan ≡ o
        → option_map_or (objects_of T) o [] ≡ option_map_or (objects_of S) o []) [
          | None ↦ λ e. refl
          | Some t ↦
              λ e. numbers_same n S T g kept t.objects
              (agreement_sound S depth P loan t lawful e).known
        ] refl

    -- an applied message makes the same put
    put_same : (m : Message) → verdict S depth P m ≡ Applied → put_in T P m ≡ put_in S P m
    put_same (Move day x p) h =
        let none = none_holds (move_rows S P x p) refl h in
        let thing = thing_no_same n S T g kept x (known_in S P x none.0) in
        let place = place_no_same n S T g kept p (place_known_in S P p none.1.0) in
        rw (thing, place) refl
    put_same (Pack day x c) h =
        let none = none_holds (pack_rows S depth P x c) refl h in
        let thing = thing_no_same n S T g kept x (known_in S P x none.0) in
        let into =
        thing_no_same n S T g kept c
        (container_known S P c (not-false (is_known_container S P c) none.1.0)) in
        rw (thing, into) refl
    put_same (Exit day x loan) h =
        let none = none_holds (exit_rows S P x loan day) refl h in
        let thing = thing_no_same n S T g kept x (known_in S P x none.0) in
        elim (agreement P loan) as (λ (o : Option Agreement). agreement P loan ≡ o
        → option_map (leaving T x) o ≡ option_map (leaving S x) o) [
          | None ↦ λ e. refl
          | Some t ↦ λ e. let place =
              place_no_same n S T g kept t.partner
              (agreement_sound S depth P loan t lawful e).partner in rw (thing, place) refl
        ] refl
    put_same (Return day x loan p) h =
        let none = none_holds (return_rows S P x loan p) refl h in
        let thing = thing_no_same n S T g kept x (known_in S P x none.0) in
        let place = place_no_same n S T g kept p (place_known_in S P p none.1.0) in
        rw (thing, place) refl
    put_same (Receive day x loan p) h =
        let none = none_holds (receive_rows S P x loan p day) refl h in
        let thing = thing_no_same n S T g kept x (known_in S P x none.0) in
        let place = place_no_same n S T g kept p (place_known_in S P p none.1.0) in
        rw (thing, place) refl
    put_same (Agree first final loan partner listed) h = refl
    put_same (Authorise name loan) h = refl
    put_same (SignOff name) h = refl
    put_same (Extend final loan) h = refl

    -- and moves the same objects across
    crossed_same : (m : Message) (loan : List ℕ) (o : ℕ) → verdict S depth P m ≡ Applied
        → stage_by T P m loan o ≡ stage_by S P m loan o
    crossed_same (Exit day x l) loan o h =
        ap (by_objects (exit_of x l) loan o)
        (objects_in_same x (known_in S P x (none_holds (exit_rows S P x l day) refl h).0))
    crossed_same (Return day x l p) loan o h =
        ap (by_objects (return_of x l) loan o)
        (objects_in_same x (known_in S P x (none_holds (return_rows S P x l p) refl h).0))
    crossed_same (Receive day x l p) loan o h =
        ap (by_objects (receive_of x l) loan o)
        (objects_in_same x (known_in S P x (none_holds (receive_rows S P x l p day) refl h).0))
    crossed_same (Move day x p) loan o h = refl
    crossed_same (Pack day x c) loan o h = refl
    crossed_same (Agree first final l partner listed) loan o h = refl
    crossed_same (Authorise name l) loan o h = refl
    crossed_same (SignOff name) loan o h = refl
    crossed_same (Extend final l) loan o h = refl

  -- looking back through P has the same results under both setups
  pub record SamePast (P : List Entry) : Type 0 where
    pub puts : puts T P ≡ puts S P
    pub stages : (loan : List ℕ) (o : ℕ) → stage T P loan o ≡ stage S P loan o
    pub spots : (x : ℕ) → spots T P x ≡ spots S P x

  pub same_past : (P : List Entry) → IsLawful S depth P → SamePast P
  same_past [] lawful = record { puts = refl; stages = λ loan o. refl; spots = λ x. refl }
  same_past (e ∷ P) (follows, lawful) =
      let before = same_past P lawful in
      let now : puts T (e ∷ P) ≡ puts S (e ∷ P) =
      elim (is_applied e.verdict) as (λ b. is_applied e.verdict ≡ b
      → with_put (if b then put_in T P e.message else None) (puts T P)
      ≡ with_put (if b then put_in S P e.message else None) (puts S P)) [
        | true ↦ λ h. ap (λ o. with_put o (puts T P))
            (put_same P lawful before.puts e.message (sym follows.judged ∙ applied_is e.verdict h))
            ∙ ap (with_put (put_in S P e.message)) before.puts
        | false ↦ λ h. before.puts
      ] refl in
      record {
        puts = now;
        stages = λ loan o. elim (is_applied e.verdict) as
            (λ b. is_applied e.verdict ≡ b → option_map_or (λ s. s)
            (if b then stage_by T P e.message loan o else None) (stage T P loan o)
            ≡ option_map_or (λ s. s) (if b then stage_by S P e.message loan o else None)
            (stage S P loan o)) [
              | true ↦ λ h. ap (λ s. option_map_or (λ s. s) s (stage T P loan o))
                  (crossed_same P lawful before.puts e.message loan o
                  (sym follows.judged ∙ applied_is e.verdict h))
                  ∙ ap (option_map_or (λ s. s) (stage_by S P e.message loan o))
                  (before.stages loan o)
              | false ↦ λ h. before.stages loan o
            ] refl;
        spots = λ x.
            ap (λ (ss : List Spot). ss ++ option_to_list
            (spot_from (length P + 1) (place_at T P x) (place_at T (e ∷ P) x)
            (day_of e.message))) (before.spots x)
            ∙ ap (λ (p : Option ℕ). spots S P x ++ option_to_list
            (spot_from (length P + 1) p (place_at T (e ∷ P) x) (day_of e.message)))
            (place_same P lawful before.puts x)
            ∙ ap (λ (p : Option ℕ). spots S P x ++ option_to_list
            (spot_from (length P + 1) (place_at S P x) p (day_of e.message)))
            (place_same (e ∷ P) (follows, lawful) now x);
      }
