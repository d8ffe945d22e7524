-- The verdict on a message that was posted before a growth is the same under the grown setup.
use Rattle.std.specs.Prelude.{ℕ, ◌≡◌, ◌<◌, Bool, true, false, not, nat_lt, List, [], ◌∷◌, length}
use Rattle.std.specs.Prelude.{Option, None, Some, IfSome, is_some, refl, if◌then◌else◌}
use Rattle.std.specs.List.{list_any}
use Rattle.std.specs.Option.{option_map_or}
use Rattle.std.specs.Str.{bytes_eq}
use Rattle.std.proofs.Common.{arith, ap, ◌∙◌}
use Rattle.std.proofs.Math.Path.{fun_ext}
use Rattle.std.proofs.lemmas.Bool.{not-false}
use Rattle.std.proofs.lemmas.List.{length-map}
use Rattle.std.proofs.lemmas.List.Quantifiers.{position-Some}
use Rattle.nest_core.specs.declared.put.Target.TheVariants.{Within}
use Rattle.nest_core.specs.declared.put.Put.{Put}
use Rattle.nest_core.specs.InOrder.{Row}
use Rattle.nest_core.specs.Museum.{Museum, find_thing, thing_codes, among_first, listed_at}
use Rattle.nest_core.specs.Museum.{listed_now, is_inside, is_elsewhere, is_container, NeverFell}
use Rattle.nest_core.specs.Puts.{last, is_among}
use Rattle.nest_core.specs.Nest.{put_at, is_too_deep, is_same_place}
use Rattle.posting_core.specs.declared.message.Message.{Message}
use Rattle.posting_core.specs.declared.message.Message.TheVariants.{Move, Pack, Agree, Authorise}
use Rattle.posting_core.specs.declared.message.Message.TheVariants.{Exit, Return, Receive, SignOff}
use Rattle.posting_core.specs.declared.message.Message.TheVariants.{Extend}
use Rattle.posting_core.specs.declared.verdict.Verdict.{Verdict}
use Rattle.posting_core.specs.declared.entry.Entry.{Entry}
use Rattle.posting_core.specs.declared.stage.LineStage.{LineStage}
use Rattle.posting_core.specs.Agreements.{Agreement, agreement}
use Rattle.posting_core.specs.History.{puts, chain_at, place_at}
use Rattle.posting_core.specs.Lawful.{IsLawful}
use Rattle.posting_core.specs.Loans.{exit_of, return_of, receive_of, objects_in, stage, objects}
use Rattle.posting_core.specs.Loans.{line}
use Rattle.posting_core.specs.Messages.{thing_no, place_no}
use Rattle.posting_core.specs.Verdicts.{verdict, first_of, move_rows, pack_rows, agree_rows}
use Rattle.posting_core.specs.Verdicts.{exit_rows, return_rows, receive_rows, is_known}
use Rattle.posting_core.specs.Verdicts.{is_known_place, is_known_at, is_known_place_at}
use Rattle.posting_core.specs.Verdicts.{is_known_container, is_away, is_not_here, stands_inside}
use Rattle.posting_core.specs.Verdicts.{is_cycle, is_deep_with, any_unlisted, any_not_at}
use Rattle.posting_core.specs.Verdicts.{is_with_partner}
use Rattle.posting_core.proofs.Agreed.{agreement_sound}
use Rattle.posting_core.proofs.Bounds.{place_within}
use Rattle.posting_core.proofs.GrownSetups.{Grew, thing_at_same, place_at_same, thing_no_same}
use Rattle.posting_core.proofs.GrownSetups.{place_no_same, container_same, borrowed_same}
use Rattle.posting_core.proofs.GrownSetups.{inside_same, elsewhere_same}
use Rattle.posting_core.proofs.Known.{known_in, place_known_in}
use Rattle.posting_core.proofs.Placed.{thing_below, place_below, container_known, lawful_sound}
use Rattle.posting_core.proofs.GrownNests.{deep_still}
use Rattle.posting_core.proofs.GrownLists.{SamePast, count, chain_same, place_same, objects_in_same}
use Rattle.posting_core.proofs.GrownLists.{terms_same}

-- Two tables of refusals agree row by row, as long as no row before holds.
abbrev Alike : List (Row Verdict) → List (Row Verdict) → Type 0
Alike [] [] = Unit {0}
Alike [] (row ∷ rows) = ⊥
Alike (row ∷ rows) [] = ⊥
Alike (a ∷ xs) (b ∷ ys) = (a.says ≡ b.says) × (a.holds ≡ b.holds) × (b.holds ≡ false → Alike xs ys)

alike : (xs ys : List (Row Verdict)) → Alike xs ys → first_of xs ≡ first_of ys
alike [] [] same = refl
alike [] (row ∷ rows) same = absurd same
alike (row ∷ rows) [] same = absurd same
alike (a ∷ xs) (b ∷ ys) (says, holds, rest) =
    ap (λ (t : Bool). if t then a.says else first_of xs) holds
    ∙ ap (λ (v : Verdict). if b.holds then v else first_of xs) says
    ∙ elim b.holds as (λ t. b.holds ≡ t → (if t then b.says else first_of xs)
    ≡ (if t then b.says else first_of ys)) [
      | true ↦ λ h. refl
      | false ↦ λ h. alike xs ys (rest h)
    ] refl

-- a thing found by its code has a number of the setup
found_less : (S : Museum) (c : List ℕ) → IfSome (find_thing S c) (λ i. i < length S.things)
found_less S c =
    elim (find_thing S c) as (λ o. find_thing S c ≡ o → IfSome o (λ i. i < length S.things)) [
      | None ↦ λ e. tt
      | Some i ↦
          λ e. omega (
            arith,
            (position-Some (bytes_eq c) (thing_codes S) i [] e).0,
            length-map S.things
                (λ (row : List ℕ × Option ℕ). row.0),
          )
    ] refl

-- the setup S grew to T
module _ (n : ℕ) (S T : Museum) (depth : ℕ) (g : Grew n S T)
    (kept : NeverFell S.growths (listed_now S)) where
  module _ (P : List Entry) (lawful : IsLawful S depth P)
      (past : SamePast n S T depth g kept P) where
    places_still : (y : ℕ) → place_at T P y ≡ place_at S P y
    places_still = place_same n S T depth g kept P lawful past.puts

    chains_still : (y : ℕ) → chain_at T P y ≡ chain_at S P y
    chains_still = chain_same n S T depth g kept P lawful past.puts

    objects_still : (x : List ℕ) → is_known S x ≡ true → objects_in T P x ≡ objects_in S P x
    objects_still = objects_in_same n S T depth g kept P lawful past.puts

    terms_still : (loan : List ℕ) → objects T P loan ≡ objects S P loan
    terms_still = terms_same n S T depth g kept P lawful past.puts

    pub lines_same : (loan : List ℕ) (o : ℕ) → line T P loan o ≡ line S P loan o
    lines_same loan o =
        ap (λ (os : List ℕ). if is_among o os then Some (stage T P loan o) else None)
        (terms_still loan)
        ∙ ap (λ (s : LineStage). if is_among o (objects S P loan) then Some s else None)
        (past.stages loan o)

    away_same : (i : ℕ) (o : Option ℕ) → i < length S.things → IfSome o (λ p. p < length S.places)
        → is_away T i o ≡ is_away S i o
    away_same i None less within = borrowed_same n S T g kept i less
    away_same i (Some p) less within = elsewhere_same n S T g kept p within

    standing_same : (o : Option ℕ) → IfSome o (λ p. p < length S.places)
        → option_map_or (is_inside T) o false ≡ option_map_or (is_inside S) o false
    standing_same None within = refl
    standing_same (Some p) within = inside_same n S T g kept p within

    -- for a known thing
    module _ (x : List ℕ) (known : is_known S x ≡ true) where
      not_here_same : is_not_here T P x ≡ is_not_here S P x
      not_here_same =
          ap (λ (y : ℕ). is_away T y (place_at T P y)) (thing_no_same n S T g kept x known)
          ∙ ap (is_away T (thing_no S x)) (places_still (thing_no S x))
          ∙ away_same (thing_no S x) (place_at S P (thing_no S x)) (thing_below S x known)
          (place_within S depth P (thing_no S x) lawful)

      inside_still : stands_inside T P x ≡ stands_inside S P x
      inside_still =
          ap (λ (y : ℕ). option_map_or (is_inside T) (place_at T P y) false)
          (thing_no_same n S T g kept x known)
          ∙ ap (λ (o : Option ℕ). option_map_or (is_inside T) o false) (places_still (thing_no S x))
          ∙ standing_same (place_at S P (thing_no S x))
          (place_within S depth P (thing_no S x) lawful)

      unlisted_same : (loan : List ℕ) → any_unlisted (line T P loan) (objects_in T P x)
          ≡ any_unlisted (line S P loan) (objects_in S P x)
      unlisted_same loan =
          ap (λ (f : ℕ → Option LineStage). any_unlisted f (objects_in T P x))
          (fun_ext (lines_same loan)) ∙ ap (any_unlisted (line S P loan))
          (objects_still x known)

      not_at_same : (loan : List ℕ) (wanted : LineStage)
          → any_not_at (line T P loan) wanted (objects_in T P x)
          ≡ any_not_at (line S P loan) wanted (objects_in S P x)
      not_at_same loan wanted =
          ap (λ (f : ℕ → Option LineStage). any_not_at f wanted (objects_in T P x))
          (fun_ext (lines_same loan)) ∙ ap (any_not_at (line S P loan) wanted)
          (objects_still x known)

      partner_same : (loan : List ℕ) → is_with_partner T P x loan ≡ is_with_partner S P x loan
      partner_same loan =
          elim (agreement P loan) as (λ (o : Option Agreement). agreement P loan ≡ o →
          option_map_or
          (λ (t : Agreement). is_same_place (place_at T P (thing_no T x))
          (Some (place_no T t.partner))) o false
          ≡ option_map_or
          (λ (t : Agreement). is_same_place (place_at S P (thing_no S x))
          (Some (place_no S t.partner))) o false) [
            | None ↦ λ e. refl
            | Some t ↦ λ e.
                ap (λ (y : ℕ). is_same_place (place_at T P y) (Some (place_no T t.partner)))
                (thing_no_same n S T g kept x known)
                ∙ ap (λ (o : Option ℕ). is_same_place o (Some (place_no T t.partner)))
                (places_still (thing_no S x))
                ∙ ap (λ (p : ℕ). is_same_place (place_at S P (thing_no S x)) (Some p))
                (place_no_same n S T g kept t.partner
                (agreement_sound S depth P loan t lawful e).partner)
          ] refl

    -- for a known place
    elsewhere_still : (p : List ℕ) → is_known_place S p ≡ true
        → is_elsewhere T (place_no T p) ≡ is_elsewhere S (place_no S p)
    elsewhere_still p known = ap (is_elsewhere T) (place_no_same n S T g kept p known)
        ∙ elsewhere_same n S T g kept (place_no S p) (place_below S p known)

    within_still : (p : List ℕ) → is_known_place S p ≡ true
        → is_inside T (place_no T p) ≡ is_inside S (place_no S p)
    within_still p known = ap (is_inside T) (place_no_same n S T g kept p known)
        ∙ inside_same n S T g kept (place_no S p) (place_below S p known)

    -- for two known things
    module _ (x c : List ℕ) (known : is_known S x ≡ true) (known_c : is_known S c ≡ true) where
      cycle_same : is_cycle T P x c ≡ is_cycle S P x c
      cycle_same =
          ap (λ (y : ℕ). is_among y (thing_no T c ∷ chain_at T P (thing_no T c)))
          (thing_no_same n S T g kept x known)
          ∙ ap (λ (y : ℕ). is_among (thing_no S x) (y ∷ chain_at T P y))
          (thing_no_same n S T g kept c known_c)
          ∙ ap (λ (cs : List ℕ). is_among (thing_no S x) (thing_no S c ∷ cs))
          (chains_still (thing_no S c))

      deep_same : is_cycle S P x c ≡ false → is_deep_with T depth P x c ≡ is_deep_with S depth P x c
      deep_same apart =
          ap (λ (Q : List Put). is_too_deep (put_at (last Q) (thing_no T x) (Within (thing_no T c)))
          (length T.things) depth) past.puts
          ∙ ap (λ (y : ℕ). is_too_deep (put_at (last (puts S P)) y (Within (thing_no T c)))
          (length T.things) depth) (thing_no_same n S T g kept x known)
          ∙ ap (λ (y : ℕ). is_too_deep (put_at (last (puts S P)) (thing_no S x) (Within y))
          (length T.things) depth) (thing_no_same n S T g kept c known_c)
          ∙ ap (λ m. is_too_deep (put_at (last (puts S P)) (thing_no S x) (Within (thing_no S c))) m
          depth) (count n S T depth g kept)
          ∙ deep_still (length S.things) (length g.more_things) depth depth (last (puts S P))
          (lawful_sound S depth P lawful) (thing_no S x) (thing_no S c) (thing_below S x known)
          (thing_below S c known_c) apart

    -- for a message that was posted before the growth
    module _ (early : length P < n) where
      listed_still : (x : List ℕ) → not (is_known_at T P x) ≡ not (is_known_at S P x)
      listed_still x =
          ap (λ (o : Option ℕ). not (is_some o)) (thing_at_same n S T g kept (length P) x early)

      place_still : (p : List ℕ) → not (is_known_place_at T P p) ≡ not (is_known_place_at S P p)
      place_still p =
          ap (λ (o : Option ℕ). not (is_some o)) (place_at_same n S T g kept (length P) p early)

      contained : (limit : ℕ) (o : Option ℕ) → IfSome o (λ i. i < length S.things)
          → option_map_or (is_container T) (among_first limit o) false
          ≡ option_map_or (is_container S) (among_first limit o) false
      contained limit None less = refl
      contained limit (Some i) less =
          elim (nat_lt i limit) as
          (λ b. option_map_or (is_container T) (if b then Some i else None) false
          ≡ option_map_or (is_container S) (if b then Some i else None) false) [
            | true ↦ container_same n S T g kept i less
            | false ↦ refl
          ]

      container_still : (c : List ℕ) → not (is_known_container T P c)
          ≡ not (is_known_container S P c)
      container_still c = ap not (
          ap (λ (o : Option ℕ). option_map_or (is_container T) o false)
          (thing_at_same n S T g kept (length P) c early)
          ∙ contained (listed_at S (length P)).things (find_thing S c) (found_less S c)
          )

      pub verdict_same : (m : Message) → verdict T depth P m ≡ verdict S depth P m
      verdict_same (Move day x p) = alike (move_rows T P x p) (move_rows S P x p) (
        refl,
        listed_still x,
        λ kx. (
          refl,
          place_still p,
          λ kp. (
            refl,
            elsewhere_still p (place_known_in S P p kp),
            λ e. (
              refl,
              not_here_same x (known_in S P x kx),
              λ h. tt,
            ),
          ),
        ),
      )
      verdict_same (Pack day x c) = alike (pack_rows T depth P x c) (pack_rows S depth P x c) (
        refl,
        listed_still x,
        λ kx. (
          refl,
          container_still c,
          λ kc.
              let x_in = known_in S P x kx in
              let c_in = container_known S P c (not-false (is_known_container S P c) kc) in (
                refl,
                not_here_same x x_in,
                λ h. (
                  refl,
                  ap not (inside_still c c_in),
                  λ i. (
                    refl,
                    cycle_same x c x_in c_in,
                    λ apart. (
                      refl,
                      deep_same x c x_in c_in apart,
                      λ d. tt,
                    ),
                  ),
                ),
              ),
        ),
      )
      verdict_same (Agree first final loan partner listed) =
          alike (agree_rows T P loan partner listed first final)
          (agree_rows S P loan partner listed first final) (
            refl,
            ap (λ (p : List ℕ → Bool). list_any p listed) (fun_ext listed_still),
            λ kx. (
              refl,
              place_still partner,
              λ kp. (
                refl,
                refl,
                λ l. (
                  refl,
                  within_still partner (place_known_in S P partner kp),
                  λ i. (
                    refl,
                    refl,
                    λ a. (
                      refl,
                      refl,
                      λ b. (refl, refl, λ c. (refl, refl, λ d. (refl, refl, λ e. tt))),
                    ),
                  ),
                ),
              ),
            ),
          )
      verdict_same (Authorise name loan) = refl
      verdict_same (Exit day x loan) = alike (exit_rows T P x loan day) (exit_rows S P x loan day) (
        refl,
        listed_still x,
        λ kx.
            let x_in = known_in S P x kx in (
              refl,
              refl,
              λ l. (
                refl,
                refl,
                λ o. (
                  refl,
                  refl,
                  λ a. (
                    refl,
                    ap not (inside_still x x_in),
                    λ h. (
                      refl,
                      unlisted_same x x_in loan,
                      λ u. (
                        refl,
                        not_at_same x x_in loan (exit_of x loan).wanted,
                        λ w. (
                          refl,
                          refl,
                          λ t. tt,
                        ),
                      ),
                    ),
                  ),
                ),
              ),
            ),
      )
      verdict_same (Return day x loan p) =
          alike (return_rows T P x loan p) (return_rows S P x loan p) (
            refl,
            listed_still x,
            λ kx. (
              refl,
              place_still p,
              λ kp.
                  let x_in = known_in S P x kx in (
                    refl,
                    elsewhere_still p (place_known_in S P p kp),
                    λ e. (
                      refl,
                      refl,
                      λ l. (
                        refl,
                        refl,
                        λ a. (
                          refl,
                          refl,
                          λ d. (
                            refl,
                            ap not (partner_same x x_in loan),
                            λ h. (
                              refl,
                              unlisted_same x x_in loan,
                              λ u. (
                                refl,
                                not_at_same x x_in loan (return_of x loan).wanted,
                                λ w. tt,
                              ),
                            ),
                          ),
                        ),
                      ),
                    ),
                  ),
            ),
          )
      verdict_same (Receive day x loan p) =
          alike (receive_rows T P x loan p day) (receive_rows S P x loan p day) (
            refl,
            listed_still x,
            λ kx. (
              refl,
              place_still p,
              λ kp.
                  let x_in = known_in S P x kx in (
                    refl,
                    elsewhere_still p (place_known_in S P p kp),
                    λ e. (
                      refl,
                      refl,
                      λ l. (
                        refl,
                        refl,
                        λ o. (
                          refl,
                          refl,
                          λ a. (
                            refl,
                            refl,
                            λ d. (
                              refl,
                              inside_still x x_in,
                              λ h. (
                                refl,
                                unlisted_same x x_in loan,
                                λ u. (
                                  refl,
                                  not_at_same x x_in loan (receive_of x loan).wanted,
                                  λ w. (
                                    refl,
                                    refl,
                                    λ t. tt,
                                  ),
                                ),
                              ),
                            ),
                          ),
                        ),
                      ),
                    ),
                  ),
            ),
          )
      verdict_same (SignOff name) = refl
      verdict_same (Extend final loan) = refl
