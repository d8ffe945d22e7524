-- A lawful list of entries stays lawful when its setup grows, and every answer stays the same.
use Rattle.std.specs.Prelude.{ℕ, ◌≡◌, ◌≤◌, List, [], ◌∷◌, length, map, Option, None, Some, refl}
use Rattle.std.specs.Option.{option_map}
use Rattle.std.proofs.Common.{arith, ap, sym, ◌∙◌}
use Rattle.std.proofs.Math.Path.{fun_ext}
use Rattle.nest_core.specs.Museum.{Museum, listed_now, NeverFell}
use Rattle.posting_core.specs.declared.entry.Entry.{Entry}
use Rattle.posting_core.specs.declared.stage.LineStage.{LineStage}
use Rattle.posting_core.specs.Accountability.{AnswerAlike}
use Rattle.posting_core.specs.Agreements.{Agreement, agreement, is_authorised}
use Rattle.posting_core.specs.Lawful.{IsLawful}
use Rattle.posting_core.specs.Loans.{stage, objects_of, loan_state, state_by}
use Rattle.posting_core.proofs.Agreed.{agreement_sound}
use Rattle.posting_core.proofs.GrownSetups.{Grew, more_stations, numbers_same}
use Rattle.posting_core.proofs.GrownLists.{same_past, chain_same, place_same, terms_same}
use Rattle.posting_core.proofs.GrownVerdicts.{lines_same, verdict_same}

-- the setup S grew to T
module _ (n : ℕ) (S T : Museum) (depth : ℕ) (g : Grew n S T)
    (kept : NeverFell S.growths (listed_now S)) where
  pub lawful_grown : (P : List Entry) → length P ≤ n → IsLawful S depth P → IsLawful T depth P
  lawful_grown [] few lawful = tt
  lawful_grown (e ∷ P) few (follows, lawful) = (
    record {
      known = omega (arith, follows.known, more_stations n S T g kept);
      next = follows.next;
      few = follows.few;
      unsigned = follows.unsigned;
      judged = follows.judged
          ∙ sym (verdict_same n S T depth g kept P lawful (same_past n S T depth g kept P lawful)
          (omega arith) e.message);
    },
    lawful_grown P (omega arith) lawful,
  )

  states_same : (P : List Entry) → IsLawful S depth P → (loan : List ℕ)
      → loan_state T P loan ≡ loan_state S P loan
  states_same P lawful loan =
      elim (agreement P loan) as (λ (o : Option Agreement). agreement P loan ≡ o →
      option_map
      (λ (t : Agreement). state_by (is_authorised P loan)
      (map (stage T P loan) (objects_of T t))) o
      ≡ option_map
      (λ (t : Agreement). state_by (is_authorised P loan)
      (map (stage S P loan) (objects_of S t))) o) [
        | None ↦ λ e. refl
        | Some t ↦ λ e. ap Some (
            ap (λ (f : ℕ → LineStage). state_by (is_authorised P loan) (map f (objects_of T t)))
            (fun_ext ((same_past n S T depth g kept P lawful).stages loan))
            ∙ ap (λ (os : List ℕ). state_by (is_authorised P loan) (map (stage S P loan) os))
            (numbers_same n S T g kept t.objects
            (agreement_sound S depth P loan t lawful e).known)
            )
      ] refl

  pub answers_grown : (P : List Entry) → IsLawful S depth P
      → AnswerAlike (record { museum = T; depth = depth; posted = P })
      (record { museum = S; depth = depth; posted = P })
  answers_grown P lawful =
      let past = same_past n S T depth g kept P lawful in
      record {
        places = place_same n S T depth g kept P lawful past.puts;
        chains = chain_same n S T depth g kept P lawful past.puts;
        spots = past.spots;
        loans = refl;
        objects = terms_same n S T depth g kept P lawful past.puts;
        lines = lines_same n S T depth g kept P lawful past;
        states = states_same P lawful;
        days = λ loan. refl;
      }
