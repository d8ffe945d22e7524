-- The heading and the lines of some rows, as they are printed with columns of these names and
-- widths.
use Rattle.std.proofs.Common.{◌≡◌, ◌++◌, ℕ, List, Option, Result, ap, ◌∙◌, subst}
use Rattle.std.specs.Io.KnownBytes.{Appends}
use Rattle.std.specs.Result.{IsErrAnd}
use Rattle.reports.specs.declared.fault.PrintFault.{PrintFault}
use Rattle.reports.specs.declared.form.Form.{Form}
use Rattle.reports.specs.Cells.{Cell}
use Rattle.reports.specs.Forms.{Prints, Stops, heading, lines_text}
use Rattle.reports.proofs.LineEnds.{heading_ends}
use Rattle.reports.proofs.WrittenText.{prints_after, prints_err, stops_longer}

module _ (form : Form) (rows : List (List Cell)) (ns names : List (List ℕ)) (ws widths : List ℕ)
    (names_are : ns ≡ names) (widths_are : ws ≡ widths) where
  text_is : heading form ns ws ++ lines_text form ns ws rows
      ≡ heading form names widths ++ lines_text form names widths rows
  text_is = ap (λ x. heading form x ws ++ lines_text form x ws rows) names_are
      ∙ ap (λ x. heading form names x ++ lines_text form names x rows) widths_are

  -- a fault in the heading
  pub heading_failed : (a b : Option (List ℕ)) (r : Result Unit PrintFault) (x : PrintFault)
      → IsErrAnd r (λ y. y ≡ x) → Stops a b x (heading form ns ws)
      → Prints a b r (heading form names widths ++ lines_text form names widths rows)
  heading_failed a b r x is p = subst (Prints a b r) text_is
      (prints_err a b r (heading form ns ws ++ lines_text form ns ws rows) x is
      (stops_longer a b x (heading form ns ws) (lines_text form ns ws rows) p))

  -- the heading, and then the lines
  pub heading_and_lines : (a b c : Option (List ℕ)) (r : Result Unit PrintFault)
      → Appends a b (heading form ns ws) → Prints b c r (lines_text form ns ws rows)
      → Prints a c r (heading form names widths ++ lines_text form names widths rows)
  heading_and_lines a b c r p q = subst (Prints a c r) text_is
      (prints_after a b c r (heading form ns ws) (lines_text form ns ws rows)
      (heading_ends form ns ws) p q)
