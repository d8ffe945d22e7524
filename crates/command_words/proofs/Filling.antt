-- Which commands have the options that are filled in.
use Rattle.std.proofs.Common.{◌≡◌, ◌≢◌, false, refl, true}
use Rattle.command_words.specs.Commands.{register_app, report_app}
use Rattle.command_words.specs.Completion.{is_filled_in}
use Rattle.command_words.specs.Tables.{form_by}
use Rattle.command_words.specs.declared.completion.FileOption.{FileOption}
use Rattle.command_words.specs.declared.completion.FileOption.TheVariants.{Setup, Store}
use Rattle.command_words.specs.declared.shapes.Name.{Name}
use Rattle.command_words.specs.declared.shapes.Name.TheVariants as name

-- both are filled in for each command but explain, help, check and setup
pub has_both : (option : FileOption) (n : Name) → n ≢ name.Explain → n ≢ name.Help
    → n ≢ name.Check → n ≢ name.Setup → true ≡ is_filled_in option (form_by n)
unfolding form_by register_app report_app
has_both Setup name.Replay other more files last = refl
has_both Setup name.Serve other more files last = refl
has_both Setup name.Desk other more files last = refl
has_both Setup name.Lines other more files last = refl
has_both Setup name.Check other more files last = absurd (files refl)
has_both Setup name.Gap other more files last = refl
has_both Setup name.Resend other more files last = refl
has_both Setup name.Count other more files last = refl
has_both Setup name.Audit other more files last = refl
has_both Setup name.Overdue other more files last = refl
has_both Setup name.Away other more files last = refl
has_both Setup name.History other more files last = refl
has_both Setup name.Migrate other more files last = refl
has_both Setup name.Copy other more files last = refl
has_both Setup name.Seal other more files last = refl
has_both Setup name.Receipt other more files last = refl
has_both Setup name.Page other more files last = refl
has_both Setup name.Export other more files last = refl
has_both Setup name.Grow other more files last = refl
has_both Setup name.Setup other more files last = absurd (last refl)
has_both Setup name.Explain other more files last = absurd (other refl)
has_both Setup name.Stations other more files last = refl
has_both Setup name.Where other more files last = refl
has_both Setup name.Contents other more files last = refl
has_both Setup name.Loan other more files last = refl
has_both Setup name.At other more files last = refl
has_both Setup name.Posted other more files last = refl
has_both Setup name.Loans other more files last = refl
has_both Setup name.Dues other more files last = refl
has_both Setup name.Why other more files last = refl
has_both Setup name.Help other more files last = absurd (more refl)
has_both Store name.Replay other more files last = refl
has_both Store name.Serve other more files last = refl
has_both Store name.Desk other more files last = refl
has_both Store name.Lines other more files last = refl
has_both Store name.Check other more files last = absurd (files refl)
has_both Store name.Gap other more files last = refl
has_both Store name.Resend other more files last = refl
has_both Store name.Count other more files last = refl
has_both Store name.Audit other more files last = refl
has_both Store name.Overdue other more files last = refl
has_both Store name.Away other more files last = refl
has_both Store name.History other more files last = refl
has_both Store name.Migrate other more files last = refl
has_both Store name.Copy other more files last = refl
has_both Store name.Seal other more files last = refl
has_both Store name.Receipt other more files last = refl
has_both Store name.Page other more files last = refl
has_both Store name.Export other more files last = refl
has_both Store name.Grow other more files last = refl
has_both Store name.Setup other more files last = absurd (last refl)
has_both Store name.Explain other more files last = absurd (other refl)
has_both Store name.Stations other more files last = refl
has_both Store name.Where other more files last = refl
has_both Store name.Contents other more files last = refl
has_both Store name.Loan other more files last = refl
has_both Store name.At other more files last = refl
has_both Store name.Posted other more files last = refl
has_both Store name.Loans other more files last = refl
has_both Store name.Dues other more files last = refl
has_both Store name.Why other more files last = refl
has_both Store name.Help other more files last = absurd (more refl)

-- explain gets neither
pub has_none : (option : FileOption) → false ≡ is_filled_in option (form_by name.Explain)
unfolding form_by
has_none Setup = refl
has_none Store = refl

-- nor does help
pub help_has_none : (option : FileOption) → false ≡ is_filled_in option (form_by name.Help)
unfolding form_by
help_has_none Setup = refl
help_has_none Store = refl

-- nor does check, which needs no value
pub check_has_none : (option : FileOption) → false ≡ is_filled_in option (form_by name.Check)
unfolding form_by
check_has_none Setup = refl
check_has_none Store = refl

-- setup gets the store alone
pub setup_has_no_setup : false ≡ is_filled_in Setup (form_by name.Setup)
unfolding form_by
setup_has_no_setup = refl

pub setup_has_store : true ≡ is_filled_in Store (form_by name.Setup)
unfolding form_by
setup_has_store = refl
