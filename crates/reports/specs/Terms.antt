-- Defines the agreement with given terms, and whether an object is out under it.
use Rattle.std.specs.Prelude.{ℕ, Bool, List, false}
use Rattle.std.specs.Option.{option_map_or}
use Rattle.posting_core.specs.Agreements.{Agreement}
use Rattle.posting_core.specs.Book.{Book}
use Rattle.count_core.specs.Reports.{is_out_still}
use Rattle.reports.specs.declared.sections.terms.Terms.{Terms}
use Rattle.reports.specs.LoanLists.{stage_in}

-- The agreement with these terms.
abbrev pub agreement_with : Terms → Agreement
agreement_with t =
    record {
      loan = t.loan;
      partner = t.partner;
      objects = t.objects.now;
      first = t.first;
      last = t.last;
    }

-- The object has left or arrived under the loan with these terms, and has not gone back.
abbrev pub is_out : Book → Agreement → List ℕ → Bool
is_out B t object = option_map_or is_out_still (stage_in B t object) false
