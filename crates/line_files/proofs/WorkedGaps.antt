-- The definitions of the line that fills a gap, computed on worked rows.
use Rattle.std.specs.Fmt.{digits}
use Rattle.std.specs.Prelude.{◌≡◌, [], ◌∷◌, None, Ok, Err, refl, codes}
use Rattle.json.specs.Print.{escape_byte}
use Rattle.codes_core.specs.Loan.{loan_fault}
use Rattle.posting_core.specs.declared.message.Message.TheVariants.{SignOff}
use Rattle.posting_core.proofs.WorkedRows.{book, gal, pack, run}
use Rattle.line_files.specs.declared.gap_fault.GapFault.TheVariants.{SignedOff}
use Rattle.line_files.specs.Gaps.{gap_loan, gap_in, gap_message}

-- the loan has a valid code
loan_code : loan_fault gap_loan ≡ None
loan_code = refl

pub first_gap : gap_in (book []) gal (codes "Ann") ≡ Ok (codes
    "{\"station\":\"GAL\",\"n\":1,\"message\":{\"by\":\"Ann\",\"kind\":\"authorise\",\"loan\":\"LO0000.1\"}}\n")
unfolding digits escape_byte
first_gap = refl

pub second_gap : gap_in (book (run [] ((gal, gap_message (codes "Ann")) ∷ []))) gal (codes "Bob")
    ≡ Ok (codes
    "{\"station\":\"GAL\",\"n\":2,\"message\":{\"by\":\"Bob\",\"kind\":\"authorise\",\"loan\":\"LO0000.1\"}}\n")
unfolding digits escape_byte
second_gap = refl

pub signed_gap : gap_in (book (run [] ((pack, SignOff (codes "Ann")) ∷ []))) pack (codes "Bob")
    ≡ Err SignedOff
signed_gap = refl
