-- The forms in which messages are kept, computed on worked rows.
use Rattle.std.specs.Prelude.{◌≡◌, refl, codes}
use Rattle.posting_core.specs.declared.kept_message.Form.TheVariants as form
use Rattle.posting_core.specs.declared.message.Message.TheVariants.{Move, Pack, Exit, Return}
use Rattle.posting_core.specs.declared.message.Message.TheVariants.{Receive}
use Rattle.posting_core.specs.KeptForms.{said, HasCodes}
use Rattle.posting_core.proofs.WorkedRows.{may}
use Rattle.posting_core.proofs.WorkedLoansOut.{loan_1}

kept_move : said (form.Move may (codes "2001.4.1") (codes "S1")) ≡ Move may (codes "2001.4.1")
    (codes "S1")
kept_move = refl

kept_pack : said (form.Pack may (codes "2001.4.1") (codes "C1")) ≡ Pack may (codes "2001.4.1")
    (codes "C1")
kept_pack = refl

kept_exit : said (form.Exit may (codes "C1") loan_1) ≡ Exit may (codes "C1") loan_1
kept_exit = refl

kept_return : said (form.Return may (codes "C1") loan_1 (codes "S1")) ≡ Return may (codes "C1")
    loan_1 (codes "S1")
kept_return = refl

kept_receive : said (form.Receive may (codes "L1999.7") (codes "LI2024.1") (codes "S1"))
    ≡ Receive may (codes "L1999.7") (codes "LI2024.1") (codes "S1")
kept_receive = refl

-- the short forms have codes
kept_codes : HasCodes (form.Return may (codes "C1") loan_1 (codes "S1"))
kept_codes = (refl, refl, refl)
