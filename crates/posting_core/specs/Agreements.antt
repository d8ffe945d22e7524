-- Defines the agreements of loans, by looking back through the posted entries: a loan's terms,
-- whether it is authorised, and its last day. The newest entry comes first, and only applied
-- entries count.
use Rattle.std.specs.Prelude.{ℕ, ℤ, ◌+◌, ◌&&◌, Bool, false, List, [], ◌∷◌, ◌++◌, length, Option}
use Rattle.std.specs.Prelude.{Some, None, map, is_some, unwrap_or, if◌then◌else◌}
use Rattle.std.specs.List.{find, list_any, position}
use Rattle.std.specs.Option.{option_map, option_and_then, option_to_list}
use Rattle.std.specs.Str.{bytes_eq}
use Rattle.posting_core.specs.declared.message.Message.{Message}
use Rattle.posting_core.specs.declared.message.Message.TheVariants.{Agree, Authorise, Extend}
use Rattle.posting_core.specs.declared.verdict.Verdict.{Verdict}
use Rattle.posting_core.specs.declared.entry.Entry.{Entry}
use Rattle.posting_core.specs.Messages.{loan_of}
use Rattle.posting_core.specs.VerdictNames.{is_applied}

-- The terms of a loan: the code of the partner's place, the codes of the objects, and the first and
-- the last day.
pub record Agreement : Type 0 where
  pub loan : List ℕ
  pub partner : List ℕ
  pub objects : List (List ℕ)
  pub first : ℤ
  pub last : ℤ

-- The agreement that a message makes.
abbrev pub agreement_in : Message → Option Agreement
agreement_in (Agree first last loan partner objects) =
    Some (record { loan = loan; partner = partner; objects = objects; first = first; last = last })
agreement_in _ = None

-- The agreement that a message makes under this verdict.
abbrev pub agreement_by : Verdict → Message → Option Agreement
agreement_by verdict m = if is_applied verdict then agreement_in m else None

-- All applied agreements, the first agreed first.
abbrev pub agreements : List Entry → List Agreement
agreements [] = []
agreements (e ∷ P) = agreements P ++ option_to_list (agreement_by e.verdict e.message)

-- The number of the entry that makes each applied agreement, in the same order.
abbrev pub agreed_entries : List Entry → List ℕ
agreed_entries [] = []
agreed_entries (e ∷ P) =
    agreed_entries P
    ++ map (λ t. length P + 1) (option_to_list (agreement_by e.verdict e.message))

-- The agreement of a loan: the first with its code.
abbrev pub agreement : List Entry → List ℕ → Option Agreement
agreement P loan = find (λ t. bytes_eq loan t.loan) (agreements P)

-- The codes of the loans, in the order of their agreements.
abbrev pub loans : List Entry → List (List ℕ)
loans P = map (λ t. t.loan) (agreements P)

-- The number of a loan, from 0 in that order.
abbrev pub loan_no : List Entry → List ℕ → Option ℕ
loan_no P loan = position (bytes_eq loan) (loans P)

-- The number of the loan that a message continues under this verdict. A refused message continues
-- none.
abbrev pub loan_by : List Entry → Verdict → Message → Option ℕ
loan_by P verdict m =
    option_and_then (λ loan. if is_applied verdict then loan_no P loan else None) (loan_of m)

abbrev pub is_agreed : List Entry → List ℕ → Bool
is_agreed P loan = is_some (agreement P loan)

-- The message authorises this loan.
abbrev pub authorises : Message → List ℕ → Bool
authorises (Authorise name l) loan = bytes_eq l loan
authorises _ loan = false

-- An applied entry authorises the loan.
abbrev pub is_authorised : List Entry → List ℕ → Bool
is_authorised P loan = list_any (λ e. is_applied e.verdict && authorises e.message loan) P

-- The new last day that a message sets for the loan.
abbrev pub extension_in : Message → List ℕ → Option ℤ
extension_in (Extend last l) loan = if bytes_eq l loan then Some last else None
extension_in _ loan = None

-- The last day of a loan that was agreed until `agreed`: that of its last applied extension, if
-- there is one.
abbrev pub last_from : List Entry → List ℕ → ℤ → ℤ
last_from [] loan agreed = agreed
last_from (e ∷ P) loan agreed =
    unwrap_or (if is_applied e.verdict then extension_in e.message loan else None)
    (last_from P loan agreed)

-- The last day of a loan: that of its last applied extension, otherwise the one agreed.
abbrev pub last_day : List Entry → List ℕ → Option ℤ
last_day P loan = option_map (λ t. last_from P loan t.last) (agreement P loan)
