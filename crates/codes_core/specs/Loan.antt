-- Defines the codes of loans: loans out (LO2024.1) and loans in (LI2024.1).
use Rattle.std.specs.Prelude.{ℕ, ◌&&◌, ◌||◌, Bool, nat_eq, List, drop, Option, codes}
use Rattle.std.specs.List.{starts_with}
use Rattle.codes_core.specs.declared.fault.CodeFault.{CodeFault}
use Rattle.codes_core.specs.declared.fault.CodeFault.TheVariants.{BadNumber}
use Rattle.codes_core.specs.Grammar.{groups, are_groups, has_right_groups, code_fault}

-- A code that starts with LO is that of a loan out.
abbrev pub is_out : List ℕ → Bool
is_out text = starts_with nat_eq text (codes "LO")

-- LO or LI, four digits and one more group.
abbrev pub is_loan_shape : List ℕ → Bool
is_loan_shape text =
    (is_out text || starts_with nat_eq text (codes "LI")) && are_groups 1 (groups (drop 2 text))

-- The group after the year is a valid number.
abbrev pub has_loan_number : List ℕ → Bool
has_loan_number text = has_right_groups (groups (drop 2 text))

-- The first fault of a text as a loan's code. A text without a fault is a loan's code.
abbrev pub loan_fault : List ℕ → Option CodeFault
loan_fault text = code_fault BadNumber (is_loan_shape text) (has_loan_number text) text
