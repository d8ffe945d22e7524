-- The lines of a file, and what its check prints, computed on worked rows.
use Rattle.std.specs.Prelude.{◌≡◌, ◌∷◌, [], codes, false, flat_map, refl, true}
use Rattle.std.specs.Fmt.{digits}
use Rattle.seal_core.specs.declared.reading.LineFault.TheVariants.{NoMark}
use Rattle.seal_core.specs.FileLines.{file_lines, trimmed}
use Rattle.seal_core.specs.SealChecks.{are_fine, help_on, row_text}
use Rattle.seal_core.specs.declared.seal_check.CheckedSeal.TheVariants.{Bad, Seal}

-- the blanks of a mail, and the end of a line of another system
pub trimmed_line : trimmed (codes "  80000 sha256:1029 \r") ≡ codes "80000 sha256:1029"
trimmed_line = refl

-- the last line may have a line feed or none
pub two_lines : file_lines (codes "one\r\n\ntwo\n")
    ≡ codes "one" ∷ [] ∷ codes "two" ∷ [] ∷ []
two_lines = refl

pub printed : flat_map row_text (Seal 79000 true ∷ Seal 80000 false ∷ Bad 4 NoMark ∷ [])
    ≡ codes "79000 holds\n80000 broken\nline 4 bad NoMark\n"
unfolding digits
printed = refl

pub all_hold : are_fine (Seal 79000 true ∷ Seal 80000 true ∷ []) ≡ true
all_hold = refl

pub one_is_broken : are_fine (Seal 79000 true ∷ Seal 80000 false ∷ []) ≡ false
one_is_broken = refl

pub one_is_bad : are_fine (Seal 79000 true ∷ Bad 2 NoMark ∷ []) ≡ false
one_is_bad = refl

-- an empty file has no seal that holds
pub nothing_is_not_fine : are_fine [] ≡ false
nothing_is_not_fine = refl

pub no_help : help_on (Seal 79000 true ∷ Seal 80000 false ∷ []) ≡ []
no_help = refl
