-- Words that name a command, and words that name none.
use Rattle.std.proofs.Common.{◌≡◌, ◌∙◌, ◌∷◌, ◌&&◌, Bool, Err, List, MatchResult, None, Ok, Option}
use Rattle.std.proofs.Common.{Result, Some, ap, ap₂, [], arith, codes, false, inl, is_some, not}
use Rattle.std.proofs.Common.{refl, subst, sym, true}
use Rattle.std.specs.List.{list_any}
use Rattle.std.specs.Option.{option_map_or}
use Rattle.clap.specs.Kinds.{IsAmong, Kinds, or_else}
use Rattle.clap.specs.Words.{App, Row, Text, fault_of, kind_of, matches_of}
use Rattle.clap.specs.declared.error.kind.ErrorKind.{ErrorKind}
use Rattle.clap.specs.declared.error.kind.ErrorKind.TheVariants.{ArgumentConflict}
use Rattle.command_words.specs.Commands.{all_needed, both_needed, overview, report}
use Rattle.command_words.specs.Words.{GivesReport, HoldsReport, IsFaultBy, IsNoReport, IsRead}
use Rattle.command_words.specs.Words.{IsRefused}
use Rattle.command_words.specs.Words.{format_in, kinds_by, report_kinds}
use Rattle.command_words.specs.declared.command.Format.{Format}
use Rattle.command_words.specs.declared.command.Report.{Report}
use Rattle.command_words.specs.declared.command.WordsFault.{WordsFault}
use Rattle.command_words.specs.declared.command.WordsFault.TheVariants.{Missing, NoMemory, Refused}

-- `clap`'s errors for words that name no command
pub refused_by_none : (words : List Text) (fault : WordsFault)
    → IsRefused overview (codes "pairsalder" ∷ words) fault → IsFaultBy None words fault
refused_by_none words (Refused error) among = among
refused_by_none words Missing never = absurd never
refused_by_none words NoMemory any = any

-- words that `clap` accepts although no command is named
pub taken_by_none : (app : App) (line words : List Text) → app ≡ overview
    → line ≡ codes "pairsalder" ∷ words
    → fault_of app line ≡ [] → kinds_by None words ≡ []
taken_by_none app line words is_app is_line taken = sym (ap₂ fault_of is_app is_line) ∙ taken

-- `clap`'s errors come first among a report's errors
among_first : (k : ErrorKind) (kinds next : Kinds) → IsAmong k kinds
    → IsAmong k (or_else kinds next)
among_first k [] next never = absurd never
among_first k (x ∷ xs) next among = among

pub report_refused : (app : App) (words : List Text) (fault : WordsFault)
    → IsRefused app words fault → IsFaultBy (Some (report (both_needed app))) words fault
report_refused app words (Refused error) among =
    among_first (kind_of error) (fault_of app words) _ among
report_refused app words Missing never = absurd never
report_refused app words NoMemory any = any

-- if `clap` accepts a report's words, the only possible error is that both forms are given
kinds_taken : (app : App) (words : List Text) → fault_of app words ≡ []
    → report_kinds app words ≡ option_map_or (λ f. []) (format_in app words) (ArgumentConflict ∷ [])
kinds_taken app words taken =
    ap (λ kinds. or_else kinds (option_map_or (λ f. []) (format_in app words)
    (ArgumentConflict ∷ []))) taken

none_of_some : (format : Option Format) (kinds : Kinds) → is_some format ≡ true
    → kinds ≡ option_map_or (λ f. []) format (ArgumentConflict ∷ []) → kinds ≡ []
none_of_some (Some f) kinds some is = is
none_of_some None kinds some is = grind (arith, some)

one_of_none : (k : ErrorKind) (format : Option Format) (kinds : Kinds) → format ≡ None
    → k ≡ ArgumentConflict
    → kinds ≡ option_map_or (λ f. []) format (ArgumentConflict ∷ []) → IsAmong k kinds
one_of_none k format kinds none conflict is =
    subst (IsAmong k) (sym (is ∙ ap (λ o. option_map_or (λ f. []) o (ArgumentConflict ∷ [])) none))
    (inl conflict)

one_lacks : (a b : Bool) → (a && b) ≡ false → list_any not (a ∷ b ∷ []) ≡ true
one_lacks false b e = refl
one_lacks true false e = refl
one_lacks true true e = grind (arith, e)

more_lacks : (a b c : Bool) → list_any not (a ∷ b ∷ []) ≡ true
    → list_any not (a ∷ b ∷ c ∷ []) ≡ true
more_lacks false b c e = refl
more_lacks true false c e = refl
more_lacks true true c e = grind (arith, e)

lost_by : (app : App) (words : List Text) (fault : WordsFault) → fault_of app words ≡ []
    → IsNoReport (matches_of app words) fault
    → IsFaultBy (Some (report (both_needed app))) words fault
lost_by app words (Refused error) taken lost =
    one_of_none (kind_of error) (format_in app words) _ lost.0 lost.1 (kinds_taken app words taken)
lost_by app words Missing taken lost = (
  none_of_some (format_in app words) _ lost.0 (kinds_taken app words taken),
  one_lacks _ _ lost.1,
)
lost_by app words NoMemory taken lost = tt

-- the values of a report, or its fault, by `clap`'s matches are those by its words
pub report_lost : (app : App) (words : List Text) (rows : List Row) (fault : WordsFault)
    → IsRead app words rows
    → IsNoReport rows fault → IsFaultBy (Some (report (both_needed app))) words fault
report_lost app words rows fault read lost =
    lost_by app words fault read.0 (subst (λ (r : List Row). IsNoReport r fault) read.1 lost)

pub report_read : (app : App) (words : List Text) (rows : List Row)
    (result : Result Report WordsFault)
    → IsRead app words rows → MatchResult result (HoldsReport rows) (IsNoReport rows)
    → MatchResult result (GivesReport app words) (IsFaultBy (Some (report (both_needed app))) words)
report_read app words rows (Ok r) read held =
    let given : HoldsReport (matches_of app words) r =
    subst (λ (rs : List Row). HoldsReport rs r) read.1 held in (
      none_of_some (format_in app words) _ (ap is_some given.3)
          (kinds_taken app words read.0),
      given,
    )
report_read app words rows (Err fault) read lost = report_lost app words rows fault read lost

-- one more value is needed: any value that was missing before is still missing
pub more_needed : (app : App) (words : List Text) (id : Text) (fault : WordsFault)
    → IsFaultBy (Some (report (both_needed app))) words fault
    → IsFaultBy (Some (report (all_needed app id))) words fault
more_needed app words id (Refused error) among = among
more_needed app words id Missing lost = (lost.0, more_lacks _ _ _ lost.1)
more_needed app words id NoMemory any = any
