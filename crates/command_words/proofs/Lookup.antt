-- A word is compared with the names of the commands in turn.
use Rattle.std.proofs.Common.{◌≡◌, ◌<◌, ◌≤◌, ◌+◌, ◌∙◌, ◌∷◌, [], Bool, List, None, Option, Result}
use Rattle.std.proofs.Common.{Some, ap, cond, drop, false, get_or, is_some, length, map, refl}
use Rattle.std.proofs.Common.{subst, sym, true, unwrap_or, ℕ}
use Rattle.std.specs.Prelude.{Box, find, slice_get}
use Rattle.std.specs.declared.alloc.Global.{Global}
use Rattle.std.specs.Option.{option_and_then}
use Rattle.std.proofs.lemmas.Bool.{false≢true}
use Rattle.std.specs.Str.{bytes_eq}
use Rattle.std.proofs.lemmas.List.{at_drop_all, at_drop_more}
use Rattle.std.proofs.lemmas.Slice.Eq.{bytes_eq-Decides}
use Rattle.clap.specs.Words.{App, Text}
use Rattle.command_words.specs.Commands.{Form, commands}
use Rattle.command_words.specs.Completion.{form_called}
use Rattle.command_words.specs.Tables.{app_by, form_by}
use Rattle.command_words.specs.Words.{Chooses, IsNamed, form_named}
use Rattle.command_words.specs.declared.command.Chosen.{Chosen}
use Rattle.command_words.specs.declared.command.WordsFault.{WordsFault}
use Rattle.command_words.specs.declared.shapes.Name.{Name}
use Rattle.command_words.specs.declared.shapes.Name.TheVariants as name
use Rattle.command_words.proofs.Tables.{all, app_is}

-- the command that has this name, among these
abbrev pub form_among : Text → List Name → Option Form
form_among word names = find (λ form. bytes_eq word form.app.top.name) (map form_by names)

-- the first of them has the name, or it is one of the others
step : (word : Text) (n : Name) (names : List Name) (same : Bool)
    → bytes_eq word (app_by n).top.name ≡ same
    → form_among word (n ∷ names) ≡ cond same (Some (form_by n)) (form_among word names)
step word n names same is =
    ap (λ b. cond b (Some (form_by n)) (form_among word names))
    (ap (λ (app : App). bytes_eq word app.top.name) (sym (app_is n)) ∙ is)

in_order : (word : Text) → form_among word (name.Help ∷ all) ≡ form_called word
unfolding form_by
in_order word = refl

-- `help` comes first
pub is_help : (word : Text) → bytes_eq word (app_by name.Help).top.name ≡ true
    → Some (form_by name.Help) ≡ form_called word
is_help word is = sym (step word name.Help all true is) ∙ in_order word

pub is_no_help : (word : Text) → bytes_eq word (app_by name.Help).top.name ≡ false
    → form_among word all ≡ form_called word
is_no_help word is = sym (step word name.Help all false is) ∙ in_order word

-- the next one has the name, or it is one of those after it
module _ (word : Text) (names : List Name) (i : ℕ) (d : Name) (below : i < length names)
    (so_far : form_among word (drop i names) ≡ form_called word)
  where
    from_here : form_among word (get_or names i d ∷ drop (i + 1) names) ≡ form_called word
    from_here = sym (at_drop_more (form_among word) names i d below) ∙ so_far

    pub found_here : bytes_eq word (app_by (get_or names i d)).top.name ≡ true
        → Some (form_by (get_or names i d)) ≡ form_called word
    found_here is = sym (step word (get_or names i d) (drop (i + 1) names) true is) ∙ from_here

    pub goes_on : bytes_eq word (app_by (get_or names i d)).top.name ≡ false
        → form_among word (drop (i + 1) names) ≡ form_called word
    goes_on is = sym (step word (get_or names i d) (drop (i + 1) names) false is) ∙ from_here

-- none is left
pub none_left : (word : Text) (names : List Name) (i : ℕ) → length names ≤ i
    → form_among word (drop i names) ≡ form_called word → None ≡ form_called word
none_left word names i past so_far = sym (at_drop_all (form_among word) names i past) ∙ so_far

-- what `find` returns passes the test
passes_first : (test : Form → Bool) (x found : Form) (same : Bool) (rest : Option Form)
    → test x ≡ same → Some found ≡ cond same (Some x) rest
    → (Some found ≡ rest → test found ≡ true) → test found ≡ true
passes_first test x found true rest is e later =
    ap (λ (form : Option Form). test (unwrap_or form found)) e ∙ is
passes_first test x found false rest is e later = later e

passes : (test : Form → Bool) (forms : List Form) (found : Form) → Some found ≡ find test forms
    → test found ≡ true
passes test [] found e = absurd (false≢true (sym (ap is_some e)))
passes test (x ∷ xs) found e =
    passes_first test x found (test x) (find test xs) refl e (passes test xs found)

-- the first word is the name of the command that it names
first_is : (first : Option Text) (form : Form) → Some form ≡ option_and_then form_called first
    → first ≡ Some form.app.top.name
first_is None form e = absurd (false≢true (sym (ap is_some e)))
first_is (Some word) form e =
    ap Some ((bytes_eq-Decides word form.app.top.name).0
    (passes (λ f. bytes_eq word f.app.top.name) commands form e))

-- for words that name a command, which is known
module _ (n known : Name) (words : List Text) where
  pub named_by : Some (form_by n) ≡ form_named words → n ≡ known
      → IsNamed words (form_by known).app.top.name
  named_by named is =
      first_is (slice_get words 0) (form_by n) named
      ∙ ap (λ (m : Name). Some (form_by m).app.top.name) is

  pub chooses_by : (result : Result (Box Chosen Global) WordsFault) → Some (form_by n) ≡ form_named words
      → n ≡ known → Chooses (Some (form_by known)) words result
      → Chooses (form_named words) words result
  chooses_by result named is chosen =
      subst (λ form. Chooses form words result)
      (ap (λ (m : Name). Some (form_by m)) (sym is) ∙ named) chosen

-- for words that name none
pub chooses_none : (words : List Text) (result : Result (Box Chosen Global) WordsFault)
    → None ≡ form_named words → Chooses None words result
    → Chooses (form_named words) words result
chooses_none words result none chosen =
    subst (λ form. Chooses form words result) none chosen
