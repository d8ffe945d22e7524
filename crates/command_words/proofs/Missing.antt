-- The arguments without a value, of a command that the words name.
use Rattle.std.proofs.Common.{◌≡◌, ◌<◌, ◌+◌, ◌++◌, ◌∙◌, ◌∷◌, Bool, List, None, Option, Some, []}
use Rattle.std.proofs.Common.{ap, cond, drop, false, get_or, is_some, length, not, refl, subst, sym}
use Rattle.std.proofs.Common.{true, ℕ}
use Rattle.std.proofs.lemmas.List.{at_drop_more}
use Rattle.std.specs.Borrow.{Bor}
use Rattle.std.specs.Prelude.{MatchOption}
use Rattle.std.specs.Option.{option_map_or}
use Rattle.clap.specs.Words.{App, Row, Text, first_of, matches_of}
use Rattle.command_words.specs.Needs.{IsUnread, missing_values, without_value}
use Rattle.command_words.specs.Tables.{app_by, form_by}
use Rattle.command_words.specs.Words.{IsRefused, form_named, needed_in, text_of, texts_of}
use Rattle.command_words.specs.declared.command.WordsFault.{WordsFault}
use Rattle.command_words.specs.declared.shapes.Name.{Name}
use Rattle.command_words.proofs.Tables.{app_is}

-- for the command that the words name
module _ (n : Name) (words : List Text) (named : Some (form_by n) ≡ form_named words) where
  pub missing_by : (rows : List Row) (ids : List Text) → rows ≡ matches_of (app_by n) words
      → ids ≡ needed_in (form_by n) rows → without_value rows ids ≡ missing_values words
  missing_by rows ids rows_are ids_are =
      ap (without_value rows) ids_are
      ∙ (ap (λ r. without_value r (needed_in (form_by n) r))
      (rows_are ∙ ap (λ (app : App). matches_of app words) (app_is n))
      ∙ ap (λ form. option_map_or (λ f. without_value (matches_of f.app words)
      (needed_in f (matches_of f.app words))) form []) named)

  pub unread_by : (fault : WordsFault) → IsRefused (app_by n) words fault → IsUnread words fault
  unread_by fault refused =
      subst (λ form. MatchOption form ⊥ (λ f. IsRefused f.app words fault)) named
      (subst (λ (app : App). IsRefused app words fault) (app_is n) refused)

added : (words : List (Bor Text)) (word : Bor Text) (rest : List Text)
    → texts_of (words ++ (word ∷ [])) ++ rest ≡ texts_of words ++ (word.now ∷ rest)
added [] word rest = refl
added (w ∷ words) word rest = ap (λ texts. w.now ∷ texts) (added words word rest)

text_is_some : (word : Option (Bor Text)) → is_some (text_of word) ≡ is_some word
text_is_some (Some w) = refl
text_is_some None = refl

-- whether an argument has a value, by whether it has none
pub has_value : (word : Option (Bor Text)) (id : Text) (rows : List Row) (lacks : Bool)
    → text_of word ≡ first_of id rows → is_some word ≡ not lacks
    → is_some (first_of id rows) ≡ not lacks
has_value word id rows lacks is lacking = ap is_some (sym is) ∙ (text_is_some word ∙ lacking)

-- the next argument is added if it has no value
module _ (rows : List Row) (ids : List (Bor Text)) (i : ℕ) (d : Bor Text) (below : i < length ids)
    (without : List (Bor Text))
    (so_far : (texts_of without ++ without_value rows (texts_of (drop i ids)))
    ≡ without_value rows (texts_of ids))
  where
    abbrev rest : List Text
    rest = without_value rows (texts_of (drop (i + 1) ids))

    from_here : (has : Bool) → is_some (first_of (get_or ids i d).now rows) ≡ has
        → (texts_of without ++ cond (not has) ((get_or ids i d).now ∷ rest) rest)
        ≡ without_value rows (texts_of ids)
    from_here has is =
        ap (λ b. texts_of without ++ cond (not b) ((get_or ids i d).now ∷ rest) rest) (sym is)
        ∙ (ap (λ texts. texts_of without ++ texts)
        (sym (at_drop_more (λ xs. without_value rows (texts_of xs)) ids i d below)) ∙ so_far)

    pub is_added : is_some (first_of (get_or ids i d).now rows) ≡ false
        → (texts_of (without ++ (get_or ids i d ∷ [])) ++ rest) ≡ without_value rows (texts_of ids)
    is_added lacks = added without (get_or ids i d) rest ∙ from_here false lacks

    pub is_passed : is_some (first_of (get_or ids i d).now rows) ≡ true
        → (texts_of without ++ rest) ≡ without_value rows (texts_of ids)
    is_passed has = from_here true has
