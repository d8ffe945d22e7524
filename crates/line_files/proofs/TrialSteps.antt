-- The record in a trial, row by row.
use Rattle.std.proofs.Common.{◌≡◌, ◌+◌, ◌<◌, ◌++◌, ◌∷◌, ◌∙◌, [], ℕ, List, Ok, Err, ap, append_assoc}
use Rattle.std.proofs.Common.{append-nil, get_or, length, refl, subst, sym, take}
use Rattle.std.specs.Prelude.{Result}
use Rattle.std.proofs.lemmas.Grind.{flat_map-append}
use Rattle.std.proofs.lemmas.List.{take_more}
use Rattle.std.specs.Option.{option_to_list}
use Rattle.nest_core.specs.Museum.{Museum}
use Rattle.posting_core.specs.declared.message.Message.{Message}
use Rattle.posting_core.specs.Book.{Book}
use Rattle.line_files.specs.declared.gap_fault.GapFault.{GapFault}
use Rattle.line_files.specs.Gaps.{next_number}
use Rattle.table_core.specs.declared.row.TableLine.{TableLine}
use Rattle.line_files.specs.Notes.{note_lines, notes, row_note}
use Rattle.line_files.specs.Trials.{after_lines, after_message, with_message}

pub after_more : (B : Book) (s : ℕ) (before after : List TableLine)
    → after_lines B s (before ++ after) ≡ after_lines (after_lines B s before) s after
after_more B s [] after = refl
after_more B s (x ∷ before) after = after_more (after_message B s x.message) s before after

pub notes_more : (B : Book) (s : ℕ) (before after : List TableLine)
    → notes B s (before ++ after) ≡ notes B s before ++ notes (after_lines B s before) s after
notes_more B s [] after = refl
notes_more B s (x ∷ before) after =
    let B' = after_message B s x.message in
    let first = option_to_list (row_note B s x) in
    ap (λ ns. first ++ ns) (notes_more B' s before after)
    ∙ sym (append_assoc first (notes B' s before) (notes (after_lines B' s before) s after))

with_keeps : (B : Book) (s : ℕ) (m : Message) (r : Result ℕ GapFault)
    → (with_message B s m r).museum ≡ B.museum
with_keeps B s m (Ok n) = refl
with_keeps B s m (Err fault) = refl

after_keeps : (B : Book) (s : ℕ) (m : Message) → (after_message B s m).museum ≡ B.museum
after_keeps B s m = with_keeps B s m (next_number B s)

lines_keep : (B : Book) (s : ℕ) (lines : List TableLine)
    → (after_lines B s lines).museum ≡ B.museum
lines_keep B s [] = refl
lines_keep B s (x ∷ lines) =
    lines_keep (after_message B s x.message) s lines ∙ after_keeps B s x.message

pub still_known : (B L : Book) (s : ℕ) (lines : List TableLine) → L ≡ after_lines B s lines
    → s < length B.museum.stations → s < length L.museum.stations
still_known B L s lines is known =
    subst (λ (M : Museum). s < length M.stations)
    (sym (ap (λ (R : Book). R.museum) is ∙ lines_keep B s lines)) known

-- The record after one more row.
pub posted_step : (B L L' : Book) (s i : ℕ) (lines : List TableLine) (line : TableLine)
    → i < length lines → line ≡ get_or lines i line → L ≡ after_lines B s (take i lines)
    → L' ≡ after_message L s line.message → L' ≡ after_lines B s (take (i + 1) lines)
posted_step B L L' s i lines line within at so_far more =
    more
    ∙ (ap (λ (R : Book). after_message R s line.message) so_far
    ∙ sym (ap (after_lines B s)
    (take_more lines i line within ∙ ap (λ x. take i lines ++ x ∷ []) (sym at))
    ∙ after_more B s (take i lines) (line ∷ [])))

-- The notes with that on one more row.
pub text_step : (prefix old new : List ℕ) (B L : Book) (s i : ℕ) (lines : List TableLine)
    (line : TableLine) → i < length lines → line ≡ get_or lines i line
    → L ≡ after_lines B s (take i lines) → old ≡ note_lines prefix (notes B s (take i lines))
    → new ≡ old ++ note_lines prefix (option_to_list (row_note L s line))
    → new ≡ note_lines prefix (notes B s (take (i + 1) lines))
text_step prefix old new B L s i lines line within at so_far is more =
    let before = notes B s (take i lines) in
    let last = option_to_list (row_note (after_lines B s (take i lines)) s line) in
    more
    ∙ (ap (λ t. t ++ note_lines prefix (option_to_list (row_note L s line))) is
    ∙ (ap (λ (R : Book). note_lines prefix before
    ++ note_lines prefix (option_to_list (row_note R s line))) so_far
    ∙ sym (ap (λ ls. note_lines prefix (notes B s ls))
    (take_more lines i line within ∙ ap (λ x. take i lines ++ x ∷ []) (sym at))
    ∙ (ap (note_lines prefix)
    (notes_more B s (take i lines) (line ∷ []) ∙ ap (λ ns. before ++ ns) (append-nil last))
    ∙ flat_map-append (λ note. prefix ++ note ++ 10 ∷ []) before last))))
