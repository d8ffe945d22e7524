-- What a trial posts.
use Rattle.std.proofs.Common.{◌≡◌, ◌<◌, ◌++◌, ◌∷◌, ◌∙◌, [], ℕ, Bool, List, Ok, Err, ap}
use Rattle.std.proofs.Common.{append_assoc, length, map, refl, subst, sym, true, false}
use Rattle.std.specs.Prelude.{◌&&◌, IsTrue, Result, reverse}
use Rattle.std.specs.List.{list_all}
use Rattle.std.proofs.lemmas.List.{reverse-append}
use Rattle.std.specs.Option.{option_to_list}
use Rattle.posting_core.specs.declared.entry.Entry.{Entry}
use Rattle.posting_core.specs.declared.message.Message.{Message}
use Rattle.posting_core.specs.Book.{Book, verdict_in}
use Rattle.posting_core.specs.Lawful.{IsLawful}
use Rattle.posting_core.specs.Onward.{GoesOn, later}
use Rattle.posting_core.specs.VerdictNames.{is_applied}
use Rattle.line_files.specs.declared.gap_fault.GapFault.{GapFault}
use Rattle.line_files.specs.Gaps.{next_number}
use Rattle.table_core.specs.declared.row.TableLine.{TableLine}
use Rattle.line_files.specs.Notes.{note_under, notes, refusal, row_note}
use Rattle.line_files.specs.Trials.{after_lines, after_message, entry_under, with_message}
use Rattle.line_files.proofs.NoteSteps.{both_empty, without_note}
use Rattle.line_files.proofs.TrialNumbers.{follows_next}
use Rattle.line_files.proofs.TrialSteps.{still_known}

joined : (B : Book) (E L : List Entry) → later (later B E) L ≡ later B (L ++ E)
joined B E L =
    ap (λ (P : List Entry). let R : Book = record B { posted = P } in R)
    (sym (append_assoc L E B.posted))

-- The record R is B with further entries that the rules allow.
record Continues (B R : Book) : Type 0 where
  entries : List Entry
  is : R ≡ later B entries
  allowed : GoesOn B entries

message_continues : (B : Book) (s : ℕ) (m : Message) (r : Result ℕ GapFault)
    → next_number B s ≡ r → s < length B.museum.stations
    → IsLawful B.museum B.depth B.posted → Continues B (with_message B s m r)
message_continues B s m (Ok n) next known lawful = record {
  entries = entry_under B s m n ∷ [];
  is = refl;
  allowed = (follows_next B s n m known next, lawful);
}
message_continues B s m (Err fault) next known lawful =
    record { entries = []; is = refl; allowed = lawful }

both_continue : (B R T : Book) → Continues B R → Continues R T → Continues B T
both_continue B R T one two = record {
  entries = two.entries ++ one.entries;
  is = two.is
      ∙ (ap (λ (X : Book). later X two.entries) one.is ∙ joined B one.entries two.entries);
  allowed =
      subst (IsLawful B.museum B.depth) (sym (append_assoc two.entries one.entries B.posted))
      (subst (λ (X : Book). GoesOn X two.entries) one.is two.allowed);
}

now_lawful : (B R : Book) → Continues B R → IsLawful R.museum R.depth R.posted
now_lawful B R more =
    subst (λ (X : Book). IsLawful X.museum X.depth X.posted) (sym more.is) more.allowed

lines_continue : (B : Book) (s : ℕ) (lines : List TableLine) → s < length B.museum.stations
    → IsLawful B.museum B.depth B.posted → Continues B (after_lines B s lines)
lines_continue B s [] known lawful = record { entries = []; is = refl; allowed = lawful }
lines_continue B s (x ∷ lines) known lawful =
    let one = message_continues B s x.message (next_number B s) refl known lawful in
    let R = after_message B s x.message in
    both_continue B R (after_lines R s lines) one
    (lines_continue R s lines (still_known B R s (x ∷ []) refl known) (now_lawful B R one))

pub goes_on : (B : Book) (s : ℕ) (lines : List TableLine) → s < length B.museum.stations
    → IsLawful B.museum B.depth B.posted
    → (L : List Entry) × (after_lines B s lines ≡ later B L) × GoesOn B L
goes_on B s lines known lawful =
    let more = lines_continue B s lines known lawful in (more.entries, more.is, more.allowed)

-- The record R is B with an applied entry of this message.
record Applies (B R : Book) (m : Message) : Type 0 where
  entry : Entry
  is : R ≡ later B (entry ∷ [])
  message : entry.message ≡ m
  applied : IsTrue (is_applied entry.verdict)

line_applies : (B : Book) (s : ℕ) (line : TableLine) (r : Result ℕ GapFault)
    → option_to_list (note_under B line r) ≡ []
    → Applies B (with_message B s line.message r) line.message
line_applies B s line (Ok n) none = record {
  entry = entry_under B s line.message n;
  is = refl;
  message = refl;
  applied = without_note (verdict_in B line.message)
      (refusal B line (verdict_in B line.message)) none;
}
line_applies B s line (Err fault) none = absurd (cc)

and_true : (a b : Bool) → IsTrue a → IsTrue b → IsTrue (a && b)
and_true true b one two = two
and_true false b one two = absurd (cc)

-- An entry, and the entries after it.
replayed : (B R T : Book) (e : Entry) (L : List Entry) → R ≡ later B (e ∷ [])
    → T ≡ later R (reverse L) → T ≡ later B (reverse (e ∷ L))
replayed B R T e L one rest =
    rest
    ∙ (ap (λ (X : Book). later X (reverse L)) one
    ∙ (joined B (e ∷ []) (reverse L)
    ∙ ap (λ (M : List Entry). later B M) (sym (reverse-append (e ∷ []) L))))

pub all_apply : (B : Book) (s : ℕ) (lines : List TableLine) → notes B s lines ≡ []
    → (L : List Entry) × (after_lines B s lines ≡ later B (reverse L))
    × (map (λ e. e.message) L ≡ map (λ line. line.message) lines)
    × IsTrue (list_all (λ e. is_applied e.verdict) L)
all_apply B s [] none = ([], refl, refl, refl)
all_apply B s (x ∷ lines) none =
    let R = after_message B s x.message in
    let empty = both_empty (option_to_list (row_note B s x)) (notes R s lines) none in
    let one = line_applies B s x (next_number B s) empty.first in
    let rest = all_apply R s lines empty.second in (
      one.entry ∷ rest.0,
      replayed B R (after_lines R s lines) one.entry rest.0 one.is rest.1,
      ap (λ (m : Message). m ∷ map (λ (e : Entry). e.message) rest.0) one.message
          ∙ ap (λ ms. x.message ∷ ms) rest.2,
      and_true (is_applied one.entry.verdict) (list_all (λ e. is_applied e.verdict) rest.0)
          one.applied rest.3,
    )
