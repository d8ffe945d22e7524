-- The text of a note on a missing object, piece by piece.
use Rattle.std.proofs.Common.{ℕ, ◌≡◌, ◌++◌, [], List, Result, Ok, Err, OnOk, ap, ◌∙◌, codes}
use Rattle.std.proofs.Common.{append_assoc, append-nil}
use Rattle.posting_core.specs.Book.{Book}
use Rattle.count_core.specs.declared.answer.MissingObject.{MissingObject}
use Rattle.line_files.specs.AuditNotes.{at_words, in_words, missing_note, thing_text}

-- five pieces, one after another
in_order : (before head code inside at end one two three four : List ℕ)
    → one ≡ before ++ (head ++ (code ++ [])) → two ≡ one ++ inside → three ≡ two ++ at
    → four ≡ three ++ (end ++ []) → four ≡ before ++ (head ++ code ++ inside ++ at ++ end)
in_order before head code inside at end one two three four first second third fourth =
    let coded : one ≡ before ++ (head ++ code) =
    first ∙ ap (λ x. before ++ (head ++ x)) (append-nil code) in
    let held : two ≡ before ++ (head ++ code ++ inside) =
    second ∙ (ap (λ x. x ++ inside) coded ∙ append_assoc before (head ++ code) inside) in
    let placed : three ≡ before ++ (head ++ code ++ inside ++ at) =
    third ∙ (ap (λ x. x ++ at) held ∙ append_assoc before (head ++ code ++ inside) at) in
    fourth ∙ (ap (λ x. three ++ x) (append-nil end)
    ∙ (ap (λ x. x ++ end) placed ∙ append_assoc before (head ++ code ++ inside ++ at) end))

-- the note, if its last piece was added
pub missing_noted : {T E : Type 0} (r : Result T E) (B : Book) (missed : MissingObject)
    (code before one two three four : List ℕ) → code ≡ thing_text B.museum missed.object
    → one ≡ before ++ (codes "missing: " ++ (code ++ []))
    → two ≡ one ++ in_words B missed.object → three ≡ two ++ at_words B missed.object
    → OnOk r (four ≡ three ++ (codes " on record\n" ++ []))
    → OnOk r (four ≡ before ++ missing_note B missed)
missing_noted (Ok x) B missed code before one two three four is first second third fourth =
    in_order before (codes "missing: ") (thing_text B.museum missed.object)
    (in_words B missed.object) (at_words B missed.object) (codes " on record\n") one two three four
    (first ∙ ap (λ text. before ++ (codes "missing: " ++ (text ++ []))) is) second third fourth
missing_noted (Err e) B missed code before one two three four is first second third fourth = fourth
