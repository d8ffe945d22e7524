-- The lines of messages, numbered one after the other.
use Rattle.std.proofs.Common.{ℕ, ◌≡◌, ◌+◌, ◌<◌, ◌≤◌, ◌++◌, ◌∷◌, [], List, Some, arith, refl}
use Rattle.std.proofs.Common.{ap, sym, subst, ◌∙◌, length, get_or, take, append_assoc}
use Rattle.std.specs.List.{slice_get}
use Rattle.std.proofs.lemmas.List.{append-nil, length-take-le}
use Rattle.std.proofs.lemmas.Option.{slice_get_read, slice_get_within}
use Rattle.posting_core.specs.declared.message.Message.{Message}
use Rattle.count_core.proofs.Ranges.{take_with}
use Rattle.register_store.specs.SentLines.{sent_line, ReadsAs}
use Rattle.line_files.specs.AuditLines.{EachReads, Reads, lines_from}

-- one more message has the next number
pub lines_from-push : (station : List ℕ) (n : ℕ) (ms : List Message) (m : Message)
    → lines_from station n (ms ++ m ∷ [])
    ≡ lines_from station n ms ++ (sent_line station (n + length ms) m ++ 10 ∷ [])
lines_from-push station n [] m =
    append-nil (sent_line station n m ++ 10 ∷ [])
    ∙ ap (λ k. sent_line station k m ++ 10 ∷ []) (let e : n ≡ n + 0 = omega arith in e)
lines_from-push station n (x ∷ xs) m =
    ap (λ text. (sent_line station n x ++ 10 ∷ []) ++ text) (lines_from-push station (n + 1) xs m)
    ∙ (ap (λ k. (sent_line station n x ++ 10 ∷ [])
    ++ (lines_from station (n + 1) xs ++ (sent_line station k m ++ 10 ∷ [])))
    (let e : n + 1 + length xs ≡ n + length (x ∷ xs) = omega arith in e)
    ∙ sym (append_assoc (sent_line station n x ++ 10 ∷ []) (lines_from station (n + 1) xs)
    (sent_line station (n + length (x ∷ xs)) m ++ 10 ∷ [])))

-- one more line of a list of messages
pub one_more : (station : List ℕ) (first i : ℕ) (ms : List Message) (m : Message)
    (before after : List ℕ) → i < length ms → m ≡ get_or ms i m
    → before ≡ lines_from station first (take i ms)
    → after ≡ before ++ (sent_line station (first + i) m ++ 10 ∷ [])
    → after ≡ lines_from station first (take (i + 1) ms)
one_more station first i ms m before after within is so_far e =
    let at : slice_get ms i ≡ Some m = slice_get_read ms (length ms) i m refl within is in
    let short : i ≤ length ms = omega arith in
    e ∙ (ap (λ b. b ++ (sent_line station (first + i) m ++ 10 ∷ [])) so_far
    ∙ (ap (λ k. lines_from station first (take i ms)
    ++ (sent_line station (first + k) m ++ 10 ∷ [])) (sym (length-take-le i ms short))
    ∙ (sym (lines_from-push station first (take i ms) m)
    ∙ ap (lines_from station first) (sym (take_with ms i m within at)))))

-- and it reads back
pub reads_here : (station : List ℕ) (first i : ℕ) (ms : List Message) (m : Message)
    → i < length ms → m ≡ get_or ms i m
    → ReadsAs station (first + i) m (sent_line station (first + i) m) → Reads station first ms i
reads_here station first i ms m within is reads =
    λ (other : Message) at.
    let here : slice_get ms i ≡ Some m = slice_get_read ms (length ms) i m refl within is in
    let same : m ≡ other = cc in
    subst (λ z. ReadsAs station (first + i) z (sent_line station (first + i) z)) same reads

pub each_reads : (station : List ℕ) (first : ℕ) (ms : List Message)
    → ((k : ℕ) → k < length ms → Reads station first ms k) → EachReads station first ms
each_reads station first ms all = λ k m at. all k (slice_get_within ms k m at) m at

-- the same station and the same messages
pub reads_of : (station other : List ℕ) (first : ℕ) (ms ns : List Message) → station ≡ other
    → ms ≡ ns → EachReads station first ms → EachReads other first ns
reads_of station other first ms ns same alike all =
    subst (λ name. EachReads name first ns) same (subst (EachReads station first) alike all)
