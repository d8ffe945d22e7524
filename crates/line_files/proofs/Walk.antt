-- The findings of one more line, and the messages that it makes known.
use Rattle.std.proofs.Common.{◌≡◌, ℕ, ◌+◌, ◌<◌, ◌≤◌, ◌==◌, Bool}
use Rattle.std.proofs.Common.{true, false, List, [], ◌∷◌, ◌++◌, length}
use Rattle.std.proofs.Common.{get_or, take, drop, map, Option}
use Rattle.std.proofs.Common.{Some, None, if◌then◌else◌, refl, sym, ap}
use Rattle.std.proofs.Common.{◌∙◌, append_assoc, append-nil, arith, Bor}
use Rattle.std.proofs.Math.ListN.{drop_of_length-le}
use Rattle.std.proofs.lemmas.Bool.{eqb-true}
use Rattle.std.proofs.lemmas.List.{map-append, take_more, at_drop_more, get_or-map, length-map}
use Rattle.std.proofs.lemmas.List.{take-append-drop}
use Rattle.std.proofs.lemmas.Grind.{flat_map-append}
use Rattle.nest_core.specs.Museum.{Museum}
use Rattle.posting_core.specs.declared.entry.Entry.{Entry}
use Rattle.posting_core.specs.declared.message.Message.{Message}
use Rattle.station_core.specs.Runs.{message_at}
use Rattle.hub_core.specs.Lines.{is_empty}
use Rattle.hub_core.specs.Points.{arrival_of}
use Rattle.line_files.specs.declared.finding.Finding.{Finding}
use Rattle.line_files.specs.declared.finding.Found.{Found}
use Rattle.line_files.specs.declared.reading.Reading.{Reading}
use Rattle.line_files.specs.declared.reading.Reading.TheVariants.{Numbered, Bad}
use Rattle.line_files.specs.Known.{Messages, message_of, line_messages, file_messages, with_entry}
use Rattle.line_files.specs.Known.{with_message, with_reading, with_line}
use Rattle.line_files.specs.Readings.{reading}
use Rattle.line_files.specs.Standings.{beside, finding, line_finding, found_at, findings}
use Rattle.line_files.proofs.Numbers.{has_more, has_other}

abbrev pub Lookup : Type 0
Lookup = ℕ → Option Message

-- the messages under numbers are those of the list
abbrev pub Has : Lookup → ℕ → Messages → Type 0
Has known s them = (q : ℕ) → known q ≡ message_at them s q

-- one more entry of the record
entry_by : (b : Bool) (known next : Lookup) (s : ℕ) (them : Messages) (e : Entry)
    → (e.station == s) ≡ b → (b ≡ true → e.station ≡ s) → Has known s them
    → ((q : ℕ) → next q ≡ (if b then with_message known e.n e.message q else known q))
    → Has next s (them ++ arrival_of e ∷ [])
entry_by true known next s them e is same has by =
    let at : e.station ≡ s = same refl in
    rw at (has_more known next s them e.n e.message has by)
entry_by false known next s them e is same has by =
    has_other next s them (arrival_of e) (λ q. by q ∙ has q) is

pub entry_more : (known next : Lookup) (s : ℕ) (entries : List Entry) (i : ℕ) (e : Entry)
    → i < length entries → e ≡ get_or entries i e
    → Has known s (map arrival_of (take i entries))
    → ((q : ℕ) → next q ≡ with_entry s known e q)
    → Has next s (map arrival_of (take (i + 1) entries))
entry_more known next s entries i e below is has by q =
    entry_by (e.station == s) known next s (map arrival_of (take i entries)) e refl
    (eqb-true e.station s) has by q
    ∙ ap (λ them. message_at them s q) (sym (ap (map arrival_of) (take_more entries i e below)
    ∙ (map-append arrival_of (take i entries) (get_or entries i e ∷ [])
    ∙ ap (λ (x : Entry). map arrival_of (take i entries) ++ arrival_of x ∷ []) (sym is))))

-- one more reading
has_reading : (known next : Lookup) (s : ℕ) (them : Messages) (read : Reading) → Has known s them
    → ((q : ℕ) → next q ≡ with_reading known read q) → Has next s (them ++ message_of s read)
has_reading known next s them (Numbered n m) has by q =
    has_more known next s them n m has by q
has_reading known next s them (Bad fault) has by q =
    by q ∙ has q ∙ ap (λ ms. message_at ms s q) (sym (append-nil them))

line_by : (b : Bool) (known next : Lookup) (s : ℕ) (them : Messages) (read : Reading)
    → Has known s them
    → ((q : ℕ) → next q ≡ (if b then known q else with_reading known read q))
    → Has next s (them ++ (if b then [] else message_of s read))
line_by true known next s them read has by q =
    by q ∙ has q ∙ ap (λ ms. message_at ms s q) (sym (append-nil them))
line_by false known next s them read has by q = has_reading known next s them read has by q

module _ (S : Museum) (s : ℕ) where
  pub has_line : (known next : Lookup) (them : Messages) (line : List ℕ) → Has known s them
      → ((q : ℕ) → next q ≡ with_line S s known line q)
      → Has next s (them ++ line_messages S s line)
  has_line known next them line has by =
      line_by (is_empty line) known next s them (reading S s line) has by

  messages_more : (ls : List (List ℕ)) (i : ℕ) (line : List ℕ) → i < length ls
      → line ≡ get_or ls i line
      → file_messages S s (take (i + 1) ls)
      ≡ file_messages S s (take i ls) ++ line_messages S s line
  messages_more ls i line below is =
      ap (file_messages S s) (take_more ls i line below)
      ∙ (flat_map-append (line_messages S s) (take i ls) (get_or ls i line ∷ [])
      ∙ (ap (λ ms. file_messages S s (take i ls) ++ ms)
      (append-nil (line_messages S s (get_or ls i line)))
      ∙ ap (λ l. file_messages S s (take i ls) ++ line_messages S s l) (sym is)))

  them_more : (them : Messages) (ls : List (List ℕ)) (i : ℕ) (line : List ℕ) → i < length ls
      → line ≡ get_or ls i line
      → (them ++ file_messages S s (take i ls)) ++ line_messages S s line
      ≡ them ++ file_messages S s (take (i + 1) ls)
  them_more them ls i line below is =
      append_assoc them (file_messages S s (take i ls)) (line_messages S s line)
      ∙ ap (λ ms. them ++ ms) (sym (messages_more ls i line below is))

  pub known_more : (known next : Lookup) (them : Messages) (ls : List (List ℕ)) (i : ℕ)
      (line : List ℕ) → i < length ls → line ≡ get_or ls i line
      → Has known s (them ++ file_messages S s (take i ls))
      → ((q : ℕ) → next q ≡ with_line S s known line q)
      → Has next s (them ++ file_messages S s (take (i + 1) ls))
  known_more known next them ls i line below is has by q =
      has_line known next (them ++ file_messages S s (take i ls)) line has by q
      ∙ ap (λ ms. message_at ms s q) (them_more them ls i line below is)

  -- the same messages lead to the same finding
  same_finding : (known them : Lookup) (read : Reading) → ((q : ℕ) → known q ≡ them q)
      → finding known read ≡ finding them read
  same_finding known them (Numbered n m) has = ap (beside n m) (has n)
  same_finding known them (Bad fault) has = refl

  same_line : (known them : Lookup) (line : List ℕ) → ((q : ℕ) → known q ≡ them q)
      → line_finding S s known line ≡ line_finding S s them line
  same_line known them line has =
      ap (λ f. if is_empty line then None else Some f)
      (same_finding known them (reading S s line) has)

  -- the findings go after those that are there
  pub findings_more : (known : Lookup) (them : Messages) (ls : List (List ℕ)) (i : ℕ)
      (line : List ℕ) (before after whole : List Found) (one : Option Finding) → i < length ls
      → line ≡ get_or ls i line → Has known s (them ++ file_messages S s (take i ls))
      → one ≡ line_finding S s known line → after ≡ before ++ found_at (i + 1) one
      → before ++ findings S s (them ++ file_messages S s (take i ls)) (i + 1) (drop i ls) ≡ whole
      → after ++ findings S s (them ++ file_messages S s (take (i + 1) ls)) (i + 1 + 1)
      (drop (i + 1) ls) ≡ whole
  findings_more known them ls i line before after whole one below is has found by so_far =
      let now = them ++ file_messages S s (take i ls) in
      let more = findings S s (them ++ file_messages S s (take (i + 1) ls)) (i + 1 + 1)
      (drop (i + 1) ls) in
      let step : findings S s now (i + 1) (drop i ls) ≡ found_at (i + 1) one ++ more =
      at_drop_more (findings S s now (i + 1)) ls i line below
      ∙ (ap (λ l. findings S s now (i + 1) (l ∷ drop (i + 1) ls)) (sym is)
      ∙ (ap (λ f. found_at (i + 1) f ++ findings S s (now ++ line_messages S s line) (i + 1 + 1)
      (drop (i + 1) ls)) (sym (found ∙ same_line known (message_at now s) line has))
      ∙ ap (λ ms. found_at (i + 1) one ++ findings S s ms (i + 1 + 1) (drop (i + 1) ls))
      (them_more them ls i line below is))) in
      ap (λ fs. fs ++ more) by
      ∙ (append_assoc before (found_at (i + 1) one) more
      ∙ (ap (λ fs. before ++ fs) (sym step) ∙ so_far))

abbrev Lines : Type 0
Lines = List (Bor (List ℕ))

abbrev text : Bor (List ℕ) → List ℕ
text line = line.now

pub line_at : (lines : Lines) (i : ℕ) (d : Bor (List ℕ)) → i < length lines
    → (get_or lines i d).now ≡ get_or (map text lines) i (get_or lines i d).now
line_at lines i d below = sym (get_or-map text lines i d (get_or lines i d).now below)

pub within : (lines : Lines) (i : ℕ) → i < length lines → i < length (map text lines)
within lines i below = let same = length-map lines text in omega (arith, same, below)

pub to_end : (lines : Lines) (i : ℕ) → length lines ≤ i → length (map text lines) ≤ i
to_end lines i past = let same = length-map lines text in omega (arith, same, past)

-- at the end of the lines
take_all : (ls : List (List ℕ)) (i : ℕ) → length ls ≤ i → take i ls ≡ ls
take_all ls i past =
    sym (append-nil (take i ls))
    ∙ (ap (λ more. take i ls ++ more) (sym (drop_of_length-le ls past)) ∙ take-append-drop i ls)

pub none_left : {Y : Type 0} (F : List (List ℕ) → List Y) (ls : List (List ℕ)) (i : ℕ)
    (before whole : List Y) → F [] ≡ [] → length ls ≤ i → before ++ F (drop i ls) ≡ whole
    → before ≡ whole
none_left F ls i before whole none past so_far =
    sym (append-nil before)
    ∙ (ap (λ ys. before ++ ys) (sym (ap F (drop_of_length-le ls past) ∙ none)) ∙ so_far)

pub known_all : (S : Museum) (s : ℕ) (known : Lookup) (them : Messages) (ls : List (List ℕ)) (i : ℕ)
    → length ls ≤ i → Has known s (them ++ file_messages S s (take i ls))
    → Has known s (them ++ file_messages S s ls)
known_all S s known them ls i past has q =
    has q ∙ ap (λ l. message_at (them ++ file_messages S s l) s q) (take_all ls i past)

pub known_at_first : (s : ℕ) (known : Lookup) (them : Messages) → Has known s them
    → Has known s (them ++ [])
known_at_first s known them has q =
    has q ∙ ap (λ ms. message_at ms s q) (sym (append-nil them))

pub findings_at_first : (S : Museum) (s : ℕ) (them : Messages) (ls : List (List ℕ))
    → findings S s (them ++ []) 1 ls ≡ findings S s them 1 ls
findings_at_first S s them ls = ap (λ ms. findings S s ms 1 ls) (append-nil them)
