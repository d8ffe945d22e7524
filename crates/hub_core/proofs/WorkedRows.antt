-- The definitions computed on worked rows.
use Rattle.std.specs.Fmt.{digits}
use Rattle.std.specs.Prelude.{ℕ, pos, ◌≡◌, true, false, [], ◌∷◌, None, Some, refl, codes}
use Rattle.std.specs.Prelude.{slice_index, Ok, Err}
use Rattle.serde_json.proofs.OnLiterals.{serde_json_on_literals}
use Rattle.serde_json.specs.Read.{read}
use Rattle.serde_json.specs.Data.{Data, Members, string, number, unsigned, array, object, no_items}
use Rattle.serde_json.specs.Data.{no_members, put}
use Rattle.nest_core.specs.Museum.{Museum}
use Rattle.posting_core.specs.declared.message.Message.TheVariants.{Move}
use Rattle.posting_core.specs.declared.verdict.Verdict.TheVariants as verdict
use Rattle.station_core.specs.declared.Refusal.TheVariants.{BadNumber, Double, TooEarly}
use Rattle.station_core.specs.Series.{window}
use Rattle.station_core.specs.Runs.{arrived}
use Rattle.register_store.specs.declared.fault.ReadFault.TheVariants.{NotJson, Missing, BadField}
use Rattle.register_store.specs.declared.key.Key.TheVariants as key
use Rattle.hub_core.specs.declared.hub.answer.Arrival.{Arrival}
use Rattle.hub_core.specs.declared.hub.answer.Answer.TheVariants.{Refused, Held, Posted}
use Rattle.hub_core.specs.declared.hub.answer.Where.TheVariants.{UnknownThing, Unplaced, At}
use Rattle.hub_core.specs.declared.line.request.Request.TheVariants.{Scan, Ask}
use Rattle.hub_core.specs.declared.outcome.Outcome.TheVariants as outcome
use Rattle.hub_core.specs.declared.line.reply.TheConstants.{LONGEST_LINE}
use Rattle.hub_core.specs.declared.stream.head.TheConstants.{LONGEST_HEAD}
use Rattle.hub_core.specs.Lines.{without_return, lines, ended, head, after_head}
use Rattle.hub_core.specs.LineText.{station_reply}
use Rattle.hub_core.specs.Outcomes.{station_outcomes, request_outcomes}
use Rattle.hub_core.specs.Tallies.{tally_of, is_clean}
use Rattle.hub_core.specs.Requests.{line_of, object_of, request_read}
use Rattle.hub_core.specs.Points.{reply, posted, whereabouts, cut}
use Rattle.hub_core.specs.Replies.{refused_line, unknown_station_line, held_line, posted_line}
use Rattle.hub_core.specs.Replies.{bad_line, asked_line}

abbrev museum : Museum
museum = record {
  stations = codes "GAL" ∷ [];
  places = (codes "S1", true) ∷ [];
  things = (codes "2001.4.1", Some 0) ∷ [];
  growths = [];
}

longest_line : LONGEST_LINE ≡ 16384
longest_line = refl

longest_head : LONGEST_HEAD ≡ 8388608
longest_head = refl

-- number n of GAL moves the object to S1
abbrev moved : ℕ → Arrival
moved n = record { station = 0; n = n; message = Move (pos 19844) (codes "2001.4.1") (codes "S1") }

pub held : reply museum 12 [] [] (moved 2) ≡ Held
unfolding window
held = refl

pub held_then_posted : reply museum 12 [] (moved 2 ∷ []) (moved 1) ≡ Posted 1 2
unfolding window
held_then_posted = refl

pub double : reply museum 12 [] (moved 2 ∷ []) (moved 2) ≡ Refused Double
unfolding window
double = refl

pub window_edge : reply museum 12 [] [] (moved 257) ≡ Refused TooEarly
unfolding window
window_edge = refl

pub no_number : reply museum 12 [] [] (moved 0) ≡ Refused BadNumber
unfolding window
no_number = refl

-- GAL's messages may come in any order, and are posted in theirs
pub one_station : cut 0 (posted museum 12 [] (moved 2 ∷ moved 1 ∷ [])) ≡ arrived 0 1
    (moved 1).message ∷ arrived 0 2 (moved 2).message ∷ []
unfolding window
one_station = refl

pub at_a_place : whereabouts museum (posted museum 12 [] (moved 1 ∷ []))
    (codes "2001.4.1") ≡ At 0 []
unfolding window
at_a_place = refl

pub nothing_posted : whereabouts museum [] (codes "2001.4.1") ≡ Unplaced
nothing_posted = refl

pub not_in_the_setup : whereabouts museum [] (codes "2009.1") ≡ UnknownThing
not_in_the_setup = refl

pub returned : without_return (codes "a\r") ≡ codes "a"
returned = refl

-- a line of GAL with these other members
abbrev of_gal : Members → Data
of_gal members = object (put (codes "station") (string (codes "GAL")) members)

pub question : line_of museum (of_gal (put (codes "ask") (string (codes "2001.4.1")) no_members))
    ≡ Ok (record { station = Some 0; request = Ask (codes "2001.4.1") })
question = refl

pub wrong_question : line_of museum
    (of_gal (put (codes "ask") (string (codes "2001.04")) no_members)) ≡ Err (BadField key.Ask)
wrong_question = refl

pub no_request : line_of museum (of_gal no_members) ≡ Err (Missing key.N)
no_request = refl

pub no_message : line_of museum (of_gal (put (codes "n") (number (unsigned 1)) no_members))
    ≡ Err (Missing key.Message)
no_message = refl

pub no_station : line_of museum (object no_members) ≡ Err (Missing key.Station)
no_station = refl

pub a_list : line_of museum (array no_items) ≡ Err NotJson
a_list = refl

-- a line of a feed: its station is ignored
pub question_of_any : object_of (object (put (codes "ask") (string (codes "2001.4.1")) no_members))
    ≡ Ok (Ask (codes "2001.4.1"))
question_of_any = refl

pub no_request_of_any : object_of (object no_members) ≡ Err (Missing key.N)
no_request_of_any = refl

pub a_list_of_any : object_of (array no_items) ≡ Err NotJson
a_list_of_any = refl

pub no_json_of_any : request_read None ≡ Err NotJson
no_json_of_any = refl

-- the same, read from a file
pub question_of_none : request_read (read (codes "{\"station\":\"NONE\",\"ask\":\"2001.4.1\"}"))
    ≡ Ok (Ask (codes "2001.4.1"))
unfolding serde_json_on_literals
question_of_none = refl

pub cut_off : request_read (read (codes "{\"station\":\"GAL\"")) ≡ Err NotJson
unfolding serde_json_on_literals
cut_off = refl

pub first_run : posted_line (codes "GAL") 1 1 (codes "Applied") ≡ codes "GAL 1 posted 1 Applied\n"
unfolding digits
first_run = refl

pub first_run_asked : asked_line (codes "GAL") (codes "2001.4.1") (codes "at S1")
    ≡ codes "GAL ask 2001.4.1 at S1\n"
first_run_asked = refl

pub held_text : held_line (codes "GAL") 3 ≡ codes "GAL 3 held\n"
unfolding digits
held_text = refl

pub refused_text : refused_line (codes "GAL") 0 (codes "BadNumber")
    ≡ codes "GAL 0 refused BadNumber\n"
unfolding digits
refused_text = refl

pub unknown_station : unknown_station_line 5 ≡ codes "line 5 refused UnknownStation\n"
unfolding digits
unknown_station = refl

pub bad_text : bad_line 4 (codes "Missing n") ≡ codes "line 4 bad Missing n\n"
unfolding digits
bad_text = refl

-- the replies to GAL, line by line
pub first_run_move : station_reply museum 12 [] [] 0 (Scan 1 (moved 1).message)
    ≡ codes "GAL 1 posted 1 Applied\n"
unfolding window digits
first_run_move = refl

pub first_run_question : station_reply museum 12 [] (moved 1 ∷ []) 0 (Ask (codes "2001.4.1"))
    ≡ codes "GAL ask 2001.4.1 at S1\n"
unfolding window digits
first_run_question = refl

pub double_text : station_reply museum 12 [] (moved 1 ∷ []) 0 (Scan 1 (moved 1).message)
    ≡ codes "GAL 1 refused Double\n"
unfolding window digits
double_text = refl

pub posted_texts : station_reply museum 12 [] (moved 2 ∷ []) 0 (Scan 1 (moved 1).message)
    ≡ codes "GAL 1 posted 1 Applied\nGAL 2 posted 2 Applied\n"
unfolding window digits
posted_texts = refl

-- their outcomes, as a watch sees them
pub held_outcome : station_outcomes museum 12 [] [] 0 (Scan 2 (moved 2).message) ≡ outcome.Answered
    ∷ outcome.Held ∷ []
unfolding window
held_outcome = refl

pub posted_outcome : station_outcomes museum 12 [] (moved 2 ∷ []) 0 (Scan 1 (moved 1).message)
    ≡ outcome.Answered ∷ outcome.Posted verdict.Applied ∷ outcome.Posted verdict.Applied ∷ []
unfolding window
posted_outcome = refl

pub double_outcome : station_outcomes museum 12 [] (moved 1 ∷ []) 0 (Scan 1 (moved 1).message)
    ≡ outcome.Answered ∷ outcome.Refused Double ∷ []
unfolding window
double_outcome = refl

pub question_outcome : station_outcomes museum 12 [] [] 0 (Ask (codes "2001.4.1"))
    ≡ outcome.Answered ∷ outcome.Asked ∷ []
question_outcome = refl

pub unknown_outcome : request_outcomes museum 12 [] [] None (Ask (codes "2001.4.1"))
    ≡ outcome.Answered ∷ outcome.UnknownStation ∷ []
unknown_outcome = refl

-- two entries from one line
pub two_posted : slice_index
    (tally_of (outcome.Answered ∷ outcome.Posted verdict.Applied ∷ outcome.Posted verdict.Applied
    ∷ [])).posted 0 ≡ 2
two_posted = refl

pub one_line :
    (tally_of (outcome.Answered ∷ outcome.Posted verdict.Applied ∷ outcome.Posted verdict.Applied
    ∷ [])).lines ≡ 1
one_line = refl

pub clean : is_clean
    (tally_of (outcome.Answered ∷ outcome.Held ∷ outcome.Answered ∷ outcome.Posted verdict.Applied
    ∷ [])) ≡ true
clean = refl

pub not_clean : is_clean (tally_of (outcome.Answered ∷ outcome.Posted verdict.NotHere ∷ [])) ≡ false
not_clean = refl

pub three_lines : lines (codes "a\r\n\nb") ≡ codes "a" ∷ [] ∷ codes "b" ∷ []
three_lines = refl

pub two_ended : ended (codes "a\n\nb") ≡ codes "a\n\n"
two_ended = refl

pub two_heads : head (codes "a\n\r\nb\n") ≡ codes "a\n"
two_heads = refl

pub after_the_head : after_head (codes "a\n\r\nb\n") ≡ codes "b\n"
after_the_head = refl

pub no_empty_line : head (codes "a\nb") ≡ codes "a\nb"
no_empty_line = refl
