-- Defines the printed text of a log.
use Rattle.std.specs.Prelude.{ℕ, List, [], ◌++◌, take, reverse, codes}
use Rattle.nest_core.specs.Museum.{Museum}
use Rattle.posting_core.specs.declared.entry.Entry.{Entry}
use Rattle.hub_core.specs.declared.hub.answer.Answer.{Answer}
use Rattle.hub_core.specs.declared.hub.answer.Answer.TheVariants.{Refused, Held, Posted}
use Rattle.hub_core.specs.LineText.{answer_text, fault_text, place_text, station_text}
use Rattle.hub_core.specs.Replies.{asked_line, bad_line}
use Rattle.serve_core.specs.declared.item.Item.{Item}
use Rattle.serve_core.specs.declared.item.Item.TheVariants.{Scan, Ask, Bad}
use Rattle.serve_core.specs.declared.item.LineFault.{LineFault}
use Rattle.serve_core.specs.declared.item.LineFault.TheVariants.{TooLong, Read}
use Rattle.serve_core.specs.declared.item.LogLine.{LogLine}
use Rattle.serve_core.specs.declared.item.Reply.{Reply}
use Rattle.serve_core.specs.declared.item.Reply.TheVariants.{Answered, Found, Unread}

-- The name of a feed line's fault.
abbrev pub line_fault_text : LineFault → List ℕ
line_fault_text TooLong = codes "TooLong"
line_fault_text (Read fault) = fault_text fault

-- A faulty line of a station's feed: GAL line 3 bad NotJson.
abbrev pub bad_item_line : List ℕ → ℕ → LineFault → List ℕ
bad_item_line station line fault =
    station ++ codes " " ++ bad_line line (line_fault_text fault)

-- The entries, of O with the oldest first, up to the last one posted with this answer.
abbrev pub up_to : Answer → List Entry → List Entry
up_to (Refused refusal) O = O
up_to Held O = O
up_to (Posted first last) O = take last O

-- The reply to an item of station s, in the words of a replay. A log has no other pair of item and
-- reply.
abbrev pub item_text : Museum → List Entry → ℕ → Item → Reply → List ℕ
item_text S O s (Scan n message) (Answered answer) =
    answer_text (station_text S s) n (reverse (up_to answer O)) answer
item_text S O s (Ask code) (Found place) = asked_line (station_text S s) code (place_text S place)
item_text S O s (Bad line fault) Unread = bad_item_line (station_text S s) line fault
item_text S O s _ _ = []

-- The text of a line of a log. O has the posted entries, oldest first.
abbrev pub logged_text : Museum → List Entry → LogLine → List ℕ
logged_text S O l = item_text S O l.station l.item l.reply
