-- The texts of messages computed on worked rows: the messages that they spell, and the one text of
-- each.
use Rattle.std.specs.Prelude.{ℤ, pos, ◌≤ℤ◌, ◌≡◌, List, ℕ, zero, suc, [], ◌∷◌, take, refl, codes, Ok}
use Rattle.std.specs.Prelude.{Err}
use Rattle.std.specs.Str.{is_utf8, chars}
use Rattle.std.proofs.Math.Utf8.{encode}
use Rattle.std.proofs.Common.{arith, ap}
use Rattle.jiff_core.specs.Calendar.{days_from_civil, day_count, days_of_years, days_of_months}
use Rattle.jiff_core.proofs.SignedLemmas.{signed_arith}
use Rattle.json.specs.Json.{value}
use Rattle.json.specs.Lex.{punctuate, lex}
use Rattle.json.specs.Text.{content}
use Rattle.json.specs.Print.{escape_byte}
use Rattle.serde_json.specs.Data.{Data, Members, null, string, number, unsigned, array, object}
use Rattle.serde_json.specs.Data.{Items, item, no_items, no_members, put}
use Rattle.codes_core.specs.Day.{first_number, last_number, IsOnlySpelling, day_text}
use Rattle.codes_core.proofs.Days.{only_spelling}
use Rattle.codes_core.proofs.SpelledDays.{text_spells_day}
use Rattle.posting_core.specs.declared.message.Message.{Message}
use Rattle.posting_core.specs.declared.message.Message.TheVariants.{Move, Pack, Agree, Authorise}
use Rattle.posting_core.specs.declared.message.Message.TheVariants.{Exit, Return, Receive, SignOff}
use Rattle.posting_core.specs.declared.message.Message.TheVariants.{Extend}
use Rattle.register_store.specs.declared.fault.ReadFault.TheVariants.{NotJson, Missing, BadKind}
use Rattle.register_store.specs.declared.fault.ReadFault.TheVariants.{BadField}
use Rattle.register_store.specs.declared.key.Key.TheVariants.{Kind, Thing, Place, Day, By, Objects}
use Rattle.register_store.specs.declared.key.Key.TheVariants.{First}
use Rattle.register_store.specs.Kinds.{of_json, of_bytes}
use Rattle.register_store.specs.MessageText.{IsTextOf}

-- 2024-05-01
abbrev pub may : ℤ
may = pos 19844

may-spelled : IsOnlySpelling (codes "2024-05-01") may
unfolding days_from_civil day_count days_of_years days_of_months
may-spelled =
    only_spelling (record {
      year = pos 2024;
      month = 5;
      day = 1;
      year_in = (omega (arith, signed_arith), omega (arith, signed_arith));
      month_in = (omega arith, omega arith);
      day_in = (omega arith, omega arith);
    }) may refl (omega (arith, signed_arith))

-- every text that spells a day of the calendar is its only text
same_text : (text : List ℕ) (day : ℤ) → IsOnlySpelling text day → first_number ≤ℤ day
    → day ≤ℤ last_number → day_text day ≡ text
same_text text day is low high = is.only (day_text day) (text_spells_day day low high).spells

pub may-text : day_text may ≡ codes "2024-05-01"
may-text = same_text (codes "2024-05-01") may may-spelled (omega (arith, signed_arith))
    (omega (arith, signed_arith))

-- 2024-05-31
abbrev pub end_of_may : ℤ
end_of_may = pos 19874

end_of_may-spelled : IsOnlySpelling (codes "2024-05-31") end_of_may
unfolding days_from_civil day_count days_of_years days_of_months
end_of_may-spelled =
    only_spelling (record {
      year = pos 2024;
      month = 5;
      day = 31;
      year_in = (omega (arith, signed_arith), omega (arith, signed_arith));
      month_in = (omega arith, omega arith);
      day_in = (omega arith, omega arith);
    }) end_of_may refl (omega (arith, signed_arith))

pub end_of_may-text : day_text end_of_may ≡ codes "2024-05-31"
end_of_may-text = same_text (codes "2024-05-31") end_of_may end_of_may-spelled
    (omega (arith, signed_arith)) (omega (arith, signed_arith))

-- 2024-06-30
abbrev pub end_of_june : ℤ
end_of_june = pos 19904

end_of_june-spelled : IsOnlySpelling (codes "2024-06-30") end_of_june
unfolding days_from_civil day_count days_of_years days_of_months
end_of_june-spelled =
    only_spelling (record {
      year = pos 2024;
      month = 6;
      day = 30;
      year_in = (omega (arith, signed_arith), omega (arith, signed_arith));
      month_in = (omega arith, omega arith);
      day_in = (omega arith, omega arith);
    }) end_of_june refl (omega (arith, signed_arith))

end_of_june-text : day_text end_of_june ≡ codes "2024-06-30"
end_of_june-text = same_text (codes "2024-06-30") end_of_june end_of_june-spelled
    (omega (arith, signed_arith)) (omega (arith, signed_arith))

abbrev pub first_move : Message
first_move = Move may (codes "2001.4.1") (codes "S1")

abbrev pub ann : Message
ann = SignOff (codes "Ann")

-- first_run: the message as it was sent, and its one text, with its keys in ascending order

abbrev pub first_text : List ℕ
first_text =
    codes "{\"day\":\"2024-05-01\",\"kind\":\"move\",\"place\":\"S1\",\"thing\":\"2001.4.1\"}"

first_run-sent : of_bytes
    (codes "{\"kind\":\"move\",\"thing\":\"2001.4.1\",\"place\":\"S1\",\"day\":\"2024-05-01\"}")
    ≡ Ok first_move
unfolding is_utf8 chars encode value punctuate lex content days_from_civil day_count days_of_years
    days_of_months
first_run-sent = refl

pub first_run-text : IsTextOf first_move first_text
unfolding escape_byte
first_run-text = rw may-text refl

pub first_run-reads_back : of_bytes first_text ≡ Ok first_move
unfolding is_utf8 chars encode value punctuate lex content days_from_civil day_count days_of_years
    days_of_months
first_run-reads_back = refl

pub sign_off-text : IsTextOf ann (codes "{\"by\":\"Ann\",\"kind\":\"signoff\"}")
unfolding escape_byte
sign_off-text = refl

pub sign_off-reads_back : of_bytes (codes "{\"by\":\"Ann\",\"kind\":\"signoff\"}") ≡ Ok ann
unfolding is_utf8 chars encode value punctuate lex content
sign_off-reads_back = refl

-- an agreement; its objects keep their order

abbrev pub agreed : Message
agreed = Agree may end_of_may (codes "LO2024.1") (codes "MUSEUM-X")
    (codes "2001.4.1" ∷ codes "2001.4.2" ∷ [])

abbrev pub agreed_text : List ℕ
agreed_text =
    codes "{\"first\":\"2024-05-01\",\"kind\":\"agree\",\"last\":\"2024-05-31\",\"loan\":\"LO2024.1\",\"objects\":[\"2001.4.1\",\"2001.4.2\"],\"partner\":\"MUSEUM-X\"}"

pub agree-text : IsTextOf agreed agreed_text
unfolding escape_byte
agree-text = rw (may-text, end_of_may-text) refl

pub agree-reads_back : of_bytes agreed_text ≡ Ok agreed
unfolding is_utf8 chars encode value punctuate lex content days_from_civil day_count days_of_years
    days_of_months
agree-reads_back = refl

abbrev pub extended : Message
extended = Extend end_of_june (codes "LO2024.1")

abbrev pub extended_text : List ℕ
extended_text = codes "{\"kind\":\"extend\",\"last\":\"2024-06-30\",\"loan\":\"LO2024.1\"}"

pub extend-text : IsTextOf extended extended_text
unfolding escape_byte
extend-text = rw end_of_june-text refl

pub extend-reads_back : of_bytes extended_text ≡ Ok extended
unfolding is_utf8 chars encode value punctuate lex content days_from_civil day_count days_of_years
    days_of_months
extend-reads_back = refl

-- the text of every message begins with a brace and a quote
pub begins : (m : Message) (text : List ℕ) → IsTextOf m text → take 2 text ≡ codes "{\""
begins (Move day x p) text h = ap (take 2) h
begins (Pack day x c) text h = ap (take 2) h
begins (Agree first last loan partner objects) text h = ap (take 2) h
begins (Authorise name loan) text h = ap (take 2) h
begins (Exit day x loan) text h = ap (take 2) h
begins (Return day x loan p) text h = ap (take 2) h
begins (Receive day x loan p) text h = ap (take 2) h
begins (Extend last loan) text h = ap (take 2) h
begins (SignOff name) text h = ap (take 2) h

-- other bytes of the same message are read, but aren't its text

abbrev pub spaced_text : List ℕ
spaced_text =
    codes "{ \"day\":\"2024-05-01\",\"kind\":\"move\",\"place\":\"S1\",\"thing\":\"2001.4.1\"}"

spaced-read : of_bytes spaced_text ≡ Ok first_move
unfolding is_utf8 chars encode value punctuate lex content days_from_civil day_count days_of_years
    days_of_months
spaced-read = refl

-- bad_lines

cut_short : of_bytes (codes "{\"station\":\"GAL\"") ≡ Err NotJson
unfolding is_utf8 chars encode value punctuate lex content
cut_short = refl

no_text : of_bytes (255 ∷ []) ≡ Err NotJson
unfolding is_utf8 chars encode
no_text = refl

-- an object with this kind and these other members
abbrev of : List ℕ → Members → Data
of kind members = object (put (codes "kind") (string kind) members)

abbrev with : List ℕ → List ℕ → Members → Members
with key text members = put key (string text) members

a_list : of_json (array (item (object no_members) no_items)) ≡ Err NotJson
a_list = refl

no_kind : of_json (object no_members) ≡ Err (Missing Kind)
no_kind = refl

kind_of_no_string : of_json (object (put (codes "kind") null no_members)) ≡ Err BadKind
kind_of_no_string = refl

no_such_kind : of_json (of (codes "lend") no_members) ≡ Err BadKind
no_such_kind = refl

no_thing : of_json (of (codes "move") no_members) ≡ Err (Missing Thing)
no_thing = refl

-- a wrong thing comes before a missing place
wrong_thing : of_json (of (codes "move") (with (codes "thing") (codes "2001.04") no_members))
    ≡ Err (BadField Thing)
wrong_thing = refl

no_place : of_json (of (codes "move") (with (codes "thing") (codes "2001.4.1") no_members))
    ≡ Err (Missing Place)
no_place = refl

place_of_no_string : of_json (of (codes "move")
    (with (codes "thing") (codes "2001.4.1")
    (put (codes "place") (number (unsigned 1)) no_members))) ≡ Err (BadField Place)
place_of_no_string = refl

no_day : of_json (of (codes "move")
    (with (codes "thing") (codes "2001.4.1") (with (codes "place") (codes "S1") no_members)))
    ≡ Err (Missing Day)
no_day = refl

no_such_day : of_json (of (codes "move")
    (with (codes "thing") (codes "2001.4.1")
    (with (codes "place") (codes "S1") (with (codes "day") (codes "2023-02-29") no_members))))
    ≡ Err (BadField Day)
no_such_day = refl

-- a receive with no place
no_place_received : of_json (of (codes "receive")
    (with (codes "thing") (codes "L1999.7")
    (with (codes "loan") (codes "LI2024.1") (with (codes "day") (codes "2024-05-01") no_members))))
    ≡ Err (Missing Place)
no_place_received = refl

-- an agreement's objects: 2001.4.1, this many times
abbrev many : ℕ → Items
many zero = no_items
many (suc n) = item (string (codes "2001.4.1")) (many n)

abbrev agree_on : Items → Data
agree_on objects = of (codes "agree")
    (with (codes "loan") (codes "LO2024.1")
    (with (codes "partner") (codes "MUSEUM-X") (put (codes "objects") (array objects) no_members)))

too_many : of_json (agree_on (many 257)) ≡ Err (BadField Objects)
too_many = refl

no_first : of_json (agree_on (many 256)) ≡ Err (Missing First)
no_first = refl

object_of_no_string : of_json (agree_on (item null no_items)) ≡ Err (BadField Objects)
object_of_no_string = refl

nobody : of_json (of (codes "signoff") (with (codes "by") [] no_members)) ≡ Err (BadField By)
unfolding is_utf8 chars
nobody = refl

-- keys that the kind doesn't name are ignored
more_keys : of_json (of (codes "signoff")
    (with (codes "by") (codes "Ann") (with (codes "thing") (codes "x") no_members))) ≡ Ok ann
unfolding is_utf8 chars encode
more_keys = refl
