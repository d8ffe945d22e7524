-- The line of a message reads as that message.
use Rattle.std.specs.Prelude.{ℕ, ◌≡◌, ◌<◌, ◌^◌, true, List, Ok, refl}
use Rattle.std.proofs.Common.{sym, ◌∙◌}
use Rattle.std.proofs.lemmas.Str.{IsUtf8-from_is_utf8, is_utf8-from_IsUtf8}
use Rattle.json.specs.Print.{print}
use Rattle.serde_json.proofs.Texts.{print-outline}
use Rattle.nest_core.specs.StationName.{is_station_name}
use Rattle.posting_core.specs.declared.message.Message as message
use Rattle.register_store.specs.Kinds.{of_bytes}
use Rattle.register_store.specs.MessageText.{json, body_of}
use Rattle.register_store.specs.SentLines.{line_tokens, sent_line, ReadsAs}
use Rattle.register_store.proofs.LineTexts.{sorted, written, text_written, read_line, utf8_line}
use Rattle.register_store.proofs.MessageTexts.{numbers, shallow, back, spelled}
use Rattle.register_store.proofs.StationNames.{bytes_of_name}

-- the line has its tokens
pub is_sent : (station : List ℕ) (n : ℕ) (m : message.Message)
    → is_station_name station ≡ true → print (line_tokens station n m) ≡ sent_line station n m
is_sent station n m name =
    print-outline (written station n (json m))
    ∙ sym (text_written station n (json m) (bytes_of_name station name))

-- and reads as the message
pub reads_as : (station : List ℕ) (n : ℕ) (m : message.Message) → n < 2 ^ 64
    → is_station_name station ≡ true → of_bytes (body_of m) ≡ Ok m
    → ReadsAs station n m (sent_line station n m)
reads_as station n m small name reads =
    let plain = bytes_of_name station name in
    let message = spelled m reads in
    record {
      utf8 = is_utf8-from_IsUtf8 (sent_line station n m)
          (utf8_line station n (body_of m) small plain (IsUtf8-from_is_utf8 (body_of m) message.0));
      value = sorted station n (json m);
      json = read_line station n (json m) small plain (numbers m) (shallow m) (back m);
      is_line = record {
        is_object = refl;
        has_station = refl;
        no_question = refl;
        has_number = refl;
        body = json m;
        has_message = refl;
        is_message = record { is_object = refl; spells = message.1 };
      };
    }
