-- Lines as stations send them, computed on worked rows.
use Rattle.std.specs.Prelude.{◌≡◌, ◌++◌, List, ℕ, refl, codes, Ok}
use Rattle.std.specs.Str.{is_utf8, chars}
use Rattle.std.proofs.Common.{arith}
use Rattle.std.proofs.Math.Utf8.{encode}
use Rattle.std.proofs.lemmas.Fmt.{decimal_digit}
use Rattle.json.specs.Json.{value}
use Rattle.json.specs.Lex.{punctuate, lex}
use Rattle.json.specs.Text.{content, short_escape}
use Rattle.json.specs.Print.{escape_byte}
use Rattle.posting_core.specs.declared.message.Message.{Message}
use Rattle.posting_core.specs.declared.message.Message.TheVariants.{Move, SignOff}
use Rattle.register_store.specs.Kinds.{of_bytes}
use Rattle.register_store.specs.MessageText.{body_of}
use Rattle.register_store.proofs.WorkedTexts.{may, may-text}
use Rattle.register_store.specs.SentLines.{sent_line, ReadsAs}
use Rattle.register_store.proofs.Lines.{reads_as}

-- a move

abbrev moved : Message
moved = Move may (codes "1987.12.1") (codes "A-1")

abbrev moved_line : List ℕ
moved_line =
    codes "{\"station\":\"REG\",\"n\":6,\"message\":"
    ++ codes "{\"day\":\"2024-05-01\",\"kind\":\"move\",\"place\":\"A-1\",\"thing\":\"1987.12.1\"}}"

move-line : sent_line (codes "REG") 6 moved ≡ moved_line
unfolding escape_byte
move-line = rw (may-text, decimal_digit 6 (omega arith)) refl

-- a sign-off by Ann "Nan" O\Hara, whose name needs escapes

abbrev nan : Message
nan = SignOff (codes "Ann \"Nan\" O\\Hara")

abbrev signed_line : List ℕ
signed_line =
    codes "{\"station\":\"GAL-2\",\"n\":7,\"message\":"
    ++ codes "{\"by\":\"Ann \\\"Nan\\\" O\\\\Hara\",\"kind\":\"signoff\"}}"

sign_off-line : sent_line (codes "GAL-2") 7 nan ≡ signed_line
unfolding escape_byte
sign_off-line = rw (decimal_digit 7 (omega arith)) refl

sign_off-message : of_bytes (body_of nan) ≡ Ok nan
unfolding escape_byte is_utf8 chars encode value punctuate lex content short_escape
sign_off-message = refl

sign_off-reads : ReadsAs (codes "GAL-2") 7 nan (sent_line (codes "GAL-2") 7 nan)
sign_off-reads = reads_as (codes "GAL-2") 7 nan (omega arith) refl sign_off-message
