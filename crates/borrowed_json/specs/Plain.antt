-- Defines the texts that are read.
use Rattle.std.specs.Prelude.{ℕ, ◌≡◌, ◌^◌, Bool, true, false, not, ◌==◌, ◌&&◌}
use Rattle.std.specs.Prelude.{nat_lt, List}
use Rattle.std.specs.List.{list_all}
use Rattle.std.specs.Char.{is_ascii_digit}
use Rattle.std.specs.Str.Parse.{digits_value}
use Rattle.json.specs.Token.{Token}
use Rattle.json.specs.Lex.{Lexeme, token, comma, colon, between, lex}

-- A whole number without a sign, of at most 64 bits.
abbrev pub is_whole_number : List ℕ → Bool
is_whole_number s = list_all is_ascii_digit s && nat_lt (digits_value 10 s) (2 ^ 64)

-- A token that a line of input has: no true, false or null, and no other number.
abbrev pub is_plain_token : Token → Bool
is_plain_token Token.begin_object = true
is_plain_token Token.end_object = true
is_plain_token Token.begin_array = true
is_plain_token Token.end_array = true
is_plain_token (Token.key s) = true
is_plain_token (Token.string s) = true
is_plain_token (Token.number s) = is_whole_number s
is_plain_token (Token.boolean b) = false
is_plain_token Token.null = false
is_plain_token Token.bad = true

abbrev pub is_plain_lexeme : Lexeme → Bool
is_plain_lexeme (token t) = is_plain_token t
is_plain_lexeme comma = true
is_plain_lexeme colon = true

-- The text has no backslash, so no escape, and only plain tokens. A value in such a text is read.
pub record IsPlain (text : List ℕ) : Type 0 where
  pub no_backslash : list_all (λ b. not (b == 92)) text ≡ true
  pub plain_tokens : list_all is_plain_lexeme (lex between text) ≡ true
