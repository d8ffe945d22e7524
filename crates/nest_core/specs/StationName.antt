-- Defines the names of stations: 1 to 16 of A to Z, a to z, 0 to 9 and the dash.
use Rattle.std.specs.Prelude.{ℕ, ◌&&◌, ◌||◌, ◌==◌, Bool, nat_lt, nat_le, List, length}
use Rattle.std.specs.Char.{is_ascii_digit, is_ascii_lowercase, is_ascii_uppercase}
use Rattle.std.specs.List.{list_all}

-- The letters, the digits and the dash, which is 45.
abbrev pub is_station_byte : ℕ → Bool
is_station_byte b = is_ascii_uppercase b || is_ascii_lowercase b || is_ascii_digit b || (b == 45)

abbrev pub is_station_name : List ℕ → Bool
is_station_name text =
    nat_lt 0 (length text) && nat_le (length text) 16 && list_all is_station_byte text
