-- Defines how the setup of a whole store is replaced by one that has grown.
use Rattle.nest_core.specs.Museum.{Museum}
use Rattle.register_store.specs.StoredRows.{Content, AreSame, rows_of_setup}

-- The content with the rows of this setup in place of its own.
abbrev pub with_setup : Museum → Content → Content
with_setup S c = record c { setup = rows_of_setup S }

-- The store has the rows of this setup now, and everything else is as it was.
abbrev pub IsGrown : Museum → Content → Content → Type 0
IsGrown S c d = AreSame (with_setup S c) d
