-- The meaning of the statements that create the tables, one after another.
use Rattle.std.proofs.Common.{◌≡◌, List, ℕ, false, Ok, refl}
use Rattle.sqlite.specs.Table.{Table}
use Rattle.sqlite.specs.Schema.{Schema}
use Rattle.sqlite.specs.Command.TheVariants.{CreateTable}
use Rattle.sqlite.specs.Compile.{table_defined_by}
use Rattle.sqlite.specs.Change.{created}
use Rattle.sqlite_tied.specs.Compute.{everything}
use Rattle.sqlite.specs.Does.{lacks_sequence}
use Rattle.sqlite.specs.Listing.{understood}
use Rattle.sqlite.proofs.Callers.{IsPlain, command_of, statement_of}
use Rattle.std.specs.Fmt.{digits}
use Rattle.register_sql.specs.Making.{create_of}
use Rattle.register_sql.specs.Tables.{meta, setup, posting, spot, line, term, prefix}

-- a statement that creates a table if there is none of that name
pub record IsCreate (text : List ℕ) (schema after : Schema) (table : Table) : Type 0 where
  pub command : command_of (understood schema text) ≡ CreateTable
  pub plain : IsPlain (understood schema text)
  pub defined : table_defined_by (statement_of text (understood schema text)) ≡ Ok table
  pub makes : created schema table ≡ after
  pub counted : lacks_sequence after ≡ false

pub creates_meta : IsCreate (create_of 0) (prefix 0) (prefix 1) (record meta { tree = 0 })
unfolding understood everything digits
creates_meta = record {
  command = refl;
  plain = (refl, refl);
  defined = refl;
  makes = refl;
  counted = refl;
}

pub creates_setup : IsCreate (create_of 1) (prefix 1) (prefix 2) (record setup { tree = 0 })
unfolding understood everything digits
creates_setup = record {
  command = refl;
  plain = (refl, refl);
  defined = refl;
  makes = refl;
  counted = refl;
}

pub creates_posting : IsCreate (create_of 2) (prefix 2) (prefix 3) (record posting { tree = 0 })
unfolding understood everything digits
creates_posting = record {
  command = refl;
  plain = (refl, refl);
  defined = refl;
  makes = refl;
  counted = refl;
}

pub creates_spot : IsCreate (create_of 3) (prefix 3) (prefix 4) (record spot { tree = 0 })
unfolding understood everything digits
creates_spot = record {
  command = refl;
  plain = (refl, refl);
  defined = refl;
  makes = refl;
  counted = refl;
}

pub creates_line : IsCreate (create_of 4) (prefix 4) (prefix 5) (record line { tree = 0 })
unfolding understood everything digits
creates_line = record {
  command = refl;
  plain = (refl, refl);
  defined = refl;
  makes = refl;
  counted = refl;
}

pub creates_term : IsCreate (create_of 5) (prefix 5) (prefix 6) (record term { tree = 0 })
unfolding understood everything digits
creates_term = record {
  command = refl;
  plain = (refl, refl);
  defined = refl;
  makes = refl;
  counted = refl;
}
