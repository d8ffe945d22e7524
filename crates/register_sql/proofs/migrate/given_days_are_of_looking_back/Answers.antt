use Rattle.register_sql.proofs.Migrations.{given_are_of_looking_back}
use Rattle.register_sql.proofs.migrate.given_days_are_of_looking_back.Goals as goal

pub returns : goal.returns
returns c = given_are_of_looking_back
