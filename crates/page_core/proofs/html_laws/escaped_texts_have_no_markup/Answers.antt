use Rattle.page_core.proofs.Bytes.{marks-escaped, references-escaped}
use Rattle.page_core.proofs.html_laws.escaped_texts_have_no_markup.Goals as goal

pub returns : goal.returns
returns c = record { marks = marks-escaped; references = references-escaped }
