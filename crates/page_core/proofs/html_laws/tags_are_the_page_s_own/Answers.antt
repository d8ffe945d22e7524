use Rattle.page_core.proofs.Bytes.{marks-page}
use Rattle.page_core.proofs.html_laws.tags_are_the_page_s_own.Goals as goal

pub returns : goal.returns
returns c = marks-page
