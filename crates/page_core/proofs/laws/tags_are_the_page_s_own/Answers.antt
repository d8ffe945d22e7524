use Rattle.page_core.proofs.Bytes.{marks-page}
use Rattle.page_core.specs.Pages.{page}
use Rattle.page_core.proofs.laws.tags_are_the_page_s_own.Goals as goal

pub returns : goal.returns
returns c = λ B on. marks-page (page B on)
