use Rattle.std.proofs.Common.{List, [], ap, sym, ℕ, ◌≡◌, ◌++◌, ◌∙◌}
use Rattle.std.proofs.lemmas.List.{append-nil}
use Rattle.nest_core.specs.Museum.{Museum}
use Rattle.page_core.specs.Pieces.{page_text}
use Rattle.page_core.specs.Numbers.{day_row, entries_row, setup_row}
use Rattle.page_core.proofs.Sections.{sections-text}
use Rattle.page_core.proofs.numbers.numbers_row.Goals as goal

abbrev joined : List ℕ → List ℕ → List ℕ → List ℕ
joined a b c = a ++ (b ++ (c ++ []))

pub returns : goal.returns
returns c =
    let B = c.args.ledger.now in
    let day = day_row c.args.on in
    let setup : c.as_str.result.now ≡ page_text (setup_row B.museum) =
    c.as_str.ensures.value ∙ (c.in_ok-setup.ensures
    ∙ ap (λ (S : Museum). page_text (setup_row S)) c.setup.ensures) in
    let entries : c.as_str-2.result.now ≡ page_text (entries_row B) =
    c.as_str-2.ensures.value ∙ c.in_ok-entries.ensures in
    let last : c.as_str-3.result.now ≡ page_text day =
    c.as_str-3.ensures.value ∙ c.in_ok-day.ensures in
    c.in_ok-concat.ensures.ok
    ∙ (ap (λ t. joined t c.as_str-2.result.now c.as_str-3.result.now) setup
    ∙ (ap (λ t. joined (page_text (setup_row B.museum)) t c.as_str-3.result.now) entries
    ∙ (ap (joined (page_text (setup_row B.museum)) (page_text (entries_row B))) last
    ∙ (ap (λ t. page_text (setup_row B.museum) ++ (page_text (entries_row B) ++ t))
    (append-nil (page_text day))
    ∙ (ap (λ t. page_text (setup_row B.museum) ++ t) (sym (sections-text (entries_row B) day))
    ∙ sym (sections-text (setup_row B.museum) (entries_row B ++ day)))))))
