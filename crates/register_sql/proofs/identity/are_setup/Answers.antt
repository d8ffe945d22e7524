use Rattle.std.proofs.Common.{◌≡◌, ◌≢◌, ◌<◌, map, length, get_or, string_bytes, rules, arith, refl}
use Rattle.std.proofs.Common.{sym, ap, ◌∙◌}
use Rattle.std.proofs.lemmas.List.{length-map, get_or-map, take_all}
use Rattle.register_sql.specs.Says.{setup_rows_shown}
use Rattle.register_sql.proofs.Setups.{not_as_many, not_there, one_further}
use Rattle.register_sql.proofs.identity.are_setup.Goals as goal

pub returns-then-rows-texts : goal.returns-then-rows-texts
returns-then-rows-texts c =
    let texts = c.args.texts.now in
    let many : length (map string_bytes texts) ≡ length texts = length-map texts string_bytes in
    let other : length c.args.rows.now ≢ length texts = search rules in
    not_as_many c.args.rows.now (map string_bytes texts) (λ same. other (same ∙ many))

pub returns-then-not-is_setup : goal.returns-then-not-is_setup
returns-then-not-is_setup c =
    let texts = c.args.texts.now in
    let at = c.rows.at in
    let text = c.as_str.result.now in
    let same : length c.args.rows.now ≡ length texts = search rules in
    let low : at < length texts = omega (arith, same, c.rows-test.true) in
    let many : length (map string_bytes texts) ≡ length texts = length-map texts string_bytes in
    let bytes : text ≡ string_bytes c.index-texts-at.result = search rules in
    let is : text ≡ get_or (map string_bytes texts) at text =
    bytes ∙ ap string_bytes c.index-texts-at.is
    ∙ sym (get_or-map string_bytes texts at c.index-texts-at.result text low) in
    not_there c.args.rows.now (map string_bytes texts) at c.index-rows-at.result text
    c.is_setup.result (omega (arith, low, many)) c.index-rows-at.is is c.is_setup.ensures
    (search rules)

pub rows-preserved : goal.rows-preserved
rows-preserved c =
    let texts = c.args.texts.now in
    let at = c.rows.at in
    let text = c.as_str.result.now in
    let same : length c.args.rows.now ≡ length texts = search rules in
    let low : at < length texts = omega (arith, same, c.rows-test.true) in
    let many : length (map string_bytes texts) ≡ length texts = length-map texts string_bytes in
    let bytes : text ≡ string_bytes c.index-texts-at.result = search rules in
    let is : text ≡ get_or (map string_bytes texts) at text =
    bytes ∙ ap string_bytes c.index-texts-at.is
    ∙ sym (get_or-map string_bytes texts at c.index-texts-at.result text low) in
    one_further c.args.rows.now (map string_bytes texts) at c.index-rows-at.result text
    c.rows-test.true (omega (arith, low, many)) c.index-rows-at.is is
    (c.is_setup.ensures.0 (search rules)) c.rows.invariant

pub returns : goal.returns
returns c =
    let texts = c.args.texts.now in
    let rows = c.args.rows.now in
    let at = c.rows.at in
    let same : length rows ≡ length texts = search rules in
    let many : length (map string_bytes texts) ≡ length texts = length-map texts string_bytes in
    let high = c.rows-test.false in
    let all : rows ≡ setup_rows_shown (map string_bytes texts) =
    sym (take_all at rows high) ∙ c.rows.invariant ∙ ap setup_rows_shown
    (take_all at (map string_bytes texts) (omega (arith, same, many, high))) in
    (λ _. all, λ _. refl)
