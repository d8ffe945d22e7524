use Rattle.std.proofs.Common.{◌≡◌, ◌-◌, ◌∙◌, ap, length, subst}
use Rattle.std.specs.Prelude.{IfOk, codes, string_bytes}
use Rattle.count_core.specs.Summaries.{boxes, counted, joined, object_count, ok_line}
use Rattle.count_core.proofs.summary.setup_summary.Goals as goal

pub returns : goal.returns
returns c =
    let S = c.args.setup.now in
    let stations = counted (length S.stations) (codes "station") (codes "stations") in
    let places = counted (length S.places) (codes "place") (codes "places") in
    let crates = counted (length (boxes S)) (codes "box") (codes "boxes") in
    let objects = counted (object_count S) (codes "object") (codes "objects") in
    let first : c.as_str.result.now ≡ stations =
    c.as_str.ensures.value ∙ c.in_ok-stations.ensures
    ∙ ap (λ n. counted n (codes "station") (codes "stations")) c.stations.ensures.count in
    let second : c.as_str-2.result.now ≡ places =
    c.as_str-2.ensures.value ∙ c.in_ok-places.ensures
    ∙ ap (λ n. counted n (codes "place") (codes "places")) c.places.ensures.count in
    let third : c.as_str-3.result.now ≡ crates =
    c.as_str-3.ensures.value ∙ c.in_ok-boxes.ensures
    ∙ ap (λ n. counted n (codes "box") (codes "boxes")) c.boxes-boxes.ensures.count in
    let fourth : c.as_str-4.result.now ≡ objects =
    c.as_str-4.ensures.value ∙ c.in_ok-objects.ensures
    ∙ ap (λ n. counted (n - c.boxes-boxes.result) (codes "object") (codes "objects"))
    c.things.ensures.count
    ∙ ap (λ n. counted (length S.things - n) (codes "object") (codes "objects"))
    c.boxes-boxes.ensures.count in
    let fixed : c.as_str-5.result.now ≡ joined stations places =
    c.as_str-5.ensures.value ∙ c.in_ok-fixed.ensures
    ∙ ap (λ t. joined t c.as_str-2.result.now) first ∙ ap (joined stations) second in
    let moved : c.as_str-6.result.now ≡ joined crates objects =
    c.as_str-6.ensures.value ∙ c.in_ok-moved.ensures
    ∙ ap (λ t. joined t c.as_str-4.result.now) third ∙ ap (joined crates) fourth in
    let all : c.as_str-7.result.now ≡ joined (joined stations places) (joined crates objects) =
    c.as_str-7.ensures.value ∙ c.in_ok-all.ensures
    ∙ ap (λ t. joined t c.as_str-6.result.now) fixed ∙ ap (joined (joined stations places)) moved in
    subst (λ much. IfOk c.ok_line.result (λ text. string_bytes text ≡ ok_line much)) all
    c.ok_line.ensures
