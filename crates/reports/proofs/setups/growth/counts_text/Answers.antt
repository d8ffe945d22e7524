use Rattle.std.proofs.Common.{ap, map, rules}
use Rattle.std.specs.Prelude.{codes, string_bytes}
use Rattle.reports.specs.GrowthTexts.{counted}
use Rattle.reports.proofs.Joins.{four_more, joined_as}
use Rattle.reports.proofs.setups.growth.counts_text.Goals as goal

pub returns : goal.returns
returns c =
    let all = four_more _ _ _ _ _
    (counted c.args.counts.places (codes "place")) (counted c.args.counts.things (codes "thing"))
    (counted c.args.counts.stations (codes "station"))
    (counted c.args.counts.normal_locations (codes "normal location"))
    (ap (map string_bytes) c.new-words.ensures.items) c.in_ok-push_count.ensures
    c.in_ok-push_count-2.ensures c.in_ok-push_count-3.ensures c.in_ok-push_count-4.ensures in
    let joined = joined_as string_bytes (codes ", ") c.push_count-4.new.words.items _ all in
    search rules
