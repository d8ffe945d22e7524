-- The definition computed on worked values.
use Rattle.std.proofs.Common.{◌≡◌, Bool, Global, Vec}
use Rattle.std.specs.Prelude.{vec_len}
use Rattle.serve_core.specs.declared.text_feed.TextFeed.{TextFeed}
use Rattle.work_core.specs.Works.{FitsStations}
use Rattle.work_core.specs.declared.work.Work.TheVariants.{Replay, Serve}

-- two feeds are those of two stations, not of three; a replay has none
two_feeds : (feeds : Vec TextFeed Global) → vec_len feeds ≡ 2 → FitsStations 2 (Serve feeds)
two_feeds feeds two = two

not_three : (feeds : Vec TextFeed Global) → vec_len feeds ≡ 2 → ¬ FitsStations 3 (Serve feeds)
not_three feeds two three = cc

replayed : (why : Bool) → FitsStations 3 (Replay why)
replayed why = tt
