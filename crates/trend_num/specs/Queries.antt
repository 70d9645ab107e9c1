-- Questions about a tag.
use Rattle.std.specs.Prelude.{◌<◌, ◌≤◌}
use Rattle.trend_num.specs.declared.query.TagQuery.{TagQuery}
use Rattle.trend_num.specs.declared.query.TagQuery.TheVariants.{At, Points, Window}
use Rattle.trend_num.specs.Ranges.{last_time}

-- a question whose times are in range. One for points does not end before it begins. One for a window ends after it
-- begins.
abbrev pub IsTagQuery : TagQuery → Type 0
IsTagQuery (At t) = t ≤ last_time
IsTagQuery (Points start end) = (start ≤ end) × (end ≤ last_time)
IsTagQuery (Window m start end) = (start < end) × (end ≤ last_time)
