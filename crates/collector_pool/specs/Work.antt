-- What the workers of a session have to do, and for which plants it is work.
use Rattle.std.specs.Prelude.{ℕ, ◌+◌, ◌^◌, ◌<◌, ◌≤◌, All, length}
use Rattle.trend_num.specs.{IsTagQuery, InRange}
use Rattle.value_rows.specs.{Query, RawRow}
use Rattle.value_rows.specs.declared.asked.Query.TheVariants.{Tag, Snap, Row}
use Rattle.collector_pool.specs.declared.work.Work.{Work}

-- how many workers there are: one for each collector, each reader and each refresher
abbrev pub worker_count : Work → ℕ
worker_count w = length w.collectors.items + length w.readers.items + length w.refreshers.items

-- a row of one of so many tags, with a point in range
pub record IsRowOf (tags : ℕ) (row : RawRow) : Type 0 where
  pub tag : row.tag < tags
  pub point : InRange row.point

-- a query about one of so many tags, with times in range, or about one of so many groups
abbrev pub IsQueryOf : ℕ → ℕ → Query → Type 0
IsQueryOf tags groups (Tag tag query) = (tag < tags) × IsTagQuery query
IsQueryOf tags groups (Snap tag) = tag < tags
IsQueryOf tags groups (Row group calc k) = group < groups

-- Work for a plant with so many tags and groups. Its workers can be numbered. Each collector has at least the rows that
-- it took in an earlier phase.
pub record IsWorkOf (tags groups : ℕ) (w : Work) : Type 0 where
  pub few : worker_count w < 2 ^ 32
  pub rows : All (λ rows. All (IsRowOf tags) rows.items) w.collectors.items
  pub begun : All (λ rows. w.earlier ≤ length rows.items) w.collectors.items
  pub queries : All (λ queries. All (IsQueryOf tags groups) queries.items) w.readers.items
  pub turns : All (λ refresh. refresh.group < groups) w.refreshers.items
