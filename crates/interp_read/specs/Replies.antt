-- Replies. What counts is which points they list, and not where these are in memory.
use Rattle.std.specs.Prelude.{◌≡◌, ◌↔◌, ◌<◌, IsTrue, Bool, List, length, take}
use Rattle.trend_num.specs.{Point, TagQuery, most_listed}
use Rattle.trend_num.specs.declared.query.TagQuery.TheVariants as ask
use Rattle.trend_model.specs.{points_from_to, read_at, window_value}
use Rattle.interp_read.specs.declared.list.PointList.{PointList}
use Rattle.interp_read.specs.declared.query.Reply.{Reply}
use Rattle.interp_read.specs.declared.query.Reply.TheVariants.{At, Points, Window}
use Rattle.interp_read.specs.Readable.{IsReadable}

-- two replies are the same
abbrev pub AreAlike : Reply → Reply → Type 0
AreAlike (At a) (At b) = b ≡ a
AreAlike (Points l) (Points m) = (m.list.items ≡ l.list.items) × (m.more ≡ l.more)
AreAlike (Window a) (Window b) = b ≡ a
AreAlike a b = ⊥

-- the list has the first of these points, and says whether there are others
pub record IsListOf (l : PointList) (ps : List Point) : Type 0 where
  pub list : l.list.items ≡ take most_listed ps
  pub more : IsTrue l.more ↔ (most_listed < length ps)

-- the reply to a question about a tag whose closed content has these points, by its line or, of a step tag, by its
-- stair
abbrev pub Answers : Bool → List Point → TagQuery → Reply → Type 0
Answers step ps (ask.At t) (At r) = r ≡ read_at step ps t
Answers step ps (ask.Points from to) (Points l) = IsListOf l (points_from_to ps from to)
Answers step ps (ask.Window m from to) (Window v) = v ≡ window_value step m ps from to
Answers step ps query reply = ⊥

-- if a reply is a read, its value is in range
abbrev pub IsReadableReply : Reply → Type 0
IsReadableReply (At r) = IsReadable r
IsReadableReply (Points l) = Unit {0}
IsReadableReply (Window v) = Unit {0}
