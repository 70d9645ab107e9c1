-- What one event, of any kind, makes of a tag's core.
use Rattle.std.specs.Prelude.{◌≡◌, ◌↔◌, ◌+◌, ◌<◌, ◌≤◌, ◌++◌, List, Result, IfOk, IfErr, OnOk, OnErr, IsErr, length}
use Rattle.trend_num.specs.{most_records, Rec}
use Rattle.tag_core.specs.Core.{Core}
use Rattle.tag_core.specs.declared.tag.Took.{Took}
use Rattle.tag_core.specs.declared.tag.Full.{Full}

-- the event is counted and adds two records at most, in memory that was there; or it is refused
pub record IsOneEvent (old new : Core) (answer : Result Took Full) : Type 0 where
  pub step : new.step ≡ old.step
  pub counted : OnOk answer (new.state.summary.taken ≡ old.state.summary.taken + 1)
  pub grows : (more : List Rec) × (new.state.records ≡ old.state.records ++ more)
  pub added : IfOk answer (λ took. length new.state.records ≡ length old.state.records + took.added)
  pub few : IfOk answer (λ took. took.added ≤ 2)
  pub room : new.spare + length new.state.records ≡ old.spare + length old.state.records
  -- it is refused, and the core is unchanged, exactly if two more records would be too many
  pub full : IsErr answer ↔ (most_records < length old.state.records + 2)
  pub full_records : IfErr answer (λ full. full.records ≡ length old.state.records)
  pub unchanged : OnErr answer (new ≡ old)
