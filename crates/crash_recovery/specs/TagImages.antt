-- Which histories of a tag its device stands for.
use Rattle.std.specs.Prelude.{◌≡◌, ◌≢◌, ◌⊎◌, ℕ, List, ◌∷◌}
use Rattle.trend_num.specs.{TagDef}
use Rattle.trend_model.specs.{Event, Origin, Tune, in_force}
use Rattle.trend_model.specs.State.{State, Stands}
use Rattle.device_layout.specs.{Recovers}

-- an image stands for a history of a tag of this kind if what it recovers does
pub record ImageStands (def : TagDef) (o : Origin) (h : List Event) (c : List ℕ) : Type 0 where
  pub state : State
  pub same_step : o.step ≡ def.step
  pub recovered : Recovers def c state
  pub stands : Stands o h state

-- what is opened stands for a history if the wanted tuning is in force after it, and else for that history and a
-- retuning
abbrev pub StandsOpened : TagDef → Origin → List Event → State → Type 0
StandsOpened def o h r = ((in_force o h ≡ def.tuning) × Stands o h r)
    ⊎ ((in_force o h ≢ def.tuning) × Stands o (Tune def.tuning ∷ h) r)
