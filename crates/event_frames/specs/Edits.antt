-- What a change of a row does to its frames.
use Rattle.std.specs.Prelude.{◌≡◌, ℕ, Bool, List, ◌++◌, map}
use Rattle.event_frames.specs.declared.frame.Frame.{Frame}
use Rattle.event_frames.specs.declared.frame.Edit.{Edit}
use Rattle.event_frames.specs.declared.frame.Edit.TheVariants.{Gone, New}
use Rattle.event_frames.specs.Frames.{IsFrame, IsListOf}

-- these edits list first the frames of the old row that the new row has not, and then those of the new row that the old
-- row has not, both ordered by first window
pub record AreEdits (old new : List Bool) (least : ℕ) (edits : List Edit) : Type 0 where
  pub gone : List Frame
  pub came : List Frame
  pub told : edits ≡ map Gone gone ++ map New came
  pub are_gone : IsListOf (λ f. IsFrame old least f × ¬ IsFrame new least f) gone
  pub have_come : IsListOf (λ f. IsFrame new least f × ¬ IsFrame old least f) came
