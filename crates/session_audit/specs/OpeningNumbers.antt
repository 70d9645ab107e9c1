-- Where two lists of numbers differ.
use Rattle.std.specs.Prelude.{◌≡◌, ◌≢◌, ℕ, List, Option, take, slice_get}
use Rattle.std.specs.Option.{option_map_or}
use Rattle.plant_status.specs.{Seen}
use Rattle.plant_status.specs.declared.mismatch.Seen.TheVariants.{Nothing, Number}

-- a number, or nothing
abbrev pub seen_of : Option ℕ → Seen
seen_of number = option_map_or Number number Nothing

-- the first place at which two lists differ, and what each has there, or nothing if it has ended
pub record AreApart (place : ℕ) (found known : List ℕ) (kept told : Seen) : Type 0 where
  pub before : take place found ≡ take place known
  pub kept_is : kept ≡ seen_of (slice_get found place)
  pub told_is : told ≡ seen_of (slice_get known place)
  pub differ : kept ≢ told
