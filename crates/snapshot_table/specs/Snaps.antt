-- The snapshot that the words of a cell hold.
use Rattle.std.specs.Prelude.{ℕ, ℤ, pos, negsuc, if◌then◌else◌, nat_eq, Option, None, Some}
use Rattle.trend_num.specs.{Snap, Point}
use Rattle.snapshot_table.specs.declared.words.Shown.{Shown}
use Rattle.snapshot_table.specs.declared.words.TheConstants.{NO_POINT, NOT_NEGATIVE}

-- the value of a held point: its size if the kind is not negative, otherwise -1 minus its size
abbrev pub held_value_of : ℕ → ℕ → ℤ
held_value_of kind size = if nat_eq kind NOT_NEGATIVE then pos size else negsuc size

-- the held point of these words
abbrev pub point_of : Shown → Option Point
point_of s = if nat_eq s.kind NO_POINT then None else Some (record { t = s.t; v = held_value_of s.kind s.size })

-- the snapshot of these words
abbrev pub snap_of : Shown → Snap
snap_of s = record { taken = s.taken; held = point_of s }

-- the snapshot of a tag that has taken nothing
abbrev pub nothing : Snap
nothing = record { taken = 0; held = None }
