-- The snapshots that a tag had, and the one in the reply to a reader.
use Rattle.std.specs.Prelude.{ℕ, ◌-◌, Bool, ◌&&◌, true, false, List, ◌∷◌, filter_map, map, nat_eq, nat_le, slice_get, if◌then◌else◌, Option, None, Some, option_and_then}
use Rattle.std.specs.Option.{option_map_or}
use Rattle.std.specs.Ordering.{int_eq}
use Rattle.trend_num.specs.{Point, Snap}
use Rattle.tag_cell.specs.{Entry, TagHistory}
use Rattle.tag_cell.specs.declared.entry.Entry.TheVariants.{Take}
use Rattle.collector_pool.specs.{WorkerNote}

-- ---- what a tag had

-- the point that closes the line after an entry, if the entry is a take
abbrev pub held_after : Entry → Option Point
held_after (Take collector row p held records) = Some held
held_after other = None

-- these points of the takes of a tape, in order
abbrev pub held_points : List Entry → List Point
held_points tape = filter_map held_after tape

-- the points that closed the line of a tag: at its opening, and after each take
abbrev pub closing : TagHistory → List (Option Point)
closing h = h.opening.summary.held ∷ map (λ p. Some p) (held_points h.tape.items)

-- whether two points are the same, or both are missing
abbrev pub same_held : Option Point → Option Point → Bool
same_held None None = true
same_held (Some p) (Some q) = nat_eq p.t q.t && int_eq p.v q.v
same_held p q = false

-- whether the tag had this snapshot: when it had taken so many events, this point closed its line
abbrev pub had : TagHistory → Snap → Bool
had h s = nat_le h.opening.summary.taken s.taken
    && option_map_or (same_held s.held) (slice_get (closing h) (s.taken - h.opening.summary.taken)) false

-- the tag's snapshot at the end
abbrev pub snap_at_end : TagHistory → Snap
snap_at_end h = record { taken = h.summary.taken; held = h.summary.held }

-- ---- the reply to a reader

-- the snapshot that the note of a worker has at a place, if it has one
abbrev pub told_at : List WorkerNote → ℕ → ℕ → Option Snap
told_at notes worker place =
    option_and_then (λ note. option_and_then (λ seen. seen) (slice_get note.snaps.items place)) (slice_get notes worker)

-- the snapshot in the note, if the tag had it; otherwise that of the tag's end
abbrev pub checked : TagHistory → Option Snap → Snap
checked h None = snap_at_end h
checked h (Some s) = if had h s then s else snap_at_end h

-- the same for the tag at a place. If there is no such tag, the snapshot of a tag that took nothing
abbrev pub snap_of : List TagHistory → ℕ → Option Snap → Snap
snap_of tags tag told = option_map_or (λ h. checked h told) (slice_get tags tag) (record { taken = 0; held = None })
