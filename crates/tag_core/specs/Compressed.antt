-- What the compression of a core keeps, and what it asks of the values that it takes. Only the core's own parts cite this.
use Rattle.std.specs.Prelude.{◌≡◌, ℕ, ◌+◌, ◌-◌, ◌<◌, ◌≤◌, Bool, List, ◌++◌, Option, None, Some, length}
use Rattle.trend_num.specs.{Point, Rec, Sending, Tuning, InRange}
use Rattle.trend_num.specs.declared.sending.Sending.TheVariants as sending
use Rattle.trend_model.specs.{IfThere, Sent}
use Rattle.trend_model.specs.State.{Archive, archived}
use Rattle.door_slopes.specs.Hung.{Hung}

-- what compression keeps of a tag of this tuning and this kind; `places` says how many records there is memory for
pub record Compressed : Type 0 where
  pub tuning : Tuning
  pub step : Bool
  pub records : List Rec
  pub hinge : Option Point
  pub upper : Option Point
  pub lower : Option Point
  pub places : ℕ

-- the upper door of two doors, and the lower one
abbrev pub upper_of : Option Hung → Option Point
upper_of None = None
upper_of (Some doors) = Some doors.upper

abbrev pub lower_of : Option Hung → Option Point
lower_of None = None
lower_of (Some doors) = Some doors.lower

-- the doors hang at the hinge, with this deviation
abbrev pub HangAt : ℕ → Option Point → Option Hung → Type 0
HangAt deviation hinge None = Unit {0}
HangAt deviation None (Some doors) = ⊥
HangAt deviation (Some a) (Some doors) = (doors.hinge ≡ a) × (doors.deviation ≡ deviation)

-- an archive of what compression keeps and this held point
abbrev pub archive_with : Compressed → Option Point → Archive
archive_with c held = record {
  tuning = c.tuning;
  records = c.records;
  hinge = c.hinge;
  held = held;
  upper = c.upper;
  lower = c.lower;
}

-- an archive in memory of this many places
abbrev pub compressed_in : Bool → Archive → ℕ → Compressed
compressed_in step a places = record {
  tuning = a.tuning;
  step = step;
  records = a.records;
  hinge = a.hinge;
  upper = a.upper;
  lower = a.lower;
  places = places;
}

-- the same memory after all that was sent, which is listed the newest first
abbrev pub compressed_after : Compressed → Option Point → List Sent → Compressed
compressed_after c held ss = compressed_in c.step (archived c.step (archive_with c held) ss) c.places

-- how many places for records are free
abbrev pub free_places_of : Compressed → ℕ
free_places_of c = c.places - length c.records

-- compression adds two records at most, at the end, in places that were there
pub record AddsTwo (old new : Compressed) : Type 0 where
  pub grows : (more : List Rec) × (new.records ≡ old.records ++ more)
  pub not_fewer : length old.records ≤ length new.records
  pub few : length new.records ≤ length old.records + 2
  pub same_places : new.places ≡ old.places

-- the hinge and the held point are in range, and the hinge is not after the held point
abbrev pub ArePlaced : Option Point → Option Point → Type 0
ArePlaced None held = Unit {0}
ArePlaced (Some a) None = ⊥
ArePlaced (Some a) (Some q) = InRange a × InRange q × (a.t ≤ q.t)

-- p is in range, and later than the held point
pub record IsNext (held : Option Point) (p : Point) : Type 0 where
  pub range : InRange p
  pub after : IfThere (λ (q : Point). q.t < p.t) held

-- a value that is sent in order, if there is one, is such a point
abbrev pub IsNextSending : Option Point → Option Sending → Type 0
IsNextSending held None = Unit {0}
IsNextSending held (Some (sending.Late x)) = Unit {0}
IsNextSending held (Some (sending.InOrder p)) = IsNext held p
