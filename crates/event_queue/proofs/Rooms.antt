-- The room that a lane needs: what it gives a call, and what calls leave of it.
use Rattle.std.proofs.Common.{◌≡◌, inl, ℕ, ◌+◌, ◌<◌, ◌≤◌, List, arith}
use Rattle.disk_model.specs.{Traces.Trace, Traces.seen, Images.IsOutside, Images.Now, Images.FromOld, Moments.During, Calls.Reaches, Gates.IsGuarded, Gates.AreShut, Gates.IsClosing}
use Rattle.disk_model.proofs.{Images.present, Moments.during_now}
use Rattle.event_queue.specs.{gate_of, place_of, lane_end, HasRoom}

-- what a read gives has the whole lane
pub reaches_lane : (o : Trace) (slots used n : ℕ) → Now o (HasRoom slots used) → n ≤ lane_end slots → Reaches o n
reaches_lane t slots used n room le = omega (arith, (room.each (seen t) (present t)).long)

-- a gate lies before all slots
pub gate_outside : (slots used k at n : ℕ) → k < slots → at ≡ place_of slots used → IsOutside at n (gate_of k)
gate_outside slots used k at n there is = inl (omega arith)

-- a batch was written after the next gate
pub room_guarded : (slots used : ℕ) (bytes d c : List ℕ) → used < slots → HasRoom slots used d
    → IsGuarded (place_of slots used) bytes (gate_of used) d c → HasRoom slots (used + 1) c
room_guarded slots used bytes d c free has guarded = grind (arith, gate_outside)

-- so each image has room after it
pub room_behind : (o new : Trace) (slots used at gate : ℕ) (bytes : List ℕ) → used < slots
    → Now o (HasRoom slots used) → at ≡ place_of slots used → gate ≡ gate_of used
    → During o new (FromOld o (IsGuarded at bytes gate)) → Now new (HasRoom slots (used + 1))
room_behind o new slots used at gate bytes free room is_at is_gate during = record {
  each = λ c may. let from = (during_now o new (FromOld o (IsGuarded at bytes gate)) during).each c may in
      grind (arith, room_guarded, room.each, from.1, from.2);
}

-- gates were closed, and those of the used slots are
pub room_anew : (o new : Trace) (slots used : ℕ) → Now o (HasRoom slots used)
    → During o new (FromOld o (IsClosing (gate_of 0) used)) → Now new (AreShut (gate_of 0) used)
    → Now new (HasRoom slots 0)
room_anew o new slots used room during shut = record {
  each = λ c may.
      let from = (during_now o new (FromOld o (IsClosing (gate_of 0) used)) during).each c may in
      let has = room.each from.0 from.1 in
      record { long = omega (arith, has.long, from.2.same_length); shut = λ k low there. grind arith };
}
