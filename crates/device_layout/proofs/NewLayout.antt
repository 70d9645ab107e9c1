-- What a layout says that was just made: its header is that of the tag, its lane is empty, nothing was taken.
use Rattle.std.proofs.Common.{◌≡◌, ◌≢◌, inr, ℕ, ◌<◌, ◌≤◌, Bool, List, [], length, get_or, map, None, sym, ◌∙◌, ap, subst, arith}
use Rattle.trend_num.specs.{declared.tuning.Tuning.Tuning, declared.tag_def.TagDef.TagDef, Names.IsName, Ranges.TuningInRange}
use Rattle.trend_model.specs.{History.Raw, Parts.ArePartsOk, State.nothing_taken}
use Rattle.trend_model.proofs.HistoryLaw.{nothing_ruled}
use Rattle.disk_model.specs.{open_byte}
use Rattle.event_queue.specs.{Slots.gate_of, Lanes.lane_points, Lanes.IsLane, Places.HasRoom}
use Rattle.event_queue.proofs.Filled.{lane_points_used}
use Rattle.device_layout.specs.{slots_in, def_in, IsHeader, header_of, log_place, counting, no_summary, start_of, values_beyond, IsOfTag, IsStored, IsReplayed, Recovers, IsMade}
use Rattle.device_layout.proofs.HeaderImages.{header_with, slots_image, def_image, header_made}

-- no records and no summary are parts of a tag
pub no_parts : (u : Tuning) (step : Bool) → ArePartsOk u step [] no_summary
no_parts u step = grind (arith, nothing_ruled)

-- the first bytes are the header after the gate
pub made_first : (def : TagDef) (slots : ℕ) (c : List ℕ) → IsMade def slots c
    → header_of c ≡ header_with open_byte def slots
made_first def slots c made = grind (arith, header_with)

module _ (def : TagDef) (slots : ℕ) (c : List ℕ) (made : IsMade def slots c) where
  -- no lane slot is open
  pub made_shut : (k : ℕ) → k < slots → get_or c (gate_of k) 0 ≢ open_byte
  made_shut k there opened = grind arith

  -- the whole lane is free
  pub made_room : HasRoom slots 0 c
  made_room = record { long = made.long; shut = λ k low there. made_shut k there }

  -- it holds nothing
  pub made_points : (taken : ℕ) → lane_points slots c taken ≡ []
  made_points taken = lane_points_used slots taken 0 c (omega arith) made_room

  -- and keeps the layout
  pub made_lane : (taken : ℕ) → IsLane slots c taken slots
  made_lane taken = record { sound = λ k there opened. absurd (made_shut k there opened) }

  module _ (tuned : TuningInRange def.tuning) (name : IsName def.name) (some : 1 ≤ slots) (few : slots ≤ 65536) where
    -- no summary counts
    pub made_counting : counting c ≡ None
    made_counting = grind arith

    -- the first bytes are a header
    pub made_header : IsHeader (header_of c)
    made_header = subst IsHeader (sym (made_first def slots c made))
        (header_made open_byte def slots name tuned some few)

    -- which says what the tag is
    pub made_def : def_in (header_of c) ≡ def
    made_def = ap def_in (made_first def slots c made) ∙ def_image open_byte def slots name tuned

    -- and how many lane slots there are
    pub made_slots : slots_in (header_of c) ≡ slots
    made_slots = ap slots_in (made_first def slots c made) ∙ slots_image open_byte def slots name (omega arith)

    -- the records would begin after the lane
    pub made_long : log_place c ≤ length c
    made_long = omega (arith, made_slots, made.long)

    -- the device is the tag's
    pub made_tag : IsOfTag def c
    made_tag = grind (arith, made_header, made_def)

    -- no record and no summary are there
    pub made_stored : IsStored def c [] no_summary
    made_stored = grind (arith, made_tag, made_long, made_counting, no_parts)

    -- nor a value
    made_none : values_beyond c 0 ≡ []
    made_none = ap (λ n. map Raw (lane_points n c 0)) made_slots ∙ ap (map Raw) (made_points 0)

    -- so the state is that before any event
    pub made_replayed : IsReplayed def.step c (start_of c [] no_summary) 0 (nothing_taken def.tuning)
    made_replayed = grind (arith, made_slots, made_lane, made_none, made_def)

    -- this is what it recovers
    pub made_recovers : Recovers def c (nothing_taken def.tuning)
    made_recovers = inr ([], no_summary, made_stored, made_replayed)
