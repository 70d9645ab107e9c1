-- The place of a journal on a device whose layout was just made.
use Rattle.std.proofs.Common.{ℕ, ◌≤◌, false, List, None, refl, sym, arith}
use Rattle.trend_num.specs.{declared.tag_def.TagDef.TagDef, Names.IsName, Ranges.TuningInRange}
use Rattle.disk_model.specs.{Traces.Trace, Traces.seen, Images.IsSettled}
use Rattle.crash_recovery.specs.{Seat, IsSeat, SeatedOn}
use Rattle.device_layout.specs.{IsMade}
use Rattle.device_layout.proofs.NewLayout.{made_room, made_points, made_lane, made_counting, made_header, made_slots}

-- the first lane slot of so many, before the first event
abbrev pub first_seat : ℕ → Seat
first_seat slots = record {
  lane = record { slots = slots; used = 0; next = 0 };
  stale = false;
  counts = None;
  taken = 0;
  records = 0;
}

made_seat : (def : TagDef) (slots : ℕ) (c : List ℕ) → IsMade def slots c → TuningInRange def.tuning → IsName def.name
    → 1 ≤ slots → slots ≤ 65536 → IsSeat (first_seat slots) c
made_seat def slots c made tuned name some few = record {
  laid = record {
    opened = made.opened;
    header = made_header def slots c made tuned name some few;
    slots = sym (made_slots def slots c made tuned name some few);
    room = made_room def slots c made;
    counts = sym (made_counting def slots c made tuned name some few);
    taken = refl;
    records = refl;
    long = omega (arith, made.long);
    in_use = grind (arith, made_lane, made_points);
    number = λ stale. refl;
  };
  overrun = λ stale. absurd (cc (stale));
  some = λ stale. absurd (cc (stale));
}

-- the same of a device
pub made_seated : (def : TagDef) (slots : ℕ) (o : Trace) → TuningInRange def.tuning → IsName def.name → 1 ≤ slots
    → slots ≤ 65536 → IsMade def slots (seen o) → IsSettled o → SeatedOn (first_seat slots) o
unfolding SeatedOn
made_seated def slots t tuned name some few made settled = record {
  settled = settled;
  seat = made_seat def slots (seen t) made tuned name some few;
}
