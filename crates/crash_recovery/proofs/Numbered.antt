-- Where each lane slot is free, the lane holds nothing that the summary does not count.
use Rattle.std.proofs.Common.{ℕ, ◌≤◌, Option, arith}
use Rattle.event_queue.specs.{declared.reader.Scanned.Scanned, Scans.IsWithin}
use Rattle.device_layout.specs.{Slot}
use Rattle.crash_recovery.specs.{IsNumbered}

-- so it is of a lane that was read
pub numbered_read : (slots taken records : ℕ) (s : Scanned) (counts : Option Slot) → 1 ≤ slots
    → IsWithin slots taken slots s
    → IsNumbered (record {
      lane = s.lane;
      stale = s.stale;
      counts = counts;
      taken = taken;
      records = records;
    })
numbered_read slots taken records s counts some within = grind arith
