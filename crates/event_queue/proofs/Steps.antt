-- What was read of the first slots extends to one slot more.
use Rattle.std.proofs.Common.{◌≡◌, ◌≢◌, ◌↔◌, ⊎_elim, ℕ, ◌+◌, ◌<◌, ◌≤◌, Bool, true, List, [], ◌++◌, get_or, take, drop, ap, arith, add-one, Option, Some}
use Rattle.std.proofs.lemmas.List.{append-nil}
use Rattle.std.proofs.lemmas.Bool.{cases_lt, eq-eqb, ne_eqb, le-leb, lt-leb, cond-true, cond-false}
use Rattle.std.specs.Int.{w64, from_be_bytes}
use Rattle.disk_model.specs.{open_byte, IsOpen}
use Rattle.archive_file.specs.{ScanNo}
use Rattle.archive_file.specs.declared.failure.ScanNo.TheVariants.{Damaged}
use Rattle.archive_file.proofs.Logs.{byte_of}
use Rattle.event_queue.specs.{declared.reader.Scanned.Scanned, Batch, gate_of, place_of, count_in, slot_points, batch_in, batch_at, IsStale, points_beyond, slot_points_of, points_before, IsSound, IsLane, BreaksSlotAt, IsLaneDamage, IsRead}
use Rattle.event_queue.specs.{IsOpenSlot}
use Rattle.event_queue.proofs.Rules.{all_stale}

-- a stale batch holds nothing beyond the summary
pub beyond_stale : (taken : ℕ) (b : Batch) → IsStale taken b → points_beyond taken b ≡ []
beyond_stale taken b stale = cond-true _ [] b.points (le-leb (b.first + b.count) taken stale)

-- any other holds all its points
pub beyond_all : (taken : ℕ) (b : Batch) → taken < b.first + b.count → points_beyond taken b ≡ b.points
beyond_all taken b beyond = cond-false _ [] b.points (lt-leb (b.first + b.count) taken beyond)

-- the first k + 1 slots of a lane, where the first k keep the layout and the last is closed or keeps it
pub lane_more : (slots taken : ℕ) (bytes : List ℕ) (k : ℕ) → IsLane slots bytes taken k
    → (IsOpen (gate_of k) bytes → IsSound slots bytes taken k) → IsLane slots bytes taken (k + 1)
lane_more slots taken bytes k lane last =
    record {
      sound = λ j below opened. ⊎_elim (λ before. lane.sound j before opened)
          (λ at. grind arith)
          (cases_lt j k);
    }

module _ (slots taken : ℕ) (bytes : List ℕ) (k : ℕ) where
  -- a closed slot holds nothing
  pub points_shut : get_or bytes (gate_of k) 0 ≢ open_byte → slot_points_of slots bytes taken k ≡ []
  points_shut shut = grind (arith, cond-false, ne_eqb)

  -- an open one what its batch does
  pub points_open : IsOpen (gate_of k) bytes → slot_points_of slots bytes taken k
      ≡ points_beyond taken (batch_at slots bytes k)
  points_open opened = grind (arith, cond-true, eq-eqb)

  -- one slot more
  pub points_more : points_before slots bytes taken (k + 1) ≡ points_before slots bytes taken k
      ++ slot_points_of slots bytes taken k
  points_more = ap (points_before slots bytes taken) (add-one k)

  -- a closed slot is passed by
  pub read_shut : (s : Scanned) → get_or bytes (gate_of k) 0 ≢ open_byte → IsRead slots taken bytes k s
      → IsRead slots taken bytes (k + 1) s
  read_shut s shut read = record {
    lane = lane_more slots taken bytes k read.lane (λ opened. absurd (shut opened));
    points = grind (arith, points_more, points_shut, append-nil);
    last = read.last;
    none_behind = λ j low below. grind (arith, read.none_behind);
    stale = (grind arith);
  }

  -- an open slot that keeps the layout is taken in
  pub read_open : (s new : Scanned) (stale : Bool) → IsRead slots taken bytes k s → IsOpen (gate_of k) bytes
      → IsSound slots bytes taken k → ((stale ≡ true) ↔ IsStale taken (batch_at slots bytes k))
      → new.points.items ≡ s.points.items ++ points_beyond taken (batch_at slots bytes k) → new.lane.used ≡ k + 1
      → new.stale ≡ stale → IsRead slots taken bytes (k + 1) new
  read_open s new stale read opened sound tested points used told =
      grind (arith, points_open, points_more, all_stale, lane_more)

-- the fields of a slot
pub record HasFields (slot : List ℕ) (first count : ℕ) (rest : List ℕ) : Type 0 where
  pub first_is : first ≡ from_be_bytes w64 (take 8 slot)
  pub count_is : count ≡ count_in slot
  pub rest_is : rest ≡ drop 10 slot

-- the points of a count that is one
pub points_counted : (slot : List ℕ) (first count : ℕ) (rest : List ℕ) → HasFields slot first count rest → count ≤ 64
    → (batch_in slot).points ≡ slot_points count rest
points_counted slot first count rest fields few = grind arith

-- the first damage, where an open slot breaks the layout and those before it keep it
pub damage_here : (slots taken : ℕ) (bytes : List ℕ) (k : ℕ) (slot : List ℕ) (o a : ℕ) (byte : Option ℕ)
    (why : ScanNo) → k < slots
    → IsLane slots bytes taken k → IsOpenSlot slots bytes k slot → BreaksSlotAt slots bytes taken k o → o < 1034
    → why ≡ Damaged (place_of slots k + o) (Some (get_or slot o 0)) → why ≡ Damaged a byte
    → IsLaneDamage slots bytes taken a byte
damage_here slots taken bytes k slot o a byte why there lane at_slot breaks within said told =
    let place : a ≡ place_of slots k + o = cc in
    let byte_said : byte ≡ Some (get_or slot o 0) = cc in (
      k,
      o,
      record {
        within = there;
        before = lane;
        opened = at_slot.opened;
        breaks = breaks;
        place = place;
        byte_there = cc (byte_of bytes (place_of slots k) 1034 o within);
      },
    )
