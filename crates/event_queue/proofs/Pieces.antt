-- What is in a piece that was read is on the device.
use Rattle.std.proofs.Common.{◌≡◌, ◌≢◌, ℕ, ◌+◌, ◌*◌, ◌<◌, ◌≤◌, List, length, get_or, take, drop, Result, Ok, Err, IsErrAnd, sym, ◌∙◌, subst, arith, add-zero}
use Rattle.disk_model.specs.{open_byte}
use Rattle.archive_file.proofs.Logs.{part_of, byte_of}
use Rattle.event_queue.specs.{gate_of, place_of, IsWithin, IsRead, IsOpenSlot, IsPiece, declared.reader.Scanned.Scanned}
use Rattle.event_queue.proofs.Steps.{read_shut}

-- an error that was handed on as it is
pub handed_on : {T U E : Type 0} (r : Result T E) (q : Result U E) (e x : E) → IsErrAnd r (λ y. y ≡ e) → q ≡ Err e
    → r ≡ Err x → q ≡ Err x
handed_on (Ok v) q e x given was told = absurd given
handed_on (Err y) q e x given was told = let same : y ≡ x = cc (told) in cc

module _ (slots : ℕ) (bytes gates : List ℕ) (from : ℕ) (piece : List ℕ)
    (at_piece : IsPiece slots bytes gates from piece) where
  -- a gate
  pub gate_in : (k : ℕ) → k < slots → get_or gates k 0 ≡ get_or bytes (gate_of k) 0
  gate_in k there = cc (byte_of bytes 400 slots k there)

  -- an open slot
  pub slot_in : (i : ℕ) (slot : List ℕ) → from + i < slots → get_or gates (from + i) 0 ≡ open_byte
      → 1034 * (i + 1) ≤ length piece
      → slot ≡ take 1034 (drop (1034 * i) piece) → IsOpenSlot slots bytes (from + i) slot
  slot_in i slot there opened fits is = record {
    opened = grind (arith, gate_in);
    here = grind (arith, part_of bytes (place_of slots from) (length piece) (1034 * i) 1034, at_piece.slots_here);
  }

-- what holds of the first n slots holds of more
pub within_wider : (slots taken n m : ℕ) (s : Scanned) → n ≤ m → IsWithin slots taken n s → IsWithin slots taken m s
within_wider slots taken n m s wider within = grind arith

-- so many slots of a piece were taken in
pub record IsTakenTo (slots taken : ℕ) (gates : List ℕ) (from : ℕ) (piece : List ℕ) (start : Scanned) (i : ℕ)
    (now : Scanned) : Type 0 where
  pub slots_same : now.lane.slots ≡ slots
  pub within : IsWithin slots taken (from + i) now
  pub read : (bytes : List ℕ) → IsPiece slots bytes gates from piece → IsRead slots taken bytes from start
      → IsRead slots taken bytes (from + i) now

module _ (slots taken : ℕ) (gates : List ℕ) (from : ℕ) (piece : List ℕ) (start : Scanned) where
  -- none were
  pub taken_none : (slots ≡ start.lane.slots) → IsWithin slots taken from start
      → IsTakenTo slots taken gates from piece start 0 start
  taken_none same within = grind (arith, same, within_wider, add-zero)

  module _ (i : ℕ) (s now : Scanned) (so_far : IsTakenTo slots taken gates from piece start i s)
      (there : from + i < slots) where
    -- a closed slot more
    pub taken_shut : get_or gates (from + i) 0 ≢ open_byte → now ≡ s
        → IsTakenTo slots taken gates from piece start (i + 1) now
    taken_shut shut is = subst (IsTakenTo slots taken gates from piece start (i + 1)) (sym is) (record {
      slots_same = so_far.slots_same;
      within = within_wider slots taken (from + i) (from + (i + 1)) s (omega arith) so_far.within;
      read = λ bytes at_piece read.
          let closed : get_or bytes (gate_of (from + i)) 0 ≢ open_byte =
          λ opened. shut (gate_in slots bytes gates from piece at_piece (from + i) there ∙ opened) in
          subst (λ n. IsRead slots taken bytes n s) (omega arith)
          (read_shut slots taken bytes (from + i) s closed (so_far.read bytes at_piece read));
    })

    -- an open slot more
    pub taken_open : (slot : List ℕ) (new : Scanned) → get_or gates (from + i) 0 ≡ open_byte
        → 1034 * (i + 1) ≤ length piece
        → slot ≡ take 1034 (drop (1034 * i) piece) → IsWithin s.lane.slots taken (from + i + 1) new
        → ((bytes : List ℕ) → IsOpenSlot s.lane.slots bytes (from + i) slot
        → IsRead s.lane.slots taken bytes (from + i) s
        → IsRead s.lane.slots taken bytes (from + i + 1) new)
        → now ≡ new → IsTakenTo slots taken gates from piece start (i + 1) now
    taken_open slot new opened fits here within goes_on is =
        rw is (record {
          slots_same = within.slots_same ∙ same;
          within = grind (arith, within_wider, same);
          read = λ bytes at_piece read.
              let at_slot = slot_in slots bytes gates from piece at_piece i slot there opened fits here in
              subst (λ n. IsRead slots taken bytes n new) (omega arith)
              (rw same at
              (goes_on bytes (rw same at_slot)
              (subst (λ n. IsRead n taken bytes (from + i) s) (sym same) (so_far.read bytes at_piece read))));
        })
      where
        same : s.lane.slots ≡ slots
        same = so_far.slots_same
