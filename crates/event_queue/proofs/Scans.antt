-- A lane that was read piece by piece.
use Rattle.std.proofs.Common.{◌≡◌, ◌≢◌, ℕ, zero, suc, ◌+◌, ◌-◌, ◌<◌, ◌≤◌, List, length, get_or, take, drop, ◌∙◌, ap, subst, arith, add-zero}
use Rattle.disk_model.specs.{Traces.Trace, Traces.seen, Calls.Reads, Gates.open_byte}
use Rattle.archive_file.proofs.Logs.{byte_of}
use Rattle.event_queue.specs.{declared.reader.Scanned.Scanned, gate_of, place_of, IsRead, IsPiece}
use Rattle.event_queue.proofs.Steps.{read_shut}

-- gates and slots that were read from a device with a known trace
piece_there : (t : Trace) (slots from : ℕ) (gates piece : List ℕ) → length gates ≡ slots → Reads t (gate_of 0) gates
    → Reads t (place_of slots from) piece → IsPiece slots (seen t) gates from piece
piece_there t slots from gates piece all gates_read slots_read = grind arith

-- what was read of an equal device at an equal place
pub moved : (now o : Trace) (at to : ℕ) (bytes : List ℕ) → now ≡ o → at ≡ to → Reads now at bytes → Reads o to bytes
moved now o at to bytes same place reads = grind arith

-- so what follows for any bytes that hold the gates and a piece, and of which the slots before it were read,
-- follows for
-- the device's
pub with_piece : (o : Trace) (slots taken n from : ℕ) (gates piece lent_gates lent_piece : List ℕ)
    (s : Scanned) (P : ℕ → List ℕ → Type 0)
    → n ≡ from → s.lane.slots ≡ slots → length gates ≡ slots → Reads o (gate_of 0) gates → lent_gates ≡ gates
    → Reads o (place_of slots from) piece → lent_piece ≡ piece
    → IsRead slots taken (seen o) n s
    → ((bytes : List ℕ) → IsPiece s.lane.slots bytes lent_gates from lent_piece
    → IsRead s.lane.slots taken bytes from s → P s.lane.slots bytes)
    → P slots (seen o)
with_piece t slots taken n from gates piece lent_gates lent_piece s P is same all gates_read lent_g slots_read lent_p read follows =
    grind (arith, piece_there)

-- closed slots at the end
read_on : (slots taken : ℕ) (bytes : List ℕ) (used m : ℕ) (s : Scanned) → IsRead slots taken bytes used s
    → ((k : ℕ) → used ≤ k → k < used + m → get_or bytes (gate_of k) 0 ≢ open_byte)
    → IsRead slots taken bytes (used + m) s
read_on slots taken bytes used zero s read shut = rw (add-zero used) read
read_on slots taken bytes used (suc m) s read shut =
    subst (λ n. IsRead slots taken bytes n s) (omega arith)
    (read_shut slots taken bytes (used + m) s (shut (used + m) (omega arith) (omega arith))
    (read_on slots taken bytes used m s read (λ k low below. shut k low (omega arith))))

-- after the last open gate there is nothing
pub read_all : (o : Trace) (slots taken n used : ℕ) (gates lent : List ℕ) (s : Scanned) → n ≡ used → used ≤ slots
    → length gates ≡ slots → Reads o (gate_of 0) gates → lent ≡ gates
    → ((k : ℕ) → used ≤ k → k < length lent → get_or lent k 0 ≢ open_byte) → IsRead slots taken (seen o) n s
    → IsRead slots taken (seen o) slots s
read_all t slots taken n used gates lent s is within all gates_read lent_is shut read =
    let bytes = seen t in
    let gate : (k : ℕ) → k < slots → get_or lent k 0 ≡ get_or bytes (gate_of k) 0 =
    λ k there. ap (λ l. get_or l k 0) (lent_is ∙ gates_read ∙ ap (λ m. take m (drop 400 bytes)) all)
    ∙ byte_of bytes 400 slots k there in
    subst (λ m. IsRead slots taken bytes m s) (omega (arith, within))
    (read_on slots taken bytes used (slots - used) s (rw is at read) (λ k low below opened. grind arith))

-- before anything was read
pub read_first : (o : Trace) (slots taken n : ℕ) (s : Scanned) → 0 ≡ n
    → ((bytes : List ℕ) → IsRead slots taken bytes 0 s) → IsRead slots taken (seen o) n s
read_first t slots taken n s is read = rw is at (read (seen t))
