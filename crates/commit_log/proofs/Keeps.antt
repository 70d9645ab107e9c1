-- What a log's type keeps while its tape is given more places.
use Rattle.std.proofs.Common.{◌≡◌, ℕ, ◌+◌, ◌≤◌, Bool, List, ◌++◌, length, take, drop, ap, arith, length-append}
use Rattle.disk_model.specs.{LeftSince, Trace, moment}
use Rattle.commit_log.specs.{LogRow, LogTurn, puts, IsLogLegal, IsLogSafe, HasRoomForPuts, IsKept, Waits}
use Rattle.commit_log.proofs.Tapes.{puts_parts}

-- no more rows are acknowledged than there are, and those after a place wait
pub rest_waits : (opening : List LogRow) (tape rest : List LogTurn) (next acked : ℕ) → Waits opening tape next acked → rest ≡ drop next tape
    → acked + length (puts rest) ≡ length opening + length (puts tape)
rest_waits opening tape rest next acked waits is =
    omega (arith, waits.acked_are, ap (λ (l : List LogTurn). length (puts l)) is, ap length (puts_parts tape next 0), more)
  where
    more : length ((puts (take next tape) ++ puts (take 0 (drop next tape))) ++ puts (drop 0 (drop next tape)))
        ≡ length (puts (take next tape)) + length (puts (drop next tape))
    more = grind (arith, length-append)

-- the same tape with no fewer places
pub same_tape : (plant : List ℕ) (tags : ℕ) (opening : List LogRow) (moment faults : ℕ) (tape tape' : List LogTurn) (places places' count room next acked end : ℕ)
    (failed : Bool) (trace : Trace) (ticks faults_now : ℕ) → tape' ≡ tape → places ≤ places'
    → IsLogLegal tags opening moment tape acked × HasRoomForPuts opening tape places count room × Waits opening tape next acked
    × IsKept plant tags opening moment faults tape next end failed trace ticks faults_now × IsLogSafe plant tags opening moment tape (LeftSince trace)
    → IsLogLegal tags opening moment tape' acked × HasRoomForPuts opening tape' places' count room × Waits opening tape' next acked
    × IsKept plant tags opening moment faults tape' next end failed trace ticks faults_now × IsLogSafe plant tags opening moment tape' (LeftSince trace)
same_tape plant tags opening moment faults tape tape' places places' count room next acked end failed trace ticks faults_now same more was =
    grind (arith, more)
