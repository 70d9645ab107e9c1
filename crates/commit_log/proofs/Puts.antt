-- What a log's type keeps, after a put.
use Rattle.std.proofs.Common.{◌≡◌, ℕ, ◌+◌, ◌≤◌, Bool, List, [], ◌∷◌, ◌++◌, length, take, sym, ap, ◌∙◌, subst, arith, length-append}
use Rattle.std.proofs.lemmas.List.{take-append-le}
use Rattle.disk_model.specs.{Trace}
use Rattle.commit_log.specs.{LogRow, LogTurn, IsLogRow, StandsForRows, acked_at, puts, IsLogLegal, IsLogSafe, StandsForPart, HasRoomForPuts, IsKept, Waits}
use Rattle.commit_log.specs.declared.history.LogTurn.TheVariants.{Put}
use Rattle.commit_log.proofs.Tapes.{acked_at-put, fit-push, puts-append, walked-push}

module _ (tags : ℕ) (opening : List LogRow) (moment : ℕ) (tape : List LogTurn) (row : LogRow) where
  abbrev longer : List LogTurn
  longer = tape ++ Put row ∷ []

  -- the rows that were put
  rows_are : puts longer ≡ puts tape ++ row ∷ []
  rows_are = puts-append tape (Put row ∷ [])

  pub put_legal : (acked : ℕ) → IsLogLegal tags opening moment tape acked → IsLogRow tags row → IsLogLegal tags opening moment longer acked
  put_legal acked legal is = grind (arith, fit-push, walked-push)

  pub put_room : (places places' count room : ℕ) → HasRoomForPuts opening tape places count room → count + 1 ≤ room → places' ≡ places
      → HasRoomForPuts opening longer places' (count + 1) room
  put_room places places' count room has within same = grind (arith, rows_are, length-append)

  -- the turns before a place are the same
  before : (next : ℕ) → next ≤ length tape → take next longer ≡ take next tape
  before next within = take-append-le next tape (Put row ∷ []) within

  pub put_waits : (next acked : ℕ) → Waits opening tape next acked → Waits opening longer next acked
  put_waits next acked waits = grind (arith, length-append, before)

  pub put_kept : (plant : List ℕ) (faults next end acked : ℕ) (failed : Bool) (trace : Trace) (ticks faults' : ℕ)
      → Waits opening tape next acked → IsKept plant tags opening moment faults tape next end failed trace ticks faults'
      → IsKept plant tags opening moment faults longer next end failed trace ticks faults'
  put_kept plant faults next end acked failed trace ticks faults' waits kept = grind (arith, before, walked-push)

  pub put_safe : (plant : List ℕ) (left : ℕ → List ℕ → Type 0) → IsLogSafe plant tags opening moment tape left
      → IsLogSafe plant tags opening moment longer left
  put_safe plant left safe = record { images = λ t c since was. part t c (safe.images t c since was) }
    where
      part : (t : ℕ) (c : List ℕ) → StandsForPart plant tags opening (puts tape) (acked_at t (length opening) tape) c
          → StandsForPart plant tags opening (puts longer) (acked_at t (length opening) longer) c
      part t c is =
          let within : is.count ≤ length (puts tape) = is.within in
          record {
            count = is.count;
            enough = subst (λ (n : ℕ). n ≤ length opening + is.count) (sym (acked_at-put t (length opening) tape row)) is.enough;
            within = omega (arith, within, ap length rows_are, length-append (puts tape) (row ∷ []));
            stands = subst (λ (l : List LogRow). StandsForRows plant tags c (opening ++ l))
                (sym (ap (take is.count) rows_are ∙ take-append-le is.count (puts tape) (row ∷ []) within)) is.stands;
          }
