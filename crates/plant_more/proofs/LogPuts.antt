-- A row is put, or the worker ends there.
use Rattle.std.proofs.Common.{◌≡◌, ℕ, zero, suc, ◌+◌, ◌<◌, Bool, false, true, List, [], ◌∷◌, ◌++◌, length, get_or, refl, sym, subst, arith}
use Rattle.std.specs.Prelude.{◌≢◌, IsSomeAnd, Some, slice_get}
use Rattle.std.proofs.lemmas.Option.{slice_get-get_or}
use Rattle.value_rows.specs.{RawRow}
use Rattle.commit_log.specs.declared.history.LogTurn.TheVariants.{Put}
use Rattle.commit_log.specs.{LogCommitNo, PutRowNo, ToldLog, put_refusal, rows_waiting}
use Rattle.commit_log.specs.declared.refusal.LogCommitNo.TheVariants.{Broken, DeviceFault, WantOfMemory as NoMemory}
use Rattle.plant_more.specs.{LogEnding, EndsAt, RefusesPut, ending_of_commit, IsCommitted, IsPutAt, is_commit_due, row_of}
use Rattle.plant_more.proofs.LogCommitting.{none_committed}

-- what holds of the row at a place is found there
found_at : {A : Type 0} (P : A → Type 0) (xs : List A) (i : ℕ) (d : A) → i < length xs → P (get_or xs i d)
    → IsSomeAnd (slice_get xs i) P
found_at P [] i d within here = absurd (omega arith)
found_at P (a ∷ xs) zero d within here = here
found_at P (a ∷ xs) (suc i) d within here = found_at P xs i d (omega arith) here

-- a row that the log refuses
pub refused_at : (D : Type 0) (collector place : ℕ) (rows : List RawRow) (d : RawRow) (log : ToldLog D) (why : PutRowNo)
    → place < length rows → put_refusal log (row_of collector (place + 1) (get_or rows place d)) ≡ Some why
    → IsSomeAnd (slice_get rows place) (λ row. RefusesPut D why (row_of collector (place + 1) row))
refused_at D collector place rows d log why within refused =
    found_at (λ row. RefusesPut D why (row_of collector (place + 1) row)) rows place d within (record { log = log; refused = refused })

-- a test is not both
unlike : (b : Bool) → b ≡ true → b ≡ false → ⊥
unlike b is isnt = cc

-- a row that is put, and the commits after it
pub put_at : {D : Type 0} (collector place : ℕ) (rows : List RawRow) (d : RawRow) (old mid new : ToldLog D) → place < length rows
    → mid ≡ record old { tape = old.tape ++ Put (row_of collector (place + 1) (get_or rows place d)) ∷ [] }
    → IsCommitted mid new → rows_waiting new ≡ 0 → is_commit_due (place + 1) (length rows) ≡ true → IsPutAt collector rows place old new
put_at collector place rows d old mid new within appended committed none due = record {
  row = get_or rows place d;
  put = mid;
  there = slice_get-get_or rows place d within;
  appended = appended;
  committed = committed;
  none_waits = λ is. none;
  unchanged = λ is. absurd (unlike _ due is);
}

-- a row after which no commit is due
pub put_alone : {D : Type 0} (collector place : ℕ) (rows : List RawRow) (d : RawRow) (old new : ToldLog D) → place < length rows
    → new ≡ record old { tape = old.tape ++ Put (row_of collector (place + 1) (get_or rows place d)) ∷ [] }
    → is_commit_due (place + 1) (length rows) ≡ false → IsPutAt collector rows place old new
put_alone collector place rows d old new within appended due = record {
  row = get_or rows place d;
  put = new;
  there = slice_get-get_or rows place d within;
  appended = appended;
  committed = none_committed new new refl;
  none_waits = λ is. absurd (unlike _ is due);
  unchanged = λ is. refl;
}

-- a commit that the log refuses
pub refused_commit : (D : Type 0) (collector place : ℕ) (rows : List RawRow) (why : LogCommitNo) (log : ToldLog D) (ending : LogEnding)
    → place < length rows → is_commit_due (place + 1) (length rows) ≡ true → (why ≢ NoMemory → log.failed ≡ true)
    → ending ≡ ending_of_commit why → EndsAt D collector rows place ending
refused_commit D collector place rows why log ending within due broken is =
    subst (EndsAt D collector rows place) (sym is) (by_why why broken)
  where
    by_why : (w : LogCommitNo) → (w ≢ NoMemory → log.failed ≡ true) → EndsAt D collector rows place (ending_of_commit w)
    by_why Broken failed =
        (within, due, record { known = λ same. cc same; log = log; broken = failed (λ same. cc same) })
    by_why DeviceFault failed =
        (within, due, record { known = λ same. cc same; log = log; broken = failed (λ same. cc same) })
    by_why NoMemory failed = (within, due)
