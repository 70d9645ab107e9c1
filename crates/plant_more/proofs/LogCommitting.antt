-- Logs whose tapes are longer by commits.
use Rattle.std.proofs.Common.{◌≡◌, ℕ, zero, suc, ◌<◌, Bool, false, true, List, [], ◌∷◌, ◌++◌, length, refl, sym, ◌∙◌, ap, arith, append_assoc, length-append}
use Rattle.std.specs.Prelude.{Result, Ok, Err, IsErrOf}
use Rattle.std.proofs.lemmas.List.{append-nil}
use Rattle.std.proofs.lemmas.List.Elements.{All-nil, All-push, All-append}
use Rattle.disk_model.specs.{moment, Device}
use Rattle.commit_log.specs.{LogAcked, LogTurn, LogCommitNo, AreRowsAcknowledged, ToldLog, rows_waiting, puts}
use Rattle.commit_log.specs.declared.history.LogTurn.TheVariants.{Commit}
use Rattle.commit_log.specs.declared.refusal.LogCommitNo.TheVariants.{Broken}
use Rattle.commit_log.proofs.Tapes.{puts-append}
use Rattle.plant_more.specs.{IsCommit, IsCommitted, IsSameLog}

-- the log of an equation is the same
same_log : {D : Type 0} (old new : ToldLog D) → new ≡ old → IsSameLog old new
same_log old new is = record {
  plant = ap (λ l. l.plant) is;
  tags = ap (λ l. l.tags) is;
  opening = ap (λ l. l.opening) is;
  moment = ap (λ l. l.moment) is;
  faults = ap (λ l. l.faults) is;
  room = ap (λ l. l.room) is;
}

-- one log after another
pub same_log_on : {D : Type 0} (a b c : ToldLog D) → IsSameLog a b → IsSameLog b c → IsSameLog a c
same_log_on a b c first last = record {
  plant = last.plant ∙ first.plant;
  tags = last.tags ∙ first.tags;
  opening = last.opening ∙ first.opening;
  moment = last.moment ∙ first.moment;
  faults = last.faults ∙ first.faults;
  room = last.room ∙ first.room;
}

-- no commit
pub none_committed : {D : Type 0} (old new : ToldLog D) → new ≡ old → IsCommitted old new
none_committed old new is = record {
  more = [];
  each = All-nil IsCommit;
  tape = ap (λ (l : ToldLog _). l.tape) is ∙ sym (append-nil old.tape);
  same = same_log old new is;
}

-- some commits after others
pub committed_on : {D : Type 0} (a b c : ToldLog D) → IsCommitted a b → IsCommitted b c → IsCommitted a c
committed_on a b c first last = record {
  more = first.more ++ last.more;
  each = All-append IsCommit first.more last.more first.each last.each;
  tape = last.tape ∙ (ap (λ (l : List LogTurn). l ++ last.more) first.tape ∙ append_assoc a.tape first.more last.more);
  same = same_log_on a b c first.same last.same;
}

-- one commit
one_committed : {D : Type 0} (device : D → Device) (a : LogAcked) (old new : ToldLog D)
    → AreRowsAcknowledged device a old new → IsCommitted old new
one_committed device a old new is = record {
  more = Commit (moment (device new.dev).trace) a.acked ∷ [];
  each = All-push IsCommit [] (Commit (moment (device new.dev).trace) a.acked) (All-nil IsCommit) tt;
  tape = ap (λ (l : ToldLog _). l.tape) is.changed;
  same = record {
    plant = ap (λ (l : ToldLog _). l.plant) is.changed;
    tags = ap (λ (l : ToldLog _). l.tags) is.changed;
    opening = ap (λ (l : ToldLog _). l.opening) is.changed;
    moment = ap (λ (l : ToldLog _). l.moment) is.changed;
    faults = ap (λ (l : ToldLog _). l.faults) is.changed;
    room = ap (λ (l : ToldLog _). l.room) is.changed;
  };
}

-- what rows_waiting after it
one_waits : {D : Type 0} (device : D → Device) (a : LogAcked) (old new : ToldLog D)
    → AreRowsAcknowledged device a old new → rows_waiting new ≡ a.waiting
one_waits device a old new is =
    let opening : length new.opening ≡ length old.opening = ap (λ (l : ToldLog _). length l.opening) is.changed in
    let rows : length (puts new.tape) ≡ length (puts old.tape) =
    ap (λ (l : ToldLog _). length (puts l.tape)) is.changed ∙ (ap length (puts-append old.tape (Commit (moment (device new.dev).trace) a.acked ∷ []))
    ∙ omega (arith, length-append (puts old.tape) [])) in
    let acked : new.acked ≡ a.acked = ap (λ (l : ToldLog _). l.acked) is.changed in
    omega (arith, opening, rows, acked, is.acked_are, is.waiting_are)

-- what a success carries
ok_is : {A E : Type 0} (r : Result A E) (a b : A) → r ≡ Ok a → r ≡ Ok b → a ≡ b
ok_is r a b is was = cc

-- and is no refusal
err_is_not : {A : Type 0} (r : Result A LogCommitNo) (a : A) → r ≡ Ok a → r ≡ Err Broken → ⊥
err_is_not r a is was = cc

-- after a commit that succeeds the tape is longer by commits, and `a.waiting` rows wait; if any wait, they are fewer
-- than before. The log is not broken.
pub record Goes {D : Type 0} (a : LogAcked) (first old new : ToldLog D) : Type 0 where
  pub committed : IsCommitted first new
  pub usable : new.failed ≡ false
  pub waiting : rows_waiting new ≡ a.waiting
  pub fewer : 0 < a.waiting → rows_waiting new < rows_waiting old

pub goes : {D : Type 0} (device : D → Device) (a : LogAcked) (first old new : ToldLog D) → IsCommitted first old
    → old.failed ≡ false → (rows_waiting old ≡ 0 → (a.waiting ≡ 0) × (new ≡ old)) → (0 < rows_waiting old → AreRowsAcknowledged device a old new) → Goes a first old new
goes {D} device a first old new before usable idle busy = by_waits (rows_waiting old) refl
  where
    by_waits : (n : ℕ) → rows_waiting old ≡ n → Goes a first old new
    by_waits zero none =
        let is = idle none in
        record {
          committed = committed_on first old new before (none_committed old new is.1);
          usable = ap (λ (l : ToldLog D). l.failed) is.1 ∙ usable;
          waiting = ap (λ (l : ToldLog D). rows_waiting l) is.1 ∙ (none ∙ sym is.0);
          fewer = λ some. absurd (omega (arith, some, is.0));
        }
    by_waits (suc n) some =
        let is : AreRowsAcknowledged device a old new = busy (omega (arith, some)) in
        let left : rows_waiting new ≡ a.waiting = one_waits device a old new is in
        record {
          committed = committed_on first old new before (one_committed device a old new is);
          usable = ap (λ (l : ToldLog D). l.failed) is.changed ∙ usable;
          waiting = left;
          fewer = λ more. omega (arith, left, is.waiting_are, some, more);
        }

-- the same, by what a commit ensures
pub goes_of : {D : Type 0} (device : D → Device) (r : Result LogAcked LogCommitNo) (a : LogAcked) (first old new : ToldLog D)
    → IsCommitted first old → r ≡ Ok a → (old.failed ≡ true → IsErrOf r Broken)
    → (old.failed ≡ false → rows_waiting old ≡ 0 → (r ≡ Ok (record { acked = old.acked; waiting = 0 })) × (new ≡ old))
    → (0 < rows_waiting old → AreRowsAcknowledged device a old new) → Goes a first old new
goes_of {D} device r a first old new before was broken idle busy = by_failed old.failed refl
  where
    by_failed : (b : Bool) → old.failed ≡ b → Goes a first old new
    by_failed true is = absurd (err_is_not r a was (broken is))
    by_failed false is = goes device a first old new before is (λ none. let same = idle is none in (ap (λ (r : LogAcked). r.waiting) (ok_is r a _ was same.0), same.1)) busy
