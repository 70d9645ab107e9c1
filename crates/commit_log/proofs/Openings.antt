-- What opening a log returns, and what its type keeps at first.
use Rattle.std.proofs.Common.{◌≡◌, ℕ, ◌+◌, ◌<◌, ◌≤◌, false, All, List, [], length, Option, Result, Ok, Err, IfErr, IfOk, IsErrOf, OnErr, OnOk, refl, sym, subst, arith}
use Rattle.std.proofs.lemmas.List.{append-nil}
use Rattle.disk_model.specs.{Shows, LeftSince, Synced, Trace, noted, moment}
use Rattle.disk_model.proofs.Moments.{only_since}
use Rattle.archive_file.specs.{ScanNo}
use Rattle.archive_file.specs.declared.failure.ScanNo.TheVariants as scan
use Rattle.commit_log.specs.{LogTurn, Parts, LogNo, LogRow, IsLogRow, IsLogDamage, IsOfOther, StandsForRows, IsLogCause, IsTooMany, most_rows, refusal_of, IsLogLegal, IsLogSafe, HasRoomForPuts, IsKept, IsReady, Waits}
use Rattle.commit_log.specs.declared.refusal.LogNo.TheVariants.{DeviceFault, Damaged, OtherPlant, TooMany, WantOfMemory}
use Rattle.commit_log.proofs.Commits.{ready_stands}
use Rattle.archive_file.proofs.ReadImages.{shown_before}

-- ---- through an answer

-- what holds of the rows holds of those that are handed on
pub ok_rows : {E : Type 0} (r : Result Parts E) (rows : List LogRow) (P : List LogRow → Type 0) → IfOk r (λ p. p.rows.items ≡ rows)
    → P rows → IfOk r (λ p. P p.rows.items)
ok_rows (Err e) rows P is has = tt
ok_rows (Ok p) rows P is has = subst P (sym is) has

-- what holds in any case
pub on_ok : {T E : Type 0} (r : Result T E) {P : Type 0} → P → OnOk r P
on_ok (Ok x) p = p
on_ok (Err e) p = tt

pub on_err : {T E : Type 0} (r : Result T E) (P : Type 0) → P → OnErr r P
on_err (Ok x) P p = tt
on_err (Err e) P p = p

-- ---- why a device is not opened

-- it was not read
pub read_cause : {T : Type 0} (plant : List ℕ) (tags room : ℕ) (o mid : Trace) (r : Result T LogNo) (no : LogNo) → r ≡ Err no
    → mid ≡ noted Synced o
    → ((a : ℕ) (byte : Option ℕ) → IsErrOf r (Damaged a byte) → Shows mid (λ c. IsLogDamage plant tags c a byte))
    → ((at : ℕ) → IsErrOf r (OtherPlant at) → Shows mid (λ c. IsOfOther plant c at))
    → ((n : ℕ) → IsErrOf r (TooMany n) → ⊥) → IsLogCause plant tags room o no
read_cause plant tags room o mid r DeviceFault is synced damaged other many = tt
read_cause plant tags room o mid r (Damaged a byte) is synced damaged other many =
    shown_before o mid (λ c. IsLogDamage plant tags c a byte) synced (damaged a byte is)
read_cause plant tags room o mid r (OtherPlant at) is synced damaged other many =
    shown_before o mid (λ c. IsOfOther plant c at) synced (other at is)
read_cause plant tags room o mid r (TooMany n) is synced damaged other many = absurd (many n is)
read_cause plant tags room o mid r WantOfMemory is synced damaged other many = tt

-- its rows are too many, or there was no memory
pub parts_cause : {T : Type 0} (plant : List ℕ) (tags room : ℕ) (o : Trace) (r : Result T LogNo) (together : ℕ)
    → ((n : ℕ) → IsErrOf r (TooMany n) → (n ≡ together) × (most_rows < n))
    → ((a : ℕ) (byte : Option ℕ) → IsErrOf r (Damaged a byte) → ⊥) → ((at : ℕ) → IsErrOf r (OtherPlant at) → ⊥)
    → ((n : ℕ) → n ≡ together → Shows o (IsTooMany plant tags room n)) → IfErr r (IsLogCause plant tags room o)
parts_cause plant tags room o (Ok x) together many undamaged same shows = tt
parts_cause plant tags room o (Err DeviceFault) together many undamaged same shows = tt
parts_cause plant tags room o (Err (Damaged a byte)) together many undamaged same shows = absurd (undamaged a byte refl)
parts_cause plant tags room o (Err (OtherPlant at)) together many undamaged same shows = absurd (same at refl)
parts_cause plant tags room o (Err (TooMany n)) together many undamaged same shows =
    let is = many n refl in
    (is.1, shows n is.0)
parts_cause plant tags room o (Err WantOfMemory) together many undamaged same shows = tt

-- ---- through a `?`

-- only damage that was read is damage of a log
refused_as : (why : ScanNo) (a : ℕ) (byte : Option ℕ) → refusal_of why ≡ Damaged a byte → why ≡ scan.Damaged a byte
refused_as scan.DeviceFault a byte e = absurd (cc (e))
refused_as (scan.Damaged b other) a byte e =
    let place : b ≡ a = cc (e) in
    let same : other ≡ byte = cc (e) in
    λ i. scan.Damaged (place i) (same i)
refused_as scan.WantOfMemory a byte e = absurd (cc (e))

pub damage_read : {T : Type 0} (r : Result T LogNo) (out : LogNo) (why : ScanNo) (a : ℕ) (byte : Option ℕ) → r ≡ Err out → out ≡ refusal_of why
    → IsErrOf r (Damaged a byte) → why ≡ scan.Damaged a byte
damage_read r out why a byte is same told = grind (arith, refused_as)

-- ---- at first

-- what the type keeps of a log that was opened
pub opened_keeps : (plant : List ℕ) (tags : ℕ) (rows : List LogRow) (moment faults : ℕ) (tape : List LogTurn) (places room acked end : ℕ)
    (trace : Trace) (ticks faults_now : ℕ) → tape ≡ [] → moment ≡ ticks → faults ≡ faults_now → acked ≡ length rows
    → All (IsLogRow tags) rows → room ≤ places → length rows + room ≤ most_rows → IsReady plant tags rows end trace
    → length trace.calls ≡ ticks
    → IsLogLegal tags rows moment tape acked × HasRoomForPuts rows tape places 0 room × Waits rows tape 0 acked
    × IsKept plant tags rows moment faults tape 0 end false trace ticks faults_now × IsLogSafe plant tags rows moment tape (LeftSince trace)
opened_keeps plant tags rows moment faults tape places room acked end trace ticks faults_now none moment_is faults_is acked_is each enough few
    ready told =
    subst (λ (l : List LogTurn). IsLogLegal tags rows moment l acked × HasRoomForPuts rows l places 0 room × Waits rows l 0 acked
    × IsKept plant tags rows moment faults l 0 end false trace ticks faults_now × IsLogSafe plant tags rows moment l (LeftSince trace)) (sym none) (
      record { opened = each; turns = tt; last = acked_is },
      record { count_is = refl; within = omega arith; tape_room = omega arith; few = few },
      record { within = omega arith; acked_are = omega arith },
      record {
        ready = λ usable. subst (λ (l : List LogRow). IsReady plant tags l end trace) (sym (append-nil rows)) ready;
        past = omega arith;
        opened_before = omega arith;
        faultless = λ usable. sym faults_is;
        cause = λ failed. absurd (cc (failed));
      },
      record {
        images = λ t c since left. record {
          count = 0;
          enough = omega arith;
          within = omega arith;
          stands = subst (StandsForRows plant tags c) (sym (append-nil rows))
              (ready_stands plant tags rows end trace ready c (only_since trace ticks t c told (omega (arith, since)) left));
        };
      },
    )
