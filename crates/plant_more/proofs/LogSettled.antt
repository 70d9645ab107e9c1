-- A log that is brought to its end, step by step.
use Rattle.std.proofs.Common.{◌≡◌, ℕ, suc, List, [], ◌∷◌, ◌++◌, Result, Ok, Err, drop, refl, sym, ap, ◌∙◌, subst, arith}
use Rattle.std.specs.Prelude.{All, IfErr, OnOk, slice_index}
use Rattle.std.proofs.lemmas.List.{append-nil, take-append-drop}
use Rattle.plant_status.specs.declared.mismatch.Place.TheVariants.{Log as LogPlace, Opening}
use Rattle.plant_status.specs.{Seen}
use Rattle.plant_status.specs.declared.status.Status.{Status}
use Rattle.plant_status.specs.declared.status.Status.TheVariants.{Mismatch}
use Rattle.value_rows.specs.{RawRow}
use Rattle.commit_log.specs.{LogTurn, puts, ToldLog, rows_waiting, LogRow}
use Rattle.commit_log.specs.declared.history.LogTurn.TheVariants.{Put, Commit}
use Rattle.commit_log.proofs.Tapes.{puts-append}
use Rattle.plant_more.specs.{LogNote, IsCommit, IsCommitted, KnownLog, FirstDiffer, IsAsKnown, IsLogMismatch, found_numbers, known_numbers, AreRowsFor, IsCommitRefusal}
use Rattle.plant_more.specs.LogFinding.{AreFound, AreLeadingRows, ArePutsBegun, AreWhole, IsPutMismatch, rows_by, rows_in}
use Rattle.plant_more.specs.LogRefusals.{AreUnstopped, ArePutsMade, IsOpening, IsRestRefusal, MayBeForeignPut, OfCommit}
use Rattle.disk_model.specs.{moment}

-- a log that differs from what was kept is reported as an opening
opening_of : (found wanted : List ℕ) (why : Status) → FirstDiffer found wanted why → IsOpening why
opening_of found wanted (Mismatch (Opening unit) kept told) is = tt
opening_of found wanted other is = absurd is

pub mismatch_is_opening : {D : Type 0} (l : ToldLog D) (k : KnownLog) (why : Status) → IsLogMismatch l k why → IsOpening why
mismatch_is_opening l k why is = opening_of (found_numbers l is.text is.rows) (known_numbers k) why is.first

-- commits put no row
no_puts : (es : List LogTurn) → All IsCommit es → puts es ≡ []
no_puts [] all = refl
no_puts (Put row ∷ es) all = absurd (all 0 (Put row) (omega arith))
no_puts (Commit moment acked ∷ es) all = no_puts es (λ k d few. all (suc k) d (omega arith))

-- so rows that were put are the same after them
same_rows : {D : Type 0} (old new : ToldLog D) → IsCommitted old new → (collector : ℕ)
    → rows_by collector (puts new.tape) ≡ rows_by collector (puts old.tape)
same_rows old new is collector =
    ap (λ (l : List LogTurn). rows_by collector (puts l)) is.tape
    ∙ ap (rows_by collector) (puts-append old.tape is.more ∙ (ap (λ (l : List LogRow). puts old.tape ++ l) (no_puts is.more is.each)
    ∙ append-nil (puts old.tape)))

whole_on : {D : Type 0} (files : List (List RawRow)) (old new : ToldLog D) → IsCommitted old new → AreWhole files old.tape → AreWhole files new.tape
whole_on files old new is whole = λ collector. same_rows old new is collector ∙ whole collector

-- rows that are the first of their collectors' still are after them
pub begun_on : {D : Type 0} (files : List (List RawRow)) (old new : ToldLog D) → IsCommitted old new → ArePutsBegun files old.tape
    → ArePutsBegun files new.tape
begun_on files old new is begun = λ collector.
    subst (λ (l : List LogRow). AreLeadingRows l (rows_in files collector)) (sym (same_rows old new is collector)) (begun collector)

-- rows that were found are the first of their collectors'
pub found_begun : (files : List (List RawRow)) (tape : List LogTurn) (next : List ℕ) → AreFound files tape next → ArePutsBegun files tape
found_begun files tape next found = λ collector.
    let rest : List LogRow = drop (slice_index next collector) (rows_in files collector) in
    record {
      rest = rest;
      is = sym (take-append-drop (slice_index next collector) (rows_in files collector))
          ∙ ap (λ (l : List LogRow). l ++ rest) (sym (found.each collector));
    }

-- if the opening has changed, there may be a put of no file
pub opening_foreign : (why : Status) → IsOpening why → MayBeForeignPut why
opening_foreign (Mismatch (Opening unit) kept told) is = tt
opening_foreign other is = absurd is

-- so there may be if a put is not its collector's next row
pub put_foreign : (files : List (List RawRow)) (tape : List LogTurn) (why : Status) → IsPutMismatch files tape why → MayBeForeignPut why
put_foreign files tape (Mismatch (LogPlace place) kept told) is =
    subst (λ (k : Seen). MayBeForeignPut (Mismatch (LogPlace place) k told)) (sym is.kept_is) tt
put_foreign files tape other is = absurd is

-- what holds anyway holds at a success
pub at_ok : {A E P : Type 0} (r : Result A E) → P → OnOk r P
at_ok (Ok x) p = p
at_ok (Err why) p = tt

-- what follows from it holds at a success too
pub ok_then : {A E P Q : Type 0} (r : Result A E) → OnOk r P → (P → Q) → OnOk r Q
ok_then (Ok x) p then = then p
ok_then (Err why) p then = tt

-- a log of which all rows were put, once none rows_waiting
pub made_on : {D E : Type 0} (files : List (List RawRow)) (old new : ToldLog D) (r : Result Unit E) → IsCommitted old new → AreWhole files old.tape
    → OnOk r (rows_waiting new ≡ 0) → OnOk r (ArePutsMade files new)
made_on files old new (Ok x) is whole none = record { whole = whole_on files old new is whole; none_waits = none }
made_on files old new (Err why) is whole none = tt

-- why rows are not acknowledged
pub commit_refused : {D : Type 0} (faults : ℕ) (files : List (List RawRow)) (notes : List LogNote) (l : ToldLog D) (r : Result Unit Status)
    → AreUnstopped notes → IfErr r (IsCommitRefusal faults) → IfErr r (IsRestRefusal faults files notes l)
commit_refused faults files notes l (Ok x) unstopped is = tt
commit_refused faults files notes l (Err why) unstopped is = OfCommit unstopped is

-- rows for a log that is as it was kept
pub rows_on : {D : Type 0} (files : List (List RawRow)) (l : ToldLog D) (k : KnownLog) → IsAsKnown l k → AreRowsFor k.tags files → AreRowsFor l.tags files
rows_on files l k is rows = subst (λ (n : ℕ). AreRowsFor n files) (sym is.tags) rows
