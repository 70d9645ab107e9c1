-- What `pack` answers at the end of its input.
use Rattle.std.proofs.Common.{◌≡◌, ℕ, inr, false, List, [], ap, ◌∙◌, arith, length}
use Rattle.trend_model.specs.Walk.{records}
use Rattle.trend_num.specs.declared.refusal.What.TheVariants.{Records}
use Rattle.trend_num.specs.{Point, Tuning}
use Rattle.tag_core.specs.Core.{Core}
use Rattle.byte_io.specs.Outside.{Outside}
use Rattle.point_text.specs.{archive_text, RowNo}
use Rattle.plant_status.specs.declared.status.Status.TheVariants.{Limit}
use Rattle.pack_command.specs.{IsPackRefusal, IsPrinted, IsInputRead, answer_full, history_of, origin_of, status_of_rows, IsAllRead, IsReadUpTo, Standing}
use Rattle.pack_command.specs.declared.intake.Standing.TheVariants.{Taken, Full, Refused}
use Rattle.pack_command.proofs.Coming.{all_points, all_refused}
use Rattle.pack_command.proofs.Refusal.{history_refused, rows_refused}

-- the points of an input that was all read
points_read : (tuning : Tuning) (before now : Outside) (core : Core) (rows : ℕ) (standing : Standing) (found : List Point)
    → (all : IsAllRead (origin_of tuning) before now core rows standing) → IsReadUpTo false all.bytes [] found → length found ≡ rows → IsInputRead before now found
points_read tuning before now core rows standing found all up count = record {
  bytes = all.bytes;
  whole = all.whole;
  no_fault = all.no_fault;
  within = all.within;
  rows = all_points all.bytes found up (omega (arith, all.few));
}

-- all values were taken, and their history is printed
pub ends_printed : (tuning : Tuning) (before now : Outside) (core : Core) (rows : ℕ) (text : List ℕ)
    → IsAllRead (origin_of tuning) before now core rows Taken → text ≡ archive_text core.state.records core.state.summary.held
    → IsPrinted tuning before now text
ends_printed tuning before now core rows text all same =
    let found = all.come.0 in
    let taken = all.come.3 in
    record {
      points = found;
      read = points_read tuning before now core rows Taken found all all.come.1 all.come.2;
      room = taken.room;
      same = same ∙ ap (λ rs. archive_text rs core.state.summary.held) taken.stands.same_records
          ∙ ap (archive_text (records (origin_of tuning) (history_of found))) taken.stands.same_held;
    }

-- a value found no room
pub ends_full : (tuning : Tuning) (before now : Outside) (core : Core) (rows stood : ℕ)
    → IsAllRead (origin_of tuning) before now core rows (Full stood) → IsPackRefusal tuning before now (Limit Records stood)
ends_full tuning before now core rows stood all =
    let found = all.come.0 in
    history_refused tuning before now found (Limit Records stood)
    (points_read tuning before now core rows (Full stood) found all all.come.1 all.come.2)
    (inr (ap (answer_full (origin_of tuning) (history_of found)) all.come.3))

-- the rows are refused
pub ends_refused : (tuning : Tuning) (before now : Outside) (core : Core) (rows : ℕ) (why : RowNo)
    → IsAllRead (origin_of tuning) before now core rows (Refused why) → IsPackRefusal tuning before now (status_of_rows why)
ends_refused tuning before now core rows why all =
    rows_refused tuning before now all.bytes why all.whole all.no_fault all.within (inr (all_refused all.bytes why all.come))
