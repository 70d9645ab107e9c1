use Rattle.std.proofs.Common.{arith, ◌≡◌, inl, ℤ, subst, sym}
use Rattle.std.proofs.lemmas.Int.{ints, to_z-of_z}
use Rattle.std.specs.Int.{w32}
use Rattle.shift_calendar.specs.{IsDayWord, IsFirstDay}
use mir.Val.{SFits, of_z, to_z}
use Rattle.plant_more.specs.Shifts.{IsFaultOfRead, IsShifts, IsShiftsRefusal}
use Rattle.plant_files.proofs.Printing.{answered_so, done_so, ended_so}
use Rattle.plant_more.proofs.Told.{counts_so, faults_so, shifts_no_fault, shifts_not_done, shifts_rose}
use Rattle.plant_more.proofs.shift_command.from_day.Goals as goal

-- a day on which shifts may begin has 32 bits
fits : (day : ℤ) → IsFirstDay day → SFits w32 day
fits day first = let low = first.0 in let high = first.1 in grind (arith, ints)

pub returns-in-Some-clause-ends : goal.returns-in-Some-clause-ends
returns-in-Some-clause-ends g c =
    let base = c.args.wanted.now.base.now in
    let calendar = c.args.wanted.now.calendar.now in
    let days = c.args.wanted.now.days in
    let day = to_z w32 (of_z w32 c.in-Some.first) in
    let same : day ≡ c.in-Some.first = to_z-of_z w32 c.in-Some.first (fits c.in-Some.first c.in-Some.ensures.in_range) in
    let told = g.F.Files.told c.args.files.now in
    let old = g.S.Store.device_at c.args.store.now in
    let new = g.S.Store.device_at c.shift_text.new.store in
    let faults = g.S.Store.fault_count c.args.store.now in
    let more = g.S.Store.fault_count c.shift_text.new.store in
    let before = g.O.Sink.meaning c.args.out.now in
    let now = g.O.Sink.meaning c.finish.new.out in
    let IsRefused = IsShiftsRefusal base calendar told old new faults more in
    let no_done = shifts_not_done base calendar told old new faults more in
    let no_fault = shifts_no_fault base calendar told old new faults more in
    let rose = shifts_rose base calendar told old new faults more in
    let text = c.finish.ensures.text in
    let line = c.finish.ensures.refused in
    let failed = g.F.Files.failed_name c.shift_text.new.files in
    inl (
      day,
      record {
        first = subst IsFirstDay (sym same) c.in-Some.ensures.in_range;
        named = subst (IsDayWord c.args.wanted.now.day.now) (sym same) c.in-Some.ensures.day;
        printed = answered_so (IsShifts base calendar day days told old) IsRefused before now c.shift_text.result c.finish.result
            c.shift_text.ensures.text c.shift_text.ensures.refused no_done no_fault text line;
        over = record {
          durable = done_so _ IsRefused before now c.shift_text.result c.finish.result c.shift_text.ensures.durable c.shift_text.ensures.refused
              no_done no_fault text line;
          file_faults = faults_so before now c.shift_text.result c.finish.result _ _ c.shift_text.ensures.file_faults text line;
          device_faults = λ few. counts_so IsRefused before now c.shift_text.result c.finish.result faults more
              (c.shift_text.ensures.counts few) c.shift_text.ensures.refused (rose few) text line;
        };
        whose = ended_so (IsFaultOfRead base calendar failed) before now c.shift_text.result c.finish.result
            (record { base = λ same. cc; calendar = λ same. cc }) (record { base = λ same. cc; calendar = λ same. cc })
            c.shift_text.ensures.whose text line;
      },
    )
