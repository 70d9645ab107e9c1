use Rattle.std.proofs.Common.{◌≡◌, Ok, Err, String, Global, string_bytes, refl, sym, ap, ◌∙◌}
use Rattle.byte_io.specs.{IsFaultOf}
use Rattle.plant_status.specs.{FileId}
use Rattle.plant_status.specs.declared.status.Status.TheVariants.{Done, ReadFault, WriteFault}
use Rattle.plant_files.specs.{IsFaultOfPlanned}
use Rattle.plant_files.proofs.Faults.{of_none}
use Rattle.store_commands.specs.Commands.{IsCheckRefusal, IsChecked, IsTrend, IsTrendRefusal}
use Rattle.plant_store.proofs.OpenedBases.{of_tags}
use Rattle.plant_run.specs.CommandLine.{asked}
use Rattle.store_commands.specs.FrameCommands.{IsFrames, IsFramesRefusal}
use Rattle.plant_files.proofs.Printing.{answered_so, done_so, ended_so}
use Rattle.plant_more.proofs.Told.{counts_so, faults_so}
use Rattle.plant_run.proofs.Refusals.{check_no_fault, check_not_done, check_rose, trend_no_fault, trend_not_done, trend_rose, frames_no_fault, frames_not_done, frames_rose}
use Rattle.plant_run.specs.{world, IsDrillEnd, IsRunEnd}
use Rattle.plant_run.proofs.Sessions.{end_no_done, end_no_fault, of_refusal, of_text, run_no_done, run_no_fault}
use Rattle.plant_run.proofs.program.run.Goals as goal

pub returns-in-Pack-clause-comes : goal.returns-in-Pack-clause-comes
returns-in-Pack-clause-comes g c = rw (sym c.form_of.ensures.form ∙ ap asked c.in-Pack.is) (record {
  ends = rw c.alone.ensures.status (c.run_pack.ensures.ends, refl);
  devices = refl;
  alone = c.alone.ensures.alone;
  unstopped = refl;
})

pub returns-in-Check-clause-comes : goal.returns-in-Check-clause-comes
returns-in-Check-clause-comes g c =
    let base = c.in-Check.base.now in
    let told = g.F.Files.told c.args.files.now in
    let old = g.S.Store.device_at c.args.store.now in
    let new = g.S.Store.device_at c.check.new.store in
    let faults = g.S.Store.fault_count c.args.store.now in
    let more = g.S.Store.fault_count c.check.new.store in
    let before = g.O.Sink.meaning c.args.out.now in
    let now = g.O.Sink.meaning c.finish.new.out in
    let IsRefused = IsCheckRefusal base told old new faults more in
    let no_done = check_not_done base base told old new faults more in
    let no_fault = check_no_fault base base told old new faults more in
    let rose = check_rose base base told old new faults more in
    let text = c.finish.ensures.text in
    let line = c.finish.ensures.refused in
    rw (sym c.form_of.ensures.form ∙ ap asked c.in-Check.is) (record {
      ends = rw c.alone-in-Check.ensures.status (
        (
          answered_so (IsChecked base told old) IsRefused before now c.check.result c.finish.result c.check.ensures.text
              c.check.ensures.refused no_done no_fault text line,
          record {
            durable = done_so _ IsRefused before now c.check.result c.finish.result c.check.ensures.durable c.check.ensures.refused
                no_done no_fault text line;
            file_faults = faults_so before now c.check.result c.finish.result _ _ c.check.ensures.file_faults text line;
            device_faults = λ few. counts_so IsRefused before now c.check.result c.finish.result faults more
                (of_tags c.check.result faults more (c.check.ensures.counts few)) c.check.ensures.refused (rose few) text line;
          },
          ended_so (λ status. (which : FileId) → status ≡ ReadFault which → IsFaultOf (g.F.Files.failed_name c.check.new.files) base)
              before now c.check.result c.finish.result (λ which same. cc) (λ which same. cc) c.check.ensures.whose text line,
        ),
        refl,
      );
      devices = c.check.ensures.kept;
      alone = c.alone-in-Check.ensures.alone;
      unstopped = refl;
    })

pub returns-in-Trend-clause-comes : goal.returns-in-Trend-clause-comes
returns-in-Trend-clause-comes g c =
    let base = c.in-Trend.base.now in
    let plan = c.in-Trend.plan.now in
    let told = g.F.Files.told c.args.files.now in
    let old = g.S.Store.device_at c.args.store.now in
    let new = g.S.Store.device_at c.trend.new.store in
    let faults = g.S.Store.fault_count c.args.store.now in
    let more = g.S.Store.fault_count c.trend.new.store in
    let before = g.O.Sink.meaning c.args.out.now in
    let now = g.O.Sink.meaning c.finish-in-Trend.new.out in
    let IsRefused = IsTrendRefusal base plan told old new faults more in
    let no_done = trend_not_done base plan told old new faults more in
    let no_fault = trend_no_fault base plan told old new faults more in
    let rose = trend_rose base plan told old new faults more in
    let text = c.finish-in-Trend.ensures.text in
    let line = c.finish-in-Trend.ensures.refused in
    rw (sym c.form_of.ensures.form ∙ ap asked c.in-Trend.is) (record {
      ends = rw c.alone-in-Trend.ensures.status (
        (
          answered_so (IsTrend base plan told old) IsRefused before now c.trend.result c.finish-in-Trend.result
              c.trend.ensures.text c.trend.ensures.refused no_done no_fault text line,
          record {
            durable = done_so _ IsRefused before now c.trend.result c.finish-in-Trend.result c.trend.ensures.durable
                c.trend.ensures.refused no_done no_fault text line;
            file_faults = faults_so before now c.trend.result c.finish-in-Trend.result _ _ c.trend.ensures.file_faults text line;
            device_faults = λ few. counts_so IsRefused before now c.trend.result c.finish-in-Trend.result faults more
                (c.trend.ensures.counts few) c.trend.ensures.refused (rose few) text line;
          },
          ended_so (IsFaultOfPlanned base plan told (g.F.Files.failed_name c.trend.new.files)) before now c.trend.result
              c.finish-in-Trend.result (of_none base plan told _ Done (λ which same. cc))
              (of_none base plan told _ WriteFault (λ which same. cc)) c.trend.ensures.whose text line,
          done_so _ IsRefused before now c.trend.result c.finish-in-Trend.result c.trend.ensures.synced c.trend.ensures.refused
              no_done no_fault text line,
        ),
        refl,
      );
      devices = c.trend.ensures.kept;
      alone = c.alone-in-Trend.ensures.alone;
      unstopped = refl;
    })

pub returns-in-Frames-clause-comes : goal.returns-in-Frames-clause-comes
returns-in-Frames-clause-comes g c =
    let base = c.in-Frames.base.now in
    let group = c.in-Frames.group.now in
    let calc = c.in-Frames.calc.now in
    let least = c.in-Frames.least in
    let told = g.F.Files.told c.args.files.now in
    let old = g.S.Store.device_at c.args.store.now in
    let new = g.S.Store.device_at c.frames.new.store in
    let faults = g.S.Store.fault_count c.args.store.now in
    let more = g.S.Store.fault_count c.frames.new.store in
    let before = g.O.Sink.meaning c.args.out.now in
    let now = g.O.Sink.meaning c.finish-in-Frames.new.out in
    let IsRefused = IsFramesRefusal base group calc told old new faults more in
    let no_done = frames_not_done base group calc told old new faults more in
    let no_fault = frames_no_fault base group calc told old new faults more in
    let rose = frames_rose base group calc told old new faults more in
    let text = c.finish-in-Frames.ensures.text in
    let line = c.finish-in-Frames.ensures.refused in
    rw (sym c.form_of.ensures.form ∙ ap asked c.in-Frames.is) (record {
      ends = rw c.alone-in-Frames.ensures.status (
        (
          answered_so (IsFrames base group calc least told old) IsRefused before now c.frames.result c.finish-in-Frames.result
              c.frames.ensures.text c.frames.ensures.refused no_done no_fault text line,
          record {
            durable = done_so _ IsRefused before now c.frames.result c.finish-in-Frames.result c.frames.ensures.durable
                c.frames.ensures.refused no_done no_fault text line;
            file_faults = faults_so before now c.frames.result c.finish-in-Frames.result _ _ c.frames.ensures.file_faults text line;
            device_faults = λ few. counts_so IsRefused before now c.frames.result c.finish-in-Frames.result faults more
                (c.frames.ensures.counts few) c.frames.ensures.refused (rose few) text line;
          },
          ended_so (λ status. (which : FileId) → status ≡ ReadFault which → IsFaultOf (g.F.Files.failed_name c.frames.new.files) base)
              before now c.frames.result c.finish-in-Frames.result (λ which same. cc) (λ which same. cc) c.frames.ensures.whose text line,
          done_so _ IsRefused before now c.frames.result c.finish-in-Frames.result c.frames.ensures.synced c.frames.ensures.refused
              no_done no_fault text line,
        ),
        refl,
      );
      devices = c.frames.ensures.kept;
      alone = c.alone-in-Frames.ensures.alone;
      unstopped = refl;
    })

pub returns-in-Run-clause-comes : goal.returns-in-Run-clause-comes
returns-in-Run-clause-comes g c =
    let base = c.in-Run.base.now in
    let plan = c.in-Run.plan.now in
    let its = c.run_plan.ensures in
    let same = c.reported.ensures.session in
    let answer = c.run_plan.result.answer in
    let session = c.reported.result.session in
    let input = g.I.Source.meaning c.args.input.now in
    let before = world input (g.O.Sink.meaning c.args.out.now) (g.F.Files.told c.args.files.now) (g.F.Files.fault_count c.args.files.now)
    (g.F.Files.failed_name c.args.files.now) (g.S.Store.device_at c.args.store.now) (g.S.Store.fault_count c.args.store.now) in
    let now = world input (g.O.Sink.meaning c.reported.new.out) (g.F.Files.told c.run_plan.new.files)
    (g.F.Files.fault_count c.run_plan.new.files) (g.F.Files.failed_name c.run_plan.new.files) (g.S.Store.device_at c.run_plan.new.store)
    (g.S.Store.fault_count c.run_plan.new.store) in
    let stops_before = g.P.Passes.stops c.args.passes.now in
    let stops_now = g.P.Passes.stops c.run_plan.new.passes in
    let ended : IsRunEnd base plan before now stops_before stops_now session answer = record {
      held = rw same its.held;
      promised = rw same its.promised;
      unheld = rw same its.unheld;
      file_faults = rw same its.file_faults;
      no_file_fault = rw same its.no_file_fault;
      unstopped = rw same its.unstopped;
      counts = rw same its.counts;
      whose = rw same its.whose;
    } in
    let Ends = IsRunEnd base plan before now stops_before stops_now session in
    rw (sym c.form_of.ensures.form ∙ ap asked c.in-Run.is) (record {
      ends = answered_so (λ text. (report : String Global) × (text ≡ string_bytes report) × Ends (Ok report)) (λ why. Ends (Err why))
          before.scene.output now.scene.output answer c.reported.result.status (of_text Ends answer ended) (of_refusal Ends answer ended)
          (run_no_done base plan before now stops_before stops_now session) (run_no_fault base plan before now stops_before stops_now session)
          c.reported.ensures.text c.reported.ensures.refused;
      input = refl;
    })

pub returns-in-Log-clause-comes : goal.returns-in-Log-clause-comes
returns-in-Log-clause-comes g c = rw (sym c.form_of.ensures.form ∙ ap asked c.in-Log.is) (record {
  came = c.log.result;
  logged = c.log.ensures.ends;
  status = c.handed_on.ensures.status;
  session = c.handed_on.ensures.session;
  input = refl;
})

pub returns-in-Shifts-clause-comes : goal.returns-in-Shifts-clause-comes
returns-in-Shifts-clause-comes g c = rw (sym c.form_of.ensures.form ∙ ap asked c.in-Shifts.is) (record {
  ends = rw c.alone-in-Shifts.ensures.status (c.shifts.ensures.ends, refl);
  devices = c.shifts.ensures.devices;
  alone = c.alone-in-Shifts.ensures.alone;
  unstopped = refl;
})

pub returns-in-Drill-clause-comes : goal.returns-in-Drill-clause-comes
returns-in-Drill-clause-comes g c =
    let its = c.drill.ensures in
    let same = c.reported-in-Drill.ensures.session in
    let answer = c.drill.result.answer in
    let session = c.reported-in-Drill.result.session in
    let stops_before = g.P.Passes.stops c.args.passes.now in
    let stops_now = g.P.Passes.stops c.drill.new.passes in
    let number = c.in-Drill.number in
    let tags = c.in-Drill.tags in
    let events = c.in-Drill.events in
    let ended : IsDrillEnd number tags events stops_before stops_now session answer = record {
      held = rw same its.held;
      drilled = rw same its.drilled;
      unheld = rw same its.unheld;
      unstopped = rw same its.unstopped;
    } in
    let Ends = IsDrillEnd number tags events stops_before stops_now session in
    rw (sym c.form_of.ensures.form ∙ ap asked c.in-Drill.is) (record {
      ends = answered_so (λ text. (report : String Global) × (text ≡ string_bytes report) × Ends (Ok report)) (λ why. Ends (Err why))
          (g.O.Sink.meaning c.args.out.now) (g.O.Sink.meaning c.reported-in-Drill.new.out) answer c.reported-in-Drill.result.status
          (of_text Ends answer ended) (of_refusal Ends answer ended) (end_no_done number tags events stops_before stops_now session)
          (end_no_fault number tags events stops_before stops_now session) c.reported-in-Drill.ensures.text
          c.reported-in-Drill.ensures.refused;
      input = refl;
      rest = refl;
    })

pub returns-in-Unknown-clause-comes : goal.returns-in-Unknown-clause-comes
returns-in-Unknown-clause-comes g c = rw (sym c.form_of.ensures.form ∙ ap asked c.in-Unknown.is) (record {
  ends = rw (c.alone-in-Unknown.ensures.status ∙ c.refuse.ensures.same) ((refl, record { told = c.refuse.ensures.line; rest = refl }), refl);
  devices = refl;
  alone = c.alone-in-Unknown.ensures.alone;
  unstopped = refl;
})
