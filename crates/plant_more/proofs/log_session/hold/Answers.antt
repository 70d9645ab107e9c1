use Rattle.plant_more.proofs.LogRows.{rows_in_range}
use Rattle.plant_more.proofs.LogSettled.{ok_then}
use Rattle.plant_more.proofs.log_session.hold.Goals as goal

pub run_collectors-requires-clause-rows : goal.run_collectors-requires-clause-rows
run_collectors-requires-clause-rows g c κs within = rows_in_range c.args.known.now.tags c.args.files.now c.requires.rows

pub returns-in-Ok-clause-ended : goal.returns-in-Ok-clause-ended
returns-in-Ok-clause-ended g c = record {
  log = c.settle-answer.new.log;
  notes = c.in-Ok.field-0.notes.items;
  same_device = c.into_history-dev.ensures.device;
  history_is = record {
    plant = c.into_history-dev.ensures.plant;
    tags = c.into_history-dev.ensures.tags;
    opening = c.into_history-dev.ensures.opening;
    moment = c.into_history-dev.ensures.moment;
    faults = c.into_history-dev.ensures.faults;
    tape = c.into_history-dev.ensures.tape;
    acked = c.into_history-dev.ensures.acked;
  };
  history = c.into_history-dev.ensures.history;
  notes_are = record { of_all = c.in-Ok.ensures.notes; stopped = c.in-Ok.ensures.stops };
  ended = rw (← c.deref.ensures.value) c.settle-answer.ensures.ended;
  made = c.settle-answer.ensures.made;
  faultless = ok_then c.settle-answer.result c.settle-answer.ensures.usable c.into_history-dev.ensures.faultless;
  begun = c.settle-answer.ensures.begun;
  as_known = c.settle-answer.ensures.known;
  refused = rw (← c.deref.ensures.value) c.settle-answer.ensures.refused;
}

pub returns-in-Ok-clause-since : goal.returns-in-Ok-clause-since
returns-in-Ok-clause-since g c =
    let log = c.into_history-dev.ensures in
    rw (log.plant, log.tags, log.opening, log.moment) log.begun
