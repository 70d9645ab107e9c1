use Rattle.std.proofs.Common.{Vec, ap, map, ◌∙◌}
use Rattle.std.specs.declared.alloc.Global.{Global}
use Rattle.branded_disk.specs.{branded, told_of}
use Rattle.value_rows.specs.{Query, RawRow}
use Rattle.calc_refresh.specs.{lists_of}
use Rattle.run_command.specs.Runs.{OfOpening}
use Rattle.run_command.specs.Sessions.{planned_turn}
use Rattle.run_command.proofs.Promises.{promised}
use Rattle.run_command.proofs.Results.{err_weaker}
use Rattle.run_command.proofs.Told.{some_weaker}
use Rattle.run_command.proofs.run.run_read.Goals as goal

pub returns-in-Ok-clause-promised : goal.returns-in-Ok-clause-promised
returns-in-Ok-clause-promised g c = λ name plan_name told planned.
    let D = g.S.Dev.Disk in
    let made = c.in-Ok.ensures in
    some_weaker c.run_given.result.session (λ s is. promised (branded D.device (told_of (g.S.Store.device_at c.args.store.now))) name plan_name told _ _ _ _ _ _
    c.run_given.result.answer s (record {
      base = c.args.read.base;
      plan = c.args.read.plan;
      rows = map (λ list. list.items) c.args.read.rows.items;
      queries = map (λ list. list.items) c.args.read.queries.items;
      given = c.in-Ok.given;
      good = c.requires.base;
      planned = planned;
      work = record {
        its = record {
          earlier_is = made.earlier;
          collectors = ap (λ (v : Vec (Vec RawRow Global) Global). lists_of v.items) made.collectors;
          readers = ap (λ (v : Vec (Vec Query Global) Global). lists_of v.items) made.readers;
          turns = made.refreshers ∙ ap (map planned_turn) c.deref.ensures.value;
        };
        phases_are = made.phases;
        inputs = made.inputs;
        sized = made.given;
      };
      run = is;
    })) c.run_given.ensures.session

pub returns-in-Ok-clause-unheld : goal.returns-in-Ok-clause-unheld
returns-in-Ok-clause-unheld g c = λ name plan_name told planned none. err_weaker c.run_given.result.answer
    (λ why is. OfOpening c.args.read.base c.args.read.plan (map (λ list. list.items) c.args.read.rows.items)
    (map (λ list. list.items) c.args.read.queries.items) planned is) (c.run_given.ensures.unheld none)
