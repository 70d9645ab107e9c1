use Rattle.trend_model.proofs.BoundLaw.{bounded}
use Rattle.pack_command.specs.{history_of, origin_of}
use Rattle.plant_run.specs.{IsNotPacked, IsPacked}
use Rattle.plant_files.proofs.Printing.{printed_so, written_so}
use Rattle.plant_run.proofs.program.run_pack.Goals as goal

pub returns-in-Ok-clause-ends : goal.returns-in-Ok-clause-ends
returns-in-Ok-clause-ends g c =
    let answer = c.in-Ok.ensures.printed in
    let tuning = c.args.tuning in
    let read = g.I.Source.meaning c.args.input.now in
    let left = g.I.Source.meaning c.pack.new.input in
    let before = g.O.Sink.meaning c.args.out.now in
    let now = g.O.Sink.meaning c.print.new.out in
    let packed : IsPacked tuning read left c.in-Ok.text = record {
      points = answer.points;
      read = answer.read;
      room = answer.room;
      same = answer.same;
      bounded = bounded (origin_of tuning) (history_of answer.points);
    } in
    printed_so (IsPacked tuning read left) (IsNotPacked tuning read left) before now c.in-Ok.text c.printed.result packed
    (written_so (IsPacked tuning read left) (IsNotPacked tuning read left) before now c.print.result c.in-Ok.text
    c.printed.result c.printed.ensures.done c.printed.ensures.fault c.print.ensures.whole c.print.ensures.cut_short)
