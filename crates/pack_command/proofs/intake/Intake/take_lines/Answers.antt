use Rattle.std.proofs.Common.{ℕ, List, true, subst, arith}
use Rattle.pack_command.specs.{HasCome}
use Rattle.pack_command.proofs.Coming.{end_further, end_more, next_fed}
use Rattle.pack_command.proofs.intake.Intake.take_lines.Goals as goal

pub loop-read-preserved : goal.loop-read-preserved
loop-read-preserved g c =
    let here = c.loop-read.invariant in
    let plain = c.take_plain_lines-rest.ensures in
    let rest = c.take_plain_lines-rest.result.now in
    let first = c.in-Some.ensures.point in
    let end = end_further c.args.text.now c.loop-read.rest.now rest here.tail here.within plain.end plain.within in
    record {
      ready = c.take_row.ensures.ready;
      within = omega (arith, c.in-Some.ensures.shorter, here.within, plain.within);
      tail = end_more c.args.text.now rest first.line c.in-Some.after.now end (omega (arith, here.within, plain.within)) first.cut;
      come = λ o bytes was. c.take_row.ensures.come true o bytes rest c.in-Some.after.now (plain.come o bytes (here.come o bytes was))
          (next_fed true rest c.in-Some.after.now c.in-Some.read first);
    }

pub returns-in_default-clause-come : goal.returns-in_default-clause-come
returns-in_default-clause-come g c = λ o bytes was.
    let here = c.loop-read.invariant in
    let plain = c.take_plain_lines-rest.ensures in
    let now = c.take_plain_lines-rest.new.self in
    let end = end_further c.args.text.now c.loop-read.rest.now c.take_plain_lines-rest.result.now here.tail here.within plain.end plain.within in
    subst (λ (l : List ℕ). HasCome true o bytes l now.core now.rows now.standing) end (plain.come o bytes (here.come o bytes was))
