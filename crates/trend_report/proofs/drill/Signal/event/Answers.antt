use Rattle.std.proofs.Common.{rules, ◌≡◌, arith}
use Rattle.std.proofs.lemmas.Bool.Decides.{nat_tests}
use Rattle.std.proofs.lemmas.Int.{to_z-of_z}
use mir.Syntax.{w64}
use mir.Val.{of_z, to_z}
use Rattle.trend_report.proofs.drill.Signal.event.Goals as goal

pub returns-clause-event : goal.returns-clause-event
returns-clause-event c =
    let level : to_z w64 (of_z w64 c.moved-level.result) ≡ c.moved-level.result = search rules in
    grind (arith, nat_tests, to_z-of_z)

pub returns-clause-signal : goal.returns-clause-signal
returns-clause-signal c =
    let level : to_z w64 (of_z w64 c.moved-level.result) ≡ c.moved-level.result = search rules in
    grind (arith, nat_tests, to_z-of_z)

pub returns-clause-near : goal.returns-clause-near
returns-clause-near c =
    let level : to_z w64 (of_z w64 c.moved-level.result) ≡ c.moved-level.result = search rules in
    let own : to_z w64 (of_z w64 c.args.self.now.level) ≡ c.args.self.now.level = search rules in
    record {
      number = omega arith;
      clock = omega arith;
      level = rw level (omega (arith, rw own at c.moved-level.ensures.near));
    }
