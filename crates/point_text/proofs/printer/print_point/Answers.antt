use Rattle.std.proofs.Common.{arith}
use Rattle.std.proofs.lemmas.Fmt.{length-decimal-le}
use Rattle.point_text.proofs.printer.print_point.Goals as goal

pub write_digits-requires : goal.write_digits-requires
write_digits-requires c =
    let few = length-decimal-le 20 c.args.p.t (omega arith) (omega arith) (omega arith) in
    (omega arith, omega arith)

pub returns-clause-few : goal.returns-clause-few
returns-clause-few c =
    let few = length-decimal-le 20 c.args.p.t (omega arith) (omega arith) (omega arith) in
    omega arith
