use Rattle.std.proofs.Common.{arith}
use Rattle.std.proofs.lemmas.Fmt.{length-decimal-le}
use Rattle.point_text.proofs.printer.print_value.Goals as goal

pub write_digits-start-requires : goal.write_digits-start-requires
write_digits-start-requires c =
    let few = length-decimal-le 19 c.unsigned_abs.result (omega arith) (omega arith) (omega arith) in
    (omega arith, omega arith)

pub print_bytes-requires-clause-room : goal.print_bytes-requires-clause-room
print_bytes-requires-clause-room c =
    let few = length-decimal-le 19 c.unsigned_abs.result (omega arith) (omega arith) (omega arith) in
    omega arith

pub returns-then-v-lt0-clause-few : goal.returns-then-v-lt0-clause-few
returns-then-v-lt0-clause-few c =
    let few = length-decimal-le 19 c.unsigned_abs.result (omega arith) (omega arith) (omega arith) in
    omega arith

pub returns-clause-few : goal.returns-clause-few
returns-clause-few c =
    let few = length-decimal-le 19 c.unsigned_abs.result (omega arith) (omega arith) (omega arith) in
    omega arith
