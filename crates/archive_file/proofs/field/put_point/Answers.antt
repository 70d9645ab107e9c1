use Rattle.std.proofs.Common.{◌≡◌, ◌++◌, arith}
use Rattle.std.specs.Int.{w64}
use Rattle.std.proofs.lemmas.Int.{to_z-of_z}
use mir.Val.{of_z, to_z}
use Rattle.archive_file.specs.{number_bytes, value_bytes}
use Rattle.archive_file.proofs.Joins.{joined}
use Rattle.archive_file.proofs.field.put_point.Goals as goal

pub returns-clause-items : goal.returns-clause-items
returns-clause-items g c =
    let first : c.put.new.out.items ≡ c.args.out.now.items ++ number_bytes 8 c.args.p.t = grind arith in
    let same : of_z w64 (to_z w64 (of_z w64 c.args.p.v)) ≡ of_z w64 c.args.p.v = grind (arith, to_z-of_z) in
    let second : c.put-2.new.out.items ≡ c.put.new.out.items ++ value_bytes c.args.p.v = grind arith in
    joined c.args.out.now.items c.put.new.out.items c.put-2.new.out.items (number_bytes 8 c.args.p.t)
    (value_bytes c.args.p.v) first second
