use Rattle.std.proofs.Common.{◌≡◌, ◌+◌, ◌*◌, ◌≤◌, true, length, subst, arith, lit<}
use Rattle.std.proofs.lemmas.Result.{err_from_is_err_and}
use Rattle.archive_file.specs.{Keeps}
use Rattle.archive_file.proofs.FieldLaws.{field_of, told_through}
use Rattle.commit_log.proofs.BlockLaws.{block_added, front_breaks, gate_breaks, rows_break}
use Rattle.commit_log.proofs.block_reader.LogReaderBlockReader.add.Goals as goal

pub returns-in_err-count-clause-damaged : goal.returns-in_err-count-clause-damaged
returns-in_err-count-clause-damaged g c = λ a byte told.
    let out = err_from_is_err_and c.from_residual.result c.from_residual.ensures.1 in
    let number : c.len.result ≡ length c.args.self.now.rows.items = omega (arith, c.len.ensures) in
    front_breaks g.C.Rest.rest c.args.self.now.tags c.len.result (length c.args.self.now.rows.items) a byte number
    (c.in_err-count.ensures.damaged a byte (told_through c.from_residual.result out.0 c.in_err-count.field-0.0 a byte out.1 out.2 told))

pub returns-in_err-read_rows-clause-damaged : goal.returns-in_err-read_rows-clause-damaged
returns-in_err-read_rows-clause-damaged g c = λ a byte told.
    let out = err_from_is_err_and c.from_residual-in_err-read_rows.result c.from_residual-in_err-read_rows.ensures.1 in
    let number : c.len.result ≡ length c.args.self.now.rows.items = omega (arith, c.len.ensures) in
    rows_break g.C.Rest.rest c.args.self.now.tags c.len.result (length c.args.self.now.rows.items) c.in_ok-count.count a byte number
    c.in_ok-count.ensures.kept c.in_ok-count.ensures.count
    (grind (arith, told_through))

pub returns-in_err-check-clause-damaged : goal.returns-in_err-check-clause-damaged
returns-in_err-check-clause-damaged g c = λ a byte told.
    let out = err_from_is_err_and c.from_residual-in_err-check.result c.from_residual-in_err-check.ensures.1 in
    let number : c.len.result ≡ length c.args.self.now.rows.items = omega (arith, c.len.ensures) in
    gate_breaks g.C.Rest.rest c.args.self.now.tags c.len.result (length c.args.self.now.rows.items) c.in_ok-count.count a byte number
    c.in_ok-count.ensures.kept c.in_ok-count.ensures.count c.in_ok-read_rows.ensures.kept
    (grind (arith, told_through))

pub returns-clause-added : goal.returns-clause-added
returns-clause-added g c = grind (arith, block_added)

pub returns-clause-within : goal.returns-clause-within
returns-clause-within g c =
    let kept = subst (Keeps g.C.Rest.rest) c.new.ensures (c.in_ok-check.ensures.kept 0 (field_of 0 0 true) (lit< tt)) in
    let there : 13 + 32 * c.in_ok-count.count + 1 ≤ length g.C.Rest.rest = kept.there in
    omega (arith, there)
