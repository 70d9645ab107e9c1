use Rattle.std.proofs.Common.{◌≡◌, ◌+◌, ◌*◌, Err, length, subst, sym, ap, ◌∙◌, arith}
use Rattle.std.proofs.lemmas.List.{length-take}
use Rattle.std.proofs.lemmas.Result.{err_from_is_err_and}
use Rattle.disk_model.specs.{seen, Reads}
use Rattle.archive_file.specs.{Adds}
use Rattle.archive_file.proofs.Logs.{added_at, added_next, damage_next}
use Rattle.archive_file.proofs.log.read_pieces.Goals as goal
use Rattle.archive_file.proofs.log.read_pieces.Goals.{After-parse}

-- the piece that was read has its size, and is the next one
long : (g : _) (c : After-parse g) → length c.read.new.buf ≡ 17 * c.min-next.result
long g c = grind (arith, length-take)

piece : (g : _) (c : After-parse g)
    → Reads (g.D.Disk.device c.args.dev.now).trace (c.args.at + 17 * c.from.result) c.read.new.buf
piece g c = grind arith

-- the records before it
before : (g : _) (c : After-parse g) → Adds (seen (g.D.Disk.device c.args.dev.now).trace) c.args.at c.from.result c.args.recs.now.items c.loop-done.recs.items
before g c = rw c.from.ensures c.loop-done.invariant.added

pub returns-in_err-parse-clause-damaged : goal.returns-in_err-parse-clause-damaged
returns-in_err-parse-clause-damaged g c = λ a byte told.
    let at = (goal.at.returns-in_err-parse-clause-damaged g c).After-parse in
    let out = err_from_is_err_and c.from_residual.result c.from_residual.ensures.1 in
    damage_next (g.D.Disk.device c.args.dev.now).trace c.args.at c.from.result c.min-next.result c.args.count a byte
    c.read.new.buf c.args.recs.now.items c.loop-done.recs.items c.requires.there
    (omega (arith, c.loop-done-test.true, c.min-next.ensures, c.from.ensures)) (before g at) (long g at) (piece g at)
    (c.in_err-parse.ensures.damaged a byte (ap Err (sym out.2) ∙ sym out.1 ∙ told))

pub loop-done-preserved : goal.loop-done-preserved
loop-done-preserved g c =
    let at = (goal.at.loop-done-preserved g c).After-parse in
    let o = (g.D.Disk.device c.args.dev.now).trace in
    let next = c.min-next.result in
    let old = c.args.recs.now.items in
    let new = c.parse.new.recs.items in
    record {
      added =
          subst (λ n. Adds (seen o) c.args.at (n + next) old new) c.from.ensures
          (added_next o c.args.at c.from.result next old c.loop-done.recs.items new (before g at)
          (added_at o (c.args.at + 17 * c.from.result) next c.read.new.buf c.loop-done.recs.items new (long g at)
          (piece g at) c.in_ok-parse.ensures.ok));
      within = omega (arith, c.loop-done-test.true, c.min-next.ensures);
      same = c.in-Ok.ensures.same ∙ c.loop-done.invariant.same;
      faults = c.in-Ok.ensures.cause.passed ∙ c.loop-done.invariant.faults;
      handed = c.in-Ok.ensures.handed ∙ c.loop-done.invariant.handed;
      len = omega (arith, c.in_ok-parse.ensures.len, c.loop-done.invariant.len);
      capacity = c.in_ok-parse.ensures.capacity ∙ c.loop-done.invariant.capacity;
    }
