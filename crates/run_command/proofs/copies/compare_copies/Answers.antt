use Rattle.std.proofs.Common.{◌∙◌, ◌<◌, Some, ap, arith, length, sym}
use Rattle.std.proofs.lemmas.Option.{slice_get-get_or}
use Rattle.run_command.proofs.copies.compare_copies.Goals as goal

pub returns-in-Err-clause-differs : goal.returns-in-Err-clause-differs
returns-in-Err-clause-differs c =
    let at = c.loop-group.group in
    let defs = c.args.base.now.groups.items in
    let histories = c.args.session.now.groups.items in
    let def = c.index.result.now in
    let its = c.index-in-loop-group.result.now in
    let below : at < length histories = omega (arith, c.loop-group-test.true, c.len-group-end.ensures) in
    record {
      group = at;
      def = def;
      its = its;
      def_there = slice_get-get_or defs at def (omega (arith, below, c.requires.groups)) ∙ ap Some (sym c.index.ensures);
      there = slice_get-get_or histories at its below ∙ ap Some (sym c.index-in-loop-group.ensures);
      differs = c.in-Err.ensures.differs;
      front = c.loop-group.invariant;
    }
