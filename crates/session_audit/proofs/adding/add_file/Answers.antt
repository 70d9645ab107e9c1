use Rattle.std.proofs.Common.{arith}
use Rattle.session_audit.proofs.Each.{each_refl, each_trans}
use Rattle.session_audit.proofs.RowTurns.{others_stay, others_trans}
use Rattle.session_audit.proofs.adding.add_file.Goals as goal

pub loop-place-init : goal.loop-place-init
loop-place-init g c = record {
  over = c.requires.over;
  found = c.requires.found;
  caught = λ p i below. absurd (omega (arith, below));
  others = others_stay c.args.worker c.args.works.now;
  gained = each_refl g.A.Adding.gains g.met.A.Adding.gains_nothing c.args.units.now;
}

pub returns-in_err-add_row-clause-gained : goal.returns-in_err-add_row-clause-gained
returns-in_err-add_row-clause-gained g c =
    each_trans g.A.Adding.gains g.met.A.Adding.gains_twice c.args.units.now c.loop-place.units c.add_row.new.units
    c.loop-place.invariant.gained c.add_row.ensures.gained

pub loop-place-preserved : goal.loop-place-preserved
loop-place-preserved g c = record {
  over = c.add_row.ensures.over;
  found = c.add_row.ensures.found;
  caught = c.in_ok-add_row.ensures.caught;
  others = others_trans c.args.worker c.args.works.now c.loop-place.works c.add_row.new.works c.loop-place.invariant.others
      c.add_row.ensures.others;
  gained = each_trans g.A.Adding.gains g.met.A.Adding.gains_twice c.args.units.now c.loop-place.units c.add_row.new.units
      c.loop-place.invariant.gained c.add_row.ensures.gained;
}
