use Rattle.std.proofs.Common.{arith, length, refl}
use Rattle.calc_refresh.specs.{lists_of}
use Rattle.session_audit.proofs.Each.{each_refl, each_trans}
use Rattle.session_audit.proofs.Files.{IsFile, caught_file, file_read, known_file, over_again, over_file, shown_files}
use Rattle.session_audit.proofs.adding.add_missing.Given as given
use Rattle.session_audit.proofs.adding.add_missing.Goals as goal
use Rattle.session_audit.proofs.adding.add_missing.Goals.{After-deref}

-- the rows of the worker's file
file_of : (g : given.Over) (c : After-deref g) → IsFile (lists_of c.args.files.now) c.loop-worker.worker c.deref.result.now
file_of g c =
    file_read c.args.files.now c.loop-worker.worker c.index-files-worker.result c.deref.result.now c.loop-worker-test.true
    c.index-files-worker.is c.deref.ensures.value

pub loop-worker-init : goal.loop-worker-init
loop-worker-init g c = record {
  over = c.requires.over;
  found = c.requires.found;
  caught = λ w below. absurd (omega (arith, below));
  gained = each_refl g.A.Adding.gains g.met.A.Adding.gains_nothing c.args.units.now;
}

pub add_file-requires-clause-over : goal.add_file-requires-clause-over
add_file-requires-clause-over g c =
    over_file (g.A.Adding.item_of c.args.how.now) (length c.loop-worker.units) (lists_of c.args.files.now) c.loop-worker.works
    c.loop-worker.worker c.deref.result.now c.loop-worker.invariant.over
    (file_of g (goal.at.add_file-requires-clause-over g c).After-deref)

pub add_file-requires-clause-fits : goal.add_file-requires-clause-fits
add_file-requires-clause-fits g c =
    known_file (λ n. g.A.Adding.fits) 0 0 c.args.files.now refl c.requires.fits
    (file_of g (goal.at.add_file-requires-clause-fits g c).After-deref)

pub returns-in_err-add_file-clause-over : goal.returns-in_err-add_file-clause-over
returns-in_err-add_file-clause-over g c =
    let l = c.loop-worker in
    let step = c.add_file.ensures in
    over_again (g.A.Adding.item_of c.args.how.now) (length l.units) (length c.add_file.new.units) (lists_of c.args.files.now) l.works
    c.add_file.new.works l.worker c.deref.result.now l.invariant.over
    (file_of g (goal.at.returns-in_err-add_file-clause-over g c).After-deref) step.over step.others

pub returns-in_err-add_file-clause-gained : goal.returns-in_err-add_file-clause-gained
returns-in_err-add_file-clause-gained g c =
    each_trans g.A.Adding.gains g.met.A.Adding.gains_twice c.args.units.now c.loop-worker.units c.add_file.new.units
    c.loop-worker.invariant.gained c.add_file.ensures.gained

pub loop-worker-preserved : goal.loop-worker-preserved
loop-worker-preserved g c =
    let l = c.loop-worker in
    let files = lists_of c.args.files.now in
    let before = l.invariant in
    let step = c.add_file.ensures in
    let file = file_of g (goal.at.loop-worker-preserved g c).After-deref in
    record {
      over = over_again (g.A.Adding.item_of c.args.how.now) (length l.units) (length c.add_file.new.units) files l.works
          c.add_file.new.works l.worker c.deref.result.now before.over file step.over step.others;
      found = step.found;
      caught = λ n below. caught_file files l.works c.add_file.new.works l.worker c.deref.result.now file before.caught
          c.in_ok-add_file.ensures.caught step.others n (omega (arith, below));
      gained = each_trans g.A.Adding.gains g.met.A.Adding.gains_twice c.args.units.now l.units c.add_file.new.units before.gained
          step.gained;
    }

pub returns-clause-whole : goal.returns-clause-whole
returns-clause-whole g c =
    let l = c.loop-worker in
    let end = l.invariant in
    shown_files g.A.Unit.Taped.tape_of g.A.Adding.shows (g.A.Adding.item_of c.args.how.now) (length l.units) l.worker c.args.files.now
    l.units l.works end.over end.found end.caught (omega (arith, c.loop-worker-test.false, l.auto))
