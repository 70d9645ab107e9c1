use Rattle.std.proofs.Common.{refl, subst, sym, take}
use Rattle.session_audit.specs.{AreFound, AreFurther, IsDifference, due_of}
use Rattle.session_audit.proofs.Walking.{all_further, difference_turn, found_at_start, found_turn, further_turn, still_known}
use Rattle.session_audit.proofs.walk.find.Goals as goal

pub loop-place-init : goal.loop-place-init
loop-place-init g c = record {
  found = found_at_start g.K.Kind.shows c.args.unit c.args.works.now c.requires.unfound;
  further = all_further c.args.unit c.args.works.now;
}

pub returns-then-not-follow-clause-differs : goal.returns-then-not-follow-clause-differs
returns-then-not-follow-clause-differs g c =
    let shows = g.K.Kind.shows in
    let d = c.difference.result in
    let e = c.index-tape-place.result in
    let unit = c.args.unit in
    let first = c.args.works.now in
    let tape = c.args.tape.now in
    let before = c.loop-place.invariant in
    let same = sym (c.if-not-follow.ensures.unchanged refl) in
    subst (λ n. IsDifference shows (due_of first unit) tape n d.kept d.told) (sym c.difference.ensures.place)
    (difference_turn shows unit c.loop-place.place d.kept d.told tape e (shows e) first c.follow.new.works
    c.loop-place-test.true c.index-tape-place.is refl
    (subst (AreFound shows unit (take c.loop-place.place tape)) same before.found)
    (subst (AreFurther unit first) same before.further) c.difference.ensures.differs)

pub loop-place-preserved : goal.loop-place-preserved
loop-place-preserved g c =
    let shows = g.K.Kind.shows in
    let step = c.if-not-follow.ensures.followed refl in
    let before = c.loop-place.invariant in
    let first = c.args.works.now in
    let old = c.loop-place.works in
    let e = c.index-tape-place.result in
    record {
      found = found_turn shows c.args.unit c.loop-place.place c.args.tape.now e (shows e) old c.follow.new.works
          c.loop-place-test.true c.index-tape-place.is refl step
          (still_known c.args.unit first old before.further c.requires.known) before.found;
      further = further_turn c.args.unit (shows e) first old c.follow.new.works step before.further;
    }
