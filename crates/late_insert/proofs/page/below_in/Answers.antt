use Rattle.std.proofs.Common.{◌-◌, arith}
use Rattle.std.proofs.lemmas.List.{get_or-take, length-take-le}
use Rattle.late_insert.proofs.Sorted.{times_rise, times_sorted}
use Rattle.late_insert.proofs.page.below_in.Goals.{then-n-eq0-via-then-n-eq0, then-n-eq0-via-else-n-eq0+then-frame-n}
use Rattle.late_insert.proofs.page.below_in.Goals as goal

pub count_below-requires : goal.count_below-requires
count_below-requires c = times_sorted c.args.frame.now c.requires.recorded c.requires.rising

pub returns-then-n-eq0-clause-before : goal.returns-then-n-eq0-clause-before
returns-then-n-eq0-clause-before c = λ k inside. elim c.then-n-eq0.branch [
  | then-n-eq0-via-then-n-eq0 w ↦ absurd (omega arith)
  | then-n-eq0-via-else-n-eq0+then-frame-n w ↦
      let rise = times_rise c.args.frame.now c.requires.rising k (c.args.frame.now.len - 1) (omega arith)
      (omega arith) in
      omega arith
]

pub returns-clause-before : goal.returns-clause-before
returns-clause-before c = λ k less.
    let f = c.args.frame.now in
    let long = length-take-le f.len f.times
    (omega (arith, c.requires.recorded.few, c.requires.recorded.times)) in
    let here = get_or-take f.len f.times k 0 (omega (arith, c.count_below.ensures.bound)) in
    omega (arith, c.count_below.ensures.before k less)

pub returns-clause-after : goal.returns-clause-after
returns-clause-after c = λ k from inside.
    let f = c.args.frame.now in
    let long = length-take-le f.len f.times
    (omega (arith, c.requires.recorded.few, c.requires.recorded.times)) in
    let here = get_or-take f.len f.times k 0 inside in
    omega (arith, c.count_below.ensures.after k from (omega arith))
