use Rattle.std.proofs.Common.{ap, ◌∙◌, arith}
use Rattle.std.proofs.lemmas.Nat.{one_shl}
use Rattle.late_insert.specs.{kind_of}
use Rattle.late_insert.proofs.Marks.{with_bit_is, with_bit_small, with_bit_fits, bit_below, bit_there, bit_above}
use Rattle.late_insert.proofs.mark.mark_inserted.Goals as goal

pub overflow_mul-result : goal.overflow_mul-result
overflow_mul-result c =
    omega (
      arith,
      (with_bit_small c.args.marks c.args.i 0 c.args.n (omega arith) c.requires.within
          c.requires.few c.requires.marks).0,
    )

pub overflow_add-result : goal.overflow_add-result
overflow_add-result c =
    omega (
      arith,
      (with_bit_small c.args.marks c.args.i c.bit_of.result c.args.n c.bit_of.ensures.small
          c.requires.within c.requires.few c.requires.marks).0,
    )

pub overflow_mul-result-2 : goal.overflow_mul-result-2
overflow_mul-result-2 c =
    let shift = one_shl c.args.i 128 (omega (arith, c.requires.within, c.requires.few)) in
    rw shift (omega (
      arith,
      (with_bit_small c.args.marks c.args.i c.bit_of.result c.args.n
          c.bit_of.ensures.small c.requires.within c.requires.few c.requires.marks).1,
    ))

pub overflow_add-result-2 : goal.overflow_add-result-2
overflow_add-result-2 c =
    let is = with_bit_is c.args.marks c.args.i c.bit_of.result
    (omega (arith, c.requires.within, c.requires.few)) in
    rw is (omega (
      arith,
      (with_bit_small c.args.marks c.args.i c.bit_of.result c.args.n c.bit_of.ensures.small
          c.requires.within c.requires.few c.requires.marks).2,
    ))

pub returns-clause-marks : goal.returns-clause-marks
returns-clause-marks c =
    let is = with_bit_is c.args.marks c.args.i c.bit_of.result
    (omega (arith, c.requires.within, c.requires.few)) in
    rw is (with_bit_fits c.args.marks c.args.i c.bit_of.result c.args.n c.bit_of.ensures.small
    c.requires.within c.requires.marks)

pub returns-clause-before : goal.returns-clause-before
returns-clause-before c = λ k below.
    let is = with_bit_is c.args.marks c.args.i c.bit_of.result
    (omega (arith, c.requires.within, c.requires.few)) in
    rw is (bit_below c.args.marks c.args.i c.bit_of.result k below)

pub returns-clause-there : goal.returns-clause-there
returns-clause-there c =
    let is = with_bit_is c.args.marks c.args.i c.bit_of.result
    (omega (arith, c.requires.within, c.requires.few)) in
    rw is (ap kind_of (bit_there c.args.marks c.args.i c.bit_of.result c.bit_of.ensures.small)
    ∙ c.bit_of.ensures.bit)

pub returns-clause-after : goal.returns-clause-after
returns-clause-after c = λ k above.
    let is = with_bit_is c.args.marks c.args.i c.bit_of.result
    (omega (arith, c.requires.within, c.requires.few)) in
    rw is (bit_above c.args.marks c.args.i c.bit_of.result k c.bit_of.ensures.small above)
