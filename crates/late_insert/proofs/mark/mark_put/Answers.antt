use Rattle.std.proofs.Common.{◌^◌, sym, ap, ◌∙◌, arith}
use Rattle.std.specs.Int.{w128}
use Rattle.std.proofs.lemmas.Nat.{one_shl, or_lt, pow_below}
use Rattle.std.proofs.lemmas.Nat.Bits.{bit_at_set_same, bit_at_set_other}
use Rattle.late_insert.specs.{kind_of}
use Rattle.late_insert.proofs.mark.mark_put.Goals as goal

pub returns-in-Late-clause-marks : goal.returns-in-Late-clause-marks
returns-in-Late-clause-marks c =
    rw (one_shl c.args.i 128 (omega (arith, c.requires.within, c.requires.few)))
    (or_lt c.args.n c.args.marks (2 ^ c.args.i) c.requires.marks
    (pow_below c.args.i c.args.n c.requires.within))

pub returns-in-Late-clause-there : goal.returns-in-Late-clause-there
returns-in-Late-clause-there c =
    ap kind_of (bit_at_set_same w128 c.args.marks c.args.i (omega (arith, c.requires.within, c.requires.few)))
    ∙ sym c.in-Late.is

pub returns-in-Late-clause-others : goal.returns-in-Late-clause-others
returns-in-Late-clause-others c = λ k other.
    bit_at_set_other w128 c.args.marks c.args.i (omega (arith, c.requires.within, c.requires.few)) k other
