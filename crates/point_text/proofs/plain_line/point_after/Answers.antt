use Rattle.std.proofs.Common.{◌≡◌, ℕ, ◌-ℤ◌, ◌≤◌, ℤ, pos, neg_ℤ, to_z, of_z, w64, eq-eqb, arith}
use Rattle.std.proofs.lemmas.Int.{ints}
use Rattle.std.proofs.lemmas.Bool.{ne_eqb}
use Rattle.point_text.proofs.PlainLine.{plain_positive, plain_negative}
use Rattle.point_text.proofs.plain_line.point_after.Goals as goal
use Rattle.point_text.proofs.plain_line.point_after.Goals.{then-negative, else-negative}

-- a size as a signed number, and its negation
size_is : (size : ℕ) (v : ℤ) → size ≤ 1000000000000000 → v ≡ to_z w64 size → v ≡ pos size
size_is size v small is = omega (arith, ints)

negated_is : (size : ℕ) (v : ℤ) → size ≤ 1000000000000000 → v ≡ to_z w64 (of_z w64 (pos 0 -ℤ to_z w64 size)) → v ≡ neg_ℤ (pos size)
negated_is size v small is = omega (arith, ints)

pub returns-clause-point : goal.returns-clause-point
returns-clause-point c =
    let value = c.in_ok-size.ensures.amount in
    let small = c.in_ok-size.ensures.in_range in
    let ends = c.in_ok-feed.ensures in
    elim c.if-negative.branch [
      | then-negative w ↦
          let one : c.from.result ≡ 1 = rw (eq-eqb _ 45 w.if-negative.true) at c.from.ensures in
          plain_negative c.args.text.now _ _ _ _ _ _ _ _ (omega arith) (negated_is _ _ small w.v-is) c.requires.time w.if-negative.true value ends
          c.requires.in_range small
      | else-negative w ↦
          let none : c.from.result ≡ 0 = rw (ne_eqb _ 45 w.if-negative.false) at c.from.ensures in
          plain_positive c.args.text.now _ _ _ _ _ _ _ _ (omega arith) (size_is _ _ small w.v-is) c.requires.time value ends
          c.requires.in_range small
    ]
