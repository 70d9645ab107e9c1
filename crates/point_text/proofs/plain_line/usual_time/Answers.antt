use Rattle.std.proofs.Common.{◌<◌, ◌^◌, drop, length-take, take, refl, arith, ◌∙◌}
use Rattle.core.proofs.dec2flt.Eight.{eight_at, word_at}
use Rattle.point_text.proofs.DigitRun.{digit_range_is, spelt_lt, two_words}
use Rattle.trend_num.specs.{digits_value}
use Rattle.point_text.proofs.plain_line.usual_time.Goals as goal

pub returns : goal.returns
returns c =
    let bs = c.args.text.now in
    let low = c.more_digits-more.ensures in
    let first = c.in_ok-high.ensures _ (eight_at bs 0 (λ k. (c.type_inv.text k).fits) (omega arith)) (c.word_at.ensures ∙ word_at bs 0 (omega arith)) in
    let second = low.read _ (eight_at bs 8 (λ k. (c.type_inv.text k).fits) (omega arith)) (c.word_at-2.ensures ∙ word_at bs 8 (omega arith)) in
    let run = digit_range_is bs 0 13 _ _ (omega (arith, c.if-more-ne5.false)) (omega (arith, low.most))
    (two_words bs 8 c.in_ok-high.high _ _ 100000 (omega arith) refl low.most first.0 first.1 second.0 second.1 (rw c.if-more-ne5.false refl)) in
    let small : digits_value (take 13 (drop 0 bs)) < 10 ^ 13 = spelt_lt (take 13 (drop 0 bs)) 13 run.digits (omega (arith, length-take 13 (drop 0 bs))) in
    record {
      time = grind arith;
      in_range = omega (arith, run.value);
    }
