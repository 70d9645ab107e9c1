use Rattle.std.proofs.Common.{◌+◌, drop, length-drop, arith, ◌∙◌}
use Rattle.std.proofs.lemmas.List.{drop-drop}
use Rattle.core.proofs.dec2flt.Eight.{eight_at, word_at}
use Rattle.point_text.proofs.DigitRun.{digit_range_is, one_word, two_words}
use Rattle.point_text.proofs.plain_line.digits.Goals as goal

pub returns-then-count-lt8 : goal.returns-then-count-lt8
returns-then-count-lt8 c =
    let bs = c.args.bytes.now in
    let at = c.args.at in
    let first = c.digits_of_word-count.ensures.read _ (eight_at bs at (λ k. (c.type_inv.bytes k).fits) (omega arith)) (c.word_at.ensures ∙ word_at bs at (omega arith)) in
    let run = digit_range_is bs at (at + c.digits_of_word-count.result.0) _ _ (omega arith) (omega arith) (one_word (drop at bs) _ _ c.if-count-lt8.true first.0 first.1) in
    record { end = run.end_is; within = run.within; digits = run.digits; value = run.value }

pub returns : goal.returns
returns c =
    let bs = c.args.bytes.now in
    let at = c.args.at in
    let high = c.digits_of_word-count.ensures in
    let low = c.digits_of_word-more.ensures in
    let first = high.read _ (eight_at bs at (λ k. (c.type_inv.bytes k).fits) (omega arith)) (c.word_at.ensures ∙ word_at bs at (omega arith)) in
    let second = rw (← drop-drop) at (low.read _ (eight_at bs (at + 8) (λ k. (c.type_inv.bytes k).fits) (omega arith)) (c.word_at-2.ensures ∙ word_at bs (at + 8) (omega arith))) in
    let run = digit_range_is bs at (at + 8 + c.digits_of_word-more.result.0) _ _ (omega arith) (omega (arith, low.most))
    (two_words (drop at bs) _ _ _ _ c.ten_to.result (omega (arith, length-drop at bs)) (omega (arith, high.most, c.if-count-lt8.false)) low.most first.0 first.1 second.0 second.1 c.ten_to.ensures) in
    record { end = run.end_is; within = run.within; digits = run.digits; value = run.value }
