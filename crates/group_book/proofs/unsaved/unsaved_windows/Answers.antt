use Rattle.std.proofs.Common.{◌≡◌, ◌+◌, ◌-◌, ◌<◌, ◌≤◌, ℕ, Bool, true, false, All, List, drop, length, take, sym, ap, ◌∙◌, arith}
use Rattle.std.specs.List.{filter, range_with_len}
use Rattle.std.proofs.lemmas.List.{get_or-drop, get_or-take, length-drop, length-take}
use Rattle.calc_refresh.proofs.Passing.{passing_none}
use Rattle.group_book.specs.{is_unsaved}
use Rattle.group_book.proofs.unsaved.unsaved_windows.Goals as goal

-- a window whose flag is in a block without one that is set
unset : (flags : List Bool) (from n : ℕ) → from + n ≤ length flags → All (λ flag. flag ≡ false) (take n (drop from flags))
    → (k : ℕ) → from ≤ k → k < from + n → is_unsaved flags k ≡ false
unset flags from n within none k low below =
    let place : from + (k - from) ≡ k = omega arith in
    let long = length-take n (drop from flags) in
    sym (grind (arith, get_or-take, get_or-drop))
    ∙ none (k - from) true (omega (arith, long, length-drop from flags))

pub loop-from-preserved : goal.loop-from-preserved
loop-from-preserved c =
    let flags = c.args.flags.now in
    let from = c.loop-from.from in
    let n = c.min-to.result - from in
    let to : from + n ≡ c.min-to.result = omega (arith, c.min-to.ensures, c.loop-from-test.true) in
    let none : All (λ flag. flag ≡ false) (take n (drop from flags)) = c.has_set.ensures.0 c.if-has_set.false in
    record {
      within = omega (arith, c.min-to.ensures);
      listed = c.loop-from.invariant.listed
          ∙ (sym (passing_none (is_unsaved flags) from n (unset flags from n (omega (arith, to, c.min-to.ensures)) none))
          ∙ ap (λ k. filter (is_unsaved flags) (range_with_len 0 k)) to);
    }
