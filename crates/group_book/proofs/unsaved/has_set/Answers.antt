use Rattle.std.proofs.Common.{◌≡◌, ◌+◌, false, All, get_or, take, sym, subst, ap₂, ◌∙◌, arith}
use Rattle.std.specs.Prelude.{◌||◌}
use Rattle.std.proofs.lemmas.Bool.{or_parts}
use Rattle.std.proofs.lemmas.List.{get_or-take, length-take-le, take-take, take_all}
use Rattle.std.proofs.lemmas.List.Elements.{All-get_or, All-more, All-take}
use Rattle.group_book.proofs.unsaved.has_set.Goals as goal

pub loop-flag-preserved : goal.loop-flag-preserved
loop-flag-preserved c =
    let flags = c.args.flags.now in
    let i = c.loop-flag.flag-index in
    let within = c.loop-flag-test.true in
    let was = c.loop-flag.invariant in (
      λ none.
          let both = or_parts c.loop-flag.set (get_or flags i false) none in
          All-more (λ flag. flag ≡ false) flags i false within (was.0 both.0) both.1,
      λ all.
          let long = length-take-le (i + 1) flags (omega arith) in
          let last = All-get_or (λ flag. flag ≡ false) (take (i + 1) flags) i false (omega arith) all in
          let before = subst (All (λ flag. flag ≡ false)) (take-take i (i + 1) flags (omega arith))
          (All-take (λ flag. flag ≡ false) i (take (i + 1) flags) all) in
          ap₂ (λ a b. a || b) (was.1 before) (sym (get_or-take (i + 1) flags i false (omega arith)) ∙ last),
    )

pub returns : goal.returns
returns c = grind (arith, take_all)
