use Rattle.std.proofs.Common.{◌≡◌, ◌+◌, ◌-◌, drop, take, sym, ap, ◌∙◌, arith}
use Rattle.std.specs.List.{filter, range_with_len}
use Rattle.calc_refresh.specs.{furthest, is_marked}
use Rattle.calc_refresh.proofs.Marking.{same_reach, unmarked_block}
use Rattle.calc_refresh.proofs.Passing.{passing_few, passing_none}
use Rattle.calc_refresh.proofs.mark.list_marked.Goals as goal

pub add_marked-reach-requires-clause-room : goal.add_marked-reach-requires-clause-room
add_marked-reach-requires-clause-room c = grind (arith, passing_few)

pub loop-from-preserved : goal.loop-from-preserved
loop-from-preserved c =
    let marks = c.args.marks.now in
    let from = c.loop-from.from in
    let was = c.loop-from.invariant in
    let n = c.min-to.result - from in
    let to : from + n ≡ c.min-to.result = omega (arith, c.min-to.ensures, c.loop-from-test.true) in
    let blank : furthest (take n (drop from marks)) ≡ 0 =
    omega (arith, c.furthest.ensures, c.if-furthest-ne0.false) in
    record {
      within = omega (arith, c.min-to.ensures);
      reach = was.reach ∙ (sym (same_reach marks from n blank) ∙ ap (λ k. furthest (take k marks)) to);
      listed = was.listed
          ∙ (sym (passing_none (is_marked marks) from n (λ k. unmarked_block marks from n c.loop-from.reach k was.reach c.if-from-reach.false blank))
          ∙ ap (λ k. filter (is_marked marks) (range_with_len 0 k)) to);
      room = was.room;
    }
