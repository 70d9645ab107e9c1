use Rattle.std.proofs.Common.{◌+◌, ◌<◌, get_or, subst, sym, ap, ap₂, ◌∙◌, take, length, arith}
use Rattle.std.proofs.lemmas.List.{take_more, length-take-le}
use Rattle.late_insert.specs.{IsSmall, joined, joined_of, no_summary, page_most, pages_most, summaries_of}
use Rattle.late_insert.proofs.Blocks.{length-summaries, read_summary}
use Rattle.late_insert.proofs.Joined.{joined_first, joined_push, joined_small, small_more}
use Rattle.late_insert.proofs.directory.joined_by.Goals as goal

pub loop-i-init : goal.loop-i-init
loop-i-init c =
    let ls = c.args.leaves.now in
    let is = c.args.order.now in
    let long = length-summaries ls is in
    let here = read_summary ls is 0 c.index-leaves-order.result no_summary c.requires.within c.requires.some in
    record {
      some = omega arith;
      upto = omega (arith, c.requires.some);
      is = here ∙ sym (joined_first (summaries_of ls is) no_summary (omega (arith, long, c.requires.some)));
      small = small_more page_most (pages_most 1) _ (omega arith)
          (subst (IsSmall page_most) (sym here) (c.requires.small 0 no_summary (omega (arith, long, c.requires.some))));
    }

pub joined-all-requires-clause-second : goal.joined-all-requires-clause-second
joined-all-requires-clause-second c =
    let ls = c.args.leaves.now in
    let is = c.args.order.now in
    subst (IsSmall page_most)
    (sym (read_summary ls is c.loop-i.i c.index-leaves-order-in-loop-i.result no_summary c.requires.within c.loop-i-test.true))
    (c.requires.small c.loop-i.i no_summary (omega (arith, length-summaries ls is, c.loop-i-test.true)))

pub loop-i-preserved : goal.loop-i-preserved
loop-i-preserved c =
    let ls = c.args.leaves.now in
    let is = c.args.order.now in
    let i = c.loop-i.i in
    let all = summaries_of ls is in
    let was = c.loop-i.invariant in
    let inside : i < length all = omega (arith, length-summaries ls is, c.loop-i-test.true) in
    let here = read_summary ls is i c.index-leaves-order-in-loop-i.result no_summary c.requires.within c.loop-i-test.true in
    let front = length-take-le i all (omega (arith, inside)) in
    let now = c.joined-all.ensures ∙ ap₂ joined was.is here in
    record {
      some = omega arith;
      upto = omega (arith, c.loop-i-test.true);
      is = now ∙ (sym (joined_push (take i all) (get_or all i no_summary) (omega (arith, front, was.some)))
          ∙ ap joined_of (sym (take_more all i no_summary inside)));
      small = subst (IsSmall (pages_most (i + 1))) (sym (c.joined-all.ensures ∙ ap (joined c.loop-i.all) here))
          (joined_small i c.loop-i.all (get_or all i no_summary) was.small (c.requires.small i no_summary inside));
    }
