use Rattle.std.proofs.Common.{◌≡◌, ◌+◌, ◌-◌, ◌*◌, ◌/◌, take, drop, All, subst, sym, ap, ◌∙◌, arith}
use Rattle.std.proofs.lemmas.List.Elements.{All-take, All-drop}
use Rattle.late_insert.specs.{IsSmall, joined_of, page_most, summaries_of}
use Rattle.late_insert.proofs.Blocks.{summaries-range, blocks_renewed}
use Rattle.late_insert.proofs.directory.renew.Goals as goal

pub joined_by-requires-clause-small : goal.joined_by-requires-clause-small
joined_by-requires-clause-small c =
    let all = summaries_of c.args.leaves.now c.args.order.now in
    let n = c.args.k / 64 * 64 in
    subst (All (IsSmall page_most)) (summaries-range c.args.leaves.now c.args.order.now n (n + 64 - n))
    (All-take (IsSmall page_most) (n + 64 - n) (drop n all) (All-drop (IsSmall page_most) n all c.requires.others.small))

pub returns-then-block-blocks-clause-blocks : goal.returns-then-block-blocks-clause-blocks
returns-then-block-blocks-clause-blocks c =
    let all = summaries_of c.args.leaves.now c.args.order.now in
    let n = c.args.k / 64 * 64 in
    let many : n + 64 - n ≡ 64 = omega arith in
    blocks_renewed all c.args.blocks.now c.args.k c.joined_by.result c.requires.others c.if-block-blocks.true
    (c.joined_by.ensures ∙ (ap joined_of (sym (summaries-range c.args.leaves.now c.args.order.now n (n + 64 - n)))
    ∙ ap (λ m. joined_of (take m (drop n all))) many))
