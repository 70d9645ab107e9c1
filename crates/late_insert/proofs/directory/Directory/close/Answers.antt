use Rattle.std.proofs.Common.{◌≡◌, ◌+◌, ◌-◌, ◌*◌, length, take, drop, All, subst, sym, ap, ◌∙◌, arith}
use Rattle.std.proofs.lemmas.List.Elements.{All-take, All-drop}
use Rattle.late_insert.specs.{IsSmall, joined_of, page_most, AreBlocks, summaries_of}
use Rattle.late_insert.proofs.Blocks.{blocks_closed, length-summaries, summaries-range}
use Rattle.late_insert.proofs.directory.Directory.close.Goals as goal

pub joined_by-block-requires-clause-small : goal.joined_by-block-requires-clause-small
joined_by-block-requires-clause-small c =
    let ls = c.self.inside.leaves.items in
    let is = c.self.inside.order.items in
    let n = c.len-start.result * 64 in
    let all = subst (All (IsSmall page_most)) (summaries-range ls is n (n + 64 - n))
    (All-take (IsSmall page_most) (n + 64 - n) (drop n (summaries_of ls is))
    (All-drop (IsSmall page_most) n (summaries_of ls is) c.self.invariant.4.small)) in
    subst (λ l. All (IsSmall page_most) (summaries_of l (take (n + 64 - n) (drop n c.deref-then-start-len.result.now))))
    (sym c.deref.ensures.value)
    (subst (λ o. All (IsSmall page_most) (summaries_of ls (take (n + 64 - n) (drop n o)))) (sym c.deref-then-start-len.ensures.value) all)

pub invariant_of-self : goal.invariant_of-self
invariant_of-self c =
    let ls = c.self.inside.leaves.items in
    let is = c.self.inside.order.items in
    let all = summaries_of ls is in
    let bs = c.self.inside.blocks.items in
    let n = c.len-start.result * 64 in
    let m : c.len-start.result ≡ length bs = omega (arith, c.len-start.ensures, c.self.inside.blocks.ok.0) in
    let many : n + 64 - n ≡ 64 = omega arith in
    let sum = c.joined_by-block.ensures
    ∙ (ap (λ l. joined_of (summaries_of l (take (n + 64 - n) (drop n c.deref-then-start-len.result.now)))) c.deref.ensures.value
    ∙ (ap (λ o. joined_of (summaries_of ls (take (n + 64 - n) (drop n o)))) c.deref-then-start-len.ensures.value
    ∙ (ap joined_of (sym (summaries-range ls is n (n + 64 - n)))
    ∙ (ap (λ k. joined_of (take k (drop n all))) many ∙ ap (λ k. joined_of (take 64 (drop (k * 64) all))) m)))) in (
      c.self.invariant.0,
      c.self.invariant.1,
      c.self.invariant.2,
      c.self.invariant.3,
      subst (AreBlocks all) (sym c.push_reserved.ensures.items)
          (blocks_closed all bs c.joined_by-block.result c.self.invariant.4
          (omega (arith, m, length-summaries ls is, c.if-start-len.true, c.len.ensures, c.self.inside.order.ok.0)) sum),
      c.push_reserved.ensures.capacity ∙ c.self.invariant.5,
    )
