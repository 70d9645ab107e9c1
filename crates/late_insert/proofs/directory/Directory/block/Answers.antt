use Rattle.std.proofs.Common.{◌≡◌, ◌/◌, ◌<◌, length, map, take, drop, sym, ap, ◌∙◌, arith}
use Rattle.std.proofs.lemmas.List.{take-map, drop-map}
use Rattle.late_insert.specs.{Page, joined_of, Listed, picked, summaries_of}
use Rattle.late_insert.proofs.Listing.{even_length, listed_length}
use Rattle.late_insert.proofs.Blocks.{length-summaries, summaries-placed}
use Rattle.late_insert.proofs.directory.Directory.block.Goals as goal

pub returns-clause-within : goal.returns-clause-within
returns-clause-within c =
    let ls = c.self.inside.leaves.items in
    let is = c.self.inside.order.items in
    let ns = c.self.inside.firsts.items in
    omega (
      arith,
      c.self.invariant.4.within,
      length-summaries ls is,
      c.self.invariant.0.numbers,
      listed_length ls is ns c.self.invariant.0,
      ap (λ (s : Listed). length s.items) c.self.view_is,
      c.self.inside.blocks.ok.0,
      c.len.ensures,
      c.if-block-k.false,
    )

pub returns-clause-value : goal.returns-clause-value
returns-clause-value c =
    let ls = c.self.inside.leaves.items in
    let is = c.self.inside.order.items in
    let ns = c.self.inside.firsts.items in
    let all = summaries_of ls is in
    let there : c.args.k / 64 < length c.self.inside.blocks.items =
    omega (arith, c.if-block-len.false, c.len.ensures, c.self.inside.blocks.ok.0) in
    let same : all ≡ map (λ (p : Page). p.summary) c.args.self.now.items =
    sym (summaries-placed (picked ls is) ns (even_length ls is ns c.self.invariant.0))
    ∙ ap (λ (s : Listed). map (λ (p : Page). p.summary) s.items) c.self.view_is in
    c.index.ensures
    ∙ (c.self.invariant.4.each (c.args.k / 64) _ there
    ∙ (ap (λ n. joined_of (take 64 (drop n all))) c.if-block-k.false
    ∙ (ap (λ l. joined_of (take 64 (drop c.args.k l))) same
    ∙ ap joined_of (ap (take 64) (drop-map (λ (p : Page). p.summary) c.args.k c.args.self.now.items)
    ∙ take-map (λ (p : Page). p.summary) 64 (drop c.args.k c.args.self.now.items)))))
