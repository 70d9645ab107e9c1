use Rattle.std.proofs.Common.{◌≡◌, ◌<◌, All, drop, map, length, get_or, set, ap, ap₂, sym, ◌∙◌, subst, arith}
use Rattle.std.proofs.lemmas.List.{get_or_default, get_or-map, length-map, length-set, map-set, take_at}
use Rattle.late_insert.specs.{Leaf, AreBlocks, AreBlocksBut, summaries_of, Listed, AreOrdered, no_leaf, picked, placed_pages, rewritten}
use Rattle.late_insert.proofs.Listing.{number_there, leaf_there, even_length, has_number, number_read, number_within, placed_pages-set, picked-set}
use Rattle.late_insert.proofs.Blocks.{blocks_written, length-summaries}
use Rattle.late_insert.proofs.directory.Directory.write.Goals as goal
use Rattle.late_insert.proofs.directory.Directory.write.Goals.{After-deref-2}

pub index-requires : goal.index-requires
index-requires c = omega (
  arith,
  number_there c.self.inside.leaves.items c.self.inside.order.items c.self.inside.firsts.items c.self.invariant.0
      _ c.args.k (ap (λ (s : Listed). s.items) c.self.view_is) c.requires.within,
  c.self.inside.order.ok.0,
)

pub index_mut-leaf-requires : goal.index_mut-leaf-requires
index_mut-leaf-requires c = omega (
  arith,
  leaf_there c.self.inside.leaves.items c.self.inside.order.items c.self.inside.firsts.items c.self.invariant.0
      _ c.args.k (ap (λ (s : Listed). s.items) c.self.view_is) c.requires.within c.index.result.now c.index.ensures,
  c.self.inside.leaves.ok.0,
)

pub returns : goal.returns
returns c = λ d.
    let ordered : AreOrdered c.self.inside.leaves.items c.self.inside.order.items c.self.inside.firsts.items =
    c.self.invariant.0 in
    let within = subst (λ (s : Listed). c.args.k < length s.items) (sym c.self.view_is) c.requires.within in
    let inside = has_number _ _ _ ordered c.args.k within in
    let number = number_read _ _ _ ordered c.args.k c.index.result.now within c.index.ensures in
    let there = number_within _ _ _ ordered c.args.k within in
    let ls = c.self.inside.leaves.items in
    let is = c.self.inside.order.items in
    let ns = c.self.inside.firsts.items in
    let old = c.index_mut-leaf.result.now in
    let leaf : Leaf = record { id = old.id; start = c.args.start; summary = c.args.summary } in
    let stood = get_or-map (λ i. get_or ls i no_leaf) is c.args.k 0 leaf inside in
    let same = ap (λ (l : Leaf). l.id) (c.index_mut-leaf.ensures.value ∙ (ap (λ i. get_or ls i old) number
    ∙ (get_or_default ls (get_or is c.args.k 0) old no_leaf there ∙ sym stood))) in
    let wrote = ap (λ i. picked (set ls i leaf) is) number ∙ picked-set ls is c.args.k leaf ordered.apart inside there in
    let long : c.args.k < length (picked ls is) = omega (arith, inside, length-map is (λ i. get_or ls i no_leaf)) in
    let items = ap (λ l. placed_pages l ns) wrote
    ∙ (placed_pages-set (picked ls is) ns c.args.k leaf d (even_length _ _ _ ordered) long same
    ∙ ap (λ (s : Listed). set s.items c.args.k (rewritten c.args.start c.args.summary (get_or s.items c.args.k d)))
    c.self.view_is) in
    ap₂ (λ is n. record { items = is; places = n }) items (ap (λ (s : Listed). s.places) c.self.view_is)

-- the summaries with the one that is written
now : (c : After-deref-2) → summaries_of (set c.self.inside.leaves.items c.index.result.now
    (record { id = c.index_mut-leaf.result.now.id; start = c.args.start; summary = c.args.summary })) c.self.inside.order.items
    ≡ set (summaries_of c.self.inside.leaves.items c.self.inside.order.items) c.args.k c.args.summary
now c =
    let ordered : AreOrdered c.self.inside.leaves.items c.self.inside.order.items c.self.inside.firsts.items =
    c.self.invariant.0 in
    let ls = c.self.inside.leaves.items in
    let is = c.self.inside.order.items in
    let leaf : Leaf = record { id = c.index_mut-leaf.result.now.id; start = c.args.start; summary = c.args.summary } in
    let within = subst (λ (s : Listed). c.args.k < length s.items) (sym c.self.view_is) c.requires.within in
    let number = number_read _ _ _ ordered c.args.k c.index.result.now within c.index.ensures in
    ap (λ i. summaries_of (set ls i leaf) is) number
    ∙ (ap (map (λ (l : Leaf). l.summary)) (picked-set ls is c.args.k leaf ordered.apart
    (has_number _ _ _ ordered c.args.k within) (number_within _ _ _ ordered c.args.k within))
    ∙ map-set (λ (l : Leaf). l.summary) (picked ls is) c.args.k leaf)

inside : (c : After-deref-2) → c.args.k < length (summaries_of c.self.inside.leaves.items c.self.inside.order.items)
inside c =
    let ordered : AreOrdered c.self.inside.leaves.items c.self.inside.order.items c.self.inside.firsts.items =
    c.self.invariant.0 in
    let within = subst (λ (s : Listed). c.args.k < length s.items) (sym c.self.view_is) c.requires.within in
    omega (arith, has_number _ _ _ ordered c.args.k within, length-summaries c.self.inside.leaves.items c.self.inside.order.items)

pub renew-requires-clause-others : goal.renew-requires-clause-others
renew-requires-clause-others c =
    let at = (goal.at.renew-requires-clause-others c).After-deref-2 in
    let but = blocks_written (summaries_of c.self.inside.leaves.items c.self.inside.order.items) c.self.inside.blocks.items c.args.k
    c.args.summary c.self.invariant.4 c.requires.small in
    subst (λ bs. AreBlocksBut (summaries_of c.deref.result.now c.deref-2.result.now) bs c.args.k) (sym c.deref_mut.ensures.value)
    (subst (λ o. AreBlocksBut (summaries_of c.deref.result.now o) c.self.inside.blocks.items c.args.k) (sym c.deref-2.ensures.value)
    (subst (λ l. AreBlocksBut (summaries_of l c.self.inside.order.items) c.self.inside.blocks.items c.args.k) (sym c.deref.ensures.value)
    (subst (λ a. AreBlocksBut a c.self.inside.blocks.items c.args.k) (sym (now at)) but)))

pub invariant_of-self : goal.invariant_of-self
invariant_of-self c =
    let ordered : AreOrdered c.self.inside.leaves.items c.self.inside.order.items c.self.inside.firsts.items =
    c.self.invariant.0 in
    let leaf : Leaf = record { id = c.index_mut-leaf.result.now.id; start = c.args.start; summary = c.args.summary } in
    let set_len = length-set c.self.inside.leaves.items c.index.result.now leaf in
    let bs = c.self.inside.blocks.items in
    let long : length c.renew.new.blocks ≡ c.self.inside.blocks.len =
    omega (arith, c.renew.ensures.len, ap length c.deref_mut.ensures.value, c.self.inside.blocks.ok.0) in
    let stands = take_at c.renew.new.blocks (drop (length c.renew.new.blocks) bs) c.self.inside.blocks.len long in
    let blocks = subst (λ o. AreBlocks (summaries_of c.deref.result.now o) c.renew.new.blocks) c.deref-2.ensures.value
    c.renew.ensures.blocks in (
      record {
        numbers = omega (arith, ordered.numbers, set_len);
        firsts = omega (arith, ordered.firsts, set_len);
        within = subst (λ n. All (λ i. i < n) c.self.inside.order.items) (sym set_len) ordered.within;
        apart = ordered.apart;
      },
      c.self.invariant.1,
      c.self.invariant.2,
      c.self.invariant.3,
      subst (AreBlocks _) (sym stands)
          (subst (λ l. AreBlocks (summaries_of l c.self.inside.order.items) c.renew.new.blocks) c.deref.ensures.value blocks),
      c.self.invariant.5,
    )
