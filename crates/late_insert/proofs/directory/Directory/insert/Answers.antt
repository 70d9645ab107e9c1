use Rattle.std.proofs.Common.{◌≡◌, ◌^◌, ◌<◌, ◌≤◌, length, take, ◌/◌, get_or, ◌++◌, [], ◌∷◌, ap, ap₂, sym, ◌∙◌, subst, arith}
use Rattle.std.specs.Prelude.{insert}
use Rattle.std.proofs.lemmas.List.{length-map}
use Rattle.late_insert.specs.{Leaf, summaries_of, AreBlocks, Listed, AreOrdered, no_leaf, picked, placed_pages}
use Rattle.late_insert.proofs.Listing.{even_length, listed_length, placed_pages-insert, picked-insert, ordered-insert}
use Rattle.late_insert.proofs.Blocks.{blocks_before, length-summaries, summaries-insert}
use Rattle.late_insert.proofs.directory.Directory.insert.Goals as goal
use Rattle.late_insert.proofs.directory.Directory.insert.Goals.{After-push_reserved}

pub put_in-requires : goal.put_in-requires
put_in-requires c =
    let ordered : AreOrdered c.self.inside.leaves.items c.self.inside.order.items c.self.inside.firsts.items =
    c.self.invariant.0 in
    let within = subst (λ (s : Listed). c.args.at ≤ length s.items) (sym c.self.view_is) c.requires.within in
    let room = subst (λ (s : Listed). length s.items < s.places) (sym c.self.view_is) c.requires.room in
    let all = listed_length _ _ _ ordered in
    let even = c.self.invariant.1 in
    record {
      within = omega (arith, within, all, ordered.numbers, c.self.inside.order.ok.0);
      room = omega (arith, room, all, ordered.numbers, c.self.inside.order.ok.0, even);
    }

pub put_in-requires-2-clause-within : goal.put_in-requires-2-clause-within
put_in-requires-2-clause-within c =
    let ordered : AreOrdered c.self.inside.leaves.items c.self.inside.order.items c.self.inside.firsts.items =
    c.self.invariant.0 in
    let within = subst (λ (s : Listed). c.args.at ≤ length s.items) (sym c.self.view_is) c.requires.within in
    omega (arith, within, listed_length _ _ _ ordered, ordered.firsts, c.self.inside.firsts.ok.0)

-- the page after which it is put is there
upto : (c : After-push_reserved) → c.args.at ≤ length c.self.inside.leaves.items
upto c =
    let ordered : AreOrdered c.self.inside.leaves.items c.self.inside.order.items c.self.inside.firsts.items =
    c.self.invariant.0 in
    let within = subst (λ (s : Listed). c.args.at ≤ length s.items) (sym c.self.view_is) c.requires.within in
    omega (arith, within, listed_length _ _ _ ordered)

-- the page without its place, and what the lists are with it
abbrev leaf_of : (c : After-push_reserved) → Leaf
leaf_of c = record { id = c.args.page.id; start = c.args.page.start; summary = c.args.page.summary }

leaves : (c : After-push_reserved) → c.push_reserved.new.self.items ≡ c.self.inside.leaves.items ++ leaf_of c ∷ []
leaves c = c.push_reserved.ensures.items

order : (c : After-push_reserved)
    → c.put_in.new.list.items ≡ insert c.self.inside.order.items c.args.at (length c.self.inside.leaves.items)
order c = c.put_in.ensures.list
    ∙ ap (λ n. insert c.self.inside.order.items c.args.at n) (c.len.ensures ∙ c.self.inside.leaves.ok.0)

pub invariant_of-self : goal.invariant_of-self
invariant_of-self c =
    let at = (goal.at.invariant_of-self c).After-push_reserved in
    let ls = c.self.inside.leaves.items in
    let is = c.self.inside.order.items in
    let leaf = leaf_of at in
    let now = ordered-insert ls is c.self.inside.firsts.items c.args.at c.args.page.first leaf c.self.invariant.0 (upto at) in (
      subst (λ l. AreOrdered l c.put_in.new.list.items c.put_in-2.new.list.items) (sym (leaves at))
          (subst (λ o. AreOrdered (ls ++ leaf ∷ []) o c.put_in-2.new.list.items) (sym (order at))
          (subst (λ f. AreOrdered (ls ++ leaf ∷ []) (insert is c.args.at (length ls)) f) (sym c.put_in-2.ensures.list) now)),
      c.put_in.ensures.capacity ∙ (c.self.invariant.1 ∙ sym c.push_reserved.ensures.capacity),
      c.put_in-2.ensures.capacity ∙ (c.self.invariant.2 ∙ sym c.push_reserved.ensures.capacity),
      subst (λ n. n < 2 ^ 32) (sym c.push_reserved.ensures.capacity) c.self.invariant.3,
      subst (λ l. AreBlocks (summaries_of l c.put_in.new.list.items) c.truncate.new.self.items) (sym (leaves at))
          (subst (λ o. AreBlocks (summaries_of (ls ++ leaf ∷ []) o) c.truncate.new.self.items) (sym (order at))
          (subst (AreBlocks (summaries_of (ls ++ leaf ∷ []) (insert is c.args.at (length ls)))) (sym c.truncate.ensures.items)
          (subst (λ a. AreBlocks a (take (c.args.at / 64) c.self.inside.blocks.items)) (sym (summaries-insert ls is c.args.at leaf c.self.invariant.0.within))
          (blocks_before (summaries_of ls is) c.self.inside.blocks.items c.args.at leaf.summary c.self.invariant.4 c.requires.small
          (omega (arith, upto at, c.self.invariant.0.numbers, length-summaries ls is)))))),
      c.truncate.ensures.capacity ∙ (c.self.invariant.5 ∙ ap (λ n. n / 64) (sym c.push_reserved.ensures.capacity)),
    )

pub returns : goal.returns
returns c =
    let ordered : AreOrdered c.self.inside.leaves.items c.self.inside.order.items c.self.inside.firsts.items =
    c.self.invariant.0 in
    let at = (goal.at.returns c).After-push_reserved in
    let ls = c.self.inside.leaves.items in
    let is = c.self.inside.order.items in
    let ns = c.self.inside.firsts.items in
    let leaf = leaf_of at in
    let picks = ap₂ picked (leaves at) (order at) ∙ picked-insert ls is c.args.at leaf ordered.within in
    let long : c.args.at ≤ length (picked ls is) =
    omega (arith, upto at, ordered.numbers, length-map is (λ i. get_or ls i no_leaf)) in
    let items = ap₂ placed_pages picks c.put_in-2.ensures.list
    ∙ (placed_pages-insert (picked ls is) ns c.args.at leaf c.args.page.first (even_length _ _ _ ordered) long
    ∙ ap (λ (s : Listed). insert s.items c.args.at c.args.page) c.self.view_is) in
    let places = c.push_reserved.ensures.capacity ∙ ap (λ (s : Listed). s.places) c.self.view_is in
    c.close.ensures ∙ ap₂ (λ is n. record { items = is; places = n }) items places
