use Rattle.std.proofs.Common.{get_or, ap, sym, ◌∙◌, arith}
use Rattle.std.proofs.lemmas.List.{get_or_default}
use Rattle.late_insert.specs.{Listed, AreOrdered, leaf_of, no_leaf}
use Rattle.late_insert.proofs.Listing.{in_seen, number_there, leaf_there, listed_read, number_read, number_within}
use Rattle.late_insert.proofs.directory.Directory.leaf.Goals as goal

pub index-requires : goal.index-requires
index-requires c = omega (
  arith,
  number_there c.self.inside.leaves.items c.self.inside.order.items c.self.inside.firsts.items c.self.invariant.0
      _ c.args.k (ap (λ (s : Listed). s.items) c.self.view_is) c.requires,
  c.self.inside.order.ok.0,
)

pub index-requires-2 : goal.index-requires-2
index-requires-2 c = omega (
  arith,
  leaf_there c.self.inside.leaves.items c.self.inside.order.items c.self.inside.firsts.items c.self.invariant.0
      _ c.args.k (ap (λ (s : Listed). s.items) c.self.view_is) c.requires c.index.result.now c.index.ensures,
  c.self.inside.leaves.ok.0,
)

pub returns-clause-value : goal.returns-clause-value
returns-clause-value c = λ d.
    let ordered : AreOrdered c.self.inside.leaves.items c.self.inside.order.items c.self.inside.firsts.items =
    c.self.invariant.0 in
    let within = in_seen _ _ _ ordered _ c.args.k (ap (λ (s : Listed). s.items) c.self.view_is) c.requires in
    let number = number_read _ _ _ ordered c.args.k c.index.result.now within c.index.ensures in
    ap (λ (s : Listed). leaf_of (get_or s.items c.args.k d)) (sym c.self.view_is)
    ∙ (ap leaf_of (listed_read _ _ _ ordered c.args.k 0 d within)
    ∙ (get_or_default c.self.inside.leaves.items (get_or c.self.inside.order.items c.args.k 0) no_leaf
    c.index-2.result.now (number_within _ _ _ ordered c.args.k within)
    ∙ (ap (λ i. get_or c.self.inside.leaves.items i c.index-2.result.now) (sym number) ∙ sym c.index-2.ensures)))

pub returns-clause-next : goal.returns-clause-next
returns-clause-next c =
    let ordered : AreOrdered c.self.inside.leaves.items c.self.inside.order.items c.self.inside.firsts.items =
    c.self.invariant.0 in
    omega (
      arith,
      number_there _ _ _ ordered _ c.args.k (ap (λ (s : Listed). s.items) c.self.view_is) c.requires,
      ordered.numbers,
      c.self.inside.leaves.ok.0,
      c.self.inside.leaves.small,
    )
