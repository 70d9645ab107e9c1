use Rattle.std.proofs.Common.{◌<◌, length, get_or, ap, sym, ◌∙◌, subst, arith}
use Rattle.late_insert.specs.{Page, Listed, AreOrdered}
use Rattle.late_insert.proofs.Listing.{listed_length, listed_read}
use Rattle.late_insert.proofs.directory.Directory.first.Goals as goal

pub index-requires : goal.index-requires
index-requires c =
    let ordered : AreOrdered _ _ _ = c.self.invariant.0 in
    omega (
      arith,
      c.requires,
      ordered.firsts,
      c.self.inside.firsts.ok.0,
      ap (λ (s : Listed). length s.items) c.self.view_is,
      listed_length c.self.inside.leaves.items c.self.inside.order.items c.self.inside.firsts.items c.self.invariant.0,
    )

pub returns : goal.returns
returns c = λ d.
    let within = subst (λ (s : Listed). c.args.k < length s.items) (sym c.self.view_is) c.requires in
    ap (λ (s : Listed). (get_or s.items c.args.k d).first) (sym c.self.view_is)
    ∙ (ap (λ (p : Page). p.first)
    (listed_read c.self.inside.leaves.items c.self.inside.order.items c.self.inside.firsts.items c.self.invariant.0 c.args.k c.index.result.now d within)
    ∙ sym c.index.ensures)
