use Rattle.std.proofs.Common.{◌≡◌, ◌+◌, ◌^◌, ◌<◌, length, map, take, drop, ◌++◌, All, ap, ap₂, sym, ◌∙◌, subst, arith, length-append}
use Rattle.std.proofs.lemmas.List.{take_at, length-map, length-take-le, length-drop}
use Rattle.late_insert.specs.{Page, Listed, AreOrdered, picked, placed_pages, moved}
use Rattle.late_insert.proofs.Listing.{even_length, listed_length, listed_small, placed_pages-move}
use Rattle.late_insert.proofs.directory.Directory.move_on.Goals as goal

pub move_places-requires : goal.move_places-requires
move_places-requires c =
    let ordered : AreOrdered _ _ _ = c.self.invariant.0 in
    let within = subst (λ (s : Listed). c.args.k < length s.items) (sym c.self.view_is) c.requires.within in
    let all = listed_length c.self.inside.leaves.items c.self.inside.order.items c.self.inside.firsts.items c.self.invariant.0 in
    let small = subst (λ (s : Listed). All (λ (p : Page). p.first + c.args.by < 2 ^ 32) s.items) (sym c.self.view_is)
    c.requires.small in
    record {
      within = omega (arith, within, all, c.deref_mut.ensures.len, c.self.inside.firsts.ok.0, ordered.firsts);
      small = subst (All (λ n. n + c.args.by < 2 ^ 32)) (sym c.deref_mut.ensures.value)
          (listed_small c.self.inside.leaves.items c.self.inside.order.items c.self.inside.firsts.items c.self.invariant.0 c.args.by (2 ^ 32) small);
    }

pub returns : goal.returns
returns c =
    let ordered : AreOrdered _ _ _ = c.self.invariant.0 in
    let ns = c.self.inside.firsts.items in
    let leaves = picked c.self.inside.leaves.items c.self.inside.order.items in
    let k = c.args.k + 1 in
    let M = take k ns ++ map (λ n. n + c.args.by) (drop k ns) in
    let moves = c.move_places.ensures ∙ ap (λ l. take k l ++ map (λ n. n + c.args.by) (drop k l))
    c.deref_mut.ensures.value in
    let within = subst (λ (s : Listed). c.args.k < length s.items) (sym c.self.view_is) c.requires.within in
    let all = listed_length c.self.inside.leaves.items c.self.inside.order.items c.self.inside.firsts.items c.self.invariant.0 in
    let long : length M ≡ c.self.inside.firsts.len =
    omega (
      arith,
      length-append (take k ns) (map (λ n. n + c.args.by) (drop k ns)),
      length-map (drop k ns) (λ n. n + c.args.by),
      length-drop k ns,
      length-take-le k ns (omega (arith, within, all, ordered.firsts)),
      within,
      all,
      ordered.firsts,
      c.self.inside.firsts.ok.0,
    ) in
    let stands = ap (λ l. take c.self.inside.firsts.len (l ++ drop (length l) ns)) moves
    ∙ take_at M (drop (length M) ns) c.self.inside.firsts.len long in
    let items = ap (placed_pages leaves) stands
    ∙ (placed_pages-move leaves ns k c.args.by (even_length c.self.inside.leaves.items c.self.inside.order.items c.self.inside.firsts.items c.self.invariant.0)
    ∙ ap (λ (s : Listed). take k s.items ++ map (moved c.args.by) (drop k s.items)) c.self.view_is) in
    c.close.ensures ∙ ap₂ (λ is n. record { items = is; places = n }) items (ap (λ (s : Listed). s.places) c.self.view_is)
