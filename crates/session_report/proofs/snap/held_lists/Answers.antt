use Rattle.std.proofs.Common.{◌≡◌, ℕ, false, ◌∙◌, ◌++◌, ◌∷◌, [], List, Vec, ap, sym, cond, take, arith}
use Rattle.std.specs.declared.alloc.Global.{Global}
use Rattle.std.proofs.lemmas.Grind.{common_steps}
use Rattle.std.proofs.lemmas.List.{get_or_default, map_push}
use Rattle.trend_num.specs.{Point}
use Rattle.tag_cell.specs.{TagHistory}
use Rattle.calc_refresh.specs.{lists_of}
use Rattle.session_report.specs.{is_snapped, placed_answers, held_points}
use Rattle.session_report.proofs.Placed.{placed_more}
use Rattle.session_report.proofs.snap.held_lists.Goals as goal

pub loop-place-preserved : goal.loop-place-preserved
loop-place-preserved c =
    let readers = lists_of c.args.readers.now in
    let tags = c.args.tags.now in
    let i = c.loop-place.place in
    let tag = c.index-tags-place.result in
    let points : ℕ → TagHistory → List Point = λ n h. cond (is_snapped readers n) (held_points h.tape.items) [] in
    let items : Vec Point Global → List Point = λ v. v.items in
    let new = c.in_ok-points.points in
    let tape : c.as_slice.result.now ≡ tag.tape.items =
    c.as_slice.ensures.value ∙ ap (λ (h : TagHistory). h.tape.items) (sym c.index-tags-place.is) in
    let is : new.items ≡ points i tag = c.in_ok-points.ensures
    ∙ ap (λ b. cond b (held_points c.as_slice.result.now) []) (c.index.ensures ∙ get_or_default c.in_ok-wanted.wanted.items i c.index.result.now false (omega (arith, c.in_ok-wanted.ensures.as_many, c.loop-place-test.true)) ∙ c.in_ok-wanted.ensures.each i (omega (arith, c.loop-place-test.true)))
    ∙ ap (λ t. cond (is_snapped readers i) (held_points t) []) tape in
    let grown : c.push.new.self.items ≡ c.loop-place.lists.items ++ new ∷ [] = grind (arith, common_steps) in
    ap lists_of grown ∙ map_push items c.loop-place.lists.items new ∙ ap (λ l. l ++ new.items ∷ []) c.loop-place.invariant
    ∙ ap (λ p. placed_answers points 0 (take i tags) ++ p ∷ []) (is ∙ ap (points i) c.index-tags-place.is)
    ∙ sym (placed_more points tags i tag c.loop-place-test.true)
