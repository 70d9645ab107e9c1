use Rattle.std.proofs.Common.{◌≡◌, ◌∙◌, ◌<◌, ◌+◌, ◌++◌, [], ◌∷◌, List, ap, subst, get_or, map, take, length, arith, replicate}
use Rattle.std.proofs.lemmas.List.{length-map, set-get_or, map_push, replicate_more}
use Rattle.crossbeam_utils.specs.Seq.{cell_view}
use Rattle.crossbeam_utils.specs.declared.atomic.seq_cell.Doing.{Doing}
use Rattle.atomic_table.specs.declared.shared.Seat.{Seat}
use Rattle.snapshot_table.specs.{View, Shown, nothing, Posting, new_posters}
use Rattle.snapshot_table.proofs.Places.{posts_at, poster_at, take_at, length-new_posters}
use Rattle.snapshot_table.proofs.board.Board.looker.Goals as goal

-- a pass of a board
abbrev Pass : Type 0
Pass = Seat Shown (Doing Shown View)

-- one pass more of those that are seen so, and the list of what they are seen as
one_more : {B : Type 0} (f : Pass → B) (before after : List Pass) (p : Pass) (bs : List B) (b : B)
    → after ≡ before ++ p ∷ [] → map f before ≡ bs → f p ≡ b → map f after ≡ bs ++ b ∷ []
one_more f before after p bs b is was this = ap (map f) is ∙ (map_push f before p ∙ (ap (λ xs. xs ++ f p ∷ []) was ∙ ap (λ x. bs ++ x ∷ []) this))

-- the tags gone over so far are tags of the board
within : (c : goal.After-index_mut-arg-1) → c.loop-i.i < length c.args.self.now
within c = omega (arith, c.loop-i-test.true, c.len-i-end.ensures, ap length c.self.view_is, length-map c.self.inside.shelves.items (λ (s : _). s.table.shared.table_id), c.self.inside.shelves.ok)

pub index_mut-requires : goal.index_mut-requires
index_mut-requires c = omega (arith, within c, ap length (c.loop-i.invariant.0 ∙ c.requires), length-new_posters 0 c.args.self.now, c.loop-i.posters.ok)

-- the poster at the loop's place is that of the tag
pub onlooker-pass-requires : goal.onlooker-pass-requires
onlooker-pass-requires c = grind (arith, posts_at, length-map)

pub loop-i-preserved : goal.loop-i-preserved
loop-i-preserved c =
    let poster : Posting = c.index_mut.result.now in
    let new : poster ≡ get_or (new_posters 0 c.args.self.now) c.loop-i.i poster =
    subst (λ (ps : List Posting). poster ≡ get_or ps c.loop-i.i poster) (c.loop-i.invariant.0 ∙ c.requires) c.index_mut.ensures.value in
    let h : c.loop-i.i < length c.args.self.now = grind (arith, length-map) in
    let last : poster.last ≡ nothing = ap (λ (p : Posting). p.last) (poster_at c.args.self.now c.loop-i.i poster h new) in (
      ap (λ (p : Posting). Rattle.std.proofs.Common.set c.loop-i.posters.items c.loop-i.i p) (c.onlooker-pass.ensures.same ∙ c.index_mut.ensures.value)
          ∙ (set-get_or c.loop-i.posters.items c.loop-i.i poster ∙ c.loop-i.invariant.0),
      one_more (λ (p : Pass). p.table_id) c.loop-i.passes.items c.push.new.list.items c.onlooker-pass.result (take c.loop-i.i c.args.self.now) poster.cell
          c.in_ok-push.ensures c.loop-i.invariant.1 c.onlooker-pass.ensures.cell
          ∙ take_at c.args.self.now c.loop-i.i poster.cell (posts_at c.args.self.now c.loop-i.i poster h new),
      one_more (λ (p : Pass). (cell_view {T = Shown} {V = View} p).snap) c.loop-i.passes.items c.push.new.list.items c.onlooker-pass.result (replicate c.loop-i.i nothing) nothing
          c.in_ok-push.ensures c.loop-i.invariant.2 (ap (λ (v : View). v.snap) c.onlooker-pass.ensures.seen ∙ last)
          ∙ replicate_more c.loop-i.i nothing,
    )
