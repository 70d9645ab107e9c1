use Rattle.std.proofs.Common.{◌≡◌, ◌/◌, ◌++◌, ℕ, List, Bool, true, drop, length, set, take, subst, sym, ap, ◌∙◌, arith}
use Rattle.std.specs.Prelude.{IsTrue, ◌↔◌}
use Rattle.std.proofs.lemmas.List.{length-set, with_items_is}
use Rattle.event_frames.specs.{AreLevels, LevelsState, is_set}
use Rattle.event_frames.proofs.Blocks.{levels_written}
use Rattle.event_frames.proofs.levels.Levels.write.Goals as goal

pub invariant_of-self : goal.invariant_of-self
invariant_of-self c =
    let inside = c.self.inside in
    let k = c.args.k in
    let written = set inside.truths.items k c.args.holds in
    let blocks = c.raise.new.below in
    let groups = c.raise.new.above in
    let view : length inside.truths.items ≡ length c.args.self.now.truths =
    ap (λ (s : LevelsState). length s.truths) c.self.view_is in
    let block : blocks ≡ set inside.blocks.items (k / 128) c.is_whole-whole.result =
    c.raise.ensures.below ∙ ap (λ (bs : List Bool). set bs (k / 128) c.is_whole-whole.result) c.deref_mut.ensures.value in
    let many : length blocks ≡ length inside.blocks.items =
    ap length block ∙ length-set inside.blocks.items (k / 128) c.is_whole-whole.result in
    let size : length groups ≡ length inside.groups.items = c.raise.auto.above ∙ ap length c.deref_mut-2.ensures.value in
    let whole : IsTrue c.is_whole-whole.result ↔ ((j : ℕ) → j / 128 ≡ k / 128 → is_set written j ≡ true) =
    subst (λ (ts : List Bool). IsTrue c.is_whole-whole.result ↔ ((j : ℕ) → j / 128 ≡ k / 128 → is_set ts j ≡ true))
    c.deref.ensures.value c.is_whole-whole.ensures in
    let good : AreLevels written blocks groups inside.room inside.truths.cap =
    levels_written inside.truths.items inside.blocks.items inside.groups.items blocks groups inside.room inside.truths.cap k
    c.args.holds c.is_whole-whole.result c.self.invariant (omega (arith, view, c.requires)) whole block size c.raise.ensures.over in
    let low : take inside.blocks.len (blocks ++ drop (length blocks) inside.blocks.items) ≡ blocks =
    with_items_is inside.blocks blocks (omega (arith, many, inside.blocks.ok.0)) in
    let high : take inside.groups.len (groups ++ drop (length groups) inside.groups.items) ≡ groups =
    with_items_is inside.groups groups (omega (arith, size, inside.groups.ok.0)) in
    subst (λ (gs : List Bool). AreLevels written (take inside.blocks.len (blocks ++ drop (length blocks) inside.blocks.items)) gs
    inside.room inside.truths.cap) (sym high)
    (subst (λ (bs : List Bool). AreLevels written bs groups inside.room inside.truths.cap) (sym low) good)
