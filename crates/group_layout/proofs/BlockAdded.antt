-- A block after others: what an image has while it is added.
use Rattle.std.proofs.Common.{◌≡◌, ◌≢◌, ℕ, ◌+◌, ◌<◌, ◌≤◌, List, [], ◌∷◌, ◌++◌, length, get_or, sym, ap, ◌∙◌, subst, arith, length-append}
use Rattle.trend_num.specs.{CalcValue}
use Rattle.disk_model.specs.{Sees, FromOld, IsSettled, Now, During, Trace, seen, written, IsGuarded, IsOpen, IsShut, open_byte}
use Rattle.disk_model.proofs.Bytes.{length-written}
use Rattle.disk_model.proofs.Images.{present}
use Rattle.disk_model.proofs.Moments.{during_now}
use Rattle.group_layout.specs.{HasBlock, HasBlocks, MayFollow, BlockParts, block_image, block_size, end_of, last_of, unsaved, HasSaved, letters, AreRowsOf}
use Rattle.archive_file.specs.{IsOfText, blocks_at}
use Rattle.archive_file.proofs.TextHeads.{head_same}
use Rattle.archive_file.proofs.PlacedBytes.{SameFront, guarded_front, holds_left, next_shut, part_same, written_byte}
use Rattle.group_layout.proofs.Beginnings.{length-block_image}
use Rattle.group_layout.proofs.Walks.{end_of-push, has_push, last_of-push}

-- the blocks begin before they end
begins_before : (from : ℕ) (bs : List BlockParts) → from ≤ end_of from bs
begins_before from [] = omega arith
begins_before from (b ∷ bs) = let rest = begins_before (from + block_size b) bs in omega (arith, rest)

-- blocks that end there are in both
pub blocks_same : (n : ℕ) (d c : List ℕ) (calcs : ℕ) (b : BlockParts) (at : ℕ) (bs : List BlockParts) → SameFront n d c → end_of at bs ≤ n
    → HasBlocks d calcs b at bs → HasBlocks c calcs b at bs
blocks_same n d c calcs b at [] front within has = tt
blocks_same n d c calcs b at (x ∷ bs) front within has = (
  record {
    opened = front.same at (omega (arith, before, length-block_image x)) ∙ has.0.opened;
    spelled = part_same n (at + 1) (length (block_image x)) d c front (omega (arith, before, size)) ∙ has.0.spelled;
    follows = has.0.follows;
  },
  blocks_same n d c calcs x (at + block_size x) bs front within has.1,
)
  where
    before : at + block_size x ≤ n
    before = let rest = begins_before (at + block_size x) bs in omega (arith, rest, within)

    size : length (block_image x) + 1 ≡ block_size x
    size = omega (arith, length-block_image x, length-append (block_image x) (0 ∷ []))

-- ---- a block after a gate

-- after a block that was added there is room for the next one
pub block_ready : (b : BlockParts) (at : ℕ) (o o1 : Trace) → Now o (IsShut at)
    → During o o1 (FromOld o (IsGuarded (at + 1) (block_image b ++ 0 ∷ []) at))
    → Sees o1 (written (written (seen o) (at + 1) (block_image b ++ 0 ∷ [])) at (open_byte ∷ [])) → IsSettled o1
    → Now o1 (IsShut (at + block_size b))
block_ready b at s t shut during sees settled = record {
  each = λ c may.
      let from = (during_now s t (FromOld s (IsGuarded (at + 1) (block_image b ++ 0 ∷ []) at)) during).each c may in
      next_shut (block_image b) at (at + block_size b) from.0 c (ap (λ n. at + n) (length-block_image b)) from.2
      (ap (λ l. get_or l at 0) (settled.each c may ∙ sees)
      ∙ written_byte (written (seen s) (at + 1) (block_image b ++ 0 ∷ [])) at open_byte long);
}
  where
    there : at < length (seen s)
    there = (shut.each (seen s) (present s)).there

    long : at ≤ length (written (seen s) (at + 1) (block_image b ++ 0 ∷ []))
    long = omega (arith, there, length-written (seen s) (at + 1) (block_image b ++ 0 ∷ []) (omega (arith, there)))

module _ (text d c : List ℕ) (inputs calcs : ℕ) (bs : List BlockParts) (rows : List (List CalcValue)) (has : HasSaved text inputs calcs d bs rows)
    (b : BlockParts) (at : ℕ) (end : end_of (blocks_at (length text)) bs ≡ at)
    (guarded : IsGuarded (at + 1) (block_image b ++ 0 ∷ []) at d c) where
  gate_there : at < length d
  gate_there = subst (λ n. n < length d) end has.blocks.shut.there

  front : SameFront at d c
  front = guarded_front d c (block_image b ++ 0 ∷ []) at guarded gate_there

  of_text : IsOfText letters text c
  of_text = head_same letters text d c at has.of_text front
      (subst (λ n. blocks_at (length text) ≤ n) end (begins_before (blocks_at (length text)) bs))
      (omega (arith, gate_there, guarded.no_shorter))

  blocks : HasBlocks c calcs (unsaved inputs) (blocks_at (length text)) bs
  blocks = blocks_same at d c calcs (unsaved inputs) (blocks_at (length text)) bs front (omega (arith, end)) has.blocks.blocks

  -- where its gate is closed there is what was
  pub block_closed : get_or c at 0 ≢ open_byte → HasSaved text inputs calcs c bs rows
  block_closed closed = record {
    of_text = of_text;
    blocks = record {
      blocks = blocks;
      shut = subst (λ n. IsShut n c) (sym end) (record { there = omega (arith, gate_there, guarded.no_shorter); closed = closed });
    };
    rows_are = has.rows_are;
  }

  -- where it is open the block counts
  pub block_opened : (new : List (List CalcValue)) → IsOpen at c → MayFollow calcs (last_of (unsaved inputs) bs) b
      → AreRowsOf calcs b.windows (bs ++ b ∷ []) new → HasSaved text inputs calcs c (bs ++ b ∷ []) new
  block_opened new opened follows rows_are = record {
    of_text = of_text;
    blocks = record {
      blocks = has_push c calcs (unsaved inputs) (blocks_at (length text)) bs b blocks
          (subst (HasBlock c calcs (last_of (unsaved inputs) bs) b) (sym end)
          (record { opened = opened; spelled = holds_left c (at + 1) (block_image b) (0 ∷ []) (guarded.whole opened); follows = follows }));
      shut = subst (λ n. IsShut n c) (sym (end_of-push (blocks_at (length text)) bs b ∙ ap (λ n. n + block_size b) end))
          (next_shut (block_image b) at (at + block_size b) d c (ap (λ n. at + n) (length-block_image b)) guarded opened);
    };
    rows_are = subst (λ x. AreRowsOf calcs x.windows (bs ++ b ∷ []) new) (sym (last_of-push (unsaved inputs) bs b)) rows_are;
  }
