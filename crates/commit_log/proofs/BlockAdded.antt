-- A block after others: what an image has while it is added.
use Rattle.std.proofs.Common.{◌≡◌, ◌≢◌, ◌⊎◌, ℕ, ◌+◌, ◌<◌, ◌≤◌, List, [], ◌∷◌, ◌++◌, length, get_or, sym, ap, ◌∙◌, subst, arith, length-append}
use Rattle.disk_model.specs.{IsGuarded, IsOpen, IsShut, open_byte}
use Rattle.commit_log.specs.{LogRow, AreBlockRows, HasBlock, HasBlocks, log_block_image, log_block_size, log_end_of, rows_of, letters, Stores}
use Rattle.archive_file.specs.{IsOfText, blocks_at}
use Rattle.archive_file.proofs.TextHeads.{head_same}
use Rattle.archive_file.proofs.PlacedBytes.{SameFront, guarded_front, holds_left, next_shut, part_same}
use Rattle.commit_log.proofs.Beginnings.{length-block_image}
use Rattle.commit_log.proofs.Walks.{end_of-push, has_push, rows_of-push}

-- the blocks begin before they end
begins_before : (from : ℕ) (bs : List (List LogRow)) → from ≤ log_end_of from bs
begins_before from [] = omega arith
begins_before from (b ∷ bs) = let rest = begins_before (from + log_block_size b) bs in omega (arith, rest)

-- blocks that end there are in both
pub blocks_same : (n : ℕ) (d c : List ℕ) (tags number at : ℕ) (bs : List (List LogRow)) → SameFront n d c → log_end_of at bs ≤ n
    → HasBlocks d tags number at bs → HasBlocks c tags number at bs
blocks_same n d c tags number at [] front within has = tt
blocks_same n d c tags number at (x ∷ bs) front within has = (
  record {
    opened = front.same at (omega (arith, before)) ∙ has.0.opened;
    spelled = part_same n (at + 1) (length (log_block_image number x)) d c front (omega (arith, before, size)) ∙ has.0.spelled;
    rows_are = has.0.rows_are;
  },
  blocks_same n d c tags (number + length x) (at + log_block_size x) bs front within has.1,
)
  where
    before : at + log_block_size x ≤ n
    before = let rest = begins_before (at + log_block_size x) bs in omega (arith, rest, within)

    size : length (log_block_image number x) + 1 ≡ log_block_size x
    size = omega (arith, length-block_image number x, length-append (log_block_image number x) (0 ∷ []))

-- ---- a block after a gate

module _ (plant : List ℕ) (tags : ℕ) (rows : List LogRow) (at : ℕ) (d c : List ℕ) (has : Stores plant tags rows at d) (b : List LogRow)
    (guarded : IsGuarded (at + 1) (log_block_image (length rows) b ++ 0 ∷ []) at d c) where
  abbrev bs : List (List LogRow)
  bs = has.lists.blocks

  abbrev from : ℕ
  from = blocks_at (length plant)

  gate_there : at < length d
  gate_there = subst (λ n. n < length d) (sym has.lists.end_is) has.lists.are.shut.there

  front : SameFront at d c
  front = guarded_front d c (log_block_image (length rows) b ++ 0 ∷ []) at guarded gate_there

  of_plant : IsOfText letters plant c
  of_plant = head_same letters plant d c at has.of_plant front (subst (λ n. from ≤ n) (sym has.lists.end_is) (begins_before from bs))
      (omega (arith, gate_there, guarded.no_shorter))

  blocks : HasBlocks c tags 0 from bs
  blocks = blocks_same at d c tags 0 from bs front (omega (arith, has.lists.end_is)) has.lists.are.blocks

  -- where its gate is closed there is what was
  pub block_closed : get_or c at 0 ≢ open_byte → Stores plant tags rows at c
  block_closed closed = grind (arith, of_plant, blocks, gate_there)

  -- where it is open the block counts
  pub block_opened : IsOpen at c → AreBlockRows tags b → Stores plant tags (rows ++ b) (at + log_block_size b) c
  block_opened opened rows_are = record {
    of_plant = of_plant;
    lists = record {
      blocks = bs ++ b ∷ [];
      are = record {
        blocks = has_push c tags 0 from bs b blocks
            (subst (λ n. HasBlock c tags n (log_end_of from bs) b) number
            (subst (λ n. HasBlock c tags (length rows) n b) has.lists.end_is
            (record {
              opened = opened;
              spelled = holds_left c (at + 1) (log_block_image (length rows) b) (0 ∷ []) (guarded.whole opened);
              rows_are = rows_are;
            })));
        shut = subst (λ n. IsShut n c) end (next_shut (log_block_image (length rows) b) at (at + log_block_size b) d c
            (ap (λ n. at + n) (length-block_image (length rows) b)) guarded opened);
      };
      rows_are = ap (λ l. l ++ b) has.lists.rows_are ∙ sym (rows_of-push bs b);
      end_is = end;
    };
  }
    where
      number : length rows ≡ 0 + length (rows_of bs)
      number = omega (arith, ap length has.lists.rows_are)

      end : at + log_block_size b ≡ log_end_of from (bs ++ b ∷ [])
      end = ap (λ n. n + log_block_size b) has.lists.end_is ∙ sym (end_of-push from bs b)

  -- so an image has what was, or that and the block
  pub block_either : AreBlockRows tags b → Stores plant tags rows at c ⊎ Stores plant tags (rows ++ b) (at + log_block_size b) c
  block_either rows_are = grind (arith, block_opened, block_closed)
