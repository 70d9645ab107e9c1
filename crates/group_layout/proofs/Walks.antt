-- Blocks one after the other, and one more.
use Rattle.std.proofs.Common.{◌≡◌, inl, inr, ℕ, suc, ◌+◌, ◌-◌, ◌<◌, ◌≤◌, List, [], ◌∷◌, ◌++◌, drop, map, length, get_or, Option, refl, sym, ap, ◌∙◌, subst, arith, length-drop}
use Rattle.std.proofs.lemmas.List.{length-replicate}
use Rattle.disk_model.specs.{IsOpen}
use Rattle.archive_file.specs.{Field, AreAllRead, AreRead, IsFirstBroken, Step, BreaksFirst}
use Rattle.archive_file.proofs.BlockFiles.{read_keeps}
use Rattle.archive_file.proofs.Windows.{rest_spells}
use Rattle.group_layout.specs.{Block, GroupReader, AddsBlock, AreBlocks, AreDamaged, BlockParts, HasBlock, HasBlocks, block_fields, block_image, block_size, end_of, last_of, last_read, parts_of, unsaved}
use Rattle.group_layout.proofs.BlockLaws.{block_here}

-- the last of blocks and one more is that one
pub last_of-push : (b : BlockParts) (bs : List BlockParts) (x : BlockParts) → last_of b (bs ++ x ∷ []) ≡ x
last_of-push b [] x = refl
last_of-push b (y ∷ bs) x = last_of-push y bs x

-- where they end
pub end_of-push : (at : ℕ) (bs : List BlockParts) (x : BlockParts) → end_of at (bs ++ x ∷ []) ≡ end_of at bs + block_size x
end_of-push at [] x = refl
end_of-push at (y ∷ bs) x = end_of-push (at + block_size y) bs x

-- one more follows them
pub has_push : (c : List ℕ) (calcs : ℕ) (b : BlockParts) (at : ℕ) (bs : List BlockParts) (x : BlockParts) → HasBlocks c calcs b at bs
    → HasBlock c calcs (last_of b bs) x (end_of at bs) → HasBlocks c calcs b at (bs ++ x ∷ [])
has_push c calcs b at [] x has one = (one, tt)
has_push c calcs b at (y ∷ bs) x has one = (has.0, has_push c calcs y (at + block_size y) bs x has.1 one)

-- those in memory and one more
pub parts-push : (bs : List Block) (x : Block) → map parts_of (bs ++ x ∷ []) ≡ map parts_of bs ++ parts_of x ∷ []
parts-push [] x = refl
parts-push (y ∷ bs) x = ap (λ l. parts_of y ∷ l) (parts-push bs x)

-- the last of those and one more is that one
pub last_read-push : (first : Block) (bs : List Block) (x : Block) → last_read first (bs ++ x ∷ []) ≡ parts_of x
last_read-push first bs x = ap (last_of (parts_of first)) (parts-push bs x) ∙ last_of-push (parts_of first) (map parts_of bs) (parts_of x)

-- ---- what a reader goes over

-- what the reader adds, and the fields that it reads next
abbrev group_adds : GroupReader → List ℕ → ℕ → GroupReader → Type 0
group_adds r c size s =
    (s.calcs ≡ r.calcs) × (s.unsaved ≡ r.unsaved) × AddsBlock c r.calcs (last_read r.unsaved r.list.items) r.list.items s.list.items size

abbrev group_fields : GroupReader → List ℕ → List Field
group_fields r c = block_fields c r.calcs (last_read r.unsaved r.list.items) 0

-- the blocks up to a gate, with those in memory
pub record IsWalked (c : List ℕ) (calcs inputs : ℕ) (first : Block) (at gate : ℕ) (s : GroupReader) : Type 0 where
  pub calcs_are : s.calcs ≡ calcs
  pub first_is : s.unsaved ≡ first
  pub has : HasBlocks c calcs (parts_of first) at (map parts_of s.list.items)
  pub end_is : gate ≡ end_of at (map parts_of s.list.items)
  pub versions_are : length (last_read first s.list.items).versions ≡ inputs

-- one more
walk_on : (c : List ℕ) (calcs inputs : ℕ) (first : Block) (at gate size : ℕ) (s next : GroupReader) → IsWalked c calcs inputs first at gate s
    → IsOpen gate c → group_adds s (drop gate c) size next → IsWalked c calcs inputs first at (gate + size) next
walk_on c calcs inputs first at gate size s next so_far opened added = record {
  calcs_are = added.0 ∙ so_far.calcs_are;
  first_is = added.1 ∙ so_far.first_is;
  has = grind (arith, all, has_push, one);
  end_is = (λ i. so_far.end_is i + gain.size_is i) ∙ sym (end_of-push at (map parts_of s.list.items) (parts_of gain.block)) ∙ ap (end_of at) (sym all);
  versions_are = ap (λ l. length (last_of (parts_of first) l).versions) all
      ∙ ap (λ b. length b.versions) (last_of-push (parts_of first) (map parts_of s.list.items) (parts_of gain.block))
      ∙ gain.follows.inputs ∙ so_far.versions_are;
}
  where
    gain : AddsBlock (drop gate c) calcs (last_read first s.list.items) s.list.items next.list.items size
    gain = grind arith

    all : map parts_of next.list.items ≡ map parts_of s.list.items ++ parts_of gain.block ∷ []
    all = ap (map parts_of) gain.are ∙ parts-push s.list.items gain.block

    starts : gate ≤ length c
    starts = omega (arith, gain.spelled.within, gain.size_is, length-drop gate c)

    one : HasBlock c calcs (last_read first s.list.items) (parts_of gain.block) gate
    one = record {
      opened = opened;
      spelled = (rest_spells c gate starts 1 size (block_image (parts_of gain.block)) gain.spelled).spelled;
      follows = gain.follows;
    }

module _ (c : List ℕ) (at inputs : ℕ) (r : GroupReader) (none : r.list.items ≡ []) (first : parts_of r.unsaved ≡ unsaved inputs) where
  goes : (steps : List (Step GroupReader)) (s : GroupReader) (end : ℕ) → AreRead group_adds c r at steps s end → IsWalked c r.calcs inputs r.unsaved at end s
  goes steps s end =
      read_keeps group_adds c (λ s gate. IsWalked c r.calcs inputs r.unsaved at gate s)
      (λ s gate size next before opened added. walk_on c r.calcs inputs r.unsaved at gate size s next before opened added) r at steps s end
      (grind (arith, length-replicate))

  -- over all blocks
  pub all_blocks : (s : GroupReader) (end : ℕ) → AreAllRead group_adds c r at s end → AreBlocks c r.calcs inputs at (map parts_of s.list.items)
  all_blocks s end all = grind (arith, goes)

  -- where they end
  pub end_there : (s : GroupReader) (end : ℕ) → AreAllRead group_adds c r at s end → end ≡ end_of at (map parts_of s.list.items)
  end_there s end all = (goes all.steps s end all.are).end_is

  -- how many versions the last one has
  pub versions_there : (s : GroupReader) (end : ℕ) → AreAllRead group_adds c r at s end
      → length (last_of (unsaved inputs) (map parts_of s.list.items)).versions ≡ inputs
  versions_there s end all = grind (arith, goes)

  -- up to one that breaks a rule
  pub breaks_there : (a : ℕ) (byte : Option ℕ) → IsFirstBroken group_adds group_fields c r at a byte → AreDamaged c r.calcs inputs at a byte
  breaks_there a byte (inl ends) = inl ends
  breaks_there a byte (inr broken) =
      let s = broken.reader in
      let walked = goes broken.steps s broken.gate broken.whole in
      let before = last_read r.unsaved s.list.items in
      let breaks = subst (λ n. BreaksFirst c (block_fields c n before broken.gate) a byte) walked.calcs_are
      (subst (λ b. BreaksFirst c (block_fields c s.calcs (last_read b s.list.items) broken.gate) a byte) walked.first_is
      (subst (λ fields. BreaksFirst c fields a byte) (block_here c broken.gate s.calcs (last_read s.unsaved s.list.items)) broken.breaks)) in
      inr (record {
        blocks = map parts_of s.list.items;
        whole = subst (λ b. HasBlocks c r.calcs b at (map parts_of s.list.items)) first walked.has;
        opened = subst (λ n. IsOpen n c) walked.end_is broken.opened;
        breaks = subst (λ n. BreaksFirst c (block_fields c r.calcs (last_of (unsaved inputs) (map parts_of s.list.items)) n) a byte) walked.end_is
            (subst (λ b. BreaksFirst c (block_fields c r.calcs (last_of b (map parts_of s.list.items)) broken.gate) a byte) first breaks);
      })

-- ---- the last one

-- the last in memory
pub last_is : (b : BlockParts) (bs : List Block) (x : Block) → 1 ≤ length bs → x ≡ get_or bs (length bs - 1) x
    → parts_of x ≡ last_of b (map parts_of bs)
last_is b [] x some is = absurd (omega arith)
last_is b (y ∷ []) x some is = ap parts_of is
last_is b (y ∷ z ∷ bs) x some is =
    last_is (parts_of y) (z ∷ bs) x (omega arith) (is ∙ ap (λ n. get_or (y ∷ z ∷ bs) n x) place)
  where
    place : length (y ∷ z ∷ bs) - 1 ≡ suc (length (z ∷ bs) - 1)
    place = omega arith

-- the last block lies before the end
last_before : (at : ℕ) (b : BlockParts) (bs : List BlockParts) → block_size (last_of b bs) ≤ end_of (at + block_size b) bs
last_before at b [] = omega arith
last_before at b (x ∷ bs) = last_before (at + block_size b) x bs

-- where there is a window there is a block
pub last_fits : (at inputs k : ℕ) (bs : List BlockParts) → k < (last_of (unsaved inputs) bs).windows
    → block_size (last_of (unsaved inputs) bs) ≤ end_of at bs
last_fits at inputs k [] low = absurd (omega arith)
last_fits at inputs k (b ∷ bs) low = last_before at b bs
