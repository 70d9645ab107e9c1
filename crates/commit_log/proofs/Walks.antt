-- Blocks one after the other, and one more.
use Rattle.std.proofs.Common.{◌≡◌, inl, inr, ℕ, ◌+◌, ◌≤◌, All, List, [], ◌∷◌, ◌++◌, drop, length, Option, Some, IfSome, refl, sym, ap, ◌∙◌, subst, arith, append_assoc, length-append, length-drop}
use Rattle.std.proofs.lemmas.List.{append-nil}
use Rattle.std.proofs.lemmas.List.Elements.{All-append, All-nil}
use Rattle.disk_model.specs.{IsOpen}
use Rattle.archive_file.specs.{Field, AreAllRead, AreRead, IsFirstBroken, Step, BreaksFirst, Spells}
use Rattle.archive_file.proofs.BlockFiles.{read_keeps}
use Rattle.archive_file.proofs.Windows.{rest_spells}
use Rattle.commit_log.specs.{LogReader, LogRow, HasBlock, HasBlocks, IsBlockDamage, IsLogRow, block_fields, log_block_image, log_block_size, log_end_of, rows_of, AddsBlock, ListsRows}
use Rattle.commit_log.proofs.BlockLaws.{block_here}

-- where blocks and one more end
pub end_of-push : (at : ℕ) (bs : List (List LogRow)) (x : List LogRow) → log_end_of at (bs ++ x ∷ []) ≡ log_end_of at bs + log_block_size x
end_of-push at [] x = refl
end_of-push at (y ∷ bs) x = end_of-push (at + log_block_size y) bs x

-- their rows
pub rows_of-push : (bs : List (List LogRow)) (x : List LogRow) → rows_of (bs ++ x ∷ []) ≡ rows_of bs ++ x
rows_of-push [] x = append-nil x
rows_of-push (y ∷ bs) x = ap (λ l. y ++ l) (rows_of-push bs x) ∙ sym (append_assoc y (rows_of bs) x)

-- one more comes after them
pub has_push : (c : List ℕ) (tags number at : ℕ) (bs : List (List LogRow)) (x : List LogRow) → HasBlocks c tags number at bs
    → HasBlock c tags (number + length (rows_of bs)) (log_end_of at bs) x → HasBlocks c tags number at (bs ++ x ∷ [])
has_push c tags number at [] x has one =
    let same : number + 0 ≡ number = omega arith in
    (subst (λ n. HasBlock c tags n at x) same one, tt)
has_push c tags number at (y ∷ bs) x has one =
    let same : number + length (y ++ rows_of bs) ≡ number + length y + length (rows_of bs) = omega (arith, length-append y (rows_of bs)) in (
      has.0,
      has_push c tags (number + length y) (at + log_block_size y) bs x has.1
          (subst (λ n. HasBlock c tags n (log_end_of (at + log_block_size y) bs) x) same one),
    )

-- the blocks up to a gate list these rows
pub record IsWalked (c : List ℕ) (tags at next : ℕ) (rows : List LogRow) : Type 0 where
  pub blocks : List (List LogRow)
  pub has : HasBlocks c tags 0 at blocks
  pub rows_are : rows ≡ rows_of blocks
  pub end_is : next ≡ log_end_of at blocks

-- one more after its open gate
pub walk_on : (c : List ℕ) (tags at gate size : ℕ) (old new : List LogRow) → IsWalked c tags at gate old → IsOpen gate c
    → AddsBlock (drop gate c) tags old new size → IsWalked c tags at (gate + size) new
walk_on c tags at gate size old new so_far opened added = record {
  blocks = so_far.blocks ++ added.block ∷ [];
  has = grind (arith, has_push, number, spelled);
  rows_are = added.are ∙ ap (λ l. l ++ added.block) so_far.rows_are ∙ sym (rows_of-push so_far.blocks added.block);
  end_is = (λ i. so_far.end_is i + added.size_is i) ∙ sym (end_of-push at so_far.blocks added.block);
}
  where
    number : length old ≡ 0 + length (rows_of so_far.blocks)
    number = omega (arith, ap length so_far.rows_are)

    starts : gate ≤ length c
    starts = omega (arith, added.spelled.within, added.size_is, length-drop gate c)

    spelled : Spells c (gate + 1) (log_block_image (length old) added.block) (gate + size)
    spelled = rest_spells c gate starts 1 size (log_block_image (length old) added.block) added.spelled

-- the next one breaks a rule
pub walk_breaks : (c : List ℕ) (tags at gate : ℕ) (rows : List LogRow) (a : ℕ) (byte : Option ℕ) → IsWalked c tags at gate rows
    → IsOpen gate c → BreaksFirst c (block_fields c tags (length rows) gate) a byte → IsBlockDamage c tags at a byte
walk_breaks c tags at gate rows a byte so_far opened breaks = grind arith

-- what an option has if it has something
pub if_some : {A : Type 0} (o : Option A) (x : A) (P : A → Type 0) → o ≡ Some x → IfSome o P → P x
if_some o x P is has = subst (λ p. IfSome p P) is has

-- ---- what a reader goes over

-- what the reader adds
abbrev log_adds : LogReader → List ℕ → ℕ → LogReader → Type 0
log_adds r c size s = (s.tags ≡ r.tags) × AddsBlock c r.tags r.rows.items s.rows.items size

abbrev log_fields : LogReader → List ℕ → List Field
log_fields r c = block_fields c r.tags (length r.rows.items) 0

module _ (c : List ℕ) (at : ℕ) (r : LogReader) (none : r.rows.items ≡ []) where
  -- it goes over blocks, and lists their rows
  goes : (steps : List (Step LogReader)) (s : LogReader) (end : ℕ) → AreRead log_adds c r at steps s end
      → (s.tags ≡ r.tags) × IsWalked c r.tags at end s.rows.items × All (IsLogRow r.tags) s.rows.items
  goes steps s end =
      read_keeps log_adds c (λ s gate. (s.tags ≡ r.tags) × IsWalked c r.tags at gate s.rows.items × All (IsLogRow r.tags) s.rows.items)
      (λ s gate size next before opened added.
      let gain = subst (λ tags. AddsBlock (drop gate c) tags s.rows.items next.rows.items size) before.0 added.1 in (
        added.0 ∙ before.0,
        walk_on c r.tags at gate size s.rows.items next.rows.items before.1 opened gain,
        subst (All (IsLogRow r.tags)) (sym gain.are) (All-append (IsLogRow r.tags) s.rows.items gain.block before.2 gain.rows_are.each),
      )) r at steps s end
      (refl, record { blocks = []; has = tt; rows_are = none; end_is = refl }, subst (All (IsLogRow r.tags)) (sym none) (All-nil (IsLogRow r.tags)))

  -- over all blocks
  pub lists_all : (s : LogReader) (end : ℕ) → AreAllRead log_adds c r at s end → ListsRows c r.tags at s.rows.items end
  lists_all s end all = grind (arith, goes)

  pub rows_all : (s : LogReader) (end : ℕ) → AreAllRead log_adds c r at s end → All (IsLogRow r.tags) s.rows.items
  rows_all s end all = (goes all.steps s end all.are).2

  -- up to one that breaks a rule
  pub breaks_there : (a : ℕ) (byte : Option ℕ) → at + 1 ≤ length c → IsFirstBroken log_adds log_fields c r at a byte
      → IsBlockDamage c r.tags at a byte
  breaks_there a byte there (inl ends) = absurd (omega (arith, ends.short))
  breaks_there a byte there (inr broken) =
      let s = broken.reader in
      let walked = goes broken.steps s broken.gate broken.whole in
      walk_breaks c r.tags at broken.gate s.rows.items a byte walked.1 broken.opened
      (subst (λ tags. BreaksFirst c (block_fields c tags (length s.rows.items) broken.gate) a byte) walked.0
      (subst (λ fields. BreaksFirst c fields a byte) (block_here c s.tags broken.gate (length s.rows.items)) broken.breaks))
