-- What a crash leaves while a group's device is begun, or a block is added.
use Rattle.std.proofs.Common.{◌≡◌, inl, inr, ℕ, ◌*◌, List, [], ◌∷◌, ◌++◌, length, refl, arith, length-append}
use Rattle.disk_model.specs.{Trace, Now, FromOld, IsSettled, During, Shows, IsGuarded, IsShut}
use Rattle.disk_model.proofs.Moments.{started, weaker}
use Rattle.archive_file.specs.{number_bytes, IsLeftOrBegun}
use Rattle.group_layout.specs.{BlockRow, BlockParts, block_image, block_size, row_image, rows_image, versions_image, IsUnsaved, letters, SavesNothing}
use Rattle.archive_file.proofs.ReadImages.{shown_now}

-- ---- a device is begun

-- nothing is saved as long as nothing was called
pub nothing_yet : (text : List ℕ) (o : Trace) → Shows o (IsUnsaved text) → IsSettled o → During o o (SavesNothing text)
nothing_yet text o is settled = grind (arith, weaker, started, shown_now)

-- nor while the layout is begun
pub saves_nothing : (text : List ℕ) (o o1 : Trace) → Shows o (IsUnsaved text) → IsSettled o
    → During o o1 (IsLeftOrBegun letters text o) → During o o1 (SavesNothing text)
saves_nothing text o o1 is settled begun = weaker o o1 (IsLeftOrBegun letters text o) (SavesNothing text) each begun
  where
    each : (c : List ℕ) → IsLeftOrBegun letters text o c → SavesNothing text c
    each c (inl (inl may)) = inl ((shown_now o (IsUnsaved text) is settled).each c may)
    each c (inl (inr new)) = inl (inl new)
    each c (inr empty) = inr empty

-- ---- a block

-- nothing is after a closed gate
pub shut_guarded : (o : Trace) (at : ℕ) (bytes : List ℕ) (gate : ℕ) → Now o (IsShut gate)
    → During o o (FromOld o (IsGuarded at bytes gate))
shut_guarded o at bytes gate shut = started o (FromOld o (IsGuarded at bytes gate)) (record {
  each = grind arith;
})

-- how many bytes the rows have
length-rows_image : (rows : List BlockRow) → length (rows_image rows) ≡ 17 * length rows
length-rows_image [] = refl
length-rows_image (r ∷ rows) = omega (arith, length-append (row_image r) (rows_image rows), length-rows_image rows)

length-versions_image : (versions : List ℕ) → length (versions_image versions) ≡ 4 * length versions
length-versions_image [] = refl
length-versions_image (v ∷ versions) =
    omega (arith, length-append (number_bytes 4 v) (versions_image versions), length-versions_image versions)

-- how many bytes a block has
pub length-block_image : (b : BlockParts) → length (block_image b ++ 0 ∷ []) ≡ block_size b
length-block_image b = grind (arith, length-append, length-versions_image, length-rows_image)
