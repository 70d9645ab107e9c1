-- A group's device while it is opened.
use Rattle.std.proofs.Common.{◌≡◌, ◌⊎◌, inl, inr, ℕ, zero, suc, All, List, [], ◌∷◌, length, map, replicate, Result, Ok, Err, IfOk, refl, ap, ◌∙◌, subst, arith}
use Rattle.std.proofs.lemmas.List.{length-map, length-replicate}
use Rattle.std.proofs.lemmas.List.Elements.{All-head, All-tail}
use Rattle.trend_num.specs.{CalcValue}
use Rattle.disk_model.specs.{Synced, Trace, noted, seen, During, Shows}
use Rattle.disk_model.proofs.Moments.{in_turn, weaker}
use Rattle.group_layout.specs.{Block, Found, SavedGroup, last_of, parts_of, unsaved, ByBlocks, ByNothing, HasSaved, IsUnsaved, StandsFor, letters, GainsGroupSync, HasShape, IsFound, IsLeftOrSame, IsReadOf, SavesNothing, StandsSame}
use Rattle.group_layout.specs.{AreRowsOf, block_lists_of}
use Rattle.group_layout.specs.declared.layout_reader.Found.TheVariants.{New, Other, Saved}
use Rattle.archive_file.specs.{IsEmpty}
use Rattle.archive_file.proofs.Beginnings.{not_new}

-- no blocks give rows without values
none_given : (calcs : ℕ) (rows : List (List CalcValue)) → length rows ≡ calcs → All (λ row. length row ≡ 0) rows → rows ≡ replicate calcs []
none_given zero [] long wide = refl
none_given (suc n) [] long wide = absurd (omega (arith, long))
none_given zero (row ∷ rows) long wide = absurd (omega (arith, long))
none_given (suc n) (row ∷ rows) long wide =
    ap (λ r. r ∷ rows) (empty row (All-head (λ r. length r ≡ 0) row rows wide))
    ∙ ap (λ l. [] ∷ l) (none_given n rows (omega (arith, long)) (All-tail (λ r. length r ≡ 0) row rows wide))
  where
    empty : (r : List CalcValue) → length r ≡ 0 → r ≡ []
    empty [] none = refl
    empty (v ∷ r) none = absurd (omega (arith, none))

pub no_rows : (calcs : ℕ) (rows : List (List CalcValue)) → AreRowsOf calcs 0 [] rows → rows ≡ replicate calcs []
no_rows calcs rows are = none_given calcs rows are.calcs_are are.windows_are

-- a layout without blocks has no rows
pub empty_saved : (text : List ℕ) (inputs calcs : ℕ) (c : List ℕ) (rows : List (List CalcValue)) → IsEmpty letters text c
    → AreRowsOf calcs 0 [] rows → HasSaved text inputs calcs c [] rows
empty_saved text inputs calcs c rows empty are = grind arith

-- so many rows without values
no_rows_are : (calcs : ℕ) → AreRowsOf calcs 0 [] (replicate calcs [])
no_rows_are calcs = record {
  calcs_are = length-replicate {A = List CalcValue} calcs [];
  windows_are = none calcs;
  values = λ calc k low within. absurd (omega (arith, within));
}
  where
    none : (n : ℕ) → All (λ row. length row ≡ 0) (replicate {A = List CalcValue} n [])
    none zero k d low = absurd (omega (arith, low))
    none (suc n) zero d low = refl
    none (suc n) (suc k) d low = none n k d (omega (arith, low))

-- what saves nothing stands for version 0
stands_none : (text : List ℕ) (inputs calcs : ℕ) (c : List ℕ) → SavesNothing text c → StandsFor text inputs calcs c (replicate inputs 0) (replicate calcs [])
stands_none text inputs calcs c (inl is) = ByNothing is refl refl
stands_none text inputs calcs c (inr empty) = ByBlocks [] (empty_saved text inputs calcs c (replicate calcs []) empty (no_rows_are calcs)) refl

pub saves_same : (text : List ℕ) (inputs calcs : ℕ) (s c : List ℕ) → IsUnsaved text s → SavesNothing text c
    → StandsSame text inputs calcs s c
saves_same text inputs calcs s c is nothing = record {
  versions = replicate inputs 0;
  rows = replicate calcs [];
  stood = ByNothing is refl refl;
  stands = stands_none text inputs calcs c nothing;
}

-- what is begun after a sync stands for what the device stood for before
pub left_begun : (text : List ℕ) (inputs calcs : ℕ) (o mid new : Trace) → mid ≡ noted Synced o → Shows mid (IsUnsaved text)
    → During o mid (IsLeftOrSame text inputs calcs o) → During mid new (SavesNothing text)
    → During o new (IsLeftOrSame text inputs calcs o)
left_begun text inputs calcs o mid new synced is before begun =
    in_turn o mid new (IsLeftOrSame text inputs calcs o) before
    (weaker mid new (SavesNothing text) (IsLeftOrSame text inputs calcs o)
    (λ c nothing. inr (saves_same text inputs calcs (seen o) c (unsaved_seen o mid synced is) nothing)) begun)
  where
    unsaved_seen : (x y : Trace) → y ≡ noted Synced x → Shows y (IsUnsaved text) → IsUnsaved text (seen x)
    unsaved_seen t y synced is = subst (λ x. Shows x (IsUnsaved text)) synced is

-- blocks were read
pub read_of : (text : List ℕ) (inputs calcs : ℕ) (o : Trace) (f : Found) (g : SavedGroup) → f ≡ Saved g
    → Shows o (IsFound text inputs calcs f) → Shows o (λ c. IsReadOf text inputs calcs c g)
read_of text inputs calcs t f g is found = subst (λ x. IsFound text inputs calcs x (seen t)) is found

-- what was read of blocks is what they stand for
pub read_stands : (text : List ℕ) (inputs calcs : ℕ) (o : Trace) (f : Found) (g : SavedGroup) → f ≡ Saved g
    → Shows o (IsFound text inputs calcs f) → Shows o (λ c. StandsFor text inputs calcs c g.versions.items (block_lists_of g.rows.items))
read_stands text inputs calcs t f g is found =
    let read = read_of text inputs calcs t f g is found in
    ByBlocks read.blocks read.has read.versions

-- where no blocks were found nothing is saved
pub found_unsaved : (text : List ℕ) (inputs calcs : ℕ) (o : Trace) (f : Found) → (f ≡ New) ⊎ (f ≡ Other)
    → Shows o (IsFound text inputs calcs f) → Shows o (IsUnsaved text)
found_unsaved text inputs calcs t f (inl is) found = inl (subst (λ x. IsFound text inputs calcs x (seen t)) is found)
found_unsaved text inputs calcs t f (inr is) found = inr (subst (λ x. IsFound text inputs calcs x (seen t)) is found)

-- so it stands for version 0
pub unsaved_stands : {E : Type 0} (text : List ℕ) (inputs calcs : ℕ) (o : Trace) (r : Result SavedGroup E) → Shows o (IsUnsaved text)
    → IfOk r (λ g. g.versions.items ≡ replicate inputs 0) → IfOk r (λ g. block_lists_of g.rows.items ≡ replicate calcs [])
    → IfOk r (λ g. Shows o (λ c. StandsFor text inputs calcs c g.versions.items (block_lists_of g.rows.items)))
unsaved_stands text inputs calcs o (Err e) is versions rows = tt
unsaved_stands text inputs calcs t (Ok g) is versions rows = ByNothing is versions rows

-- ---- a sync and nothing else

-- a device that was synced and read gained a sync
pub gains_sync : (text : List ℕ) (o new : Trace) → new ≡ noted Synced o → GainsGroupSync text o new
gains_sync text t new synced = λ saved. synced

-- nothing is said of a device with nothing saved
pub gains_nothing : (text : List ℕ) (o new : Trace) → Shows o (IsUnsaved text) → GainsGroupSync text o new
gains_nothing text t new is = λ saved. absurd (saved is)

-- ---- when the opening ends

-- a device with saved rows of this text has something saved for it
pub saved_is : (text : List ℕ) (inputs calcs : ℕ) (g : SavedGroup) (c : List ℕ) → IsReadOf text inputs calcs c g → IsUnsaved text c → ⊥
saved_is text inputs calcs g c read (inl new) = not_new c read.has.of_text.head.begun new
saved_is text inputs calcs g c read (inr other) = other.other read.has.of_text.same

-- ---- how long what was read is

-- where there are no blocks
pub none_shape : (inputs calcs : ℕ) (bs : List Block) (g : SavedGroup) → bs ≡ []
    → AreRowsOf calcs g.windows (map parts_of bs) (block_lists_of g.rows.items)
    → g.versions.items ≡ (last_of (unsaved inputs) (map parts_of bs)).versions → HasShape inputs calcs g
none_shape inputs calcs bs g none rows versions = grind (arith, none, length-replicate, length-map)
