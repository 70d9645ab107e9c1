-- A layout that begins with four letters and a text: its head, and where its blocks begin.
use Rattle.std.specs.Prelude.{◌≡◌, ◌⊎◌, ℕ, ◌+◌, true, List, [], ◌∷◌, ◌++◌, All, length, take, drop, slice_index, nat_eq}
use Rattle.disk_model.specs.{Shows, IsBegun, IsNew, IsShut, layout_calls, MayLeave, Trace, moment}
use Rattle.archive_file.specs.Fields.{number_bytes}
use Rattle.archive_file.specs.declared.layout_field.Field.{Field}
use Rattle.archive_file.specs.LayoutFields.{Keeps, short_at}

-- one letter
abbrev pub letter_field : List ℕ → ℕ → ℕ → Field
letter_field c at letter = record { place = at; size = 1; is_kept = nat_eq (slice_index c at) letter }

-- the fields after the gate of the layout: the four letters, the length of the text, and the text with the gate after
-- it
abbrev pub head_fields : List ℕ → List ℕ → List Field
head_fields letters c =
    letter_field c 1 (slice_index letters 0) ∷ letter_field c 2 (slice_index letters 1)
    ∷ letter_field c 3 (slice_index letters 2) ∷ letter_field c 4 (slice_index letters 3)
    ∷ record { place = 5; size = 4; is_kept = true }
    ∷ record { place = 9; size = short_at c 5 + 1; is_kept = true }
    ∷ []

-- the place of the first block's gate, after a text of `size` bytes
abbrev pub blocks_at : ℕ → ℕ
blocks_at size = 9 + size

-- the text of the layout
abbrev pub text_in : List ℕ → List ℕ
text_in c = take (short_at c 5) (drop 9 c)

-- there is a layout, and its head is whole
pub record HasHead (letters c : List ℕ) : Type 0 where
  pub begun : IsBegun c
  pub fields : All (Keeps c) (head_fields letters c)

-- and its text is this one
pub record IsOfText (letters text c : List ℕ) : Type 0 where
  pub head : HasHead letters c
  pub same : text_in c ≡ text

-- ---- a layout that is begun

-- the bytes after the gate of the layout, up to the first block's gate, which is closed
abbrev pub head_image : List ℕ → List ℕ → List ℕ
head_image letters text = letters ++ (number_bytes 4 (length text) ++ (text ++ 0 ∷ []))

-- the layout of this text, without blocks
pub record IsEmpty (letters text c : List ℕ) : Type 0 where
  pub of_text : IsOfText letters text c
  pub shut : IsShut (blocks_at (length text)) c

-- a crash might have left the image before, or the image has no finished layout
abbrev pub IsLeftOrNew : Trace → List ℕ → Type 0
IsLeftOrNew o c = MayLeave o c ⊎ IsNew c

-- or the image is the layout of this text, without blocks
abbrev pub IsLeftOrBegun : List ℕ → List ℕ → Trace → List ℕ → Type 0
IsLeftOrBegun letters text o c = IsLeftOrNew o c ⊎ IsEmpty letters text c

-- ---- a device that is opened

-- How many calls a device has made at the end of an opening, if it made `before` until then and has these bytes. It begins
-- with a sync. If its layout has to be begun, the calls for that follow.
pub record CountsTextOpening (is_begun : Type 0) (c : List ℕ) (before now : ℕ) : Type 0 where
  pub begun : is_begun → now ≡ before + (layout_calls c + 1)
  pub kept : (is_begun → ⊥) → now ≡ before + 1

-- the opening of a device that had these calls ends at this moment; its layout is begun if its bytes have P
abbrev pub TextOpensAt : (List ℕ → Type 0) → Trace → ℕ → Type 0
TextOpensAt P old t = Shows old (λ c. CountsTextOpening (P c) c (moment old) t)
