-- Blocks of a device, one after the other, as a reader finds them.
use Rattle.std.specs.Prelude.{◌≡◌, ◌⊎◌, ℕ, ◌+◌, true, List, [], ◌∷◌, drop, map, Option}
use Rattle.disk_model.specs.{IsOpen, IsShut}
use Rattle.archive_file.specs.declared.layout_field.Field.{Field}
use Rattle.archive_file.specs.LayoutFields.{BreaksFirst, EndsIn}

-- a block that was read: how many bytes it takes from its gate to the next one, and the reader after it
pub record Step (R : Type 0) : Type 0 where
  pub size : ℕ
  pub reader : R

-- Blocks lie one after the other from the gate at a place, each after its open gate. The reader `r` read them one by
-- one, and is `s` then; the next gate is at `end`. `adds r c size s` states that the bytes c begin with a block of this
-- size, by which the reader r becomes s.
abbrev pub AreRead : {R : Type 0} → (R → List ℕ → ℕ → R → Type 0) → List ℕ → R → ℕ → List (Step R) → R → ℕ → Type 0
AreRead adds c r at [] s end = (s ≡ r) × (end ≡ at)
AreRead adds c r at (step ∷ steps) s end =
    IsOpen at c × adds r (drop at c) step.size step.reader × AreRead adds c step.reader (at + step.size) steps s end

-- and these are all: the gate after the last one is there, and closed
pub record AreAllRead {R : Type 0} (adds : R → List ℕ → ℕ → R → Type 0) (c : List ℕ) (r : R) (at : ℕ) (s : R) (end : ℕ) : Type 0 where
  pub steps : List (Step R)
  pub are : AreRead adds c r at steps s end
  pub shut : IsShut end c

-- a field of the bytes from a place on, as a field of the image
abbrev pub moved : ℕ → Field → Field
moved from f = record { place = from + f.place; size = f.size; is_kept = f.is_kept }

-- after whole blocks there is one that breaks a rule, in this field first
pub record IsBrokenBehind {R : Type 0} (adds : R → List ℕ → ℕ → R → Type 0) (fields : R → List ℕ → List Field) (c : List ℕ) (r : R) (at a : ℕ)
    (byte : Option ℕ) : Type 0 where
  pub steps : List (Step R)
  pub reader : R
  pub gate : ℕ
  pub whole : AreRead adds c r at steps reader gate
  pub opened : IsOpen gate c
  pub breaks : BreaksFirst c (map (moved gate) (fields reader (drop gate c))) a byte

-- the first gate is not there, or a block after whole ones breaks a rule
abbrev pub IsFirstBroken : {R : Type 0} → (R → List ℕ → ℕ → R → Type 0) → (R → List ℕ → List Field) → List ℕ → R → ℕ → ℕ → Option ℕ → Type 0
IsFirstBroken adds fields c r at a byte =
    EndsIn c (record { place = at; size = 1; is_kept = true }) a byte ⊎ IsBrokenBehind adds fields c r at a byte
