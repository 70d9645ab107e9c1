-- Fields one after the other: those that are kept, and the first that is not.
use Rattle.std.proofs.Common.{◌≡◌, ℕ, Bool, All, List, [], ◌∷◌, ◌++◌, Option, Result, Err, IsErrOf, refl, sym, ap, ◌∙◌, arith, append_assoc, length-append}
use Rattle.std.proofs.Math.Seq.{take-add}
use Rattle.std.proofs.lemmas.List.{append-nil, drop-drop}
use Rattle.std.proofs.lemmas.List.Elements.{All-append, All-nil}
use Rattle.archive_file.specs.{ScanNo, Field, Spells, Keeps, BreaksFirst}
use Rattle.archive_file.specs.declared.failure.ScanNo.TheVariants.{Damaged}

-- a field at a place, and whether it is kept
abbrev pub field_of : ℕ → ℕ → Bool → Field
field_of place size is_kept = record { place = place; size = size; is_kept = is_kept }

-- ---- what was read

-- two pieces, one after the other
pub spells_both : (c : List ℕ) (at mid end : ℕ) (xs ys : List ℕ) → Spells c at xs mid → Spells c mid ys end
    → Spells c at (xs ++ ys) end
spells_both c at mid end xs ys first second = grind (arith, length-append, take-add, drop-drop)

-- ---- all are kept

-- six fields, each with P
pub all_six : (P : Field → Type 0) (f g h i j k : Field) → P f → P g → P h → P i → P j → P k → All P (f ∷ g ∷ h ∷ i ∷ j ∷ k ∷ [])
all_six P f g h i j k pf pg ph pi pj pk = grind arith

-- ---- the first field that breaks

-- after fields that are kept
pub breaks_behind : (c : List ℕ) (fs gs : List Field) (a : ℕ) (byte : Option ℕ) → All (Keeps c) fs
    → BreaksFirst c gs a byte → BreaksFirst c (fs ++ gs) a byte
breaks_behind c fs gs a byte kept first = record {
  before = fs ++ first.before;
  field = first.field;
  behind = first.behind;
  are = ap (λ l. fs ++ l) first.are ∙ sym (append_assoc fs first.before (first.field ∷ first.behind));
  kept = All-append (Keeps c) fs first.before kept first.kept;
  breaks = first.breaks;
}

-- with others after
pub breaks_within : (c : List ℕ) (fs gs : List Field) (a : ℕ) (byte : Option ℕ) → BreaksFirst c fs a byte
    → BreaksFirst c (fs ++ gs) a byte
breaks_within c fs gs a byte first = grind (arith, append_assoc)

-- ---- up to a place

-- all fields are kept up to these last ones
pub record KeptUpTo (c : List ℕ) (fields rest : List Field) : Type 0 where
  pub done : List Field
  pub are : fields ≡ done ++ rest
  pub kept : All (Keeps c) done

pub kept_none : (c : List ℕ) (fields : List Field) → KeptUpTo c fields fields
kept_none c fields = record { done = []; are = refl; kept = All-nil (Keeps c) }

pub kept_more : (c : List ℕ) (fields fs rest : List Field) → KeptUpTo c fields (fs ++ rest) → All (Keeps c) fs
    → KeptUpTo c fields rest
kept_more c fields fs rest before kept = record {
  done = before.done ++ fs;
  are = before.are ∙ sym (append_assoc before.done fs rest);
  kept = All-append (Keeps c) before.done fs before.kept kept;
}

pub kept_all : (c : List ℕ) (fields : List Field) → KeptUpTo c fields [] → All (Keeps c) fields
kept_all c fields before = grind (arith, append-nil)

pub breaks_after : (c : List ℕ) (fields rest : List Field) (a : ℕ) (byte : Option ℕ) → KeptUpTo c fields rest
    → BreaksFirst c rest a byte → BreaksFirst c fields a byte
breaks_after c fields rest a byte before first = grind (arith, breaks_behind)

-- ---- through a `?`

-- an error that is passed on
pub told_through : {T U : Type 0} (r : Result T ScanNo) (y e : ScanNo) (a : ℕ) (byte : Option ℕ) → r ≡ Err y → y ≡ e
    → r ≡ Err (Damaged a byte) → IsErrOf {T = U} (Err e) (Damaged a byte)
told_through r y e a byte is same told = grind arith

-- ---- in a part

-- the first field of the next part that breaks
pub breaks_part : (c : List ℕ) (fields fs rest : List Field) (a : ℕ) (byte : Option ℕ) → KeptUpTo c fields (fs ++ rest)
    → BreaksFirst c fs a byte → BreaksFirst c fields a byte
breaks_part c fields fs rest a byte so_far breaks =
    breaks_after c fields (fs ++ rest) a byte so_far (breaks_within c fs rest a byte breaks)
