-- The group and the calculation that two names stand for.
use Rattle.std.specs.Prelude.{◌≡◌, ◌≢◌, ℕ, List, All, Contains, Some, slice_get}
use Rattle.calc_check.specs.Group.{names_of}
use Rattle.tag_base.specs.{GroupDef}
use Rattle.plant_status.specs.declared.status.Status.{Status}
use Rattle.plant_status.specs.declared.status.Status.TheVariants.{BadName}

-- g is the group at place i and has the first name; its calculation at place k has the second
pub record IsNamed (groups : List GroupDef) (group calc : List ℕ) (g : GroupDef) (i k : ℕ) : Type 0 where
  pub there : slice_get groups i ≡ Some g
  pub name : g.name ≡ group
  pub calculates : slice_get (names_of g.calcs.calcs) k ≡ Some calc

-- the calculation with this name is at place k of the group at place i
abbrev pub IsPlaced : List GroupDef → List ℕ → List ℕ → ℕ → ℕ → Type 0
IsPlaced groups group calc i k = (g : GroupDef) × IsNamed groups group calc g i k

-- Why names stand for nothing. No group has the first name, which is the third word of the command. Or the group has no
-- calculation with the second name, which is the fourth word.
pub data IsNameRefusal (groups : List GroupDef) (group calc : List ℕ) (why : Status) : Type 0 where
  NoGroup : why ≡ BadName 3 → All (λ g. g.name ≢ group) groups → IsNameRefusal groups group calc why
  NoCalculation : (g : GroupDef) → why ≡ BadName 4 → Contains groups g → g.name ≡ group
      → All (λ c. c.name ≢ calc) g.calcs.calcs → IsNameRefusal groups group calc why
