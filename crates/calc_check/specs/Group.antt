-- The calculations of a group, and the first of their names that stands for nothing.
use Rattle.std.specs.Prelude.{ℕ, Bool, not, List, [], ◌∷◌, ◌++◌, length, map, find, Option, None, Some, ◌≡◌, if◌then◌else◌}
use Rattle.std.specs.List.{list_any}
use Rattle.std.specs.Option.{option_map, option_or}
use Rattle.std.specs.Str.{bytes_eq}
use Rattle.calc_parser.specs.Tree.{Tree, tree_of, num, window, calc, neg, abs, two, compare, choose}
use Rattle.calc_check.specs.declared.definition.CalcDef.{CalcDef}
use Rattle.calc_check.specs.declared.refusal.CheckNo.{CheckNo}
use Rattle.calc_check.specs.declared.refusal.CheckNo.TheVariants.{UnknownName, Forward, WantOfMemory}

-- a calculation: its name, and the tree of its formula
pub record Calculation : Type 0 where
  pub name : List ℕ
  pub tree : Tree

-- the names of a group's inputs, and its calculations in order
pub record Group : Type 0 where
  pub inputs : List (List ℕ)
  pub calcs : List Calculation

-- the calculation that a definition defines
abbrev pub calculation : CalcDef → Calculation
calculation d = record { name = d.name; tree = tree_of d.expr }

-- the group of these inputs and definitions
abbrev pub group_of : List (List ℕ) → List CalcDef → Group
group_of inputs defs = record { inputs = inputs; calcs = map calculation defs }

-- the names of calculations
abbrev pub names_of : List Calculation → List (List ℕ)
names_of cs = map (λ c. c.name) cs

-- a name in a formula: it has to be the name of an input, or of an earlier calculation
pub data Mention : Type 0 where
  input : List ℕ → Mention
  earlier : List ℕ → Mention

abbrev pub mentioned : Mention → List ℕ
mentioned (input name) = name
mentioned (earlier name) = name

-- the names in a tree, from left to right
abbrev pub mentions : Tree → List Mention
mentions (num n) = []
mentions (window m name) = input name ∷ []
mentions (calc name) = earlier name ∷ []
mentions (neg a) = mentions a
mentions (abs a) = mentions a
mentions (two op a b) = mentions a ++ mentions b
mentions (compare cmp a b) = mentions a ++ mentions b
mentions (choose c a b) = mentions c ++ mentions a ++ mentions b

abbrev pub is_among : List ℕ → List (List ℕ) → Bool
is_among name names = list_any (bytes_eq name) names

-- whether a name stands for something, given the names of the inputs and of the calculations before
abbrev pub is_known : List (List ℕ) → List (List ℕ) → Mention → Bool
is_known inputs before (input name) = is_among name inputs
is_known inputs before (earlier name) = is_among name before

-- the first name in a tree that stands for nothing
abbrev pub first_unknown : List (List ℕ) → List (List ℕ) → Tree → Option (List ℕ)
first_unknown inputs before tree =
    option_map mentioned (find (λ m. not (is_known inputs before m)) (mentions tree))

-- the refusal of such a name in the calculation at a place: `Forward` if it is that of this or a later one, otherwise
-- `UnknownName`
abbrev pub told : ℕ → List (List ℕ) → List ℕ → CheckNo
told place coming name = if is_among name coming then Forward place name else UnknownName place name

-- the refusal of the first name that stands for nothing, in the first calculation that has one
abbrev pub first_fault : List (List ℕ) → List (List ℕ) → List Calculation → Option CheckNo
first_fault inputs before [] = None
first_fault inputs before (c ∷ cs) = option_or
    (option_map (told (length before) (names_of (c ∷ cs))) (first_unknown inputs before c.tree))
    (first_fault inputs (before ++ c.name ∷ []) cs)

-- the first fault of a group
abbrev pub fault_of : Group → Option CheckNo
fault_of g = first_fault g.inputs [] g.calcs

-- the refusal is the fault of the group; want of memory may come at any time
abbrev pub IsToldOf : Option CheckNo → CheckNo → Type 0
IsToldOf fault (UnknownName place name) = fault ≡ Some (UnknownName place name)
IsToldOf fault (Forward place name) = fault ≡ Some (Forward place name)
IsToldOf fault WantOfMemory = Unit {0}
