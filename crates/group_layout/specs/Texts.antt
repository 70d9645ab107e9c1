-- The definition text of a group.
use Rattle.std.specs.Prelude.{ℕ, List, ◌∷◌, ◌++◌, codes, flat_map}
use Rattle.std.specs.Fmt.{decimal}
use Rattle.calc_parser.specs.{text_of}
use Rattle.calc_check.specs.Group.{Calculation, Group}

-- a comma before each name
abbrev pub name_text : List ℕ → List ℕ
name_text name = codes "," ++ name

abbrev pub names_text : List (List ℕ) → List ℕ
names_text names = flat_map name_text names

-- a calculation: its name and its formula on a line of their own
abbrev pub calc_text : Calculation → List ℕ
calc_text c = 10 ∷ (c.name ++ (codes "=" ++ text_of c.tree))

abbrev pub calcs_text : List Calculation → List ℕ
calcs_text cs = flat_map calc_text cs

-- the definition text of a group with this name, start and period
abbrev pub definition_text : List ℕ → ℕ → ℕ → Group → List ℕ
definition_text name start period g =
    name ++ (codes "," ++ (decimal start ++ (codes "," ++ (decimal period ++ (names_text g.inputs ++ calcs_text g.calcs)))))
