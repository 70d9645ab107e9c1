-- The names of the tags and of the groups of a base.
use Rattle.std.proofs.Common.{arith, ◌≡◌, ℕ, ◌<◌, List, [], ◌∷◌, ◌++◌, length, map, refl, suc, zero, ap, subst, ◌∙◌, All, Vec}
use Rattle.std.proofs.lemmas.List.{length-map}
use Rattle.calc_check.specs.Group.{calculation, names_of}
use Rattle.calc_check.specs.{CalcDef}
use Rattle.tag_base.specs.{Base, GroupDef}
use Rattle.value_rows.specs.{IsQuery, IsRawRow, RawRow, calc_names_at as names_at, GroupNames, Query}
use Rattle.value_rows.specs.declared.asked.Query.TheVariants.{Tag, Snap, Row}
use Rattle.plant_files.specs.{tag_names, IsNamed, AreNamed, IsQueryOfBase, asked_calcs_at, IsRowOfBase}

-- the names of what definitions define
pub names_of_defs : (defs : List CalcDef) → map (λ d. d.name) defs ≡ names_of (map calculation defs)
names_of_defs [] = refl
names_of_defs (d ∷ defs) = ap (λ l. d.name ∷ l) (names_of_defs defs)

-- one group more
pub AreNamed-push : (gs : List GroupDef) (ns : List GroupNames) (g : GroupDef) (n : GroupNames) → AreNamed gs ns → IsNamed g n
    → AreNamed (gs ++ g ∷ []) (ns ++ n ∷ [])
AreNamed-push [] [] g n named one = (one, tt)
AreNamed-push [] (m ∷ ns) g n named one = absurd named
AreNamed-push (f ∷ gs) [] g n named one = absurd named
AreNamed-push (f ∷ gs) (m ∷ ns) g n named one = (named.0, AreNamed-push gs ns g n named.1 one)

-- as many names as groups
many_groups : (gs : List GroupDef) (ns : List GroupNames) → AreNamed gs ns → length ns ≡ length gs
many_groups [] [] named = refl
many_groups [] (n ∷ ns) named = absurd named
many_groups (g ∷ gs) [] named = absurd named
many_groups (g ∷ gs) (n ∷ ns) named = ap suc (many_groups gs ns named.1)

-- and at each place as many names as calculations
many_calcs : (gs : List GroupDef) (ns : List GroupNames) (place : ℕ) → AreNamed gs ns → length (names_at ns place) ≡ length (asked_calcs_at gs place)
many_calcs [] [] place named = refl
many_calcs [] (n ∷ ns) place named = absurd named
many_calcs (g ∷ gs) [] place named = absurd named
many_calcs (g ∷ gs) (n ∷ ns) zero named = ap length named.0.calcs ∙ length-map g.calcs.calcs (λ c. c.name)
many_calcs (g ∷ gs) (n ∷ ns) (suc place) named = many_calcs gs ns place named.1

-- a query over the names of a base is one of the base
IsQueryOf-named : (base : Base) (names : List GroupNames) (query : Query) → AreNamed base.groups.items names
    → IsQuery (tag_names base.tags.items) names query → IsQueryOfBase base query
IsQueryOf-named base names (Tag tag query) named asked =
    (subst (λ n. tag < n) (length-map base.tags.items (λ t. t.name)) asked.0, asked.1)
IsQueryOf-named base names (Snap tag) named asked = subst (λ n. tag < n) (length-map base.tags.items (λ t. t.name)) asked
IsQueryOf-named base names (Row group calc k) named asked = (
  subst (λ n. group < n) (many_groups base.groups.items names named) asked.0,
  subst (λ n. calc < n) (many_calcs base.groups.items names group named) asked.1,
  asked.2,
)

-- the same of lists of queries
pub queries_of_base : {Z : Type 0} (base : Base) (names : List GroupNames) (lists : List (Vec Query Z)) → AreNamed base.groups.items names
    → All (λ q. All (IsQuery (tag_names base.tags.items) names) q.items) lists → All (λ q. All (IsQueryOfBase base) q.items) lists
queries_of_base base names lists named asked i d below j e within = grind (arith, IsQueryOf-named)

-- a row over the names of a base is one of the base
IsRowOf-named : (base : Base) (row : RawRow) → IsRawRow (tag_names base.tags.items) row → IsRowOfBase base row
IsRowOf-named base row is = grind (arith, length-map)

-- the same of lists of rows
pub rows_of_base : {Z : Type 0} (base : Base) (lists : List (Vec RawRow Z)) → All (λ rows. All (IsRawRow (tag_names base.tags.items)) rows.items) lists
    → All (λ rows. All (IsRowOfBase base) rows.items) lists
rows_of_base base lists read i d below j e within = grind (arith, IsRowOf-named)
