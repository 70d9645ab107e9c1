-- Groups and calculations at places.
use Rattle.std.proofs.Common.{◌≡◌, ◌≢◌, ℕ, ◌<◌, List, [], ◌∷◌, All, length, map, get_or, Some, sym, ap, subst, ◌∙◌, arith}
use Rattle.std.specs.Prelude.{slice_get}
use Rattle.std.proofs.lemmas.List.{get_or-map, length-map}
use Rattle.std.proofs.lemmas.List.Elements.{All-map}
use Rattle.std.proofs.lemmas.Option.{get_or_from_slice_get, slice_get-get_or}
use Rattle.calc_check.specs.Group.{Calculation, calculation, names_of}
use Rattle.calc_check.specs.{CalcDef}
use Rattle.tag_base.specs.{GroupDef}
use Rattle.store_commands.specs.{IsNamed, IsPlaced}

-- the name of the definition at a place is that of the calculation there
pub calc_named : (defs : List CalcDef) (k : ℕ) (name : List ℕ) → k < length defs → ((d : CalcDef) → (get_or defs k d).name ≡ name)
    → slice_get (names_of (map calculation defs)) k ≡ Some name
calc_named [] k name below named = absurd (omega (arith, below))
calc_named (d ∷ ds) k name below named =
    let calcs = map calculation (d ∷ ds) in
    let many = length-map (d ∷ ds) calculation in
    let there : k < length calcs = omega (arith, below, many) in
    slice_get-get_or (names_of calcs) k [] (omega (arith, there, length-map calcs (λ (c : Calculation). c.name)))
    ∙ ap Some (get_or-map (λ (c : Calculation). c.name) calcs k (calculation d) [] there
    ∙ ap (λ (c : Calculation). c.name) (get_or-map calculation (d ∷ ds) k d (calculation d) below) ∙ named d)

-- where no definition has a name no calculation has
pub no_calc : (defs : List CalcDef) (name : List ℕ) → All (λ d. d.name ≢ name) defs → All (λ c. c.name ≢ name) (map calculation defs)
no_calc defs name none = All-map (λ (c : Calculation). c.name ≢ name) calculation defs none

-- what is at the place of a group is the group
pub named_group : (groups : List GroupDef) (group calc : List ℕ) (i k : ℕ) (g : GroupDef) → IsPlaced groups group calc i k
    → g ≡ get_or groups i g → IsNamed groups group calc g i k
named_group groups group calc i k g placed is =
    subst (λ (x : GroupDef). IsNamed groups group calc x i k) (sym (is ∙ get_or_from_slice_get groups i placed.0 g placed.1.there)) placed.1
