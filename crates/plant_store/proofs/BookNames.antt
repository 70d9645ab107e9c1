-- What the devices of groups are called, place by place.
use Rattle.std.proofs.Common.{◌≡◌, ◌≢◌, ◌⊎◌, inl, inr, ℕ, ◌+◌, ◌<◌, List, [], ◌∷◌, length, get_or, codes, string_bytes, AllPairs, sym, ◌∙◌, ap, subst, arith}
use Rattle.std.specs.Prelude.{Bool, IsTrue, String}
use Rattle.std.specs.declared.alloc.Global.{Global}
use Rattle.std.proofs.lemmas.Bool.{cases_lt}
use Rattle.std.proofs.lemmas.List.{append_cancel_right, get_or-map, get_or_default, length-map}
use Rattle.tag_base.specs.{GroupDef}
use Rattle.plant_store.specs.Groups.{AreDistinct, AreNamesOf, device_name}
use Rattle.plant_store.specs.{HavePlaces}

-- there are as many names as groups
pub as_many : (groups : List GroupDef) (names : List (String Global)) → AreNamesOf groups names → length names ≡ length groups
as_many groups names are =
    sym (length-map names string_bytes) ∙ ap length are ∙ length-map groups (λ g. device_name g.name)

-- the name at a place is that of the group there
pub named_at : (groups : List GroupDef) (names : List (String Global)) (i : ℕ) (g : GroupDef) (s : String Global)
    → AreNamesOf groups names → i < length groups → string_bytes (get_or names i s) ≡ device_name (get_or groups i g).name
named_at groups names i g s are below =
    sym (get_or-map string_bytes names i s [] (omega (arith, below, as_many groups names are)))
    ∙ ap (λ l. get_or l i []) are ∙ get_or-map (λ g. device_name g.name) groups i g [] below

-- two groups of one device name have one name
one_name : (a b : GroupDef) → device_name a.name ≡ device_name b.name → a.name ≡ b.name
one_name a b same = append_cancel_right a.name b.name (codes ".grp") same

-- groups at two places have two devices
pub apart : (groups : List GroupDef) (i j : ℕ) (g : GroupDef) → AreDistinct groups → i < length groups → j < length groups
    → (i < j) ⊎ (j < i) → device_name (get_or groups i g).name ≢ device_name (get_or groups j g).name
apart groups i j g distinct in' jn (inl before) same =
    distinct i j g before jn (one_name (get_or groups i g) (get_or groups j g) same)
apart groups i j g distinct in' jn (inr behind) same =
    distinct j i g behind in' (sym (one_name (get_or groups i g) (get_or groups j g) same))

-- so no two names are the same
pub names_differ : (groups : List GroupDef) (names : List (String Global)) → AreNamesOf groups names → AreDistinct groups
    → AllPairs (λ a b. string_bytes a ≢ string_bytes b) names
names_differ [] names are distinct i j s before below = λ same. absurd (omega (arith, as_many [] names are, below))
names_differ (g ∷ gs) names are distinct i j s before below = λ same.
    let within : j < length (g ∷ gs) = omega (arith, below, as_many (g ∷ gs) names are) in
    apart (g ∷ gs) i j g distinct (omega (arith, before, within)) within (inl before)
    (sym (named_at (g ∷ gs) names i g s are (omega (arith, before, within))) ∙ same ∙ named_at (g ∷ gs) names j g s are within)

-- one name more has a place
pub one_place : (names : List (String Global)) (many : ℕ) (s : String Global) (n : List ℕ) (old new : List ℕ → Bool)
    → many < length names → s ≡ get_or names many s → n ≡ string_bytes s → HavePlaces many names old
    → ((m : List ℕ) → IsTrue (old m) → IsTrue (new m)) → IsTrue (new n) → HavePlaces (many + 1) names new
one_place names many s n old new below is bytes places stay there i t within = elim (cases_lt i many) [
  | inl before ↦ stay (string_bytes (get_or names i t)) (places i t before)
  | inr past ↦
      let same : i ≡ many = omega (arith, within, past) in
      subst (λ j. IsTrue (new (string_bytes (get_or names j t)))) (sym same)
      (subst (λ (x : String Global). IsTrue (new (string_bytes x))) (get_or_default names many s t below)
      (subst (λ m. IsTrue (new m)) (bytes ∙ ap string_bytes is) there))
]
