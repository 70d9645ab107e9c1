-- No two groups of a base have one name.
use Rattle.std.proofs.Common.{◌≡◌, ℕ, ◌<◌, Bool, true, false, if◌then◌else◌, List, [], ◌∷◌, ◌++◌, length, get_or, Option, None, Some, Result, Ok, Err, refl, sym, ap, subst, ◌∙◌, arith}
use Rattle.std.specs.Prelude.{◌≢◌, nat_le}
use Rattle.std.specs.List.{AllPairs}
use Rattle.std.specs.Option.{is_none, option_and_then}
use Rattle.std.specs.Str.{bytes_eq}
use Rattle.std.proofs.lemmas.Bool.{false≢true}
use Rattle.std.proofs.lemmas.Grind.{common_steps}
use Rattle.std.proofs.lemmas.List.Quantifiers.{all_pairs_push}
use Rattle.std.proofs.lemmas.Slice.Eq.{bytes_eq-Decides}
use Rattle.toml.specs.Data.{Members}
use Rattle.toml_tables.specs.{document}
use Rattle.trend_num.specs.declared.refusal.What.TheVariants.{Calcs}
use Rattle.trend_num.specs.{TagDef}
use Rattle.tag_base.specs.{Base, GroupDef, TextNo, where_held, limited, where_given, Follows, CalcForm, GroupForm, GroupRead, GroupsRead, TextRead, group_place, most_calcs, tags_after}
use Rattle.tag_base.specs.declared.refusal.TextNo.TheVariants.{Limit}
use Rattle.tag_base.specs.Bases.{BaseForm, BaseRead, IsBaseOf, TablesRead, base_tables}
use Rattle.plant_files.proofs.Distinct.{nobody}

-- no two names are the same
abbrev AreApart : List GroupDef → Type 0
AreApart groups = AllPairs (λ a b. a.name ≢ b.name) groups

-- the name of what was read
abbrev name_of : Result GroupForm TextNo → List ℕ
name_of (Ok text) = text.name
name_of (Err why) = []

-- a text that was read has the name that was found
named_so : {I : Type 0} (make : List ℕ → I → ℕ → ℕ → List CalcForm → GroupForm)
    → ((n : List ℕ) (i : I) (s p : ℕ) (cs : List CalcForm) → (make n i s p cs).name ≡ n)
    → (form : Bool) (name : Option (List ℕ)) (inputs : Option I) (start period : Option ℕ) (calcs : Option (List CalcForm))
    (a b c d e f : TextNo) (text : GroupForm)
    → where_held form a (where_given name b (λ n. where_given inputs c (λ i. where_given start d (λ s. where_given period e (λ p. where_given calcs f (λ cs.
    limited Calcs most_calcs (length cs) (Ok (make n i s p cs)))))))) ≡ Ok text → name ≡ Some text.name
named_so make named false name inputs start period calcs a b c d e f text is = absurd (cc)
named_so make named true None inputs start period calcs a b c d e f text is = absurd (cc)
named_so make named true (Some n) None start period calcs a b c d e f text is = absurd (cc)
named_so make named true (Some n) (Some i) None period calcs a b c d e f text is = absurd (cc)
named_so make named true (Some n) (Some i) (Some s) None calcs a b c d e f text is = absurd (cc)
named_so make named true (Some n) (Some i) (Some s) (Some p) None a b c d e f text is = absurd (cc)
named_so make named true (Some n) (Some i) (Some s) (Some p) (Some cs) a b c d e f text is =
    within (nat_le (length cs) most_calcs) (Limit Calcs (length cs)) is
  where
    within : (few : Bool) (why : TextNo) → where_held few why (Ok (make n i s p cs)) ≡ Ok text → Some n ≡ Some text.name
    within false why is = absurd (cc)
    within true why is = ap Some (sym (named n i s p cs) ∙ ap name_of is)

-- a name that is taken is that of no earlier group
new_name : (earlier : List GroupDef) (found : Option (List ℕ)) (name : List ℕ)
    → option_and_then (λ n. if is_none (group_place earlier n) then Some n else None) found ≡ Some name → group_place earlier name ≡ None
new_name earlier None name e = absurd (cc)
new_name earlier (Some n) name e = by (group_place earlier n) refl e
  where
    by : (place : Option ℕ) → group_place earlier n ≡ place → (if is_none place then Some n else None) ≡ Some name
        → group_place earlier name ≡ None
    by None is taken = let same : n ≡ name = cc in subst (λ m. group_place earlier m ≡ None) same is
    by (Some k) is taken = absurd (cc)

-- a group whose name no earlier one has is distinct from them
AreApart-push : (earlier : List GroupDef) (g : GroupDef) → AreApart earlier → group_place earlier g.name ≡ None
    → AreApart (earlier ++ g ∷ [])
AreApart-push earlier g apart none = all_pairs_push (λ a b. a.name ≢ b.name) earlier g apart (λ k d below same.
    let within : k < length earlier = grind (arith, common_steps) in
    let other = nobody (λ x. bytes_eq x.name g.name) earlier k d none within in
    false≢true (sym other ∙ (bytes_eq-Decides (get_or earlier k d).name g.name).1 same))

-- a group is of the name of its text
name_read : (place : ℕ) (text : GroupForm) (g : GroupDef) → TextRead place text (Ok g) → g.name ≡ text.name
name_read place text g read = grind arith

-- its name is that of no earlier group
new_group : (tags : List TagDef) (earlier : List GroupDef) (ms : Members) (g : GroupDef) → GroupRead tags earlier ms (Ok g)
    → group_place earlier g.name ≡ None
new_group tags earlier ms g read = grind (arith, named_so, name_read, new_name)

-- groups that are read are distinct if the earlier ones are
groups_apart : (tags : List TagDef) (earlier : List GroupDef) (tables : List Members) (groups : List GroupDef) → AreApart earlier
    → GroupsRead tags earlier tables (Ok groups) → AreApart groups
groups_apart tags earlier [] groups apart e = let same : earlier ≡ groups = cc in subst AreApart same apart
groups_apart tags earlier (ms ∷ tables) groups apart read =
    by read.0 read.1 read.2 (λ g. groups_apart tags (earlier ++ g ∷ []) tables groups)
  where
    by : (first : Result GroupDef TextNo) → GroupRead tags earlier ms first
        → Follows first (λ g. GroupsRead tags (earlier ++ g ∷ []) tables) (Ok groups)
        → ((g : GroupDef) → AreApart (earlier ++ g ∷ []) → GroupsRead tags (earlier ++ g ∷ []) tables (Ok groups) → AreApart groups)
        → AreApart groups
    by (Err why) is follows further = absurd (cc)
    by (Ok g) is follows further = further g (AreApart-push earlier g apart (new_group tags earlier ms g is)) follows

-- the groups of a base that tables come to are distinct
of_tables : (tables : Result BaseForm TextNo) (base : Base) → Follows tables TablesRead (Ok base) → AreApart base.groups.items
of_tables (Err why) base read = absurd (cc)
of_tables (Ok tables) base read = by (tags_after [] tables.tags) read
  where
    of_groups : (tags : List TagDef) (groups : Result (List GroupDef) TextNo) → GroupsRead tags [] tables.groups groups
        → Follows groups (IsBaseOf tags) (Ok base) → AreApart base.groups.items
    of_groups tags (Err why) is follows = absurd (cc)
    of_groups tags (Ok groups) is follows =
        subst AreApart (sym follows.1) (groups_apart tags [] tables.groups groups (λ i j d order below. absurd (omega arith)) is)

    by : (tags : Result (List TagDef) TextNo)
        → Follows tags (λ ts answer. (groups : Result (List GroupDef) TextNo) × GroupsRead ts [] tables.groups groups
        × Follows groups (IsBaseOf ts) answer) (Ok base) → AreApart base.groups.items
    by (Err why) follows = absurd (cc)
    by (Ok tags) follows = of_groups tags follows.0 follows.1 follows.2

-- the names of the groups of a base are distinct
pub group_names_apart : (bytes : List ℕ) (base : Base) → BaseRead bytes (Ok base)
    → AllPairs (λ a b. a.name ≢ b.name) base.groups.items
group_names_apart bytes base read = of_tables (base_tables (document bytes)) base read
