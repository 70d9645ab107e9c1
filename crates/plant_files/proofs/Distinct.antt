-- No two tags of a base have one name.
use Rattle.std.proofs.Common.{◌≡◌, ℕ, ◌<◌, Bool, true, false, cond, List, [], ◌∷◌, ◌++◌, length, get_or, Option, None, Some, Result, Ok, Err, refl, sym, ap, subst, ◌∙◌, arith}
use Rattle.std.specs.Prelude.{◌≢◌, codes}
use Rattle.std.specs.List.{AllPairs, position}
use Rattle.std.specs.Option.{is_none, option_and_then}
use Rattle.std.specs.Str.{bytes_eq}
use Rattle.std.proofs.lemmas.Bool.{false≢true}
use Rattle.std.proofs.lemmas.Grind.{common_steps}
use Rattle.std.proofs.lemmas.List.{get_or-map, length-map, map_push}
use Rattle.std.proofs.lemmas.List.Quantifiers.{all_pairs_push}
use Rattle.std.proofs.lemmas.List.Sums.{fails_before_first}
use Rattle.std.proofs.lemmas.Slice.Eq.{bytes_eq-Decides}
use Rattle.toml.specs.Data.{Members, get_member}
use Rattle.toml_tables.specs.{document}
use Rattle.trend_num.specs.{Tuning, TagDef}
use Rattle.tag_base.specs.{Base, GroupDef, TextNo, broken, where_held, where_given, after_step, Follows, name_at, has_tag_form, tuning_at, step_of, tag_place, new_tag_name, tag_of, tags_after, GroupsRead}
use Rattle.tag_base.specs.Bases.{BaseForm, BaseRead, IsBaseOf, TablesRead, base_tables}
use Rattle.plant_files.specs.{tag_names}

-- no two names are the same
abbrev AreApart : List TagDef → Type 0
AreApart tags = AllPairs (λ x y. x ≢ y) (tag_names tags)

-- the name of what was read
abbrev name_read : Result TagDef TextNo → Option (List ℕ)
name_read (Ok tag) = Some tag.name
name_read (Err why) = None

-- a tag is read with the name that was found
named_so : (form : Bool) (name : Option (List ℕ)) (tuning : Option Tuning) (step : Option Bool) (a b c d : TextNo) (tag : TagDef)
    → where_held form a (where_given name b (λ n. where_given tuning c (λ t. where_given step d (λ s. Ok (record { name = n; tuning = t; step = s }))))) ≡ Ok tag
    → name ≡ Some tag.name
named_so false name tuning step a b c d tag e = absurd (cc)
named_so true None tuning step a b c d tag e = absurd (cc)
named_so true (Some n) None step a b c d tag e = absurd (cc)
named_so true (Some n) (Some t) None a b c d tag e = absurd (cc)
named_so true (Some n) (Some t) (Some s) a b c d tag e = ap name_read e

-- a name that is taken is that of no earlier tag
new_name : (earlier : List TagDef) (found : Option (List ℕ)) (name : List ℕ)
    → option_and_then (λ n. cond (is_none (tag_place earlier n)) (Some n) None) found ≡ Some name → tag_place earlier name ≡ None
new_name earlier None name e = absurd (cc)
new_name earlier (Some n) name e = by (tag_place earlier n) refl e
  where
    by : (place : Option ℕ) → tag_place earlier n ≡ place → cond (is_none place) (Some n) None ≡ Some name → tag_place earlier name ≡ None
    by None is taken = let same : n ≡ name = cc in subst (λ m. tag_place earlier m ≡ None) same is
    by (Some k) is taken = absurd (cc)

-- where no place was found, no element passes
pub nobody : {X : Type 0} (test : X → Bool) (xs : List X) (k : ℕ) (d : X) → position test xs ≡ None → k < length xs → test (get_or xs k d) ≡ false
nobody test xs k d none below = grind (arith, common_steps, fails_before_first)

-- a tag whose name no earlier one has is distinct from them
AreApart-push : (earlier : List TagDef) (tag : TagDef) → AreApart earlier → tag_place earlier tag.name ≡ None → AreApart (earlier ++ tag ∷ [])
AreApart-push earlier tag apart none =
    subst (AllPairs (λ x y. x ≢ y)) (sym (map_push (λ t. t.name) earlier tag))
    (all_pairs_push (λ x y. x ≢ y) (tag_names earlier) tag.name apart (λ k d below same.
    let within : k < length earlier = grind (arith, common_steps) in
    let here : get_or (tag_names earlier) k d ≡ (get_or earlier k tag).name = get_or-map (λ t. t.name) earlier k tag d within in
    let other = nobody (λ t. bytes_eq t.name tag.name) earlier k tag none within in
    false≢true (sym other ∙ (bytes_eq-Decides (get_or earlier k tag).name tag.name).1 (sym here ∙ same))))

-- tags that are read are distinct if the earlier ones are
tags_apart : (earlier : List TagDef) (tables : List Members) (tags : List TagDef) → AreApart earlier → tags_after earlier tables ≡ Ok tags → AreApart tags
tags_apart earlier [] tags apart e = let same : earlier ≡ tags = cc in subst AreApart same apart
tags_apart earlier (ms ∷ tables) tags apart e =
    by (tag_of earlier ms) refl (λ tag. tags_apart (earlier ++ tag ∷ []) tables tags) e
  where
    by : (first : Result TagDef TextNo) → tag_of earlier ms ≡ first
        → ((tag : TagDef) → AreApart (earlier ++ tag ∷ []) → tags_after (earlier ++ tag ∷ []) tables ≡ Ok tags → AreApart tags)
        → after_step first (λ tag. tags_after (earlier ++ tag ∷ []) tables) ≡ Ok tags → AreApart tags
    by (Err why) is further read = absurd (cc)
    by (Ok tag) is further read =
        let named = named_so (has_tag_form ms) (new_tag_name earlier ms) (tuning_at ms) (step_of (get_member (codes "step") ms))
        (broken 3 (length earlier)) (broken 4 (length earlier)) (broken 5 (length earlier)) (broken 5 (length earlier)) tag is in
        further tag (AreApart-push earlier tag apart (new_name earlier (name_at (codes "name") ms) tag.name named)) read

-- the tags of a base are those that were read first
tags_first : (tags : Result (List TagDef) TextNo) (tables : BaseForm) (base : Base)
    → Follows tags (λ ts answer. (groups : Result (List GroupDef) TextNo) × GroupsRead ts [] tables.groups groups × Follows groups (IsBaseOf ts) answer) (Ok base)
    → tags ≡ Ok base.tags.items
tags_first (Err why) tables base read = absurd (cc)
tags_first (Ok tags) tables base read = let same : tags ≡ base.tags.items = sym (by read.0 read.2) in ap (λ ts. Ok ts) same
  where
    by : (groups : Result (List GroupDef) TextNo) → Follows groups (IsBaseOf tags) (Ok base) → base.tags.items ≡ tags
    by (Err why) follows = absurd (cc)
    by (Ok groups) follows = follows.0

-- the tags of a base that tables come to are distinct
of_tables : (tables : Result BaseForm TextNo) (base : Base) → Follows tables TablesRead (Ok base) → AreApart base.tags.items
of_tables (Err why) base read = absurd (cc)
of_tables (Ok tables) base read =
    tags_apart [] tables.tags base.tags.items (λ i j d order below. absurd (omega arith))
    (tags_first (tags_after [] tables.tags) tables base read)

-- the names of the tags of a base are distinct
pub names_apart : (bytes : List ℕ) (base : Base) → BaseRead bytes (Ok base) → AllPairs (λ x y. x ≢ y) (tag_names base.tags.items)
names_apart bytes base read = of_tables (base_tables (document bytes)) base read

-- tags of distinct names are distinct
pub distinct_tags : (tags : List TagDef) → AllPairs (λ x y. x ≢ y) (tag_names tags) → AllPairs (λ a b. a.name ≢ b.name) tags
distinct_tags tags all i j d less below same =
    let named = λ (t : TagDef). t.name in
    all i j d.name less (omega (arith, below, length-map tags named)) (grind (arith, get_or-map))
