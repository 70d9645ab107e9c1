-- What the tables of groups say.
use Rattle.std.specs.Prelude.{◌≡◌, ◌≢◌, ◌⊎◌, ℕ, Bool, if◌then◌else◌, ◌||◌, List, [], ◌∷◌, ◌++◌, length, map, position, slice_get, codes, bytes_eq, string_bytes, nat_eq, Option, None, Some, is_none, option_and_then, Result, Ok, Err, ⊤, ◌<◌}
use Rattle.std.specs.Prelude.{◌≤◌, All, vec_len}
use Rattle.std.specs.List.{list_any}
use Rattle.toml.specs.Data.{Members}
use Rattle.toml_tables.specs.{has_keys, places_at, string_at}
use Rattle.trend_num.specs.{last_time, TagDef}
use Rattle.trend_num.specs.declared.refusal.What.TheVariants.{Calcs}
use Rattle.calc_parser.specs.{ParseNo, IsFormula, HasFormulaCause, most_bytes}
use Rattle.calc_parser.specs.declared.refusal.ParseNo.TheVariants as parse_no
use Rattle.calc_check.specs.Group.{Calculation, Group, fault_of}
use Rattle.tag_base.specs.declared.calculation.CalcText.{CalcText}
use Rattle.tag_base.specs.declared.definition.GroupDef.{GroupDef}
use Rattle.tag_base.specs.declared.group.GroupText.{GroupText}
use Rattle.tag_base.specs.declared.input.Input.{Input}
use Rattle.tag_base.specs.declared.refusal.TextNo.{TextNo}
use Rattle.tag_base.specs.declared.refusal.TextNo.TheVariants.{BadText, WantOfMemory}
use Rattle.tag_base.specs.Answers.{broken, where_held, limited, where_given, Follows}
use Rattle.tag_base.specs.Tables.{name_at, number_at, tables_at}
use Rattle.tag_base.specs.Tags.{tag_place}

-- the most inputs, and the most calculations, of a group; the longest period in milliseconds
abbrev pub most_inputs : ℕ
most_inputs = 64

abbrev pub most_calcs : ℕ
most_calcs = 64

abbrev pub longest_period : ℕ
longest_period = 1000000000000

-- ---- the text of a group

-- a calculation: its name, and the text of its formula
pub record CalcForm : Type 0 where
  pub name : List ℕ
  pub formula : List ℕ

abbrev pub formula_text_of : CalcText → CalcForm
formula_text_of text = record { name = text.name; formula = string_bytes text.formula }

-- a group whose formulas are not parsed yet
pub record GroupForm : Type 0 where
  pub name : List ℕ
  pub inputs : List Input
  pub start : ℕ
  pub period : ℕ
  pub calcs : List CalcForm

abbrev pub formula_form_of : GroupText → GroupForm
formula_form_of g =
    record {
      name = g.name;
      inputs = g.inputs.items;
      start = g.start;
      period = g.period;
      calcs = map formula_text_of g.calcs.items;
    }

-- the place of the first group with this name
abbrev pub group_place : List GroupDef → List ℕ → Option ℕ
group_place groups name = position (λ g. bytes_eq g.name name) groups

-- the name of a table, if it is one and no earlier group has it
abbrev pub new_group_name : List GroupDef → Members → Option (List ℕ)
new_group_name earlier ms =
    option_and_then (λ name. if is_none (group_place earlier name) then Some name else None)
    (name_at (codes "name") ms)

-- whether the tag at a place is one of these inputs
abbrev pub is_input : List Input → ℕ → Bool
is_input inputs place = list_any (λ i. nat_eq i.place place) inputs

-- the tag at a place as an input, unless it is a step tag or an input already
abbrev pub new_input : List TagDef → List Input → ℕ → Option Input
new_input tags earlier place =
    option_and_then (λ tag. if tag.step || is_input earlier place then None else Some (record { place = place; name = tag.name }))
    (slice_get tags place)

-- the input that a text names
abbrev pub named_input : List TagDef → List Input → List ℕ → Option Input
named_input tags earlier name = option_and_then (new_input tags earlier) (tag_place tags name)

-- the inputs that the table of a group names
abbrev pub inputs_at : List TagDef → Members → Option (List Input)
inputs_at tags ms = places_at (named_input tags) most_inputs (codes "tags") ms

-- the calculation of a table with a name and a formula, if no earlier one has the name
abbrev pub calc_text : List CalcForm → Members → Option CalcForm
calc_text earlier ms =
    if has_keys (codes "name" ∷ codes "formula" ∷ []) [] ms
    then option_and_then (λ name. option_and_then (λ formula.
    if list_any (λ c. bytes_eq c.name name) earlier then None else Some (record { name = name; formula = formula }))
    (string_at (codes "formula") ms)) (name_at (codes "name") ms)
    else None

-- the calculations of tables, in order, after some calculations
abbrev pub calcs_after : List CalcForm → List Members → Option (List CalcForm)
calcs_after earlier [] = Some earlier
calcs_after earlier (ms ∷ mss) =
    option_and_then (λ calc. calcs_after (earlier ++ calc ∷ []) mss) (calc_text earlier ms)

-- one calculation or more
abbrev pub calcs_of : List Members → Option (List CalcForm)
calcs_of [] = None
calcs_of (ms ∷ mss) = calcs_after [] (ms ∷ mss)

abbrev pub calcs_at : Members → Option (List CalcForm)
calcs_at ms = option_and_then calcs_of (tables_at (codes "calc") ms)

abbrev pub group_keys : List (List ℕ)
group_keys = codes "name" ∷ codes "tags" ∷ codes "start" ∷ codes "period" ∷ codes "calc" ∷ []

-- The group of a table after some groups, with its formulas as texts. Its rules, in their order: 6 for its keys, 7 for
-- its name, 8 for its inputs, 9 for its start and period, 10 for its calculations. Then the limit of calculations is
-- checked.
abbrev pub group_text : List TagDef → List GroupDef → Members → Result GroupForm TextNo
group_text tags earlier ms =
    where_held (has_keys group_keys [] ms) (broken 6 (length earlier))
    (where_given (new_group_name earlier ms) (broken 7 (length earlier)) (λ name.
    where_given (inputs_at tags ms) (broken 8 (length earlier)) (λ inputs.
    where_given (number_at (codes "start") 0 last_time ms) (broken 9 (length earlier)) (λ start.
    where_given (number_at (codes "period") 1 longest_period ms) (broken 9 (length earlier)) (λ period.
    where_given (calcs_at ms) (broken 10 (length earlier)) (λ calcs.
    limited Calcs most_calcs (length calcs)
    (Ok (record { name = name; inputs = inputs; start = start; period = period; calcs = calcs }))))))))

-- what holds for every such group over so many tags
pub record IsSoundText (tags : ℕ) (text : GroupText) : Type 0 where
  pub inputs_are_tags : All (λ i. i.place < tags) text.inputs.items
  pub some_inputs : 1 ≤ vec_len text.inputs
  pub few_inputs : vec_len text.inputs ≤ most_inputs
  pub some_calcs : 1 ≤ vec_len text.calcs
  pub few_calcs : vec_len text.calcs ≤ most_calcs
  pub start : text.start ≤ last_time
  pub some_period : 1 ≤ text.period
  pub short_period : text.period ≤ longest_period

-- ---- its calculations

-- the calculations have the names of the texts, and the trees that their formulas parse to
abbrev pub Define : List CalcForm → List Calculation → Type 0
Define [] [] = ⊤
Define (text ∷ texts) (calc ∷ calcs) =
    (calc.name ≡ text.name) × IsFormula text.formula calc.tree × Define texts calcs
Define texts calcs = ⊥

-- the refusal of a text that is no formula, in the group at a place
abbrev pub told_of : ℕ → ParseNo → TextNo
told_of place (parse_no.Long count) = BadText 11 place most_bytes
told_of place (parse_no.Deep at) = BadText 11 place at
told_of place (parse_no.Syntax at kind) = BadText 11 place at
told_of place parse_no.WantOfMemory = WantOfMemory

-- the first of the texts that is no formula is refused, with this reason
pub record IsFirstRefused (place : ℕ) (texts : List CalcForm) (why : TextNo) : Type 0 where
  pub front : List CalcForm
  pub text : CalcForm
  pub rest : List CalcForm
  pub cut : texts ≡ front ++ text ∷ rest
  pub calcs : List Calculation
  pub good : Define front calcs
  pub reason : ParseNo
  pub cause : HasFormulaCause text.formula reason
  pub told : why ≡ told_of place reason

-- the texts are formulas, but a name in one of them stands for nothing: it is not the input, or not the earlier
-- calculation, that it has to be
pub record IsFaulty (inputs : List (List ℕ)) (texts : List CalcForm) : Type 0 where
  pub calcs : List Calculation
  pub defined : Define texts calcs
  pub fault : fault_of (record { inputs = inputs; calcs = calcs }) ≢ None

-- the calculations of texts, in which each name is the input or the earlier calculation that it has to be
pub record AreCalcs (inputs : List (List ℕ)) (texts : List CalcForm) (g : Group) : Type 0 where
  pub inputs_are : g.inputs ≡ inputs
  pub defined : Define texts g.calcs
  pub known : fault_of g ≡ None

-- the answer to the calculations of the group at a place: rule 11 asks for formulas, and rule 12 for known names
abbrev pub CalcsRead : ℕ → List (List ℕ) → List CalcForm → Result Group TextNo → Type 0
CalcsRead place inputs texts (Ok g) = AreCalcs inputs texts g
CalcsRead place inputs texts (Err why) =
    IsFirstRefused place texts why ⊎ ((why ≡ BadText 12 place 0) × IsFaulty inputs texts)

-- ---- groups

-- the group of a text with these calculations
pub record IsGroupOf (text : GroupForm) (calcs : Group) (g : GroupDef) : Type 0 where
  pub name : g.name ≡ text.name
  pub inputs : g.inputs.items ≡ map (λ i. i.place) text.inputs
  pub start : g.start ≡ text.start
  pub period : g.period ≡ text.period
  pub calcs_are : g.calcs ≡ calcs

abbrev pub IsGroupAnswer : GroupForm → Group → Result GroupDef TextNo → Type 0
IsGroupAnswer text calcs (Ok g) = IsGroupOf text calcs g
IsGroupAnswer text calcs (Err why) = ⊥

-- What holds for every group that is read, over so many tags:
-- - It has 1 to 64 inputs. Each is a tag, and the calculations have a name for each.
-- - It has 1 to 64 calculations.
-- - Its start is a time.
-- - Its period is from 1 to the longest, in milliseconds.
pub record IsSoundGroup (tags : ℕ) (g : GroupDef) : Type 0 where
  pub inputs_are_tags : All (λ i. i < tags) g.inputs.items
  pub some_inputs : 1 ≤ length g.inputs.items
  pub few_inputs : length g.inputs.items ≤ most_inputs
  pub as_many_names : length g.calcs.inputs ≡ length g.inputs.items
  pub some_calcs : 1 ≤ length g.calcs.calcs
  pub few_calcs : length g.calcs.calcs ≤ most_calcs
  pub start : g.start ≤ last_time
  pub some_period : 1 ≤ g.period
  pub short_period : g.period ≤ longest_period

-- the answer to the text of a group, after so many groups
abbrev pub TextRead : ℕ → GroupForm → Result GroupDef TextNo → Type 0
TextRead place text answer = (calcs : Result Group TextNo)
    × CalcsRead place (map (λ i. i.name) text.inputs) text.calcs calcs
    × Follows calcs (IsGroupAnswer text) answer

-- the answer to the table of a group, after some groups
abbrev pub GroupRead : List TagDef → List GroupDef → Members → Result GroupDef TextNo → Type 0
GroupRead tags earlier ms answer = Follows (group_text tags earlier ms) (TextRead (length earlier)) answer

-- the answer to the tables of groups, in order, after some groups
abbrev pub GroupsRead : List TagDef → List GroupDef → List Members → Result (List GroupDef) TextNo → Type 0
GroupsRead tags earlier [] answer = answer ≡ Ok earlier
GroupsRead tags earlier (ms ∷ mss) answer = (first : Result GroupDef TextNo)
    × GroupRead tags earlier ms first × Follows first (λ g. GroupsRead tags (earlier ++ g ∷ []) mss) answer
