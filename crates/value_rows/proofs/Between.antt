-- A read of a record ends between two records, and shortens the text.
use Rattle.std.proofs.Common.{◌≡◌, ℕ, ◌<◌, ◌≤◌, ◌==◌, ◌||◌, Bool, true, false, cond, List, [], ◌∷◌, ◌++◌, Some, None, length, refl, arith, subst}
use Rattle.csv.specs.Machine.{Read, step, is_end, ends_at_end, fields_after, field_after, next_record}
use Rattle.csv.specs.Reading.{default_config}
use Rattle.csv.specs.declared.parser.Action.{Action}
use Rattle.csv.specs.declared.parser.Action.TheVariants as act
use Rattle.csv.specs.declared.parser.State.{State}
use Rattle.csv.specs.declared.parser.State.TheVariants as st
use Rattle.value_rows.specs.{is_between}

-- where it ends a record, what a byte does leads between two records
abbrev pub EndsBetween : State × Action → Type 0
EndsBetween next = is_end next.1 ≡ true → is_between next.0 ≡ true

-- so does a choice of two such
either : (b : Bool) (x y : State × Action) → EndsBetween x → EndsBetween y → EndsBetween (cond b x y)
either true x y first second = first
either false x y first second = second

-- what ends no record
passes : (s : State) (a : Action) → is_end a ≡ false → EndsBetween (s, a)
passes s a goes_on ends = absurd (cc)

-- the end of a record
ended : (c : ℕ) → EndsBetween (cond (c == 13) st.AfterCr st.StartRecord, act.EndRecord)
ended c ends = elim (c == 13) as (λ b. is_between (cond b st.AfterCr st.StartRecord) ≡ true) [ true ↦ refl | false ↦ refl ]

-- a byte in a field, or after a quoted one
in_a_field : (c : ℕ) → EndsBetween (step default_config st.InField c)
in_a_field c = grind (arith, either, passes, ended)

-- at the start of a field
at_field : (c : ℕ) → EndsBetween (step default_config st.StartField c)
at_field c = either (c == 34) _ _ (passes st.InQuoted act.Skip refl) (in_a_field c)

-- at the start of a record
at_record : (c : ℕ) → EndsBetween (step default_config st.StartRecord c)
at_record c = either ((c == 13) || (c == 10)) _ _ (passes st.StartRecord act.Skip refl) (at_field c)

-- in any state
pub step_ends : (s : State) (c : ℕ) → EndsBetween (step default_config s c)
step_ends st.StartRecord c = at_record c
step_ends st.StartField c = at_field c
step_ends st.InField c = in_a_field c
step_ends st.InQuoted c = either (c == 34) _ _ (passes st.AfterQuote act.Skip refl) (passes st.InQuoted act.Copy refl)
step_ends st.InEscape c = passes st.InQuoted act.Copy refl
step_ends st.AfterQuote c = either (c == 34) _ _ (passes st.InQuoted act.Copy refl) (in_a_field c)
step_ends st.InComment c = either (c == 10) _ _ (passes st.StartRecord act.Skip refl) (passes st.InComment act.Skip refl)
step_ends st.AfterCr c = either (c == 10) _ _ (passes st.StartRecord act.Skip refl) (at_record c)

-- a record was read of these bytes: the reader is between two records, and what is left is shorter, if there was a byte
pub record EndsRead (xs : List ℕ) (p : Read) : Type 0 where
  pub between : is_between p.1 ≡ true
  pub within : length p.2 ≤ length xs
  pub shorter : 0 < length xs → length p.2 < length xs

-- one byte more before it
longer : (c : ℕ) (xs : List ℕ) (p : Read) → EndsRead xs p → EndsRead (c ∷ xs) p
longer c xs p ends = record { between = ends.between; within = omega (arith, ends.within); shorter = λ _. omega (arith, ends.within) }

-- one read was of one record
held : {q r : Read} → Some q ≡ Some r → q ≡ r
held e = cc

-- a read of a record ends so, whatever it has read before
pub read_ends : (s : State) (fields : List (List ℕ)) (field xs : List ℕ) (p : Read) → next_record default_config s fields field xs ≡ Some p
    → EndsRead xs p
unfolding next_record
read_ends s fields field [] p found =
    elim (ends_at_end s) as (λ b. cond b (Some (fields ++ (field ∷ []), st.StartRecord, [])) None ≡ Some p → EndsRead [] p) [
      | true ↦ λ e. subst (EndsRead []) (held e) (record { between = refl; within = omega arith; shorter = λ h. absurd (omega arith) })
      | false ↦ λ e. absurd (cc)
    ] found
read_ends s fields field (c ∷ rest) p found =
    let act = (step default_config s c).1 in
    let next = (step default_config s c).0 in
    elim (is_end act) as (λ b. is_end act ≡ b → cond b (Some (fields_after act fields field, next, rest))
    (next_record default_config next (fields_after act fields field) (field_after act c field) rest) ≡ Some p → EndsRead (c ∷ rest) p) [
      | true ↦ λ ends e. subst (EndsRead (c ∷ rest)) (held e)
          (record { between = step_ends s c ends; within = omega arith; shorter = λ _. omega arith })
      | false ↦ λ _ e. longer c rest p (read_ends next (fields_after act fields field) (field_after act c field) rest p e)
    ] refl found
