-- The texts of a drill's calculations are formulas.
use Rattle.std.proofs.Common.{◌≡◌, ◌≤◌, ℕ, zero, suc, List, [], ◌∷◌, true, None, codes, refl, lit<, lit≤, ap₂, ◌∙◌, subst, sym, arith}
use Rattle.std.proofs.lemmas.List.Elements.{All-from_recursion}
use Rattle.trend_num.specs.declared.measure.Measure.TheVariants.{Avg, High, Low}
use Rattle.calc_parser.specs.declared.tree.Op.TheVariants as op
use Rattle.calc_parser.specs.{IsFormula, deepest, measured, more_terms, one_factor, one_term, plain}
use Rattle.calc_parser.specs.Tree.{Tree, tree_of, two, window}
use Rattle.std.proofs.lemmas.Fmt.{decimal_digit}
use Rattle.calc_check.specs.{CalcDef, CheckNo}
use Rattle.calc_check.specs.declared.refusal.CheckNo.TheVariants as check_no
use Rattle.calc_check.specs.Group.{Calculation, Group, IsToldOf, calculation, fault_of, group_of, is_among}
use Rattle.run_command.specs.{drill_names}

-- the trees of the mean and of the spread
abbrev pub mean_tree : Tree
mean_tree = window Avg (codes "D0")

abbrev pub spread_tree : Tree
spread_tree = two op.Sub (window High (codes "D0")) (window Low (codes "D0"))

pub mean_formula : IsFormula (codes "avg('D0')") mean_tree
mean_formula = record {
  reading = plain (one_term (one_factor (measured Avg (codes "D0"))));
  spelled = refl;
  tree_is = refl;
  shallow = All-from_recursion (λ level. level ≤ deepest) (0 ∷ 1 ∷ 0 ∷ 0 ∷ [])
      (lit≤ tt, (lit≤ tt, (lit≤ tt, (lit≤ tt, tt))));
  short = lit≤ tt;
}

pub spread_formula : IsFormula (codes "high('D0') - low('D0')") spread_tree
spread_formula = record {
  reading = plain (more_terms (one_term (one_factor (measured High (codes "D0")))) _ (one_factor (measured Low (codes "D0"))));
  spelled = refl;
  tree_is = refl;
  shallow = All-from_recursion (λ level. level ≤ deepest) (0 ∷ 1 ∷ 0 ∷ 0 ∷ 0 ∷ 0 ∷ 1 ∷ 0 ∷ 0 ∷ [])
      (lit≤ tt, (lit≤ tt, (lit≤ tt, (lit≤ tt, (lit≤ tt, (lit≤ tt, (lit≤ tt, (lit≤ tt, (lit≤ tt, tt)))))))));
  short = lit≤ tt;
}

-- the first tag is among so many
pub first_named : (tags : ℕ) → 1 ≤ tags → is_among (codes "D0") (drill_names tags) ≡ true
first_named zero some = absurd (omega arith)
first_named (suc n) some = rw (decimal_digit 0 (lit< tt))

-- definitions of these names and trees
pub two_calcs : (mean spread : CalcDef) → mean.name ≡ codes "mean" → tree_of mean.expr ≡ mean_tree
    → spread.name ≡ codes "spread" → tree_of spread.expr ≡ spread_tree
    → calculation mean ∷ calculation spread ∷ []
    ≡ record { name = codes "mean"; tree = mean_tree } ∷ record { name = codes "spread"; tree = spread_tree } ∷ []
two_calcs mean spread mean_name mean_is spread_name spread_is =
    let make : List ℕ → Tree → Calculation = λ n t. record { name = n; tree = t } in
    ap₂ (λ (a b : Calculation). a ∷ b ∷ []) (ap₂ make mean_name mean_is) (ap₂ make spread_name spread_is)

-- if each name stands for something, the one refusal is want of memory
told_alone : (g : Group) (why : CheckNo) → fault_of g ≡ None → IsToldOf (fault_of g) why → why ≡ check_no.WantOfMemory
told_alone g (check_no.UnknownName place name) none told = cc (none, told)
told_alone g (check_no.Forward place name) none told = cc (none, told)
told_alone g check_no.WantOfMemory none told = refl

-- over names with the first tag's, the one refusal of the definitions is want of memory
pub memory_alone : (names copied inputs : List (List ℕ)) (defs : List CalcDef) (why : CheckNo)
    → is_among (codes "D0") names ≡ true → inputs ≡ copied → copied ≡ names
    → ((ns : List (List ℕ)) → is_among (codes "D0") ns ≡ true → fault_of (group_of ns defs) ≡ None)
    → IsToldOf (fault_of (group_of inputs defs)) why → why ≡ check_no.WantOfMemory
memory_alone names copied inputs defs why named same copies stand told =
    told_alone (group_of inputs defs) why
    (stand inputs (subst (λ ns. is_among (codes "D0") ns ≡ true) (sym (same ∙ copies)) named)) told

-- over names with the first tag's, the two calculations have no fault
pub no_fault : (names : List (List ℕ)) (calcs : List Calculation) → is_among (codes "D0") names ≡ true
    → calcs ≡ record { name = codes "mean"; tree = mean_tree } ∷ record { name = codes "spread"; tree = spread_tree } ∷ []
    → fault_of (record { inputs = names; calcs = calcs }) ≡ None
no_fault names calcs known are = rw (are, known)
