-- One window decides a group's values, and printing keeps them.
use Rattle.std.proofs.Common.{arith, ◌≡◌, ℕ, pos, false, cond, List, refl, ap, ◌∙◌}
use Rattle.std.specs.Prelude.{neg_ℤ, unwrap_or, option_and_then, unsigned_abs}
use Rattle.std.specs.Ordering.{int_eq}
use Rattle.trend_num.specs.{Measure, Point}
use Rattle.trend_model.specs.{window_value}
use Rattle.calc_parser.specs.{text_of, IsFormula, IsTree}
use Rattle.calc_parser.specs.Tree.{Tree, num, window, calc, neg, abs, two, compare, choose}
use Rattle.calc_parser.proofs.Builds.{one_tree}
use Rattle.calc_parser.proofs.RoundTrip.{round_trip}
use Rattle.trend_num.specs.declared.value.Bad.TheVariants.{NoData}
use Rattle.trend_num.specs.declared.value.CalcValue.TheVariants.{Bad}
use Rattle.sheet_law.specs.{bounded, measured_value, after_operation, operated, compared, Scope, measure_of, value, values}
use Rattle.calc_check.specs.Group.{Group}

-- two scopes in which each input measures the same, with the same earlier values
record AgreesIn (s u : Scope) (from to : ℕ) : Type 0 where
  measures : (m : Measure) (name : List ℕ)
      → option_and_then (λ ps. window_value false m ps from to) (s.points name)
      ≡ option_and_then (λ ps. window_value false m ps from to) (u.points name)
  values : (name : List ℕ) → s.earlier name ≡ u.earlier name

-- a tree has one value in both
value_agrees : (s u : Scope) (from to : ℕ) → AgreesIn s u from to → (t : Tree)
    → value s from to t ≡ value u from to t
value_agrees s u from to agrees (num n) = refl
value_agrees s u from to agrees (window m name) = ap measured_value (agrees.measures m name)
value_agrees s u from to agrees (calc name) = ap (λ o. unwrap_or o (Bad NoData)) (agrees.values name)
value_agrees s u from to agrees (neg a) = ap (λ v. after_operation v (λ n. bounded (neg_ℤ n))) (value_agrees s u from to agrees a)
value_agrees s u from to agrees (abs a) =
    ap (λ v. after_operation v (λ n. bounded (pos (unsigned_abs n)))) (value_agrees s u from to agrees a)
value_agrees s u from to agrees (two op a b) =
    ap (λ v. after_operation v (λ m. after_operation (value s from to b) (operated op m))) (value_agrees s u from to agrees a)
    ∙ ap (λ w. after_operation (value u from to a) (λ m. after_operation w (operated op m))) (value_agrees s u from to agrees b)
value_agrees s u from to agrees (compare cmp a b) =
    ap (λ v. after_operation v (λ m. after_operation (value s from to b) (compared cmp m))) (value_agrees s u from to agrees a)
    ∙ ap (λ w. after_operation (value u from to a) (λ m. after_operation w (compared cmp m))) (value_agrees s u from to agrees b)
value_agrees s u from to agrees (choose c a b) =
    ap (λ v. after_operation v (λ n. cond (int_eq n (pos 0)) (value s from to b) (value s from to a))) (value_agrees s u from to agrees c)
    ∙ ap (λ w. after_operation (value u from to c) (λ n. cond (int_eq n (pos 0)) w (value s from to a))) (value_agrees s u from to agrees b)
    ∙ ap (λ w. after_operation (value u from to c) (λ n. cond (int_eq n (pos 0)) (value u from to b) w)) (value_agrees s u from to agrees a)

-- so a group's values are the same in both
pub window_decides : (g : Group) (points others : List (List Point)) (from to : ℕ)
    → ((m : Measure) (name : List ℕ) → measure_of g points from to m name ≡ measure_of g others from to m name)
    → values g points from to ≡ values g others from to
window_decides g points others from to measures = grind (arith, value_agrees)

-- the tree of a formula's canonical text is its own
pub printed_value : (text : List ℕ) (t u : Tree) (s : Scope) (from to : ℕ) → IsFormula text t → IsTree (text_of t) u
    → value s from to u ≡ value s from to t
printed_value text t u s from to is read =
    let again = round_trip text t is in
    let tree : IsTree (text_of t) t =
    record { reading = again.reading; spelled = again.spelled; tree_is = again.tree_is } in
    ap (value s from to) (one_tree (text_of t) u t read tree)
