-- The tree of a formula, wherever its parts lie in memory.
use Rattle.std.specs.Prelude.{ℕ, ℤ, List}
use Rattle.trend_num.specs.{Measure}
use Rattle.calc_parser.specs.declared.tree.Op.{Op}
use Rattle.calc_parser.specs.declared.tree.Cmp.{Cmp}
use Rattle.calc_parser.specs.declared.tree.Expr.{Expr}
use Rattle.calc_parser.specs.declared.tree.Expr.TheVariants.{Num, Window, Calc, Neg', Abs', Two', Compare', If'}

-- a number, a measure of a tag in the window, an earlier calculation, or an operation on formulas
pub data Tree : Type 0 where
  num : ℤ → Tree
  window : Measure → List ℕ → Tree
  calc : List ℕ → Tree
  neg : Tree → Tree
  abs : Tree → Tree
  two : Op → Tree → Tree → Tree
  compare : Cmp → Tree → Tree → Tree
  choose : Tree → Tree → Tree → Tree

-- the tree that a value holds
abbrev pub tree_of : Expr → Tree
tree_of (Num n) = num n
tree_of (Window m tag) = window m tag
tree_of (Calc name) = calc name
tree_of (Neg' p a) = neg (tree_of a)
tree_of (Abs' p a) = abs (tree_of a)
tree_of (Two' op p a q b) = two op (tree_of a) (tree_of b)
tree_of (Compare' cmp p a q b) = compare cmp (tree_of a) (tree_of b)
tree_of (If' p c q a r b) = choose (tree_of c) (tree_of a) (tree_of b)
