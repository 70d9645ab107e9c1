-- The grammar of formulas: each derivation, the tokens that it derives, and its tree.
use Rattle.std.specs.Prelude.{ℕ, ◌+◌, ℤ, List, [], ◌∷◌, ◌++◌}
use Rattle.trend_num.specs.{Measure}
use Rattle.calc_parser.specs.declared.tree.Cmp.{Cmp}
use Rattle.calc_parser.specs.declared.tree.Op.{Op}
use Rattle.calc_parser.specs.declared.tree.Op.TheVariants as op
use Rattle.calc_parser.specs.declared.token.Sum.{Sum}
use Rattle.calc_parser.specs.declared.token.Sum.TheVariants.{Plus, Minus}
use Rattle.calc_parser.specs.declared.token.Product.{Product}
use Rattle.calc_parser.specs.declared.token.Product.TheVariants.{Times, Over, Modulo}
use Rattle.calc_parser.specs.declared.token.Pick.{Pick}
use Rattle.calc_parser.specs.declared.token.Pick.TheVariants.{Least, Greatest}
use Rattle.calc_parser.specs.declared.token.Token.{Token}
use Rattle.calc_parser.specs.declared.token.Token.TheVariants.{Number, Quoted, Measuring, Calculation, Absolute, Picking, Choice, Open, Close, Comma, Summing, Multiplying, Comparing}
use Rattle.calc_parser.specs.Tree.{Tree, num, window, calc, neg, abs, two, compare, choose}

-- how tightly the parts of a formula hold together, the loosest first
pub data Level : Type 0 where
  formula : Level
  sums : Level
  terms : Level
  factor : Level

-- a derivation at a level. Sums and terms group to the left, and a formula has at most one comparison outside its
-- brackets
pub data Reading : Level → Type 0 where
  plain : Reading sums → Reading formula
  compared : Reading sums → Cmp → Reading sums → Reading formula
  one_term : Reading terms → Reading sums
  more_terms : Reading sums → Sum → Reading terms → Reading sums
  one_factor : Reading factor → Reading terms
  more_factors : Reading terms → Product → Reading factor → Reading terms
  negated : Reading factor → Reading factor
  numeral : ℤ → Reading factor
  grouped : Reading formula → Reading factor
  measured : Measure → List ℕ → Reading factor
  calculated : List ℕ → Reading factor
  absolute : Reading formula → Reading factor
  picked : Pick → Reading formula → Reading formula → Reading factor
  chosen : Reading formula → Reading formula → Reading formula → Reading factor

-- the tokens that a derivation derives
abbrev pub words : {level : Level} → Reading level → List Token
words (plain s) = words s
words (compared a cmp b) = words a ++ Comparing cmp ∷ words b
words (one_term t) = words t
words (more_terms s sign t) = words s ++ Summing sign ∷ words t
words (one_factor f) = words f
words (more_factors t sign f) = words t ++ Multiplying sign ∷ words f
words (negated f) = Summing Minus ∷ words f
words (numeral n) = Number n ∷ []
words (grouped a) = Open ∷ words a ++ Close ∷ []
words (measured m tag) = Measuring m ∷ Open ∷ Quoted tag ∷ Close ∷ []
words (calculated name) = Calculation ∷ Open ∷ Quoted name ∷ Close ∷ []
words (absolute a) = Absolute ∷ Open ∷ words a ++ Close ∷ []
words (picked pick a b) = Picking pick ∷ Open ∷ words a ++ Comma ∷ (words b ++ Close ∷ [])
words (chosen c a b) = Choice ∷ Open ∷ words c ++ Comma ∷ (words a ++ Comma ∷ (words b ++ Close ∷ []))

abbrev pub sum_op : Sum → Op
sum_op Plus = op.Add
sum_op Minus = op.Sub

abbrev pub product_op : Product → Op
product_op Times = op.Mul
product_op Over = op.Div
product_op Modulo = op.Rem

abbrev pub pick_op : Pick → Op
pick_op Least = op.Min
pick_op Greatest = op.Max

-- the tree of a derivation, in which brackets leave no mark
abbrev pub tree : {level : Level} → Reading level → Tree
tree (plain s) = tree s
tree (compared a cmp b) = compare cmp (tree a) (tree b)
tree (one_term t) = tree t
tree (more_terms s sign t) = two (sum_op sign) (tree s) (tree t)
tree (one_factor f) = tree f
tree (more_factors t sign f) = two (product_op sign) (tree t) (tree f)
tree (negated f) = neg (tree f)
tree (numeral n) = num n
tree (grouped a) = tree a
tree (measured m tag) = window m tag
tree (calculated name) = calc name
tree (absolute a) = abs (tree a)
tree (picked pick a b) = two (pick_op pick) (tree a) (tree b)
tree (chosen c a b) = choose (tree c) (tree a) (tree b)

-- for each token of a derivation, the nesting level that the token opens, or 0 if it opens none. A bracket opens a
-- level until it is closed. A sign before an operand opens one until the operand is complete. `n` levels are open
-- before
abbrev pub opens : {level : Level} → ℕ → Reading level → List ℕ
opens n (plain s) = opens n s
opens n (compared a cmp b) = opens n a ++ 0 ∷ opens n b
opens n (one_term t) = opens n t
opens n (more_terms s sign t) = opens n s ++ 0 ∷ opens n t
opens n (one_factor f) = opens n f
opens n (more_factors t sign f) = opens n t ++ 0 ∷ opens n f
opens n (negated f) = (n + 1) ∷ opens (n + 1) f
opens n (numeral m) = 0 ∷ []
opens n (grouped a) = (n + 1) ∷ opens (n + 1) a ++ 0 ∷ []
opens n (measured m tag) = 0 ∷ (n + 1) ∷ 0 ∷ 0 ∷ []
opens n (calculated name) = 0 ∷ (n + 1) ∷ 0 ∷ 0 ∷ []
opens n (absolute a) = 0 ∷ (n + 1) ∷ opens (n + 1) a ++ 0 ∷ []
opens n (picked pick a b) = 0 ∷ (n + 1) ∷ opens (n + 1) a ++ 0 ∷ (opens (n + 1) b ++ 0 ∷ [])
opens n (chosen c a b) = 0 ∷ (n + 1) ∷ opens (n + 1) c ++ 0 ∷ (opens (n + 1) a ++ 0 ∷ (opens (n + 1) b ++ 0 ∷ []))
