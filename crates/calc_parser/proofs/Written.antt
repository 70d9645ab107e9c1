-- Which tokens and trees can be written: those that a text has.
use Rattle.std.proofs.Common.{arith, ◌≡◌, ℕ, ◌≤◌, Bool, true, false, cond, nat_lt, pos, List, [], ◌∷◌, ◌++◌}
use Rattle.trend_num.specs.declared.measure.Measure.TheVariants.{Area}
use Rattle.calc_parser.specs.{Op, Token, binds, is_call, op_token, fit, joined, canonical, Level, Reading, plain, compared, one_term, more_terms, one_factor, more_factors, negated, numeral, grouped, measured, calculated, absolute, picked}
use Rattle.calc_parser.specs.{chosen, words, tree, is_name, largest_number}
use Rattle.calc_parser.specs.declared.tree.Op.TheVariants.{Add, Sub, Mul, Div, Rem, Min, Max}
use Rattle.calc_parser.specs.declared.token.Token.TheVariants.{Number, Quoted, Measuring, Close, Comma, Ill, End}
use Rattle.calc_parser.specs.Tree.{Tree, num, window, calc, neg, abs, two, compare, choose}

-- numbers, names and measures are those of a text; `Others` says whether it may be no token
abbrev pub IsWritten : Type 0 → Token → Type 0
IsWritten Others (Number n) = (m : ℕ) × (n ≡ pos m) × (m ≤ largest_number)
IsWritten Others (Quoted bytes) = is_name bytes ≡ true
IsWritten Others (Measuring m) = m ≡ Area → ⊥
IsWritten Others (Ill why) = Others
IsWritten Others End = Others
IsWritten Others token = Unit {0}

-- each of some tokens can be written
abbrev pub AllWritten : Type 0 → List Token → Type 0
AllWritten Others [] = Unit {0}
AllWritten Others (t ∷ ts) = IsWritten Others t × AllWritten Others ts

-- two parts that can be written
AllWritten-append : (Others : Type 0) (xs ys : List Token) → AllWritten Others xs → AllWritten Others ys
    → AllWritten Others (xs ++ ys)
AllWritten-append Others [] ys a b = b
AllWritten-append Others (x ∷ xs) ys a b = (a.0, AllWritten-append Others xs ys a.1 b)

-- the left of two parts
AllWritten-left : (Others : Type 0) (xs ys : List Token) → AllWritten Others (xs ++ ys) → AllWritten Others xs
AllWritten-left Others [] ys a = tt
AllWritten-left Others (x ∷ xs) ys a = (a.0, AllWritten-left Others xs ys a.1)

-- the right of two parts
AllWritten-right : (Others : Type 0) (xs ys : List Token) → AllWritten Others (xs ++ ys)
    → AllWritten Others ys
AllWritten-right Others [] ys a = a
AllWritten-right Others (x ∷ xs) ys a = AllWritten-right Others xs ys a.1

-- the same of a tree
abbrev pub IsSound : Tree → Type 0
IsSound (num n) = (m : ℕ) × (n ≡ pos m) × (m ≤ largest_number)
IsSound (window m tag) = (m ≡ Area → ⊥) × (is_name tag ≡ true)
IsSound (calc name) = is_name name ≡ true
IsSound (neg a) = IsSound a
IsSound (abs a) = IsSound a
IsSound (two op a b) = IsSound a × IsSound b
IsSound (compare cmp a b) = IsSound a × IsSound b
IsSound (choose c a b) = IsSound c × IsSound a × IsSound b

-- a text's tree is sound
pub sound : {level : Level} (Others : Type 0) (d : Reading level) → AllWritten Others (words d)
    → IsSound (tree d)
sound Others (plain s) w = sound Others s w
sound Others (compared a cmp b) w = (
  sound Others a (AllWritten-left Others (words a) _ w),
  sound Others b (AllWritten-right Others (words a) _ w).1,
)
sound Others (one_term t) w = sound Others t w
sound Others (more_terms a sign b) w = (
  sound Others a (AllWritten-left Others (words a) _ w),
  sound Others b (AllWritten-right Others (words a) _ w).1,
)
sound Others (one_factor f) w = sound Others f w
sound Others (more_factors a sign b) w = (
  sound Others a (AllWritten-left Others (words a) _ w),
  sound Others b (AllWritten-right Others (words a) _ w).1,
)
sound Others (negated f) w = sound Others f w.1
sound Others (numeral n) w = w.0
sound Others (grouped a) w = sound Others a (AllWritten-left Others (words a) (Close ∷ []) w.1)
sound Others (measured m tag) w = (w.0, w.1.1.0)
sound Others (calculated name) w = w.1.1.0
sound Others (absolute a) w = sound Others a (AllWritten-left Others (words a) (Close ∷ []) w.1.1)
sound Others (picked pick a b) w = (
  sound Others a (AllWritten-left Others (words a) (Comma ∷ (words b ++ Close ∷ [])) w.1.1),
  sound Others b (AllWritten-left Others (words b) (Close ∷ [])
      (AllWritten-right Others (words a) (Comma ∷ (words b ++ Close ∷ [])) w.1.1).1),
)
sound Others (chosen c a b) w =
    let rest = (AllWritten-right Others (words c) (Comma ∷ (words a
    ++ Comma ∷ (words b ++ Close ∷ []))) w.1.1).1 in (
      sound Others c (AllWritten-left Others (words c) (Comma ∷ (words a
          ++ Comma ∷ (words b ++ Close ∷ []))) w.1.1),
      sound Others a (AllWritten-left Others (words a) (Comma ∷ (words b ++ Close ∷ [])) rest),
      sound Others b (AllWritten-left Others (words b) (Close ∷ [])
          (AllWritten-right Others (words a) (Comma ∷ (words b ++ Close ∷ [])) rest).1),
    )

-- a sound tree's canonical tokens can be written

-- whichever of two a test takes
chosen_written : (b : Bool) (xs ys : List Token) → AllWritten ⊥ xs → AllWritten ⊥ ys
    → AllWritten ⊥ (cond b xs ys)
chosen_written true xs ys a b = a
chosen_written false xs ys a b = b

-- a tree's tokens, in brackets or not
fit_written : (need : ℕ) (t : Tree) (ts : List Token) → AllWritten ⊥ ts → AllWritten ⊥ (fit need t ts)
fit_written need t ts w = chosen_written (nat_lt (binds t) need) _ ts (
  tt,
  AllWritten-append ⊥ ts (Close ∷ []) w (tt, tt),
) w

-- the token of an operation
op_written : (op : Op) → IsWritten ⊥ (op_token op)
op_written Add = tt
op_written Sub = tt
op_written Mul = tt
op_written Div = tt
op_written Rem = tt
op_written Min = tt
op_written Max = tt

-- an operation on two trees
joined_written : (op : Op) (a : Tree) (xs : List Token) (b : Tree) (ys : List Token) → AllWritten ⊥ xs
    → AllWritten ⊥ ys
    → AllWritten ⊥ (joined op a xs b ys)
joined_written op a xs b ys v w =
    chosen_written (is_call op) _ _ (
      op_written op,
      (
        tt,
        AllWritten-append ⊥ xs (Comma ∷ (ys
            ++ Close ∷ [])) v (tt, AllWritten-append ⊥ ys (Close ∷ []) w (tt, tt)),
      ),
    )
    (grind (arith, AllWritten-append, fit_written, op_written))

-- each sound tree's tokens
pub written : (t : Tree) → IsSound t → AllWritten ⊥ (canonical t)
written (num n) s = (s, tt)
written (window m tag) s = (s.0, (tt, (s.1, (tt, tt))))
written (calc name) s = (tt, (tt, (s, (tt, tt))))
written (neg a) s = (tt, fit_written 4 a (canonical a) (written a s))
written (abs a) s = (tt, (tt, AllWritten-append ⊥ (canonical a) (Close ∷ []) (written a s) (tt, tt)))
written (two op a b) s = joined_written op a (canonical a) b (canonical b) (written a s.0) (written b s.1)
written (compare cmp a b) s =
    AllWritten-append ⊥ (fit 2 a (canonical a)) _ (fit_written 2 a (canonical a) (written a s.0)) (
      tt,
      fit_written 2 b (canonical b) (written b s.1),
    )
written (choose c a b) s = (
  tt,
  (
    tt,
    AllWritten-append ⊥ (canonical c) _ (written c s.0) (
      tt,
      AllWritten-append ⊥ (canonical a) _ (written a s.1)
          (tt, AllWritten-append ⊥ (canonical b) (Close ∷ []) (written b s.2) (tt, tt)),
    ),
  ),
)
