-- Values are in the range.
use Rattle.std.proofs.Common.{◌≡◌, ℕ, zero, suc, ◌≤◌, ℤ, pos, ◌+ℤ◌, ◌-ℤ◌, ◌*ℤ◌, Bool, true, false, cond, List, [], ◌∷◌, ◌++◌, Option, None, Some, nat_le, refl, subst, lit≤, arith}
use Rattle.std.specs.Prelude.{neg_ℤ, fold, position, slice_get, unwrap_or, option_and_then, unsigned_abs, All, IfSome}
use Rattle.std.specs.Ordering.{int_eq}
use Rattle.std.specs.Str.{bytes_eq}
use Rattle.std.proofs.lemmas.Bool.{leb-true}
use Rattle.std.proofs.lemmas.List.Elements.{All-append}
use Rattle.std.proofs.lemmas.Option.{slice_get_within, get_or_from_slice_get}
use Rattle.trend_num.specs.{Point, CalcValue}
use Rattle.trend_model.specs.{window_value, lesser, greater}
use Rattle.calc_parser.specs.{Op, Cmp, largest_number}
use Rattle.calc_parser.specs.declared.tree.Op.TheVariants.{Add, Sub, Mul, Div, Rem, Min, Max}
use Rattle.calc_parser.specs.Tree.{Tree, num, window, calc, neg, abs, two, compare, choose}
use Rattle.trend_num.specs.declared.value.Bad.TheVariants.{NoData, DivZero, Range}
use Rattle.trend_num.specs.declared.value.CalcValue.TheVariants.{Num, Bad}
use Rattle.sheet_law.specs.{bounded, IsInRange, measured_value, after_operation, floor_div, floor_rem, operated, holds, compared, Scope, value, at_name, scope, values}
use Rattle.calc_check.specs.Group.{Group, Calculation, names_of}

-- either of two values that are in the range
either : (b : Bool) (v w : CalcValue) → IsInRange v → IsInRange w → IsInRange (cond b v w)
either true v w p q = p
either false v w p q = q

-- a number that was tested
pub bounded_range : (n : ℤ) → IsInRange (bounded n)
bounded_range n = by_test (nat_le (unsigned_abs n) largest_number) (leb-true (unsigned_abs n) largest_number)
  where
    by_test : (b : Bool) → (b ≡ true → unsigned_abs n ≤ largest_number)
        → IsInRange (cond b (Num n) (Bad Range))
    by_test true small = small refl
    by_test false small = tt

-- what an operation makes of any operand
after_range : (v : CalcValue) (f : ℤ → CalcValue) → ((n : ℤ) → IsInRange (f n)) → IsInRange (after_operation v f)
after_range (Num n) f each = each n
after_range (Bad why) f each = tt

measured_range : (m : Option ℤ) → IsInRange (measured_value m)
measured_range None = tt
measured_range (Some n) = bounded_range n

operated_range : (op : Op) (a b : ℤ) → IsInRange (operated op a b)
operated_range Add a b = bounded_range (a +ℤ b)
operated_range Sub a b = bounded_range (a -ℤ b)
operated_range Mul a b = bounded_range (a *ℤ b)
operated_range Div a b =
    either (int_eq b (pos 0)) (Bad DivZero) (bounded (floor_div a b)) tt (bounded_range (floor_div a b))
operated_range Rem a b =
    either (int_eq b (pos 0)) (Bad DivZero) (bounded (floor_rem a b)) tt (bounded_range (floor_rem a b))
operated_range Min a b = bounded_range (lesser a b)
operated_range Max a b = bounded_range (greater a b)

compared_range : (cmp : Cmp) (a b : ℤ) → IsInRange (compared cmp a b)
compared_range cmp a b = either (holds cmp a b) (Num (pos 1)) (Num (pos 0)) (lit≤ tt) (lit≤ tt)

earlier_range : (o : Option CalcValue) → IfSome o IsInRange → IsInRange (unwrap_or o (Bad NoData))
earlier_range None some = tt
earlier_range (Some v) some = some

-- the value of a tree, where the earlier values are in the range
value_range : (s : Scope) (from to : ℕ) → ((name : List ℕ) → IfSome (s.earlier name) IsInRange)
    → (t : Tree) → IsInRange (value s from to t)
value_range s from to earlier (num n) = bounded_range n
value_range s from to earlier (window m name) =
    measured_range (option_and_then (λ ps. window_value false m ps from to) (s.points name))
value_range s from to earlier (calc name) = earlier_range (s.earlier name) (earlier name)
value_range s from to earlier (neg a) = after_range (value s from to a) (λ n. bounded (neg_ℤ n)) (λ n. bounded_range (neg_ℤ n))
value_range s from to earlier (abs a) =
    after_range (value s from to a) (λ n. bounded (pos (unsigned_abs n))) (λ n. bounded_range (pos (unsigned_abs n)))
value_range s from to earlier (two op a b) =
    after_range (value s from to a) (λ m. after_operation (value s from to b) (operated op m))
    (λ m. after_range (value s from to b) (operated op m) (operated_range op m))
value_range s from to earlier (compare cmp a b) =
    after_range (value s from to a) (λ m. after_operation (value s from to b) (compared cmp m))
    (λ m. after_range (value s from to b) (compared cmp m) (compared_range cmp m))
value_range s from to earlier (choose c a b) =
    after_range (value s from to c) (λ n. cond (int_eq n (pos 0)) (value s from to b) (value s from to a))
    (λ n. either (int_eq n (pos 0)) (value s from to b) (value s from to a)
    (value_range s from to earlier b) (value_range s from to earlier a))

-- an element of a list whose elements are in the range
element_range : (vs : List CalcValue) → All IsInRange vs → (o : Option CalcValue) (i : ℕ) → slice_get vs i ≡ o
    → IfSome o IsInRange
element_range vs all None i there = tt
element_range vs all (Some v) i there =
    subst IsInRange (get_or_from_slice_get vs i v v there) (all i v (slice_get_within vs i v there))

-- what is at a name
named_range : (names : List (List ℕ)) (vs : List CalcValue) → All IsInRange vs → (name : List ℕ)
    → IfSome (at_name names vs name) IsInRange
named_range names vs all name = at_place (position (bytes_eq name) names)
  where
    at_place : (o : Option ℕ) → IfSome (option_and_then (slice_get vs) o) IsInRange
    at_place None = tt
    at_place (Some i) = element_range vs all (slice_get vs i) i refl

-- a list of one element
one_range : (v : CalcValue) → IsInRange v → All IsInRange (v ∷ [])
one_range v in_range = all
  where
    all : All IsInRange (v ∷ [])
    all zero d within = in_range
    all (suc k) d within = absurd (omega arith)

-- all values of a group are in the range
pub values_range : (g : Group) (points : List (List Point)) (from to : ℕ)
    → All IsInRange (values g points from to)
values_range g points from to = go [] g.calcs (λ k d within. absurd (omega arith))
  where
    go : (vs : List CalcValue) (cs : List Calculation) → All IsInRange vs
        → All IsInRange (fold (λ l c. l ++ value (scope g points l) from to c.tree ∷ []) vs cs)
    go vs [] all = all
    go vs (c ∷ cs) all =
        let v = value (scope g points vs) from to c.tree in
        go (vs ++ v ∷ []) cs (All-append IsInRange vs (v ∷ []) all
        (one_range v (value_range (scope g points vs) from to (named_range (names_of g.calcs) vs all) c.tree)))
