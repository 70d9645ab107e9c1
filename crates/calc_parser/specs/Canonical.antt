-- The canonical text of a tree: no spaces, and brackets only where the reading needs them.
use Rattle.std.specs.Prelude.{ℕ, ◌+◌, Bool, true, false, nat_lt, List, [], ◌∷◌, ◌++◌, codes, if◌then◌else◌}
use Rattle.std.specs.Fmt.{signed_decimal}
use Rattle.std.specs.List.{flat_map}
use Rattle.trend_num.specs.{Measure}
use Rattle.trend_num.specs.declared.measure.Measure.TheVariants.{Area, Avg, Total, Low, High, Count, First, Last}
use Rattle.calc_parser.specs.declared.tree.Cmp.{Cmp}
use Rattle.calc_parser.specs.declared.tree.Cmp.TheVariants.{Le, Ge, Ne, Lt, Gt, Eq}
use Rattle.calc_parser.specs.declared.tree.Op.{Op}
use Rattle.calc_parser.specs.declared.tree.Op.TheVariants.{Add, Sub, Mul, Div, Rem, Min, Max}
use Rattle.calc_parser.specs.declared.token.Sum.TheVariants.{Plus, Minus}
use Rattle.calc_parser.specs.declared.token.Product.TheVariants.{Times, Over, Modulo}
use Rattle.calc_parser.specs.declared.token.Pick.TheVariants.{Least, Greatest}
use Rattle.calc_parser.specs.declared.token.Token.{Token}
use Rattle.calc_parser.specs.declared.token.Token.TheVariants.{Number, Quoted, Measuring, Calculation, Absolute, Picking, Choice, Open, Close, Comma, Summing, Multiplying, Comparing, Ill, End}
use Rattle.calc_parser.specs.Tree.{Tree, num, window, calc, neg, abs, two, compare, choose}

-- how tightly an operation holds its operands together
abbrev pub op_binds : Op → ℕ
op_binds Add = 2
op_binds Sub = 2
op_binds Mul = 3
op_binds Div = 3
op_binds Rem = 3
op_binds Min = 5
op_binds Max = 5

-- how tightly a tree's outermost part holds together
abbrev pub binds : Tree → ℕ
binds (compare cmp a b) = 1
binds (two op a b) = op_binds op
binds (neg a) = 4
binds t = 5

abbrev pub is_call : Op → Bool
is_call Min = true
is_call Max = true
is_call op = false

abbrev pub op_token : Op → Token
op_token Add = Summing Plus
op_token Sub = Summing Minus
op_token Mul = Multiplying Times
op_token Div = Multiplying Over
op_token Rem = Multiplying Modulo
op_token Min = Picking Least
op_token Max = Picking Greatest

-- a tree's tokens, in brackets if the tree holds together less tightly than is needed
abbrev pub fit : ℕ → Tree → List Token → List Token
fit need t tokens = if nat_lt (binds t) need then Open ∷ tokens ++ Close ∷ [] else tokens

-- two operands with their operation between them, or before them
abbrev pub joined : Op → Tree → List Token → Tree → List Token → List Token
joined op a xs b ys = if is_call op then op_token op ∷ Open ∷ xs ++ Comma ∷ (ys ++ Close ∷ [])
    else fit (op_binds op) a xs ++ op_token op ∷ fit (op_binds op + 1) b ys

-- the tokens of a tree's canonical text
abbrev pub canonical : Tree → List Token
canonical (num n) = Number n ∷ []
canonical (window m tag) = Measuring m ∷ Open ∷ Quoted tag ∷ Close ∷ []
canonical (calc name) = Calculation ∷ Open ∷ Quoted name ∷ Close ∷ []
canonical (neg a) = Summing Minus ∷ fit 4 a (canonical a)
canonical (abs a) = Absolute ∷ Open ∷ canonical a ++ Close ∷ []
canonical (two op a b) = joined op a (canonical a) b (canonical b)
canonical (compare cmp a b) = fit 2 a (canonical a) ++ Comparing cmp ∷ fit 2 b (canonical b)
canonical (choose c a b) = Choice ∷ Open ∷ canonical c ++ Comma ∷ (canonical a ++ Comma ∷ (canonical b ++ Close ∷ []))

abbrev pub measure_word : Measure → List ℕ
measure_word Area = codes "area"
measure_word Avg = codes "avg"
measure_word Total = codes "total"
measure_word Low = codes "low"
measure_word High = codes "high"
measure_word Count = codes "count"
measure_word First = codes "first"
measure_word Last = codes "last"

abbrev pub cmp_sign : Cmp → List ℕ
cmp_sign Le = codes "<="
cmp_sign Ge = codes ">="
cmp_sign Ne = codes "<>"
cmp_sign Lt = codes "<"
cmp_sign Gt = codes ">"
cmp_sign Eq = codes "="

-- how a token is spelled
abbrev pub spelling : Token → List ℕ
spelling (Number n) = signed_decimal n
spelling (Quoted name) = codes "'" ++ name ++ codes "'"
spelling (Measuring m) = measure_word m
spelling Calculation = codes "calc"
spelling Absolute = codes "abs"
spelling (Picking Least) = codes "min"
spelling (Picking Greatest) = codes "max"
spelling Choice = codes "if"
spelling Open = codes "("
spelling Close = codes ")"
spelling Comma = codes ","
spelling (Summing Plus) = codes "+"
spelling (Summing Minus) = codes "-"
spelling (Multiplying Times) = codes "*"
spelling (Multiplying Over) = codes "/"
spelling (Multiplying Modulo) = codes "%"
spelling (Comparing cmp) = cmp_sign cmp
spelling (Ill why) = []
spelling End = []

abbrev pub spelled : List Token → List ℕ
spelled tokens = flat_map spelling tokens

abbrev pub text_of : Tree → List ℕ
text_of t = spelled (canonical t)
