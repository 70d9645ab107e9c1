-- Definitions that only private functions cite: what may still come after the tokens so far, as a stack, and how tokens
-- change the stack. They serve the proofs alone. They do not say how the parts of a tree group.
use Rattle.std.specs.Prelude.{◌≡◌, ℕ, ◌+◌, Bool, true, false, nat_le, List, [], ◌∷◌, ◌++◌, Option, None, Some, Result, Ok, Err, if◌then◌else◌}
use Rattle.calc_parser.specs.declared.token.Sum.TheVariants.{Minus}
use Rattle.calc_parser.specs.declared.token.Token.{Token}
use Rattle.calc_parser.specs.declared.token.Token.TheVariants.{Number, Quoted, Measuring, Calculation, Absolute, Picking, Choice, Open, Close, Comma, Summing, Multiplying, Comparing, End}
use Rattle.calc_parser.specs.declared.parser.Stop.{Stop}
use Rattle.calc_parser.specs.declared.parser.Stop.TheVariants as stop
use Rattle.calc_parser.specs.declared.refusal.ParseNo.{ParseNo}
use Rattle.calc_parser.specs.declared.refusal.ParseNo.TheVariants.{Deep, Syntax, WantOfMemory}
use Rattle.calc_parser.specs.Formulas.{deepest, kind_of}
use Rattle.calc_parser.specs.Grammar.{Level, formula, factor, Reading, words, tree}
use Rattle.calc_parser.specs.Tree.{Tree}

-- the next token, or `End` if none is left
abbrev pub head : List Token → Token
head [] = End
head (token ∷ tokens) = token

-- what may come: an operand at a nesting level; what continues after an operand, with a comparison allowed or not; the
-- bracket of a call; a quoted name; a comma; a closing bracket
pub data Part : Type 0 where
  operand : ℕ → Part
  more : ℕ → Bool → Part
  bracket : ℕ → Part
  name : Part
  comma : Part
  close : Part

abbrev pub Stack : Type 0
Stack = List Part

-- a formula at a nesting level
abbrev pub whole : ℕ → Stack → Stack
whole n k = operand n ∷ more n true ∷ k

-- the level that a token opens, or 0, and what may come after it; `None` if the token may not occur there
abbrev pub Next : Type 0
Next = Option (ℕ × Stack)

abbrev pub at_operand : ℕ → Stack → Token → Next
at_operand n k (Number m) = Some (0, k)
at_operand n k (Summing Minus) = Some (n + 1, operand (n + 1) ∷ k)
at_operand n k Open = Some (n + 1, whole (n + 1) (close ∷ k))
at_operand n k (Measuring m) = Some (0, bracket n ∷ name ∷ close ∷ k)
at_operand n k Calculation = Some (0, bracket n ∷ name ∷ close ∷ k)
at_operand n k Absolute = Some (0, bracket n ∷ whole (n + 1) (close ∷ k))
at_operand n k (Picking pick) = Some (0, bracket n ∷ whole (n + 1) (comma ∷ whole (n + 1) (close ∷ k)))
at_operand n k Choice = Some (0, bracket n ∷ whole (n + 1) (comma ∷ whole (n + 1) (comma ∷ whole (n + 1) (close ∷ k))))
at_operand n k token = None

-- `after` is what the token does if it does not continue the formula
abbrev pub at_more : ℕ → Bool → Stack → Next → Token → Next
at_more n c k after (Summing sign) = Some (0, operand n ∷ more n c ∷ k)
at_more n c k after (Multiplying sign) = Some (0, operand n ∷ more n c ∷ k)
at_more n true k after (Comparing cmp) = Some (0, operand n ∷ more n false ∷ k)
at_more n c k after token = after

abbrev pub at_bracket : ℕ → Stack → Token → Next
at_bracket n k Open = Some (n + 1, k)
at_bracket n k token = None

abbrev pub is_at_name : Stack → Token → Next
is_at_name k (Quoted bytes) = Some (0, k)
is_at_name k token = None

abbrev pub at_comma : Stack → Token → Next
at_comma k Comma = Some (0, k)
at_comma k token = None

abbrev pub at_close : Stack → Token → Next
at_close k Close = Some (0, k)
at_close k token = None

abbrev pub step : Stack → Token → Next
step [] token = None
step (operand n ∷ k) token = at_operand n k token
step (more n c ∷ k) token = at_more n c k (step k token) token
step (bracket n ∷ k) token = at_bracket n k token
step (name ∷ k) token = is_at_name k token
step (comma ∷ k) token = at_comma k token
step (close ∷ k) token = at_close k token

-- whether the tokens may end there
abbrev pub may_end : Stack → Bool
may_end [] = true
may_end (more n c ∷ k) = may_end k
may_end k = false

-- all tokens may occur; or the first of these may not; or the first of these opens a level that is too deep
pub data Verdict : Type 0 where
  fine : Verdict
  refused : List Token → Verdict
  deep : List Token → Verdict

abbrev pub judged : Next → List Token → (Stack → Verdict) → Verdict
judged None tokens go = refused tokens
judged (Some next) tokens go = if nat_le next.0 deepest then go next.1 else deep tokens

abbrev pub scan : Stack → List Token → Verdict
scan k [] = if may_end k then fine else refused []
scan k (token ∷ tokens) = judged (step k token) (token ∷ tokens) (λ next. scan next tokens)

-- a derivation's tokens come before the rest, and this is its tree
pub record SpellsTokens (level : Level) (tokens rest : List Token) (t : Tree) : Type 0 where
  pub reading : Reading level
  pub cut : tokens ≡ words reading ++ rest
  pub tree_is : tree reading ≡ t

-- a bracket, a formula's tokens, and then the rest
pub record SpellsFirst (tokens rest : List Token) (t : Tree) : Type 0 where
  pub reading : Reading formula
  pub cut : tokens ≡ Open ∷ words reading ++ rest
  pub tree_is : tree reading ≡ t

-- a comma, a formula's tokens, and then the rest
pub record SpellsNext (tokens rest : List Token) (t : Tree) : Type 0 where
  pub reading : Reading formula
  pub cut : tokens ≡ Comma ∷ words reading ++ rest
  pub tree_is : tree reading ≡ t

-- an operand's tokens, the first of which is this one, and then the rest
pub record SpellsAfter (first : Token) (tokens rest : List Token) (t : Tree) : Type 0 where
  pub reading : Reading factor
  pub cut : first ∷ tokens ≡ words reading ++ rest
  pub tree_is : tree reading ≡ t

-- the verdict of a refusal
abbrev pub Stops : Stop → Verdict → List Token → Type 0
Stops stop.Off all rest = all ≡ refused rest
Stops stop.Deep all rest = all ≡ deep rest
Stops stop.WantOfMemory all rest = Unit {0}

-- if a call succeeds, what it leaves has the verdict of the whole. Otherwise the whole has the verdict of the refusal
abbrev pub LeavesVerdict : {A : Type 0} → Result A Stop → Verdict → Verdict → List Token → Type 0
LeavesVerdict (Ok x) all left rest = all ≡ left
LeavesVerdict (Err why) all left rest = Stops why all rest

-- no sign between factors comes next
abbrev pub EndsTerms : List Token → Type 0
EndsTerms (Multiplying sign ∷ rest) = ⊥
EndsTerms tokens = Unit {0}

-- no sign between factors or terms comes next
abbrev pub EndsSums : List Token → Type 0
EndsSums (Multiplying sign ∷ rest) = ⊥
EndsSums (Summing sign ∷ rest) = ⊥
EndsSums tokens = Unit {0}

-- the error of a refusal, at its place and before what comes next
abbrev pub refusal_of : Stop → ℕ → List Token → ParseNo
refusal_of stop.Off place rest = Syntax place (kind_of rest)
refusal_of stop.Deep place rest = Deep place
refusal_of stop.WantOfMemory place rest = WantOfMemory
