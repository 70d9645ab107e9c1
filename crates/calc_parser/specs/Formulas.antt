-- Which texts are formulas, and which token decides against any other text.
use Rattle.std.specs.Prelude.{◌≡◌, ℕ, ◌<◌, ◌≤◌, List, [], ◌∷◌, ◌++◌, length, take, slice_index_or, All, Result, Ok, Err}
use Rattle.calc_parser.specs.declared.refusal.SyntaxKind.{SyntaxKind}
use Rattle.calc_parser.specs.declared.refusal.SyntaxKind.TheVariants as kind
use Rattle.calc_parser.specs.declared.refusal.ParseNo.{ParseNo}
use Rattle.calc_parser.specs.declared.refusal.ParseNo.TheVariants.{Long, Deep, Syntax, WantOfMemory}
use Rattle.calc_parser.specs.declared.tree.Expr.{Expr}
use Rattle.calc_parser.specs.declared.token.Token.{Token}
use Rattle.calc_parser.specs.declared.token.Token.TheVariants.{Ill}
use Rattle.calc_parser.specs.Grammar.{Reading, formula, words, tree, opens}
use Rattle.calc_parser.specs.Tokens.{tokens_of, places_of}
use Rattle.calc_parser.specs.Tree.{Tree, tree_of}

-- how many bytes a formula may have
abbrev pub most_bytes : ℕ
most_bytes = 1024

-- the deepest nesting of a formula
abbrev pub deepest : ℕ
deepest = 32

-- the text's tokens are those of a derivation, and this is the derivation's tree
pub record IsTree (text : List ℕ) (t : Tree) : Type 0 where
  pub reading : Reading formula
  pub spelled : words reading ≡ tokens_of text
  pub tree_is : tree reading ≡ t

-- the text is no longer than a formula may be. Its tokens are those of a derivation with this tree, no deeper than one
-- may be
pub record IsFormula (text : List ℕ) (t : Tree) : Type 0 where
  pub reading : Reading formula
  pub spelled : words reading ≡ tokens_of text
  pub tree_is : tree reading ≡ t
  pub shallow : All (λ level. level ≤ deepest) (opens 0 reading)
  pub short : length text ≤ most_bytes

-- more tokens can be added to make these a formula, of any length and nesting
pub record Begins (front : List Token) : Type 0 where
  pub reading : Reading formula
  pub more : List Token
  pub spelled : words reading ≡ front ++ more

-- no formula that begins with these tokens has a token among them that opens a level that is too deep
abbrev pub IsShallow : List Token → Type 0
IsShallow front = (d : Reading formula) (more : List Token) → words d ≡ front ++ more
    → All (λ level. level ≤ deepest) (take (length front) (opens 0 d))

-- what comes next follows these tokens in no formula. If nothing comes next, these tokens are no formula
abbrev pub CannotFollow : List Token → List Token → Type 0
CannotFollow front [] = (d : Reading formula) → words d ≡ front → ⊥
CannotFollow front (next ∷ rest) = (d : Reading formula) (more : List Token) → words d ≡ front ++ next ∷ more → ⊥

-- what is wrong with what comes next
abbrev pub kind_of : List Token → SyntaxKind
kind_of [] = kind.End
kind_of (Ill why ∷ rest) = why
kind_of (token ∷ rest) = kind.Token

-- the first refused token is ill formed or cannot follow those before it, or the text ends too soon
pub record IsSyntax (text : List ℕ) (place : ℕ) (why : SyntaxKind) : Type 0 where
  pub front : List Token
  pub rest : List Token
  pub cut : tokens_of text ≡ front ++ rest
  pub begins : Begins front
  pub shallow : IsShallow front
  pub refused : CannotFollow front rest
  pub placed : place ≡ slice_index_or (places_of text) (length front) (length text)
  pub kind_is : why ≡ kind_of rest

-- the first refused token can follow those before it, but opens a level that is too deep
pub record IsDeep (text : List ℕ) (place : ℕ) : Type 0 where
  pub front : List Token
  pub next : Token
  pub rest : List Token
  pub cut : tokens_of text ≡ front ++ next ∷ rest
  pub begins : Begins (front ++ next ∷ [])
  pub shallow : IsShallow front
  pub too_deep : (d : Reading formula) (more : List Token) → words d ≡ front ++ next ∷ more
      → deepest < slice_index_or (opens 0 d) (length front) 0
  pub placed : place ≡ slice_index_or (places_of text) (length front) (length text)

-- why a text is refused
abbrev pub HasFormulaCause : List ℕ → ParseNo → Type 0
HasFormulaCause text (Long n) = (most_bytes < length text) × (n ≡ length text)
HasFormulaCause text (Deep place) = (length text ≤ most_bytes) × IsDeep text place
HasFormulaCause text (Syntax place why) = (length text ≤ most_bytes) × IsSyntax text place why
HasFormulaCause text WantOfMemory = Unit {0}

-- the result is this tree, or no memory was found
abbrev pub Gives : Result Expr ParseNo → Tree → Type 0
Gives (Ok e) t = tree_of e ≡ t
Gives (Err WantOfMemory) t = Unit {0}
Gives (Err why) t = ⊥
