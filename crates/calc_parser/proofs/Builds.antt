-- A text has at most one tree: a machine, which reads the tokens of any derivation, ends with its tree.
use Rattle.std.proofs.Common.{◌≡◌, ℕ, List, [], ◌∷◌, ◌++◌, Option, None, Some, refl, sym, ap, ◌∙◌, append_assoc}
use Rattle.std.proofs.lemmas.List.{append-nil}
use Rattle.calc_parser.specs.{Cmp, Sum, Product, Pick, Token, IsTree, Level, formula, sums, terms, factor, Reading, plain, compared, one_term, more_terms, one_factor, more_factors, negated, numeral, grouped, measured, calculated, absolute}
use Rattle.calc_parser.specs.{picked, chosen, words, tree, sum_op, product_op, pick_op}
use Rattle.calc_parser.specs.declared.token.Token.TheVariants.{Number, Quoted, Measuring, Calculation, Absolute, Picking, Choice, Open, Close, Comma, Summing, Multiplying, Comparing}
use Rattle.calc_parser.specs.Tree.{Tree, num, window, calc, neg, abs, two, compare, choose}

-- what waits for the tree that is read: a sign before it; what is before it in its formula; the bracket that it is in
data Hole : Type 0 where
  signed : Hole
  going : Option (Tree × Cmp) → Option (Tree × Sum) → Option (Tree × Product) → Hole
  group : Hole
  size : Hole
  first : Pick → Hole
  second : Pick → Tree → Hole
  condition : Hole
  left : Tree → Hole
  right : Tree → Tree → Hole

-- the machine wants an operand, or has one; it passes over a token, or wants a name
data State : Type 0 where
  wants : List Hole → State
  has : List Hole → Tree → State
  skips : State → State
  names : (List ℕ → Tree) → List Hole → State
  lost : State

-- a formula of which nothing is read
abbrev fresh : Hole
fresh = going None None None

-- the tree with what is before it
abbrev comparison : Option (Tree × Cmp) → Tree → Tree
comparison None v = v
comparison (Some p) v = compare p.1 p.0 v

-- the same of a sum
abbrev sum : Option (Tree × Sum) → Tree → Tree
sum None v = v
sum (Some p) v = two (sum_op p.1) p.0 v

-- the same of a term
abbrev product : Option (Tree × Product) → Tree → Tree
product None v = v
product (Some p) v = two (product_op p.1) p.0 v

-- a term is read: its formula continues, or is whole
abbrev grow : Option (Tree × Cmp) → Option (Tree × Sum) → Tree → List Hole → (Tree → State) → Token → State
grow c s v k whole (Multiplying sign) = wants (going c s (Some (v, sign)) ∷ k)
grow c s v k whole (Summing sign) = wants (going c (Some (sum s v, sign)) None ∷ k)
grow c s v k whole (Comparing cmp) = wants (going (Some (comparison c (sum s v), cmp)) None None ∷ k)
grow c s v k whole token = whole (comparison c (sum s v))

-- the next token, where a tree is read
abbrev turn : List Hole → Tree → Token → State
turn [] v token = lost
turn (signed ∷ k) v token = turn k (neg v) token
turn (going c s p ∷ k) v token = grow c s (product p v) k (λ whole. turn k whole token) token
turn (group ∷ k) v token = has k v
turn (size ∷ k) v token = has k (abs v)
turn (first pick ∷ k) v token = wants (fresh ∷ second pick v ∷ k)
turn (second pick a ∷ k) v token = has k (two (pick_op pick) a v)
turn (condition ∷ k) v token = wants (fresh ∷ left v ∷ k)
turn (left c ∷ k) v token = wants (fresh ∷ right c v ∷ k)
turn (right c a ∷ k) v token = has k (choose c a v)

-- the next token, where an operand is wanted
abbrev begin : List Hole → Token → State
begin k (Number n) = has k (num n)
begin k (Summing sign) = wants (signed ∷ k)
begin k Open = wants (fresh ∷ group ∷ k)
begin k (Measuring m) = skips (names (window m) k)
begin k Calculation = skips (names calc k)
begin k Absolute = skips (wants (fresh ∷ size ∷ k))
begin k (Picking pick) = skips (wants (fresh ∷ first pick ∷ k))
begin k Choice = skips (wants (fresh ∷ condition ∷ k))
begin k token = lost

-- the next token, where a name is wanted
abbrev named : (List ℕ → Tree) → List Hole → Token → State
named f k (Quoted bytes) = skips (has k (f bytes))
named f k token = lost

-- the next token
abbrev after : State → Token → State
after (wants k) token = begin k token
after (has k v) token = turn k v token
after (skips s) token = s
after (names f k) token = named f k token
after lost token = lost

-- the tree, where nothing is left
abbrev finish : List Hole → Tree → Option Tree
finish [] v = Some v
finish (signed ∷ k) v = finish k (neg v)
finish (going c s p ∷ k) v = finish k (comparison c (sum s (product p v)))
finish k v = None

-- what the machine has in the end
abbrev end : State → Option Tree
end (has k v) = finish k v
end state = None

-- what it has after these tokens
abbrev runs : State → List Token → Option Tree
runs state [] = end state
runs state (token ∷ tokens) = runs (after state token) tokens

-- what may follow a sum, and a formula
abbrev NoFactor : List Token → Type 0
NoFactor (Multiplying sign ∷ rest) = ⊥
NoFactor rest = Unit {0}

-- no sign of a formula
abbrev NoSign : List Token → Type 0
NoSign (Multiplying sign ∷ rest) = ⊥
NoSign (Summing sign ∷ rest) = ⊥
NoSign (Comparing cmp ∷ rest) = ⊥
NoSign rest = Unit {0}

-- what was read joins what was before it

-- the sign before an operand
with_sign : (k : List Hole) (v : Tree) (rest : List Token)
    → runs (has (signed ∷ k) v) rest ≡ runs (has k (neg v)) rest
with_sign k v [] = refl
with_sign k v (token ∷ rest) = refl

-- the factors before a factor
with_product : (c : Option (Tree × Cmp)) (s : Option (Tree × Sum)) (a v : Tree) (sign : Product)
    (k : List Hole) (rest : List Token)
    → runs (has (going c s (Some (
      a,
      sign,
    )) ∷ k) v) rest ≡ runs (has (going c s None ∷ k) (two (product_op sign) a v)) rest
with_product c s a v sign k [] = refl
with_product c s a v sign k (token ∷ rest) = refl

-- the terms before a term
with_sum : (c : Option (Tree × Cmp)) (a v : Tree) (sign : Sum) (k : List Hole) (rest : List Token)
    → NoFactor rest
    → runs (has (going c (Some (a, sign)) None ∷ k) v) rest ≡ runs
    (has (going c None None ∷ k) (two (sum_op sign) a v)) rest
with_sum c a v sign k [] ends = refl
with_sum c a v sign k (Multiplying other ∷ rest) ends = absurd ends
with_sum c a v sign k (token ∷ rest) ends = refl

-- the side before a side
with_comparison : (c : Option (Tree × Cmp)) (v : Tree) (k : List Hole) (rest : List Token) → NoSign rest
    → runs (has (going c None None ∷ k) v) rest ≡ runs (has k (comparison c v)) rest
with_comparison c v k [] ends = refl
with_comparison c v k (Multiplying sign ∷ rest) ends = absurd ends
with_comparison c v k (Summing sign ∷ rest) ends = absurd ends
with_comparison c v k (Comparing cmp ∷ rest) ends = absurd ends
with_comparison c v k (token ∷ rest) ends = refl

-- what may follow a formula may follow a sum
no_factor : (rest : List Token) → NoSign rest → NoFactor rest
no_factor [] ends = tt
no_factor (Multiplying sign ∷ rest) ends = absurd ends
no_factor (token ∷ rest) ends = tt

-- the machine reads a derivation's tokens, and has its tree
abbrev Builds : (level : Level) → Reading level → Type 0
Builds formula d = (k : List Hole) (rest : List Token) → NoSign rest
    → runs (wants (fresh ∷ k)) (words d ++ rest) ≡ runs (has k (tree d)) rest
Builds sums d = (c : Option (Tree × Cmp)) (k : List Hole) (rest : List Token) → NoFactor rest
    → runs (wants (going c None None ∷ k)) (words d
    ++ rest) ≡ runs (has (going c None None ∷ k) (tree d)) rest
Builds terms d = (c : Option (Tree × Cmp)) (s : Option (Tree × Sum)) (k : List Hole) (rest : List Token)
    → runs (wants (going c s None ∷ k)) (words d ++ rest) ≡ runs (has (going c s None ∷ k) (tree d)) rest
Builds factor d = (k : List Hole) (rest : List Token)
    → runs (wants k) (words d ++ rest) ≡ runs (has k (tree d)) rest

-- each derivation is read so
builds : {level : Level} (d : Reading level) → Builds level d
builds (plain s) = λ k rest ends. builds s None k rest (no_factor rest ends)
    ∙ with_comparison None (tree s) k rest ends
builds (compared a cmp b) = λ k rest ends.
    ap (runs (wants (fresh ∷ k))) (append_assoc (words a) (Comparing cmp ∷ words b) rest)
    ∙ builds a None k (Comparing cmp ∷ (words b ++ rest)) tt
    ∙ builds b (Some (tree a, cmp)) k rest (no_factor rest ends)
    ∙ with_comparison (Some (tree a, cmp)) (tree b) k rest ends
builds (one_term t) = λ c k rest ends. builds t c None k rest
builds (more_terms s sign t) = λ c k rest ends.
    ap (runs (wants (going c None None ∷ k))) (append_assoc (words s) (Summing sign ∷ words t) rest)
    ∙ builds s c k (Summing sign ∷ (words t ++ rest)) tt
    ∙ builds t c (Some (tree s, sign)) k rest
    ∙ with_sum c (tree s) (tree t) sign k rest ends
builds (one_factor f) = λ c s k rest. builds f (going c s None ∷ k) rest
builds (more_factors t sign f) = λ c s k rest.
    ap (runs (wants (going c s None ∷ k))) (append_assoc (words t) (Multiplying sign ∷ words f) rest)
    ∙ builds t c s k (Multiplying sign ∷ (words f ++ rest))
    ∙ builds f (going c s (Some (tree t, sign)) ∷ k) rest
    ∙ with_product c s (tree t) (tree f) sign k rest
builds (negated f) = λ k rest. builds f (signed ∷ k) rest ∙ with_sign k (tree f) rest
builds (numeral n) = λ k rest. refl
builds (grouped a) = λ k rest.
    ap (runs (wants (fresh ∷ group ∷ k))) (append_assoc (words a) (Close ∷ []) rest)
    ∙ builds a (group ∷ k) (Close ∷ rest) tt
builds (measured m tag) = λ k rest. refl
builds (calculated name) = λ k rest. refl
builds (absolute a) = λ k rest.
    ap (runs (wants (fresh ∷ size ∷ k))) (append_assoc (words a) (Close ∷ []) rest)
    ∙ builds a (size ∷ k) (Close ∷ rest) tt
builds (picked pick a b) = λ k rest.
    let flat : (words a ++ Comma ∷ (words b ++ Close ∷ [])) ++ rest ≡ words a
    ++ Comma ∷ (words b ++ Close ∷ rest) = simp append_assoc in
    ap (runs (wants (fresh ∷ first pick ∷ k))) flat
    ∙ builds a (first pick ∷ k) (Comma ∷ (words b ++ Close ∷ rest)) tt
    ∙ builds b (second pick (tree a) ∷ k) (Close ∷ rest) tt
builds (chosen c a b) = λ k rest.
    let flat : (words c ++ Comma ∷ (words a ++ Comma ∷ (words b ++ Close ∷ []))) ++ rest
    ≡ words c ++ Comma ∷ (words a ++ Comma ∷ (words b ++ Close ∷ rest)) = simp append_assoc in
    ap (runs (wants (fresh ∷ condition ∷ k))) flat
    ∙ builds c (condition ∷ k) (Comma ∷ (words a ++ Comma ∷ (words b ++ Close ∷ rest))) tt
    ∙ builds a (left (tree c) ∷ k) (Comma ∷ (words b ++ Close ∷ rest)) tt
    ∙ builds b (right (tree c) (tree a) ∷ k) (Close ∷ rest) tt

-- two derivations of the same tokens have the same tree
pub same_tree : (d e : Reading formula) → words d ≡ words e → tree d ≡ tree e
same_tree d e same =
    let read_d : runs (wants (fresh ∷ [])) (words d) ≡ Some (tree d) =
    ap (runs (wants (fresh ∷ []))) (sym (append-nil (words d))) ∙ builds d [] [] tt in
    let read_e : runs (wants (fresh ∷ [])) (words e) ≡ Some (tree e) =
    ap (runs (wants (fresh ∷ []))) (sym (append-nil (words e))) ∙ builds e [] [] tt in
    let both : Some (tree d) ≡ Some (tree e) = sym read_d ∙ ap (runs (wants (fresh ∷ []))) same ∙ read_e in
    cc both

-- so a text has at most one tree
pub one_tree : (text : List ℕ) (t u : Tree) → IsTree text t → IsTree text u → t ≡ u
one_tree text t u p q = sym p.tree_is ∙ same_tree p.reading q.reading (p.spelled ∙ sym q.spelled) ∙ q.tree_is
