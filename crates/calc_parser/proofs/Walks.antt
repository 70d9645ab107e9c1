-- Where the tokens of a derivation lead, and which levels they open on the way.
use Rattle.std.proofs.Common.{◌≡◌, ℕ, ◌+◌, Bool, true, false, List, [], ◌∷◌, ◌++◌, length, Option, None, Some, refl, sym, ap, ◌∙◌, append_assoc, arith}
use Rattle.calc_parser.specs.{Token, Level, formula, sums, terms, factor, Reading, plain, compared, one_term, more_terms, one_factor, more_factors, negated, numeral, grouped, measured, calculated, absolute, picked, chosen, words, opens}
use Rattle.calc_parser.specs.{Stack, Next, operand, more, comma, close, whole, step}
use Rattle.calc_parser.specs.declared.token.Token.TheVariants.{Close, Comma, Summing, Multiplying, Comparing}

-- the levels that tokens open, and what may still come after them
abbrev pub Walked : Type 0
Walked = Option (List ℕ × Stack)

-- levels before those of a walk
abbrev pub prepend : List ℕ → Walked → Walked
prepend levels None = None
prepend levels (Some p) = Some (levels ++ p.0, p.1)

-- a walk after one token
abbrev pub onward : Next → (Stack → Walked) → Walked
onward None go = None
onward (Some next) go = prepend (next.0 ∷ []) (go next.1)

-- the walk of some tokens
abbrev pub walk : Stack → List Token → Walked
walk k [] = Some ([], k)
walk k (token ∷ tokens) = onward (step k token) (λ next. walk next tokens)

-- levels before levels
pub prepend-append : (xs ys : List ℕ) (w : Walked) → prepend xs (prepend ys w) ≡ prepend (xs ++ ys) w
prepend-append xs ys None = refl
prepend-append xs ys (Some p) = ap (λ l. Some (l, p.1)) (sym (append_assoc xs ys p.0))

-- the walk continues over more tokens
abbrev pub further : Walked → List Token → Walked
further None tokens = None
further (Some p) tokens = prepend p.0 (walk p.1 tokens)

-- none before them
prepend-nil : (w : Walked) → w ≡ prepend [] w
prepend-nil None = refl
prepend-nil (Some p) = refl

-- levels before a walk that continues
further-prepend : (xs : List ℕ) (w : Walked) (tokens : List Token)
    → prepend xs (further w tokens) ≡ further (prepend xs w) tokens
further-prepend xs None tokens = refl
further-prepend xs (Some p) tokens = prepend-append xs p.0 (walk p.1 tokens)

-- a walk over tokens in two parts
pub walk-append : (k : Stack) (xs ys : List Token) → walk k (xs ++ ys) ≡ further (walk k xs) ys
walk-append k [] ys = prepend-nil (walk k ys)
walk-append k (x ∷ xs) ys = go (step k x) (λ next. walk-append next xs ys)
  where
    go : (o : Next) → ((next : Stack) → walk next (xs ++ ys) ≡ further (walk next xs) ys)
        → onward o (λ next. walk next (xs ++ ys)) ≡ further (onward o (λ next. walk next xs)) ys
    go None rest = refl
    go (Some next) rest = ap (prepend (next.0 ∷ [])) (rest next.1)
        ∙ further-prepend (next.0 ∷ []) (walk next.1 xs) ys

-- as many levels as tokens
abbrev pub IsAsLong : Walked → List Token → Type 0
IsAsLong None tokens = Unit {0}
IsAsLong (Some p) tokens = length p.0 ≡ length tokens

-- each token opens a level, or none
pub walk-length : (k : Stack) (xs : List Token) → IsAsLong (walk k xs) xs
walk-length k [] = refl
walk-length k (x ∷ xs) = go (step k x) (λ next. walk-length next xs)
  where
    longer : (level : ℕ) (w : Walked) → IsAsLong w xs → IsAsLong (prepend (level ∷ []) w) (x ∷ xs)
    longer level None is = tt
    longer level (Some p) is = omega (arith, is)

    go : (o : Next) → ((next : Stack) → IsAsLong (walk next xs) xs)
        → IsAsLong (onward o (λ next. walk next xs)) (x ∷ xs)
    go None rest = tt
    go (Some next) rest = longer next.0 (walk next.1 xs) (rest next.1)

-- the tokens of a derivation may occur, and open its levels
abbrev Passes : (level : Level) → Reading level → Type 0
Passes formula d = (n : ℕ) (k : Stack) (rest : List Token)
    → (c : Bool) × (walk (whole n k) (words d ++ rest) ≡ prepend (opens n d) (walk (more n c ∷ k) rest))
Passes sums d = (n : ℕ) (c : Bool) (k : Stack) (rest : List Token)
    → walk (operand n ∷ more n c ∷ k) (words d ++ rest) ≡ prepend (opens n d) (walk (more n c ∷ k) rest)
Passes terms d = (n : ℕ) (c : Bool) (k : Stack) (rest : List Token)
    → walk (operand n ∷ more n c ∷ k) (words d ++ rest) ≡ prepend (opens n d) (walk (more n c ∷ k) rest)
Passes factor d = (n : ℕ) (k : Stack) (rest : List Token)
    → walk (operand n ∷ k) (words d ++ rest) ≡ prepend (opens n d) (walk k rest)

-- two parts with a token between them that opens no level
joined : (xs ys : List ℕ) (w : Walked)
    → prepend xs (prepend (0 ∷ []) (prepend ys w)) ≡ prepend (xs ++ 0 ∷ ys) w
joined xs ys w = ap (prepend xs) (prepend-append (0 ∷ []) ys w) ∙ prepend-append xs (0 ∷ ys) w

-- a word, its bracket, and what is in it
in_bracket : (n : ℕ) (xs : List ℕ) (w : Walked)
    → prepend (0 ∷ []) (prepend (n ∷ []) (prepend xs w)) ≡ prepend (0 ∷ n ∷ xs) w
in_bracket n xs w = ap (prepend (0 ∷ [])) (prepend-append (n ∷ []) xs w) ∙ prepend-append (0 ∷ []) (n ∷ xs) w

-- a word, its bracket, and a name
in_name : (n : ℕ) (w : Walked)
    → prepend (0 ∷ []) (prepend (n ∷ []) (prepend (0 ∷ []) (prepend (0 ∷ []) w))) ≡ prepend
    (0 ∷ n ∷ 0 ∷ 0 ∷ []) w
in_name n w = grind (arith, prepend-append, in_bracket)

-- a formula up to the bracket or the comma after it
up_to_close : (a : Reading formula) → Passes formula a → (n : ℕ) (k : Stack) (rest : List Token)
    → walk (whole n (close ∷ k)) (words a ++ Close ∷ rest) ≡ prepend (opens n a ++ 0 ∷ []) (walk k rest)
up_to_close a passes_a n k rest =
    let p = passes_a n (close ∷ k) (Close ∷ rest) in
    p.1 ∙ prepend-append (opens n a) (0 ∷ []) (walk k rest)

-- the same up to a comma
up_to_comma : (a : Reading formula) → Passes formula a → (n : ℕ) (k : Stack) (rest : List Token)
    → walk (whole n (comma ∷ k)) (words a
    ++ Comma ∷ rest) ≡ prepend (opens n a) (prepend (0 ∷ []) (walk k rest))
up_to_comma a passes_a n k rest = let p = passes_a n (comma ∷ k) (Comma ∷ rest) in p.1

-- each derivation's tokens may occur
pub passes : {level : Level} (d : Reading level) → Passes level d
passes (plain s) = λ n k rest. (true, passes s n true k rest)
passes (compared a cmp b) = λ n k rest. (
  false,
  ap (walk (whole n k)) (append_assoc (words a) (Comparing cmp ∷ words b) rest)
      ∙ passes a n true k (Comparing cmp ∷ (words b ++ rest))
      ∙ ap (λ w. prepend (opens n a) (prepend (0 ∷ []) w)) (passes b n false k rest)
      ∙ joined (opens n a) (opens n b) (walk (more n false ∷ k) rest),
)
passes (one_term t) = λ n c k rest. passes t n c k rest
passes (more_terms s sign t) = λ n c k rest.
    ap (walk (operand n ∷ more n c ∷ k)) (append_assoc (words s) (Summing sign ∷ words t) rest)
    ∙ passes s n c k (Summing sign ∷ (words t ++ rest))
    ∙ ap (λ w. prepend (opens n s) (prepend (0 ∷ []) w)) (passes t n c k rest)
    ∙ joined (opens n s) (opens n t) (walk (more n c ∷ k) rest)
passes (one_factor f) = λ n c k rest. passes f n (more n c ∷ k) rest
passes (more_factors t sign f) = λ n c k rest.
    ap (walk (operand n ∷ more n c ∷ k)) (append_assoc (words t) (Multiplying sign ∷ words f) rest)
    ∙ passes t n c k (Multiplying sign ∷ (words f ++ rest))
    ∙ ap (λ w. prepend (opens n t) (prepend (0 ∷ []) w)) (passes f n (more n c ∷ k) rest)
    ∙ joined (opens n t) (opens n f) (walk (more n c ∷ k) rest)
passes (negated f) = λ n k rest.
    ap (prepend ((n + 1) ∷ [])) (passes f (n + 1) k rest)
    ∙ prepend-append ((n + 1) ∷ []) (opens (n + 1) f) (walk k rest)
passes (numeral m) = λ n k rest. refl
passes (grouped a) = λ n k rest.
    ap (λ l. prepend ((n + 1) ∷ []) (walk (whole (n + 1) (close ∷ k)) l))
    (append_assoc (words a) (Close ∷ []) rest)
    ∙ ap (prepend ((n + 1) ∷ [])) (up_to_close a (passes a) (n + 1) k rest)
    ∙ prepend-append ((n + 1) ∷ []) (opens (n + 1) a ++ 0 ∷ []) (walk k rest)
passes (measured m tag) = λ n k rest. in_name (n + 1) (walk k rest)
passes (calculated name) = λ n k rest. in_name (n + 1) (walk k rest)
passes (absolute a) = λ n k rest.
    ap (λ l. prepend (0 ∷ []) (prepend ((n + 1) ∷ []) (walk (whole (n + 1) (close ∷ k)) l)))
    (append_assoc (words a) (Close ∷ []) rest)
    ∙ ap (λ w. prepend (0 ∷ []) (prepend ((n + 1) ∷ []) w)) (up_to_close a (passes a) (n + 1) k rest)
    ∙ in_bracket (n + 1) (opens (n + 1) a ++ 0 ∷ []) (walk k rest)
passes (picked pick a b) = λ n k rest.
    let flat : (words a ++ Comma ∷ (words b ++ Close ∷ [])) ++ rest ≡ words a
    ++ Comma ∷ (words b ++ Close ∷ rest) = simp append_assoc in
    let bs = opens (n + 1) b ++ 0 ∷ [] in
    ap (λ l. prepend (0 ∷ []) (prepend ((n + 1) ∷ [])
    (walk (whole (n + 1) (comma ∷ whole (n + 1) (close ∷ k))) l))) flat
    ∙ ap (λ w. prepend (0 ∷ []) (prepend ((n + 1) ∷ []) w))
    (up_to_comma a (passes a) (n + 1) (whole (n + 1) (close ∷ k)) (words b ++ Close ∷ rest)
    ∙ ap (λ w. prepend (opens (n + 1) a) (prepend (0 ∷ []) w)) (up_to_close b (passes b) (n + 1) k rest)
    ∙ joined (opens (n + 1) a) bs (walk k rest))
    ∙ in_bracket (n + 1) (opens (n + 1) a ++ 0 ∷ bs) (walk k rest)
passes (chosen c a b) = λ n k rest.
    let flat : (words c ++ Comma ∷ (words a ++ Comma ∷ (words b ++ Close ∷ []))) ++ rest
    ≡ words c ++ Comma ∷ (words a ++ Comma ∷ (words b ++ Close ∷ rest)) = simp append_assoc in
    let bs = opens (n + 1) b ++ 0 ∷ [] in
    let last = whole (n + 1) (close ∷ k) in
    ap (λ l. prepend (0 ∷ []) (prepend ((n + 1) ∷ [])
    (walk (whole (n + 1) (comma ∷ whole (n + 1) (comma ∷ last))) l))) flat
    ∙ ap (λ w. prepend (0 ∷ []) (prepend ((n + 1) ∷ []) w))
    (up_to_comma c (passes c) (n + 1) (whole (n + 1) (comma ∷ last)) (words a
    ++ Comma ∷ (words b ++ Close ∷ rest))
    ∙ ap (λ w. prepend (opens (n + 1) c) (prepend (0 ∷ []) w))
    (up_to_comma a (passes a) (n + 1) last (words b ++ Close ∷ rest)
    ∙ ap (λ w. prepend (opens (n + 1) a) (prepend (0 ∷ []) w)) (up_to_close b (passes b) (n + 1) k rest)
    ∙ joined (opens (n + 1) a) bs (walk k rest))
    ∙ joined (opens (n + 1) c) (opens (n + 1) a ++ 0 ∷ bs) (walk k rest))
    ∙ in_bracket (n + 1) (opens (n + 1) c ++ 0 ∷ (opens (n + 1) a ++ 0 ∷ bs)) (walk k rest)
