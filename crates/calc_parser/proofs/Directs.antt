-- The derivation of a tree that has the tokens of its canonical text: brackets occur only where they are needed.
use Rattle.std.proofs.Common.{◌≡◌, [], ◌∷◌, ◌++◌, refl, ap, ◌∙◌}
use Rattle.calc_parser.specs.{Op, fit, joined, canonical, Level, formula, sums, terms, factor, Reading, plain, compared, one_term, more_terms, one_factor, more_factors, negated, numeral, grouped, measured, calculated, absolute, picked}
use Rattle.calc_parser.specs.{chosen, words, tree}
use Rattle.calc_parser.specs.declared.tree.Op.TheVariants.{Add, Sub, Mul, Div, Rem, Min, Max}
use Rattle.calc_parser.specs.declared.token.Sum.TheVariants.{Plus, Minus}
use Rattle.calc_parser.specs.declared.token.Product.TheVariants.{Times, Over, Modulo}
use Rattle.calc_parser.specs.declared.token.Pick.TheVariants.{Least, Greatest}
use Rattle.calc_parser.specs.declared.token.Token.TheVariants.{Absolute, Picking, Choice, Open, Close, Comma, Summing, Multiplying, Comparing}
use Rattle.calc_parser.specs.Tree.{Tree, num, window, calc, neg, abs, two, compare, choose}

-- the level of an operation, and of a tree's outermost part
abbrev pub own_op : Op → Level
own_op Add = sums
own_op Sub = sums
own_op Mul = terms
own_op Div = terms
own_op Rem = terms
own_op Min = factor
own_op Max = factor

-- the level of a tree's outermost part
abbrev pub own : Tree → Level
own (compare cmp a b) = formula
own (two op a b) = own_op op
own t = factor

-- a derivation at another level, in brackets where that is tighter
abbrev pub lift : (have need : Level) → Reading have → Reading need
lift formula formula d = d
lift formula sums d = one_term (one_factor (grouped d))
lift formula terms d = one_factor (grouped d)
lift formula factor d = grouped d
lift sums formula d = plain d
lift sums sums d = d
lift sums terms d = one_factor (grouped (plain d))
lift sums factor d = grouped (plain d)
lift terms formula d = plain (one_term d)
lift terms sums d = one_term d
lift terms terms d = d
lift terms factor d = grouped (plain (one_term d))
lift factor formula d = plain (one_term (one_factor d))
lift factor sums d = one_term (one_factor d)
lift factor terms d = one_factor d
lift factor factor d = d

-- an operation on two derivations
abbrev pub join : (op : Op) (left right : Level) → Reading left → Reading right → Reading (own_op op)
join Add left right a b = more_terms (lift left sums a) Plus (lift right terms b)
join Sub left right a b = more_terms (lift left sums a) Minus (lift right terms b)
join Mul left right a b = more_factors (lift left terms a) Times (lift right factor b)
join Div left right a b = more_factors (lift left terms a) Over (lift right factor b)
join Rem left right a b = more_factors (lift left terms a) Modulo (lift right factor b)
join Min left right a b = picked Least (lift left formula a) (lift right formula b)
join Max left right a b = picked Greatest (lift left formula a) (lift right formula b)

-- the derivation of a tree, at its own level
abbrev pub direct : (t : Tree) → Reading (own t)
direct (num n) = numeral n
direct (window m tag) = measured m tag
direct (calc name) = calculated name
direct (neg a) = negated (lift (own a) factor (direct a))
direct (abs a) = absolute (lift (own a) formula (direct a))
direct (two op a b) = join op (own a) (own b) (direct a) (direct b)
direct (compare cmp a b) = compared (lift (own a) sums (direct a)) cmp (lift (own b) sums (direct b))
direct (choose c a b) = chosen (lift (own c) formula (direct c)) (lift (own a) formula (direct a))
    (lift (own b) formula (direct b))

-- its tokens

-- a formula needs no brackets
fits_formula : (have : Level) (d : Reading have) → words (lift have formula d) ≡ words d
fits_formula formula d = refl
fits_formula sums d = refl
fits_formula terms d = refl
fits_formula factor d = refl

-- brackets where a side or a left term needs them
fits_sums : (t : Tree) (d : Reading (own t)) → words (lift (own t) sums d) ≡ fit 2 t (words d)
fits_sums (two Add a b) d = refl
fits_sums t d = refl

-- brackets where a right term or a left factor needs them
fits_terms : (t : Tree) (d : Reading (own t)) → words (lift (own t) terms d) ≡ fit 3 t (words d)
fits_terms (two Add a b) d = refl
fits_terms t d = refl

-- brackets where a right factor or a signed operand needs them
fits_factor : (t : Tree) (d : Reading (own t)) → words (lift (own t) factor d) ≡ fit 4 t (words d)
fits_factor (two Add a b) d = refl
fits_factor t d = refl

-- the tokens of an operation
joined_words : (op : Op) (a b : Tree) (x : Reading (own a)) (y : Reading (own b))
    → words (join op (own a) (own b) x y) ≡ joined op a (words x) b (words y)
joined_words Add a b x y =
    ap (λ l. l ++ Summing Plus ∷ words (lift (own b) terms y)) (fits_sums a x)
    ∙ ap (λ l. fit 2 a (words x) ++ Summing Plus ∷ l) (fits_terms b y)
joined_words Sub a b x y =
    ap (λ l. l ++ Summing Minus ∷ words (lift (own b) terms y)) (fits_sums a x)
    ∙ ap (λ l. fit 2 a (words x) ++ Summing Minus ∷ l) (fits_terms b y)
joined_words Mul a b x y =
    ap (λ l. l ++ Multiplying Times ∷ words (lift (own b) factor y)) (fits_terms a x)
    ∙ ap (λ l. fit 3 a (words x) ++ Multiplying Times ∷ l) (fits_factor b y)
joined_words Div a b x y =
    ap (λ l. l ++ Multiplying Over ∷ words (lift (own b) factor y)) (fits_terms a x)
    ∙ ap (λ l. fit 3 a (words x) ++ Multiplying Over ∷ l) (fits_factor b y)
joined_words Rem a b x y =
    ap (λ l. l ++ Multiplying Modulo ∷ words (lift (own b) factor y)) (fits_terms a x)
    ∙ ap (λ l. fit 3 a (words x) ++ Multiplying Modulo ∷ l) (fits_factor b y)
joined_words Min a b x y =
    ap (λ l. Picking Least ∷ Open ∷ l
    ++ Comma ∷ (words (lift (own b) formula y) ++ Close ∷ [])) (fits_formula (own a) x)
    ∙ ap (λ l. Picking Least ∷ Open ∷ words x ++ Comma ∷ (l ++ Close ∷ [])) (fits_formula (own b) y)
joined_words Max a b x y =
    ap (λ l. Picking Greatest ∷ Open ∷ l
    ++ Comma ∷ (words (lift (own b) formula y) ++ Close ∷ [])) (fits_formula (own a) x)
    ∙ ap (λ l. Picking Greatest ∷ Open ∷ words x ++ Comma ∷ (l ++ Close ∷ [])) (fits_formula (own b) y)

-- the tokens of the derivation are the canonical ones
pub direct_words : (t : Tree) → words (direct t) ≡ canonical t
direct_words (num n) = refl
direct_words (window m tag) = refl
direct_words (calc name) = refl
direct_words (neg a) = ap (λ l. Summing Minus ∷ l) (fits_factor a (direct a) ∙ ap (fit 4 a) (direct_words a))
direct_words (abs a) = ap (λ l. Absolute ∷ Open ∷ l ++ Close ∷ []) (fits_formula (own a) (direct a)
    ∙ direct_words a)
direct_words (two op a b) =
    joined_words op a b (direct a) (direct b)
    ∙ ap (λ l. joined op a l b (words (direct b))) (direct_words a)
    ∙ ap (λ l. joined op a (canonical a) b l) (direct_words b)
direct_words (compare cmp a b) =
    ap (λ l. l ++ Comparing cmp ∷ words (lift (own b) sums (direct b))) (fits_sums a (direct a)
    ∙ ap (fit 2 a) (direct_words a))
    ∙ ap (λ l. fit 2 a (canonical a) ++ Comparing cmp ∷ l) (fits_sums b (direct b)
    ∙ ap (fit 2 b) (direct_words b))
direct_words (choose c a b) =
    ap (λ l. Choice ∷ Open ∷ l ++ Comma ∷ (words (lift (own a) formula (direct a))
    ++ Comma ∷ (words (lift (own b) formula (direct b)) ++ Close ∷ [])))
    (fits_formula (own c) (direct c) ∙ direct_words c)
    ∙ ap (λ l. Choice ∷ Open ∷ canonical c
    ++ Comma ∷ (l ++ Comma ∷ (words (lift (own b) formula (direct b)) ++ Close ∷ [])))
    (fits_formula (own a) (direct a) ∙ direct_words a)
    ∙ ap (λ l. Choice ∷ Open ∷ canonical c ++ Comma ∷ (canonical a ++ Comma ∷ (l ++ Close ∷ [])))
    (fits_formula (own b) (direct b) ∙ direct_words b)

-- its tree

-- brackets leave no mark
lift_tree : (have need : Level) (d : Reading have) → tree (lift have need d) ≡ tree d
lift_tree formula formula d = refl
lift_tree formula sums d = refl
lift_tree formula terms d = refl
lift_tree formula factor d = refl
lift_tree sums formula d = refl
lift_tree sums sums d = refl
lift_tree sums terms d = refl
lift_tree sums factor d = refl
lift_tree terms formula d = refl
lift_tree terms sums d = refl
lift_tree terms terms d = refl
lift_tree terms factor d = refl
lift_tree factor formula d = refl
lift_tree factor sums d = refl
lift_tree factor terms d = refl
lift_tree factor factor d = refl

-- the tree of an operation
join_tree : (op : Op) (left right : Level) (x : Reading left) (y : Reading right)
    → tree (join op left right x y) ≡ two op (tree x) (tree y)
join_tree Add left right x y =
    ap (λ t. two Add t (tree (lift right terms y))) (lift_tree left sums x)
    ∙ ap (λ t. two Add (tree x) t) (lift_tree right terms y)
join_tree Sub left right x y =
    ap (λ t. two Sub t (tree (lift right terms y))) (lift_tree left sums x)
    ∙ ap (λ t. two Sub (tree x) t) (lift_tree right terms y)
join_tree Mul left right x y =
    ap (λ t. two Mul t (tree (lift right factor y))) (lift_tree left terms x)
    ∙ ap (λ t. two Mul (tree x) t) (lift_tree right factor y)
join_tree Div left right x y =
    ap (λ t. two Div t (tree (lift right factor y))) (lift_tree left terms x)
    ∙ ap (λ t. two Div (tree x) t) (lift_tree right factor y)
join_tree Rem left right x y =
    ap (λ t. two Rem t (tree (lift right factor y))) (lift_tree left terms x)
    ∙ ap (λ t. two Rem (tree x) t) (lift_tree right factor y)
join_tree Min left right x y =
    ap (λ t. two Min t (tree (lift right formula y))) (lift_tree left formula x)
    ∙ ap (λ t. two Min (tree x) t) (lift_tree right formula y)
join_tree Max left right x y =
    ap (λ t. two Max t (tree (lift right formula y))) (lift_tree left formula x)
    ∙ ap (λ t. two Max (tree x) t) (lift_tree right formula y)

-- the tree of the derivation is the tree
pub direct_tree : (t : Tree) → tree (direct t) ≡ t
direct_tree (num n) = refl
direct_tree (window m tag) = refl
direct_tree (calc name) = refl
direct_tree (neg a) = ap neg (lift_tree (own a) factor (direct a) ∙ direct_tree a)
direct_tree (abs a) = ap abs (lift_tree (own a) formula (direct a) ∙ direct_tree a)
direct_tree (two op a b) =
    join_tree op (own a) (own b) (direct a) (direct b)
    ∙ ap (λ t. two op t (tree (direct b))) (direct_tree a) ∙ ap (λ t. two op a t) (direct_tree b)
direct_tree (compare cmp a b) =
    ap (λ t. compare cmp t (tree (lift (own b) sums (direct b)))) (lift_tree (own a) sums (direct a)
    ∙ direct_tree a)
    ∙ ap (λ t. compare cmp a t) (lift_tree (own b) sums (direct b) ∙ direct_tree b)
direct_tree (choose c a b) =
    ap (λ t. choose t (tree (lift (own a) formula (direct a))) (tree (lift (own b) formula (direct b))))
    (lift_tree (own c) formula (direct c) ∙ direct_tree c)
    ∙ ap (λ t. choose c t (tree (lift (own b) formula (direct b)))) (lift_tree (own a) formula (direct a)
    ∙ direct_tree a)
    ∙ ap (λ t. choose c a t) (lift_tree (own b) formula (direct b) ∙ direct_tree b)

-- the derivation of a tree as a formula
abbrev pub whole_direct : (t : Tree) → Reading formula
whole_direct t = lift (own t) formula (direct t)

-- its tokens are the canonical ones
pub whole_words : (t : Tree) → words (whole_direct t) ≡ canonical t
whole_words t = fits_formula (own t) (direct t) ∙ direct_words t

-- its tree is the tree
pub whole_tree : (t : Tree) → tree (whole_direct t) ≡ t
whole_tree t = lift_tree (own t) formula (direct t) ∙ direct_tree t
