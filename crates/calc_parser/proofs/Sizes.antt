-- The canonical text of a formula is no deeper and no longer than any other.
use Rattle.std.proofs.Common.{◌≡◌, ℕ, ◌+◌, ◌≤◌, max, List, [], ◌∷◌, ◌++◌, length, All, refl, ap, ◌∙◌, arith, length-append}
use Rattle.std.proofs.lemmas.Grind.{flat_map-append}
use Rattle.std.proofs.lemmas.List.Elements.{All-from_recursion, recursion_from_All}
use Rattle.std.specs.Fmt.{signed_decimal}
use Rattle.std.specs.List.{AllByRecursion}
use Rattle.calc_parser.specs.declared.token.Sum.TheVariants.{Plus, Minus}
use Rattle.calc_parser.specs.declared.token.Product.TheVariants.{Times, Over, Modulo}
use Rattle.calc_parser.specs.declared.token.Pick.TheVariants.{Least, Greatest}
use Rattle.calc_parser.specs.{Token, spelling, spelled, measure_word, cmp_sign, Level, formula, sums, terms, factor, Reading, plain, compared, one_term, more_terms, one_factor, more_factors, negated, numeral, grouped, measured, calculated}
use Rattle.calc_parser.specs.{absolute, picked, chosen, words, tree, opens}
use Rattle.calc_parser.specs.declared.token.Token.TheVariants.{Quoted, Open, Close, Comma, Summing, Multiplying, Comparing}
use Rattle.calc_parser.specs.Tree.{Tree}
use Rattle.calc_parser.proofs.Directs.{own, lift, direct}

-- how many levels a derivation opens
abbrev pub height : {level : Level} → Reading level → ℕ
height (plain s) = height s
height (compared a cmp b) = max (height a) (height b)
height (one_term t) = height t
height (more_terms s sign t) = max (height s) (height t)
height (one_factor f) = height f
height (more_factors t sign f) = max (height t) (height f)
height (negated f) = 1 + height f
height (numeral n) = 0
height (grouped a) = 1 + height a
height (measured m tag) = 1
height (calculated name) = 1
height (absolute a) = 1 + height a
height (picked pick a b) = 1 + max (height a) (height b)
height (chosen c a b) = 1 + max (height c) (max (height a) (height b))

-- how many bytes its tokens are spelled by
abbrev pub weight : {level : Level} → Reading level → ℕ
weight (plain s) = weight s
weight (compared a cmp b) = weight a + (length (cmp_sign cmp) + weight b)
weight (one_term t) = weight t
weight (more_terms s sign t) = weight s + (1 + weight t)
weight (one_factor f) = weight f
weight (more_factors t sign f) = weight t + (1 + weight f)
weight (negated f) = 1 + weight f
weight (numeral n) = length (signed_decimal n)
weight (grouped a) = 2 + weight a
weight (measured m tag) = length (measure_word m) + (4 + length tag)
weight (calculated name) = 8 + length name
weight (absolute a) = 5 + weight a
weight (picked pick a b) = 6 + (weight a + weight b)
weight (chosen c a b) = 6 + (weight c + (weight a + weight b))

-- a derivation is no deeper and no longer than another
pub record IsSmaller {level other : Level} (d : Reading level) (e : Reading other) : Type 0 where
  pub height_le : height d ≤ height e
  pub weight_le : weight d ≤ weight e

-- a tighter level needs as many brackets or more
looser_sums : (have : Level) (d : Reading have) → IsSmaller (lift have formula d) (lift have sums d)
looser_sums formula d = record { height_le = omega arith; weight_le = omega arith }
looser_sums sums d = record { height_le = omega arith; weight_le = omega arith }
looser_sums terms d = record { height_le = omega arith; weight_le = omega arith }
looser_sums factor d = record { height_le = omega arith; weight_le = omega arith }

-- the same between sums and terms
looser_terms : (have : Level) (d : Reading have) → IsSmaller (lift have sums d) (lift have terms d)
looser_terms formula d = record { height_le = omega arith; weight_le = omega arith }
looser_terms sums d = record { height_le = omega arith; weight_le = omega arith }
looser_terms terms d = record { height_le = omega arith; weight_le = omega arith }
looser_terms factor d = record { height_le = omega arith; weight_le = omega arith }

-- the same between terms and factors
looser_factor : (have : Level) (d : Reading have) → IsSmaller (lift have terms d) (lift have factor d)
looser_factor formula d = record { height_le = omega arith; weight_le = omega arith }
looser_factor sums d = record { height_le = omega arith; weight_le = omega arith }
looser_factor terms d = record { height_le = omega arith; weight_le = omega arith }
looser_factor factor d = record { height_le = omega arith; weight_le = omega arith }

-- brackets of one's own are enough
in_brackets : (have : Level) (d : Reading have)
    → IsSmaller (lift have factor d) (grouped (lift have formula d))
in_brackets formula d = record { height_le = omega arith; weight_le = omega arith }
in_brackets sums d = record { height_le = omega arith; weight_le = omega arith }
in_brackets terms d = record { height_le = omega arith; weight_le = omega arith }
in_brackets factor d = record { height_le = omega arith; weight_le = omega arith }

-- the tree's own derivation, at a level
abbrev pub best : (level : Level) → Tree → Reading level
best level t = lift (own t) level (direct t)

-- smaller than what is smaller, also where a level lies between
smaller_again : {a b c e : Level} {x : Reading a} {y : Reading b} {z : Reading c} {w : Reading e} → IsSmaller x y → IsSmaller y z
    → height z ≡ height w → weight z ≡ weight w → IsSmaller x w
smaller_again first second deep long = grind arith

-- the tree's own derivation is no deeper and no longer
pub smaller : {level : Level} (d : Reading level) → IsSmaller (best level (tree d)) d
smaller (plain s) = smaller_again (looser_sums (own (tree s)) (direct (tree s))) (smaller s) refl refl
smaller (one_term t) = smaller_again (looser_terms (own (tree t)) (direct (tree t))) (smaller t) refl refl
smaller (one_factor f) = smaller_again (looser_factor (own (tree f)) (direct (tree f))) (smaller f) refl refl
smaller (grouped d) =
    let a = smaller d in let l = in_brackets (own (tree d)) (direct (tree d)) in
    record {
      height_le = omega (arith, a.height_le, l.height_le);
      weight_le = omega (
        arith,
        a.weight_le,
        l.weight_le,
      );
    }
smaller (compared x cmp y) = let a = smaller x in let b = smaller y in
    record {
      height_le = omega (arith, a.height_le, b.height_le);
      weight_le = omega (
        arith,
        a.weight_le,
        b.weight_le,
      );
    }
smaller (more_terms x Plus y) = let a = smaller x in let b = smaller y in
    record {
      height_le = omega (arith, a.height_le, b.height_le);
      weight_le = omega (
        arith,
        a.weight_le,
        b.weight_le,
      );
    }
smaller (more_terms x Minus y) = let a = smaller x in let b = smaller y in
    record {
      height_le = omega (arith, a.height_le, b.height_le);
      weight_le = omega (
        arith,
        a.weight_le,
        b.weight_le,
      );
    }
smaller (more_factors x Times y) = let a = smaller x in let b = smaller y in
    record {
      height_le = omega (arith, a.height_le, b.height_le);
      weight_le = omega (
        arith,
        a.weight_le,
        b.weight_le,
      );
    }
smaller (more_factors x Over y) = let a = smaller x in let b = smaller y in
    record {
      height_le = omega (arith, a.height_le, b.height_le);
      weight_le = omega (
        arith,
        a.weight_le,
        b.weight_le,
      );
    }
smaller (more_factors x Modulo y) = let a = smaller x in let b = smaller y in
    record {
      height_le = omega (arith, a.height_le, b.height_le);
      weight_le = omega (
        arith,
        a.weight_le,
        b.weight_le,
      );
    }
smaller (picked Least x y) = let a = smaller x in let b = smaller y in
    record {
      height_le = omega (arith, a.height_le, b.height_le);
      weight_le = omega (
        arith,
        a.weight_le,
        b.weight_le,
      );
    }
smaller (picked Greatest x y) = let a = smaller x in let b = smaller y in
    record {
      height_le = omega (arith, a.height_le, b.height_le);
      weight_le = omega (
        arith,
        a.weight_le,
        b.weight_le,
      );
    }
smaller (chosen z x y) = let c = smaller z in let a = smaller x in let b = smaller y in
    record {
      height_le = omega (arith, c.height_le, a.height_le, b.height_le);
      weight_le = omega (arith, c.weight_le, a.weight_le, b.weight_le);
    }
smaller (negated f) = let a = smaller f in
    record { height_le = omega (arith, a.height_le); weight_le = omega (arith, a.weight_le) }
smaller (absolute f) = let a = smaller f in
    record { height_le = omega (arith, a.height_le); weight_le = omega (arith, a.weight_le) }
smaller (numeral n) = record { height_le = omega arith; weight_le = omega arith }
smaller (measured m tag) = record { height_le = omega arith; weight_le = omega arith }
smaller (calculated name) = record { height_le = omega arith; weight_le = omega arith }

-- the levels that a derivation opens

-- the highest of some levels
abbrev pub highest : List ℕ → ℕ
highest [] = 0
highest (x ∷ xs) = max x (highest xs)

-- the highest of two parts
highest-append : (xs ys : List ℕ) → highest (xs ++ ys) ≡ max (highest xs) (highest ys)
highest-append [] ys = omega arith
highest-append (x ∷ xs) ys = omega (arith, highest-append xs ys)

-- the highest of two derivations next to each other
opened_beside : {K L : Level} (a : Reading K) (b : Reading L) (n : ℕ) → max n (highest (opens n a)) ≡ n + height a
    → max n (highest (opens n b)) ≡ n + height b
    → max n (highest (opens n a ++ 0 ∷ opens n b)) ≡ n + max (height a) (height b)
opened_beside a b n first second = omega (arith, highest-append (opens n a) (0 ∷ opens n b), first, second)

-- the highest of them, where `n` are open before it
opened : {level : Level} (d : Reading level) (n : ℕ) → max n (highest (opens n d)) ≡ n + height d
opened (plain s) n = opened s n
opened (compared a cmp b) n = opened_beside a b n (opened a n) (opened b n)
opened (one_term t) n = opened t n
opened (more_terms a sign b) n = opened_beside a b n (opened a n) (opened b n)
opened (one_factor f) n = opened f n
opened (more_factors a sign b) n = opened_beside a b n (opened a n) (opened b n)
opened (negated f) n = omega (arith, opened f (n + 1))
opened (numeral m) n = omega arith
opened (grouped a) n = omega (arith, highest-append (opens (n + 1) a) (0 ∷ []), opened a (n + 1))
opened (measured m tag) n = omega arith
opened (calculated name) n = omega arith
opened (absolute a) n = omega (arith, highest-append (opens (n + 1) a) (0 ∷ []), opened a (n + 1))
opened (picked pick a b) n =
    omega (
      arith,
      highest-append (opens (n + 1) a) (0 ∷ (opens (n + 1) b
          ++ 0 ∷ [])),
      highest-append (opens (n + 1) b) (0 ∷ []),
      opened a (n + 1),
      opened b (n + 1),
    )
opened (chosen c a b) n =
    omega (
      arith,
      highest-append (opens (n + 1) c) (0 ∷ (opens (n + 1) a ++ 0 ∷ (opens (n + 1) b ++ 0 ∷ []))),
      highest-append (opens (n + 1) a) (0 ∷ (opens (n + 1) b
          ++ 0 ∷ [])),
      highest-append (opens (n + 1) b) (0 ∷ []),
      opened c (n + 1),
      opened a (n + 1),
      opened b (n + 1),
    )

-- levels that are all low have a low highest
low_highest : (most : ℕ) (xs : List ℕ) → AllByRecursion (λ level. level ≤ most) xs → highest xs ≤ most
low_highest most [] low = omega arith
low_highest most (x ∷ xs) low = omega (arith, low.0, low_highest most xs low.1)

-- levels with a low highest are all low
highest_low : (most : ℕ) (xs : List ℕ) → highest xs ≤ most → AllByRecursion (λ level. level ≤ most) xs
highest_low most [] low = tt
highest_low most (x ∷ xs) low = (omega arith, highest_low most xs (omega arith))

-- the canonical text is as shallow
pub shallow_best : (most : ℕ) (d : Reading formula) → All (λ level. level ≤ most) (opens 0 d)
    → All (λ level. level ≤ most) (opens 0 (best formula (tree d)))
shallow_best most d low =
    let h : highest (opens 0 d) ≤ most = grind (arith, low_highest, recursion_from_All) in
    let s = smaller d in
    All-from_recursion (λ level. level ≤ most) (opens 0 (best formula (tree d)))
    (highest_low most (opens 0 (best formula (tree d))) (omega (
      arith,
      opened d 0,
      opened (best formula (tree d)) 0,
      s.height_le,
    )))

-- how long its tokens are

-- the bytes of two parts
pub spelled_length : (xs ys : List Token)
    → length (spelled (xs ++ ys)) ≡ length (spelled xs) + length (spelled ys)
spelled_length xs ys = ap length (flat_map-append spelling xs ys) ∙ length-append (spelled xs) (spelled ys)

-- two formulas and what is after them
two_weigh : (a b : Reading formula) → length (spelled (words a)) ≡ weight a → length (spelled (words b)) ≡ weight b
    → length (spelled (words a ++ Comma ∷ (words b ++ Close ∷ []))) ≡ weight a + weight b + 2
two_weigh a b first second = grind (arith, spelled_length)

-- the weight is the number of bytes
weighs : {level : Level} (d : Reading level) → length (spelled (words d)) ≡ weight d
weighs (plain s) = weighs s
weighs (compared a cmp b) =
    omega (
      arith,
      spelled_length (words a) (Comparing cmp ∷ words b),
      length-append (cmp_sign cmp) (spelled (words b)),
      weighs a,
      weighs b,
    )
weighs (one_term t) = weighs t
weighs (more_terms a Plus b) = omega (
  arith,
  spelled_length (words a) (Summing Plus ∷ words b),
  weighs a,
  weighs b,
)
weighs (more_terms a Minus b) = omega (
  arith,
  spelled_length (words a) (Summing Minus ∷ words b),
  weighs a,
  weighs b,
)
weighs (one_factor f) = weighs f
weighs (more_factors a Times b) = omega (
  arith,
  spelled_length (words a) (Multiplying Times ∷ words b),
  weighs a,
  weighs b,
)
weighs (more_factors a Over b) = omega (
  arith,
  spelled_length (words a) (Multiplying Over ∷ words b),
  weighs a,
  weighs b,
)
weighs (more_factors a Modulo b) = omega (
  arith,
  spelled_length (words a) (Multiplying Modulo ∷ words b),
  weighs a,
  weighs b,
)
weighs (negated f) = omega (arith, weighs f)
weighs (numeral n) = omega (arith, length-append (signed_decimal n) [])
weighs (grouped a) = omega (arith, spelled_length (words a) (Close ∷ []), weighs a)
weighs (measured m tag) =
    omega (
      arith,
      length-append (measure_word m) (spelled (Open ∷ Quoted tag ∷ Close ∷ [])),
      length-append (tag ++ 39 ∷ []) (41 ∷ []),
      length-append tag (39 ∷ []),
    )
weighs (calculated tag) = omega (arith, length-append (tag ++ 39 ∷ []) (41 ∷ []), length-append tag (39 ∷ []))
weighs (absolute a) = omega (arith, spelled_length (words a) (Close ∷ []), weighs a)
weighs (picked Least a b) = omega (arith, two_weigh a b (weighs a) (weighs b))
weighs (picked Greatest a b) = omega (arith, two_weigh a b (weighs a) (weighs b))
weighs (chosen c a b) =
    omega (
      arith,
      spelled_length (words c) (Comma ∷ (words a ++ Comma ∷ (words b ++ Close ∷ []))),
      two_weigh a b (weighs a) (weighs b),
      weighs c,
    )

-- the canonical text is as short
pub short_best : (d : Reading formula)
    → length (spelled (words (best formula (tree d)))) ≤ length (spelled (words d))
short_best d = let s = smaller d in omega (arith, weighs d, weighs (best formula (tree d)), s.weight_le)
