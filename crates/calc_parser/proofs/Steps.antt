-- What a reader of tokens keeps, and how its parts join.
use Rattle.std.proofs.Common.{arith, ◌≡◌, ℕ, Bool, true, false, ℤ, List, [], ◌∷◌, ◌++◌, length, drop, refl, sym, ap, ◌∙◌, append_assoc}
use Rattle.std.specs.Bool.{◌==◌}
use Rattle.trend_num.specs.{Measure}
use Rattle.calc_parser.specs.{Cmp, Sum, Product, Pick, Token, Level, formula, sums, terms, factor, plain, compared, one_term, more_terms, one_factor, more_factors, negated, numeral, grouped, measured, calculated, absolute, picked, chosen}
use Rattle.calc_parser.specs.{words, sum_op, product_op, pick_op, head, Stack, operand, more, scan, refused, SpellsTokens, SpellsFirst, SpellsNext, SpellsAfter, EndsTerms, EndsSums}
use Rattle.calc_parser.specs.declared.token.Sum.TheVariants.{Minus}
use Rattle.calc_parser.specs.declared.token.Token.TheVariants.{Number, Quoted, Measuring, Calculation, Absolute, Picking, Choice, Open, Close, Comma, Summing, Multiplying, Comparing, End}
use Rattle.calc_parser.specs.Tree.{Tree, num, window, calc, neg, abs, two, compare, choose}

-- the tokens before the rest spell a sum or a term, and may occur where an operand is expected
pub record IsReadSoFar (level : Level) (n : ℕ) (tokens rest : List Token) (t : Tree) : Type 0 where
  pub spells : SpellsTokens level tokens rest t
  pub follows : (k : Stack) (c : Bool) → scan (operand n ∷ more n c ∷ k) tokens ≡ scan (more n c ∷ k) rest

-- the next token is passed over
pub passed : (ts t1 : List Token) (t : Token) → t ≡ head ts → (t ≡ End → ⊥) → t1 ≡ drop 1 ts → ts ≡ t ∷ t1
passed [] t1 t e differs d = absurd (differs e)
passed (x ∷ ts) t1 t e differs d = ap (λ y. y ∷ ts) (sym e) ∙ ap (λ l. t ∷ l) (sym d)

-- an operand of each form

-- a number
pub spells_number : {ts rest : List Token} {n : ℤ} {t : Tree} → ts ≡ Number n ∷ rest → t ≡ num n
    → SpellsTokens factor ts rest t
spells_number e same = record { reading = numeral _; cut = e; tree_is = sym same }

-- a formula in brackets
pub spells_group : {ts rest : List Token} {t : Tree} → SpellsFirst ts (Close ∷ rest) t
    → SpellsTokens factor ts rest t
spells_group {rest = rest} s = record {
  reading = grouped s.reading;
  cut = s.cut ∙ ap (λ l. Open ∷ l) (sym (append_assoc (words s.reading) (Close ∷ []) rest));
  tree_is = s.tree_is;
}

-- a measure of a tag
pub spells_measure : {ts t1 rest : List Token} {m : Measure} {tag : List ℕ} → ts ≡ Measuring m ∷ t1
    → t1 ≡ Open ∷ Quoted tag ∷ Close ∷ rest
    → SpellsTokens factor ts rest (window m tag)
spells_measure {m = m} e f = record {
  reading = measured m _;
  cut = grind arith;
  tree_is = refl;
}

-- an earlier calculation
pub spells_calculation : {ts t1 rest : List Token} {name : List ℕ} → ts ≡ Calculation ∷ t1
    → t1 ≡ Open ∷ Quoted name ∷ Close ∷ rest
    → SpellsTokens factor ts rest (calc name)
spells_calculation e f = record {
  reading = calculated _;
  cut = grind arith;
  tree_is = refl;
}

-- a size
pub spells_absolute : {ts t1 rest : List Token} {a t : Tree} → ts ≡ Absolute ∷ t1
    → SpellsFirst t1 (Close ∷ rest) a → t ≡ abs a
    → SpellsTokens factor ts rest t
spells_absolute {rest = rest} e s same = record {
  reading = absolute s.reading;
  cut = grind (arith, append_assoc);
  tree_is = cc;
}

-- an operand after a sign
pub spells_negated : {ts t1 rest : List Token} {a t : Tree} → ts ≡ Summing Minus ∷ t1
    → SpellsTokens factor t1 rest a → t ≡ neg a
    → SpellsTokens factor ts rest t
spells_negated e s same = record {
  reading = negated s.reading;
  cut = e ∙ ap (λ l. Summing Minus ∷ l) s.cut;
  tree_is = cc;
}

-- one of two
pub spells_picked : {t0 t1 t2 rest : List Token} {pick : Pick} {a b t : Tree} → SpellsFirst t0 t1 a
    → SpellsNext t1 t2 b → t2 ≡ Close ∷ rest
    → t ≡ two (pick_op pick) a b → SpellsAfter (Picking pick) t0 rest t
spells_picked {t0} {rest = rest} {pick = pick} f g e same =
    let all : t0 ≡ Open ∷ (words f.reading ++ Comma ∷ (words g.reading ++ Close ∷ rest)) =
    f.cut ∙ ap (λ l. Open ∷ (words f.reading ++ l)) (g.cut ∙ ap (λ l. Comma ∷ (words g.reading ++ l)) e) in
    record {
      reading = picked pick f.reading g.reading;
      cut = ap (λ l. Picking pick ∷ l) all ∙ sym (simp append_assoc);
      tree_is = cc;
    }

-- a choice
pub spells_chosen : {t0 t1 t2 t3 rest : List Token} {c a b t : Tree} → SpellsFirst t0 t1 c
    → SpellsNext t1 t2 a → SpellsNext t2 t3 b
    → t3 ≡ Close ∷ rest → t ≡ choose c a b → SpellsAfter Choice t0 rest t
spells_chosen {t0} {rest = rest} f g h e same =
    let all : t0 ≡ Open ∷ (words f.reading
    ++ Comma ∷ (words g.reading ++ Comma ∷ (words h.reading ++ Close ∷ rest))) =
    f.cut ∙ ap (λ l. Open ∷ (words f.reading ++ l)) (grind arith) in
    record {
      reading = chosen f.reading g.reading h.reading;
      cut = ap (λ l. Choice ∷ l) all ∙ sym (simp append_assoc);
      tree_is = cc;
    }

-- larger formulas

-- a comparison
pub spells_compared : {ts t1 t2 rest : List Token} {cmp : Cmp} {a b t : Tree} → SpellsTokens sums ts t1 a
    → t1 ≡ Comparing cmp ∷ t2
    → SpellsTokens sums t2 rest b → t ≡ compare cmp a b → SpellsTokens formula ts rest t
spells_compared {rest = rest} {cmp = cmp} f e g same = record {
  reading = compared f.reading cmp g.reading;
  cut = grind (arith, append_assoc);
  tree_is = cc;
}

-- a sum alone
pub spells_plain : {ts rest : List Token} {t : Tree} → SpellsTokens sums ts rest t → SpellsTokens formula ts rest t
spells_plain s = record { reading = plain s.reading; cut = s.cut; tree_is = s.tree_is }

-- a first term, and one more after a sign
pub first_term : {n : ℕ} {ts rest : List Token} {t : Tree} → SpellsTokens terms ts rest t
    → ((k : Stack) (c : Bool) → scan (operand n ∷ more n c ∷ k) ts ≡ scan (more n c ∷ k) rest)
    → IsReadSoFar sums n ts rest t
first_term s follows = record {
  spells = record { reading = one_term s.reading; cut = s.cut; tree_is = s.tree_is };
  follows = follows;
}

-- one more term
pub next_term : {n : ℕ} {ts t1 t2 rest : List Token} {sign : Sum} {a b t : Tree} → IsReadSoFar sums n ts t1 a
    → t1 ≡ Summing sign ∷ t2
    → SpellsTokens terms t2 rest b → ((k : Stack) (c : Bool)
    → scan (operand n ∷ more n c ∷ k) t2 ≡ scan (more n c ∷ k) rest)
    → t ≡ two (sum_op sign) a b → IsReadSoFar sums n ts rest t
next_term {n} {rest = rest} {sign = sign} f e g follows same = record {
  spells = record {
    reading = more_terms f.spells.reading sign g.reading;
    cut = grind (arith, append_assoc);
    tree_is = cc;
  };
  follows = λ k c. f.follows k c ∙ ap (λ l. scan (more n c ∷ k) l) e ∙ follows k c;
}

-- a first factor, and one more after a sign
pub first_factor : {n : ℕ} {ts rest : List Token} {t : Tree} → SpellsTokens factor ts rest t
    → ((k : Stack) → scan (operand n ∷ k) ts ≡ scan k rest) → IsReadSoFar terms n ts rest t
first_factor {n} s follows = record {
  spells = record { reading = one_factor s.reading; cut = s.cut; tree_is = s.tree_is };
  follows = λ k c. follows (more n c ∷ k);
}

-- one more factor
pub next_factor : {n : ℕ} {ts t1 t2 rest : List Token} {sign : Product} {a b t : Tree}
    → IsReadSoFar terms n ts t1 a
    → t1 ≡ Multiplying sign ∷ t2 → SpellsTokens factor t2 rest b
    → ((k : Stack) → scan (operand n ∷ k) t2 ≡ scan k rest)
    → t ≡ two (product_op sign) a b → IsReadSoFar terms n ts rest t
next_factor {n} {rest = rest} {sign = sign} f e g follows same = record {
  spells = record {
    reading = more_factors f.spells.reading sign g.reading;
    cut = grind (arith, append_assoc);
    tree_is = cc;
  };
  follows = λ k c. f.follows k c ∙ ap (λ l. scan (more n c ∷ k) l) e ∙ follows (more n c ∷ k);
}

-- where no sign comes next, what may come after the formula decides
pub formula_ends : (n : ℕ) (k : Stack) (ts : List Token) → EndsSums ts
    → ((cmp : Cmp) → head ts ≡ Comparing cmp → ⊥)
    → scan (more n true ∷ k) ts ≡ scan k ts
formula_ends n k [] ends differs = refl
formula_ends n k (Multiplying sign ∷ ts) ends differs = absurd ends
formula_ends n k (Summing sign ∷ ts) ends differs = absurd ends
formula_ends n k (Comparing cmp ∷ ts) ends differs = absurd (differs cmp refl)
formula_ends n k (token ∷ ts) ends differs = refl

-- where no sign of sums comes next a sum is whole
pub sum_ends : (ts : List Token) → EndsTerms ts → ((sign : Sum) → head ts ≡ Summing sign → ⊥) → EndsSums ts
sum_ends [] ends differs = tt
sum_ends (Multiplying sign ∷ ts) ends differs = absurd ends
sum_ends (Summing sign ∷ ts) ends differs = absurd (differs sign refl)
sum_ends (token ∷ ts) ends differs = tt

-- tokens that are left after a formula may not occur there
pub left_over : (ts : List Token) → (length ts == 0) ≡ false → scan [] ts ≡ refused ts
left_over [] differs = cc
left_over (token ∷ ts) differs = refl
