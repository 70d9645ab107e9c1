-- What may occur can be completed: tokens that lead somewhere begin some formula.
use Rattle.std.proofs.Common.{arith, ◌≡◌, ℕ, ◌+◌, true, false, pos, List, [], ◌∷◌, ◌++◌, None, Some, refl, sym, ap, ◌∙◌, subst, append_assoc}
use Rattle.std.proofs.lemmas.List.{append-nil}
use Rattle.calc_parser.specs.{Sum, Product, Token, Begins, formula, sums, factor, Reading, plain, compared, one_term, more_terms, one_factor, more_factors, negated, numeral, grouped, measured, calculated, absolute, picked, chosen, words}
use Rattle.calc_parser.specs.{Stack, Next, operand, more, bracket, name, comma, close, whole, step}
use Rattle.calc_parser.specs.declared.token.Sum.TheVariants.{Plus, Minus}
use Rattle.calc_parser.specs.declared.token.Token.TheVariants.{Number, Quoted, Measuring, Calculation, Absolute, Picking, Choice, Open, Close, Comma, Summing, Multiplying, Comparing}
use Rattle.calc_parser.proofs.Walks.{Walked, prepend, onward, walk}

-- these tokens are what may come, and where a formula may continue, a formula with what was read of it
abbrev Fills : Stack → List Token → Type 0
Fills [] ts = ts ≡ []
Fills (operand n ∷ k) ts = (d : Reading factor) × (rest : List Token) × (ts ≡ words d ++ rest) × Fills k rest
Fills (more n true ∷ k) ts = (s : Reading sums)
    → (d : Reading formula) × (rest : List Token) × (words s ++ ts ≡ words d ++ rest) × Fills k rest
Fills (more n false ∷ k) ts = (s : Reading sums)
    → (d : Reading sums) × (rest : List Token) × (words s ++ ts ≡ words d ++ rest) × Fills k rest
Fills (bracket n ∷ k) ts = (rest : List Token) × (ts ≡ Open ∷ rest) × Fills k rest
Fills (name ∷ k) ts = (bytes : List ℕ) × (rest : List Token) × (ts ≡ Quoted bytes ∷ rest) × Fills k rest
Fills (comma ∷ k) ts = (rest : List Token) × (ts ≡ Comma ∷ rest) × Fills k rest
Fills (close ∷ k) ts = (rest : List Token) × (ts ≡ Close ∷ rest) × Fills k rest

-- the fewest tokens that may come
filler : Stack → List Token
filler [] = []
filler (operand n ∷ k) = Number (pos 1) ∷ filler k
filler (more n c ∷ k) = filler k
filler (bracket n ∷ k) = Open ∷ filler k
filler (name ∷ k) = Quoted (97 ∷ []) ∷ filler k
filler (comma ∷ k) = Comma ∷ filler k
filler (close ∷ k) = Close ∷ filler k

-- the fewest tokens may come
filled : (k : Stack) → Fills k (filler k)
unfolding filler
filled [] = refl
filled (operand n ∷ k) = (numeral (pos 1), filler k, refl, filled k)
filled (more n true ∷ k) = λ s. (plain s, filler k, refl, filled k)
filled (more n false ∷ k) = λ s. (s, filler k, refl, filled k)
filled (bracket n ∷ k) = (filler k, refl, filled k)
filled (name ∷ k) = (97 ∷ [], filler k, refl, filled k)
filled (comma ∷ k) = (filler k, refl, filled k)
filled (close ∷ k) = (filler k, refl, filled k)

-- a whole formula, and the rest
record HasFormula (k : Stack) (ts : List Token) : Type 0 where
  reading : Reading formula
  rest : List Token
  cut : ts ≡ words reading ++ rest
  fills : Fills k rest

-- what may come for a formula is one, and the rest
formula_in : (n : ℕ) (k : Stack) (ts : List Token) → Fills (whole n k) ts → HasFormula k ts
formula_in n k ts f =
    let g = f.3 (one_term (one_factor f.0)) in
    record { reading = g.0; rest = g.1; cut = f.2 ∙ g.2; fills = g.3 }

-- a formula, and the token after it
up_to : (a : Reading formula) (t : Token) (ts rest last : List Token) → ts ≡ words a ++ rest → rest ≡ t ∷ last
    → ts ≡ words a ++ t ∷ last
up_to a t ts rest last e f = e ∙ ap (λ l. words a ++ l) f

-- a sum with one more factor after its last
extended : Reading sums → Product → Reading factor → Reading sums
extended (one_term t) sign f = one_term (more_factors t sign f)
extended (more_terms s plus t) sign f = more_terms s plus (more_factors t sign f)

-- its tokens
extended_words : (s : Reading sums) (sign : Product) (f : Reading factor)
    → words (extended s sign f) ≡ words s ++ Multiplying sign ∷ words f
unfolding extended
extended_words (one_term t) sign f = refl
extended_words (more_terms s plus t) sign f = sym
    (append_assoc (words s) (Summing plus ∷ words t) (Multiplying sign ∷ words f))

-- the same after one token
abbrev FillsNext : Next → List Token → Type 0
FillsNext None ts = ⊥
FillsNext (Some next) ts = Fills next.1 ts

-- a sum continues with a sign, and with a factor or its last term
summed : (s : Reading sums) (sign : Sum) (d : Reading factor) (ts rest end : List Token) → ts ≡ words d ++ rest
    → words (more_terms s sign (one_factor d)) ++ rest ≡ end → words s ++ Summing sign ∷ ts ≡ end
summed s sign d ts rest end cut is = grind (arith, append_assoc)

multiplied : (s : Reading sums) (sign : Product) (d : Reading factor) (ts rest end : List Token) → ts ≡ words d ++ rest
    → words (extended s sign d) ++ rest ≡ end → words s ++ Multiplying sign ∷ ts ≡ end
multiplied s sign d ts rest end cut is = grind (arith, append_assoc, extended_words)

-- one token back: a token that may occur, before what may come after it
back : (k : Stack) (t : Token) (ts : List Token) → FillsNext (step k t) ts → Fills k (t ∷ ts)
back [] t ts f = absurd f
back (operand n ∷ k) (Number m) ts f = (numeral m, ts, refl, f)
back (operand n ∷ k) (Summing Plus) ts f = absurd f
back (operand n ∷ k) (Summing Minus) ts f = (negated f.0, f.1, ap (λ l. Summing Minus ∷ l) f.2, f.3)
back (operand n ∷ k) Open ts f =
    let a = formula_in (n + 1) (close ∷ k) ts f in
    let e = a.fills in (
      grouped a.reading,
      e.0,
      ap (λ l. Open ∷ l) (up_to a.reading Close ts a.rest e.0 a.cut e.1
          ∙ sym (append_assoc (words a.reading) (Close ∷ []) e.0)),
      e.2,
    )
back (operand n ∷ k) (Measuring m) ts f =
    let g = f.2 in
    let h = g.3 in (
      measured m g.0,
      h.0,
      ap (λ l. Measuring m ∷ l) (f.1
          ∙ ap (λ l. Open ∷ l) (g.2 ∙ ap (λ l. Quoted g.0 ∷ l) h.1)),
      h.2,
    )
back (operand n ∷ k) Calculation ts f =
    let g = f.2 in
    let h = g.3 in (
      calculated g.0,
      h.0,
      ap (λ l. Calculation ∷ l) (f.1
          ∙ ap (λ l. Open ∷ l) (g.2 ∙ ap (λ l. Quoted g.0 ∷ l) h.1)),
      h.2,
    )
back (operand n ∷ k) Absolute ts f =
    let a = formula_in (n + 1) (close ∷ k) f.0 f.2 in
    let e = a.fills in (
      absolute a.reading,
      e.0,
      ap (λ l. Absolute ∷ l) (f.1 ∙ ap (λ l. Open ∷ l) (up_to a.reading Close f.0 a.rest e.0 a.cut e.1
          ∙ sym (append_assoc (words a.reading) (Close ∷ []) e.0))),
      e.2,
    )
back (operand n ∷ k) (Picking pick) ts f =
    let a = formula_in (n + 1) (comma ∷ whole (n + 1) (close ∷ k)) f.0 f.2 in
    let b = formula_in (n + 1) (close ∷ k) a.fills.0 a.fills.2 in
    let e = b.fills in
    let inner : f.0 ≡ (words a.reading ++ Comma ∷ (words b.reading ++ Close ∷ [])) ++ e.0 =
    up_to a.reading Comma f.0 a.rest a.fills.0 a.cut a.fills.1
    ∙ ap (λ l. words a.reading ++ Comma ∷ l) (up_to b.reading Close a.fills.0 b.rest e.0 b.cut e.1)
    ∙ sym (simp append_assoc) in
    (picked pick a.reading b.reading, e.0, ap (λ l. Picking pick ∷ l) (f.1 ∙ ap (λ l. Open ∷ l) inner), e.2)
back (operand n ∷ k) Choice ts f =
    let c = formula_in (n + 1) (comma ∷ whole (n + 1) (comma ∷ whole (n + 1) (close ∷ k))) f.0 f.2 in
    let a = formula_in (n + 1) (comma ∷ whole (n + 1) (close ∷ k)) c.fills.0 c.fills.2 in
    let b = formula_in (n + 1) (close ∷ k) a.fills.0 a.fills.2 in
    let e = b.fills in
    let inner : f.0 ≡ (words c.reading
    ++ Comma ∷ (words a.reading ++ Comma ∷ (words b.reading ++ Close ∷ []))) ++ e.0 =
    up_to c.reading Comma f.0 c.rest c.fills.0 c.cut c.fills.1
    ∙ ap (λ l. words c.reading ++ Comma ∷ l) (up_to a.reading Comma c.fills.0 a.rest a.fills.0 a.cut a.fills.1
    ∙ ap (λ l. words a.reading ++ Comma ∷ l) (up_to b.reading Close a.fills.0 b.rest e.0 b.cut e.1))
    ∙ sym (simp append_assoc) in
    (chosen c.reading a.reading b.reading, e.0, ap (λ l. Choice ∷ l) (f.1 ∙ ap (λ l. Open ∷ l) inner), e.2)
back (operand n ∷ k) t ts f = absurd f
back (more n true ∷ k) (Summing sign) ts f = λ s.
    let g = f.3 (more_terms s sign (one_factor f.0)) in (g.0, g.1, summed s sign f.0 ts f.1 _ f.2 g.2, g.3)
back (more n true ∷ k) (Multiplying sign) ts f = λ s.
    let g = f.3 (extended s sign f.0) in (g.0, g.1, multiplied s sign f.0 ts f.1 _ f.2 g.2, g.3)
back (more n true ∷ k) (Comparing cmp) ts f = λ s.
    let g = f.3 (one_term (one_factor f.0)) in (
      compared s cmp g.0,
      g.1,
      ap (λ l. words s ++ Comparing cmp ∷ l) (f.2 ∙ g.2)
          ∙ sym (append_assoc (words s) (Comparing cmp ∷ words g.0) g.1),
      g.3,
    )
back (more n true ∷ k) t ts f = λ s. (plain s, t ∷ ts, refl, back k t ts f)
back (more n false ∷ k) (Summing sign) ts f = λ s.
    let g = f.3 (more_terms s sign (one_factor f.0)) in (g.0, g.1, summed s sign f.0 ts f.1 _ f.2 g.2, g.3)
back (more n false ∷ k) (Multiplying sign) ts f = λ s.
    let g = f.3 (extended s sign f.0) in (g.0, g.1, multiplied s sign f.0 ts f.1 _ f.2 g.2, g.3)
back (more n false ∷ k) t ts f = λ s. (s, t ∷ ts, refl, back k t ts f)
back (bracket n ∷ k) Open ts f = (ts, refl, f)
back (bracket n ∷ k) t ts f = absurd f
back (name ∷ k) (Quoted bytes) ts f = (bytes, ts, refl, f)
back (name ∷ k) t ts f = absurd f
back (comma ∷ k) Comma ts f = (ts, refl, f)
back (comma ∷ k) t ts f = absurd f
back (close ∷ k) Close ts f = (ts, refl, f)
back (close ∷ k) t ts f = absurd f

-- the same after a walk
abbrev FillsWalked : Walked → List Token → Type 0
FillsWalked None ts = ⊥
FillsWalked (Some p) ts = Fills p.1 ts

-- all tokens back
all_back : (k : Stack) (front ts : List Token) → FillsWalked (walk k front) ts → Fills k (front ++ ts)
all_back k [] ts f = f
all_back k (t ∷ front) ts f = back k t (front ++ ts) (go (step k t) (λ next. all_back next front ts) f)
  where
    before : (level : ℕ) (w : Walked) → FillsWalked (prepend (level ∷ []) w) ts → FillsWalked w ts
    before level None f = f
    before level (Some p) f = f

    go : (o : Next) → ((next : Stack) → FillsWalked (walk next front) ts → Fills next (front ++ ts))
        → FillsWalked (onward o (λ next. walk next front)) ts → FillsNext o (front ++ ts)
    go None rest f = f
    go (Some next) rest f = rest next.1 (before next.0 (walk next.1 front) f)

-- tokens that may occur begin a formula
pub begins : (front : List Token) (levels : List ℕ) (left : Stack)
    → walk (whole 0 []) front ≡ Some (levels, left) → Begins front
begins front levels left walked =
    let f = all_back (whole 0 []) front (filler left)
    (subst (λ w. FillsWalked w (filler left)) (sym walked) (filled left)) in
    let a = formula_in 0 [] (front ++ filler left) f in
    record {
      reading = a.reading;
      more = filler left;
      spelled = sym (a.cut ∙ ap (λ l. words a.reading ++ l) a.fills ∙ append-nil (words a.reading));
    }
