-- The tokens of a derivation lie apart: spelled one after another, no two of them run together.
use Rattle.std.proofs.Common.{arith, ◌≡◌, Bool, true, false, ◌&&◌, ◌||◌, List, [], ◌∷◌, ◌++◌, refl, ap, ◌∙◌}
use Rattle.calc_parser.specs.{Token, Level, Reading, plain, compared, one_term, more_terms, one_factor, more_factors, negated, numeral, grouped, measured, calculated, absolute, picked, chosen, words}
use Rattle.calc_parser.specs.declared.token.Token.TheVariants.{Number, Measuring, Calculation, Absolute, Picking, Choice, Close, Comma, Summing, Multiplying, Comparing}

-- letters or digits
abbrev pub is_wordy : Token → Bool
is_wordy (Number n) = true
is_wordy (Measuring m) = true
is_wordy Calculation = true
is_wordy Absolute = true
is_wordy (Picking pick) = true
is_wordy Choice = true
is_wordy token = false

-- a comparison
abbrev pub is_comparing : Token → Bool
is_comparing (Comparing cmp) = true
is_comparing token = false

-- two tokens that may run together
abbrev pub clash : Token → Token → Bool
clash t u = (is_wordy t && is_wordy u) || (is_comparing t && is_comparing u)

-- the first of some tokens, before another
abbrev pub next_of : List Token → Token → Token
next_of [] z = z
next_of (t ∷ ts) z = t

-- no two tokens in a row clash, the last and the one after it neither
abbrev pub Apart : List Token → Token → Type 0
Apart [] z = Unit {0}
Apart (t ∷ ts) z = (clash t (next_of ts z) ≡ false) × Apart ts z

-- the first of two parts is that of the left one, where it has one
next-append : (xs ys : List Token) (z : Token) → next_of (xs ++ ys) z ≡ next_of xs (next_of ys z)
next-append [] ys z = refl
next-append (x ∷ xs) ys z = refl

-- two parts that lie apart, and from each other
Apart-append : (xs ys : List Token) (z : Token) → Apart xs (next_of ys z) → Apart ys z → Apart (xs ++ ys) z
Apart-append [] ys z a b = b
Apart-append (x ∷ xs) ys z a b = (ap (clash x) (next-append xs ys z) ∙ a.0, Apart-append xs ys z a.1 b)

-- a derivation's tokens lie apart before what is no word, and none of them begins with a comparison
pub record LiesApart {level : Level} (d : Reading level) : Type 0 where
  pub apart : (z : Token) → is_wordy z ≡ false → Apart (words d) z
  pub starts : (z : Token) → is_comparing (next_of (words d) z) ≡ false

-- two parts with a token between them
between : {left right : Level} (a : Reading left) (b : Reading right) (t : Token) → LiesApart a → LiesApart b
    → is_wordy t ≡ false
    → ((u : Token) → is_comparing u ≡ false → clash t u ≡ false) → (z : Token) → is_wordy z ≡ false
    → Apart (words a ++ t ∷ words b) z
between a b t x y no_word fits z e = grind (arith, Apart-append)

-- what is before others begins as before
starts_first : {left : Level} (a : Reading left) (ys : List Token) → LiesApart a → (z : Token)
    → is_comparing (next_of (words a ++ ys) z) ≡ false
starts_first a ys x z = ap is_comparing (next-append (words a) ys z) ∙ x.starts (next_of ys z)

-- a part before its closing bracket
closed : {inner : Level} (a : Reading inner) → LiesApart a → (z : Token) → Apart (words a ++ Close ∷ []) z
closed a x z = Apart-append (words a) (Close ∷ []) z (x.apart Close refl) (refl, tt)

-- a part before a comma and what follows it
then_comma : {inner : Level} (a : Reading inner) (ys : List Token) → LiesApart a → (z : Token) → Apart ys z
    → Apart (words a ++ Comma ∷ ys) z
then_comma a ys x z rest = Apart-append (words a) (Comma ∷ ys) z (x.apart Comma refl) (refl, rest)

-- each derivation lies apart
pub lies_apart : {level : Level} (d : Reading level) → LiesApart d
lies_apart (plain s) = let x = lies_apart s in record { apart = x.apart; starts = x.starts }
lies_apart (one_term t) = let x = lies_apart t in record { apart = x.apart; starts = x.starts }
lies_apart (one_factor f) = let x = lies_apart f in record { apart = x.apart; starts = x.starts }
lies_apart (compared a cmp b) = record {
  apart = between a b (Comparing cmp) (lies_apart a) (lies_apart b) refl (λ u e. e);
  starts = starts_first a (Comparing cmp ∷ words b) (lies_apart a);
}
lies_apart (more_terms a sign b) = record {
  apart = between a b (Summing sign) (lies_apart a) (lies_apart b) refl (λ u e. refl);
  starts = starts_first a (Summing sign ∷ words b) (lies_apart a);
}
lies_apart (more_factors a sign b) = record {
  apart = between a b (Multiplying sign) (lies_apart a) (lies_apart b) refl (λ u e. refl);
  starts = starts_first a (Multiplying sign ∷ words b) (lies_apart a);
}
lies_apart (negated f) = let x = lies_apart f in
    record { apart = λ z e. (refl, x.apart z e); starts = λ z. refl }
lies_apart (numeral n) = record { apart = λ z e. (ap (λ b. b || false) e, tt); starts = λ z. refl }
lies_apart (grouped a) = let x = lies_apart a in
    record { apart = λ z e. (refl, closed a x z); starts = λ z. refl }
lies_apart (measured m tag) = record { apart = λ z e. (refl, (refl, (refl, (refl, tt)))); starts = λ z. refl }
lies_apart (calculated name) = record {
  apart = λ z e. (
    refl,
    (refl, (refl, (refl, tt))),
  );
  starts = λ z. refl;
}
lies_apart (absolute a) = let x = lies_apart a in
    record { apart = λ z e. (refl, (refl, closed a x z)); starts = λ z. refl }
lies_apart (picked pick a b) = let x = lies_apart a in let y = lies_apart b in record {
  apart = λ z e. (refl, (refl, then_comma a (words b ++ Close ∷ []) x z (closed b y z)));
  starts = λ z. refl;
}
lies_apart (chosen c a b) = let w = lies_apart c in let x = lies_apart a in let y = lies_apart b in record {
  apart = λ z e. (
    refl,
    (
      refl,
      then_comma c (words a ++ Comma ∷ (words b ++ Close ∷ [])) w z
          (then_comma a (words b ++ Close ∷ []) x z (closed b y z)),
    ),
  );
  starts = λ z. refl;
}
