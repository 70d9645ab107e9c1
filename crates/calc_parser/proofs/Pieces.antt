-- What the token that bytes begin with can be, and how many of them its spelling takes.
use Rattle.std.proofs.Common.{◌≡◌, ℕ, zero, suc, ◌+◌, ◌-◌, ◌*◌, ◌^◌, ◌<◌, ◌≤◌, min, Bool, true, false, cond, List, [], ◌∷◌, ◌++◌, length, take, drop, map, get_or, nat_eq, Option, None, Some, refl, sym, ap, subst, arith, length-append}
use Rattle.std.proofs.Common.{length-take, length-drop, lit<}
use Rattle.std.proofs.lemmas.Bool.Decides.{nat_tests}
use Rattle.std.proofs.lemmas.Fmt.{decimal_by_steps, length-decimal-le}
use Rattle.std.proofs.lemmas.List.Quantifiers.{position-Some}
use Rattle.std.proofs.Math.Nat.{pow-suc}
use Rattle.trend_num.specs.{Measure, digits_value}
use Rattle.trend_num.specs.declared.measure.Measure.TheVariants.{Area}
use Rattle.calc_parser.specs.{SyntaxKind, Token, spelling, spelled, measure_word, Piece, is_name, ill, measured_or, numeral_of, measure_word_of, other_word, quoted_of, less_of, greater_of, sign_of, or_ill, token_at, lexemes}
use Rattle.calc_parser.specs.declared.refusal.SyntaxKind.TheVariants as kind
use Rattle.calc_parser.specs.declared.token.Token.TheVariants.{Quoted}
use Rattle.std.proofs.lemmas.List.Sums.{fold-append, prefix_len-le-length}
use Rattle.std.proofs.lemmas.List.Folds.{list_all-append}
use Rattle.std.proofs.lemmas.Slice.Eq.{bytes_eq-Decides}
use Rattle.std.specs.Char.{is_ascii_digit}
use Rattle.std.specs.Fmt.{decimal}
use Rattle.std.specs.List.{fold, list_all, prefix_len, position}
use Rattle.std.specs.Str.{bytes_eq}
use Rattle.calc_parser.proofs.Lexing.{run_passes}
use Rattle.trend_num.proofs.NameText.{both_left, both_right}
use Rattle.calc_parser.proofs.Written.{IsWritten, AllWritten}

-- a number's digits, and what they spell
pub record IsDecimal (n : ℕ) (ds : List ℕ) : Type 0 where
  pub digits : list_all is_ascii_digit ds ≡ true
  pub value : digits_value ds ≡ n
  pub some : 0 < length ds

-- a digit's code
digit_passes : (k : ℕ) → k < 10 → is_ascii_digit (48 + k) ≡ true
digit_passes k small = grind (arith, nat_tests)

-- what is written of a number
pub decimal_is : (n : ℕ) → n < 2 ^ 64 → IsDecimal n (decimal n)
decimal_is = decimal_by_steps IsDecimal
    (λ n small. grind (arith, digit_passes))
    (grind (arith, list_all-append, digit_passes, fold-append, length-append))

-- digits spell a number that has no more digits
value_below : (ds : List ℕ) (n k : ℕ) → list_all is_ascii_digit ds ≡ true → n < 10 ^ k
    → fold (λ n b. n * 10 + (b - 48)) n ds < 10 ^ (k + length ds)
value_below [] n k all below = let e : k + 0 ≡ k = omega arith in subst (λ m. n < 10 ^ m) (sym e) below
value_below (d ∷ ds) n k all below =
    let test = both_left (is_ascii_digit d) (list_all is_ascii_digit ds) all in
    let small : d - 48 < 10 = grind (arith, nat_tests) in
    let power : 10 ^ suc k ≡ 10 ^ k * 10 = pow-suc 10 k in
    let next : n * 10 + (d - 48) < 10 ^ suc k = omega arith in
    let e : suc k + length ds ≡ k + length (d ∷ ds) = omega arith in
    subst (λ m. fold (λ n b. n * 10 + (b - 48)) (n * 10 + (d - 48)) ds < 10 ^ m) e
    (value_below ds (n * 10 + (d - 48)) (suc k)
    (both_right (is_ascii_digit d) (list_all is_ascii_digit ds) all) next)

-- what is written of a number is the shortest that spells it
shorter_decimal : (ds : List ℕ) → list_all is_ascii_digit ds ≡ true → 0 < length ds → digits_value ds < 2 ^ 64
    → length (decimal (digits_value ds)) ≤ length ds
shorter_decimal ds all some small =
    let below : digits_value ds < 10 ^ length ds =
    let e : 0 + length ds ≡ length ds = omega arith in
    subst (λ m. digits_value ds < 10 ^ m) e (value_below ds 0 0 all (lit< tt)) in
    length-decimal-le (length ds) (digits_value ds) some below small

-- a piece of a text: its token can be written, in no more bytes than it takes
pub record IsPiece (bytes : List ℕ) (q : Piece) : Type 0 where
  pub can : IsWritten (Unit {0}) q.0
  pub light : length (spelling q.0) ≤ q.1
  pub within : length (spelling q.0) ≤ length bytes

-- whichever of two pieces a test takes
either : (bytes : List ℕ) (b : Bool) (x y : Piece) → (b ≡ true → IsPiece bytes x)
    → (b ≡ false → IsPiece bytes y) → IsPiece bytes (cond b x y)
either bytes true x y p q = p refl
either bytes false x y p q = q refl

-- what is no token
ill_piece : (why : SyntaxKind) (bytes : List ℕ) → IsPiece bytes (ill why bytes)
ill_piece why bytes = record { can = tt; light = omega arith; within = omega arith }

-- a numeral
numeral_piece : (bytes : List ℕ) (n : ℕ) → 0 < n → n ≤ prefix_len is_ascii_digit bytes
    → IsPiece bytes (numeral_of n bytes)
numeral_piece bytes n some few =
    grind (arith, prefix_len-le-length, length-take, either, nat_tests, shorter_decimal, run_passes, ill_piece)

-- a word

-- a token of a word, which has as many letters at least
abbrev IsWord : ℕ → Option Token → Type 0
IsWord n None = Unit {0}
IsWord n (Some t) = IsWritten (Unit {0}) t × (length (spelling t) ≤ n)

-- the same of a measure
abbrev IsMeasureWord : ℕ → Option Measure → Type 0
IsMeasureWord n None = Unit {0}
IsMeasureWord n (Some m) = (m ≡ Area → ⊥) × (length (measure_word m) ≤ n)

-- whichever it is
record Words (n : ℕ) (o : Option Token) : Type 0 where
  fits : IsWord n o

record MeasureWords (n : ℕ) (o : Option Measure) : Type 0 where
  fits : IsMeasureWord n o

-- this word, or another
or_word : (n : ℕ) (b : Bool) (x y : Option Token) → (b ≡ true → IsWord n x) → Words n y → Words n (cond b x y)
or_word n true x y p q = record { fits = p refl }
or_word n false x y p q = q

-- this measure, or another
or_measure : (n : ℕ) (b : Bool) (x y : Option Measure) → (b ≡ true → IsMeasureWord n x) → MeasureWords n y
    → MeasureWords n (cond b x y)
or_measure n true x y p q = record { fits = p refl }
or_measure n false x y p q = q

-- a word that is this one is as long
as_long : (w word : List ℕ) → bytes_eq w word ≡ true → length word ≤ length w
as_long w word e = omega (arith, ap length ((bytes_eq-Decides w word).0 e))

-- each measure's word
measure_words : (w : List ℕ) → MeasureWords (length w) (measure_word_of w)
measure_words w = grind (arith, or_measure, as_long)

-- each other word
other_words : (w : List ℕ) → Words (length w) (other_word w)
other_words w = grind (arith, or_word, as_long)

-- the word of a measure, or another
measured_words : (n : ℕ) (m : Option Measure) (other : Option Token) → IsMeasureWord n m → IsWord n other
    → IsWord n (measured_or m other)
measured_words n None other p q = q
measured_words n (Some m) other p q = p

-- a word, or none
word_piece : (bytes : List ℕ) (n m : ℕ) (why : SyntaxKind) (o : Option Token) → m ≤ n → m ≤ length bytes
    → IsWord m o → IsPiece bytes (or_ill o n why bytes)
word_piece bytes n m why None few within is = ill_piece why bytes
word_piece bytes n m why (Some t) few within is = record {
  can = is.0;
  light = omega (
    arith,
    is.1,
  );
  within = omega (arith, is.1);
}

-- a quoted name
quoted_piece : (bytes : List ℕ) (o : Option ℕ) → position (λ c. nat_eq c 39) (drop 1 bytes) ≡ o
    → IsPiece bytes (quoted_of o bytes)
quoted_piece bytes None at = ill_piece _ bytes
quoted_piece bytes (Some n) at =
    let name = take n (drop 1 bytes) in
    let below = (position-Some (λ c. nat_eq c 39) (drop 1 bytes) n 0 at).0 in
    let len : length name ≡ n = omega (arith, length-take n (drop 1 bytes)) in
    let rest : length (drop 1 bytes) ≡ length bytes - 1 = length-drop 1 bytes in
    let all : length (39 ∷ name ++ 39 ∷ []) ≡ n + 2 = omega (arith, length-append name (39 ∷ [])) in
    go (is_name name) refl len rest below all
  where
    go : (b : Bool) → is_name (take n (drop 1 bytes)) ≡ b → length (take n (drop 1 bytes)) ≡ n
        → length (drop 1 bytes) ≡ length bytes - 1
        → n < length (drop 1 bytes) → length (39 ∷ take n (drop 1 bytes) ++ 39 ∷ []) ≡ n + 2
        → IsPiece bytes (or_ill (cond b (Some (Quoted (take n (drop 1 bytes)))) None) (n + 2) kind.Name bytes)
    go true e len rest below all = record { can = e; light = omega arith; within = omega arith }
    go false e len rest below all = ill_piece _ bytes

-- a comparison of two bytes has a second
second_is : (bytes : List ℕ) (k : ℕ) → 0 < k → get_or bytes 1 0 ≡ k → 2 ≤ length bytes
second_is [] k some e = absurd (omega (arith, some, e))
second_is (x ∷ []) k some e = absurd (omega (arith, some, e))
second_is (x ∷ y ∷ bytes) k some e = omega arith

-- what `<` begins
less_piece : (bytes : List ℕ) → 0 < length bytes → IsPiece bytes (less_of (get_or bytes 1 0))
less_piece bytes some = grind (arith, either, nat_tests, second_is)

-- what `>` begins
greater_piece : (bytes : List ℕ) → 0 < length bytes → IsPiece bytes (greater_of (get_or bytes 1 0))
greater_piece bytes some = grind (arith, either, nat_tests, second_is)

-- each other sign
sign_words : (b : ℕ) → Words 1 (sign_of b)
sign_words b = grind (arith, or_word)

-- a first byte that passes counts
first_counts : (p : ℕ → Bool) (bytes : List ℕ) → 0 < length bytes → p (get_or bytes 0 0) ≡ true
    → 0 < prefix_len p bytes
first_counts p [] some e = absurd (omega (arith, some))
first_counts p (b ∷ bytes) some e = subst (λ c. 0 < cond c (1 + prefix_len p bytes) 0) (sym e) (omega arith)

-- each token
pub token_piece : (bytes : List ℕ) → 0 < length bytes → IsPiece bytes (token_at bytes)
token_piece bytes some =
    grind (arith, length-take, prefix_len-le-length, either, numeral_piece, first_counts, word_piece, measured_words, measure_words, other_words, quoted_piece, less_piece, greater_piece, sign_words)

-- the tokens of a text can be written, and in no more bytes than it has
pub record AreLexed (skip : ℕ) (bytes : List ℕ) (tokens : List Token) : Type 0 where
  pub can : AllWritten (Unit {0}) tokens
  pub light : length (spelled tokens) + min skip (length bytes) ≤ length bytes

-- each list of tokens that is read
pub are_lexed : (place skip : ℕ) (bytes : List ℕ)
    → AreLexed skip bytes (map (λ l. l.token) (lexemes place skip bytes))
are_lexed place skip [] = record { can = tt; light = omega arith }
are_lexed place (suc skip) (b ∷ bytes) =
    let rest = are_lexed (place + 1) skip bytes in
    record { can = rest.can; light = omega (arith, rest.light) }
are_lexed place zero (b ∷ bytes) =
    go (nat_eq b 32) (are_lexed (place + 1) 0 bytes) (token_piece (b ∷ bytes) (omega arith))
    (are_lexed (place + 1) ((token_at (b ∷ bytes)).1 - 1) bytes)
  where
    go : (c : Bool) → AreLexed 0 bytes (map (λ l. l.token) (lexemes (place + 1) 0 bytes))
        → IsPiece (b ∷ bytes) (token_at (b ∷ bytes))
        → AreLexed ((token_at (b ∷ bytes)).1 - 1) bytes
        (map (λ l. l.token) (lexemes (place + 1) ((token_at (b ∷ bytes)).1 - 1) bytes))
        → AreLexed zero (b ∷ bytes) (map (λ l. l.token) (cond c (lexemes (place + 1) 0 bytes)
        (record { token = (token_at (b ∷ bytes)).0; place = place } ∷ lexemes (place + 1)
        ((token_at (b ∷ bytes)).1 - 1) bytes)))
    go true blank piece rest = record { can = blank.can; light = omega (arith, blank.light) }
    go false blank piece rest = record {
      can = (piece.can, rest.can);
      light = omega (
        arith,
        piece.light,
        piece.within,
        rest.light,
        length-append (spelling (token_at (b ∷ bytes)).0)
            (spelled (map (λ l. l.token) (lexemes (place + 1) ((token_at (b ∷ bytes)).1 - 1) bytes))),
      );
    }
