-- Tokens that lie apart, spelled one after another, are read again.
use Rattle.std.proofs.Common.{◌≡◌, ℕ, zero, suc, ◌+◌, ◌-◌, ◌^◌, ◌<◌, ◌≤◌, Bool, true, false, ◌&&◌, ◌||◌, cond, pos, List, [], ◌∷◌, ◌++◌, length, drop, map, get_or, nat_eq, nat_le, nat_lt, not, None, Some, refl, sym, ap, ◌∙◌, subst, arith}
use Rattle.std.proofs.Common.{append_assoc, length-append, lit<, codes}
use Rattle.std.proofs.lemmas.Bool.{false≢true}
use Rattle.std.proofs.lemmas.Bool.Decides.{nat_tests}
use Rattle.std.proofs.Math.Seq.{take-append_seam, drop-append_seam}
use Rattle.std.specs.Char.{is_ascii_digit}
use Rattle.std.specs.Fmt.{decimal}
use Rattle.std.specs.List.{list_all, prefix_len, position, position_or_len}
use Rattle.trend_num.specs.{Measure, is_name_byte, digits_value}
use Rattle.trend_num.specs.declared.measure.Measure.TheVariants.{Area, Avg, Total, Low, High, Count, First, Last}
use Rattle.calc_parser.specs.{Cmp, Token, spelling, spelled, ill, is_letter, is_name, largest_number, numeral_of, word_at, or_ill, name_of, quoted_of, token_at, lexemes, tokens_of}
use Rattle.calc_parser.specs.declared.tree.Cmp.TheVariants.{Le, Ge, Ne, Lt, Gt, Eq}
use Rattle.calc_parser.specs.declared.token.Sum.TheVariants.{Plus, Minus}
use Rattle.calc_parser.specs.declared.token.Product.TheVariants.{Times, Over, Modulo}
use Rattle.calc_parser.specs.declared.token.Pick.TheVariants.{Least, Greatest}
use Rattle.calc_parser.specs.declared.token.Token.TheVariants.{Number, Quoted, Measuring, Calculation, Absolute, Picking, Choice, Open, Close, Comma, Summing, Multiplying, Comparing, Ill, End}
use Rattle.calc_parser.specs.declared.refusal.SyntaxKind.TheVariants as kind
use Rattle.calc_parser.proofs.Apart.{is_wordy, is_comparing, clash, next_of, Apart}
use Rattle.calc_parser.proofs.Lexing.{token_first}
use Rattle.trend_num.proofs.NameText.{both_left, both_right}
use Rattle.calc_parser.proofs.Pieces.{IsDecimal, decimal_is}
use Rattle.calc_parser.proofs.Written.{IsWritten, AllWritten}

-- the tokens are the same wherever the bytes begin
same_tokens : (p q skip : ℕ) (bytes : List ℕ)
    → map (λ l. l.token) (lexemes p skip bytes) ≡ map (λ l. l.token) (lexemes q skip bytes)
same_tokens p q skip [] = refl
same_tokens p q (suc skip) (b ∷ bytes) = same_tokens (p + 1) (q + 1) skip bytes
same_tokens p q zero (b ∷ bytes) =
    go (nat_eq b 32) (same_tokens (p + 1) (q + 1) 0 bytes)
    (same_tokens (p + 1) (q + 1) ((token_at (b ∷ bytes)).1 - 1) bytes)
  where
    go : (c : Bool) → map (λ l. l.token) (lexemes (p + 1) 0 bytes) ≡ map (λ l. l.token)
        (lexemes (q + 1) 0 bytes)
        → map (λ l. l.token) (lexemes (p + 1) ((token_at (b ∷ bytes)).1 - 1) bytes) ≡ map (λ l. l.token)
        (lexemes (q + 1) ((token_at (b ∷ bytes)).1 - 1) bytes)
        → map (λ l. l.token) (cond c (lexemes (p + 1) 0 bytes)
        (record { token = (token_at (b ∷ bytes)).0; place = p } ∷ lexemes (p + 1)
        ((token_at (b ∷ bytes)).1 - 1) bytes))
        ≡ map (λ l. l.token) (cond c (lexemes (q + 1) 0 bytes)
        (record { token = (token_at (b ∷ bytes)).0; place = q } ∷ lexemes (q + 1)
        ((token_at (b ∷ bytes)).1 - 1) bytes))
    go true blank rest = blank
    go false blank rest = ap (λ l. (token_at (b ∷ bytes)).0 ∷ l) rest

-- a token is read from its spelling, before some bytes
pub record IsReadAt (t : Token) (bytes : List ℕ) : Type 0 where
  pub piece : (t, length (spelling t)) ≡ token_at (spelling t ++ bytes)
  pub other : nat_eq (get_or (spelling t ++ bytes) 0 0) 32 ≡ false
  pub some : 0 < length (spelling t)

-- the first token of a text
read_first : (t : Token) (text bytes : List ℕ) (n : ℕ) → (t, n) ≡ token_at text
    → nat_eq (get_or text 0 0) 32 ≡ false → 0 < n → 0 < length text
    → drop n text ≡ bytes → tokens_of text ≡ t ∷ tokens_of bytes
read_first t [] bytes n piece other some long rest = absurd (omega (arith, long))
read_first t (b ∷ text) bytes n piece other some long rest =
    ap (map (λ l. l.token)) (token_first 0 b text t n other piece some)
    ∙ ap (λ l. t ∷ l) (same_tokens (0 + n) 0 0 (drop n (b ∷ text)) ∙ ap tokens_of rest)

-- so it is read, and then the others
read_token : (t : Token) (bytes : List ℕ) → IsReadAt t bytes
    → tokens_of (spelling t ++ bytes) ≡ t ∷ tokens_of bytes
read_token t bytes is =
    read_first t (spelling t ++ bytes) bytes (length (spelling t)) is.piece is.other is.some
    (omega (arith, is.some, length-append (spelling t) bytes)) (drop-append_seam (spelling t) bytes)

-- what may follow a token, in bytes
abbrev pub Breaks : Token → List ℕ → Type 0
Breaks (Comparing cmp) bytes = (nat_eq (get_or bytes 0 0) 61 ≡ false) × (nat_eq (get_or bytes 0 0) 62 ≡ false)
Breaks t bytes = cond (is_wordy t) ((prefix_len is_letter bytes ≡ 0) × (prefix_len is_ascii_digit bytes ≡ 0))
    (Unit {0})

-- the digits of a number, and what follows
run_of : (p : ℕ → Bool) (xs ys : List ℕ) → list_all p xs ≡ true → prefix_len p ys ≡ 0
    → prefix_len p (xs ++ ys) ≡ length xs
run_of p [] ys all ends = ends
run_of p (x ∷ xs) ys all ends = go (p x) refl all (run_of p xs ys)
  where
    go : (b : Bool) → p x ≡ b → (b && list_all p xs) ≡ true
        → (list_all p xs ≡ true → prefix_len p ys ≡ 0 → prefix_len p (xs ++ ys) ≡ length xs)
        → cond b (1 + prefix_len p (xs ++ ys)) 0 ≡ length (x ∷ xs)
    go true e rest more = omega (arith, more rest ends)
    go false e rest more = cc rest

-- a test that holds
cond_true : {A : Type 0} (b : Bool) (x y : A) → b ≡ true → cond b x y ≡ x
cond_true b x y e = ap (λ c. cond c x y) e

-- a number is read from its digits
number_read : (m : ℕ) (ds bytes : List ℕ) → IsDecimal m ds → m ≤ largest_number
    → prefix_len is_ascii_digit bytes ≡ 0
    → ((Number (pos m), length ds) ≡ token_at (ds ++ bytes)) × (nat_eq (get_or (ds ++ bytes) 0 0) 32 ≡ false)
number_read m [] bytes is low ends = absurd (omega (arith, is.some))
number_read m (d ∷ ds) bytes is low ends =
    let all = d ∷ ds in
    let text = d ∷ (ds ++ bytes) in
    let test : is_ascii_digit d ≡ true = both_left (is_ascii_digit d) (list_all is_ascii_digit ds) is.digits
    in
    let fits : nat_le m largest_number ≡ true = grind (arith, nat_tests) in
    let read : token_at text ≡ (Number (pos m), length all) =
    cond_true (is_ascii_digit d) (numeral_of (prefix_len is_ascii_digit text) text) _ test
    ∙ ap (λ n. numeral_of n text) (run_of is_ascii_digit all bytes is.digits ends)
    ∙ ap (λ l. cond (nat_le (digits_value l) largest_number) (
      Number (pos (digits_value l)),
      length all,
    ) (ill kind.Number text)) (take-append_seam all bytes)
    ∙ ap (λ v. cond (nat_le v largest_number) (Number (pos v), length all) (ill kind.Number text)) is.value
    ∙ cond_true (nat_le m largest_number) (Number (pos m), length all) (ill kind.Number text) fits in
    (sym read, grind (arith, nat_tests))

-- a name has no quote
quoteless : (c : ℕ) → is_name_byte c ≡ true → not (nat_eq c 39) ≡ true
quoteless c test = grind (arith, nat_tests)

-- so a whole name has none
no_quotes : (name : List ℕ) → list_all is_name_byte name ≡ true
    → list_all (λ c. not (nat_eq c 39)) name ≡ true
no_quotes [] all = refl
no_quotes (c ∷ name) all =
    ap (λ b. b && list_all (λ c. not (nat_eq c 39)) name)
    (quoteless c (both_left (is_name_byte c) (list_all is_name_byte name) all))
    ∙ no_quotes name (both_right (is_name_byte c) (list_all is_name_byte name) all)

-- a name is read from between its quotes
name_read : (name bytes : List ℕ) → is_name name ≡ true
    → (Quoted name, length (spelling (Quoted name))) ≡ token_at (spelling (Quoted name) ++ bytes)
name_read name bytes test =
    let end = λ (c : ℕ). nat_eq c 39 in
    let rest : (name ++ 39 ∷ []) ++ bytes ≡ name ++ 39 ∷ bytes = append_assoc name (39 ∷ []) bytes in
    let all = no_quotes name (both_right (nat_le 1 (length name) && nat_le (length name) 64)
    (list_all is_name_byte name) test) in
    let run : position_or_len end (name
    ++ 39 ∷ bytes) ≡ length name = run_of (λ c. not (nat_eq c 39)) name (39 ∷ bytes) all refl in
    let within : nat_lt (length name) (length (name ++ 39 ∷ bytes)) ≡ true =
    let below : length name < length (name
    ++ 39 ∷ bytes) = omega (arith, length-append name (39 ∷ bytes)) in grind (arith, nat_tests) in
    let place : position end (name ++ 39 ∷ bytes) ≡ Some (length name) =
    ap (λ n. cond (nat_lt n (length (name ++ 39 ∷ bytes))) (Some n) None) run
    ∙ cond_true _ (Some (length name)) None within in
    let len : length name + 2 ≡ length (39 ∷ name ++ 39 ∷ []) = omega (arith, length-append name (39 ∷ [])) in
    let read : quoted_of (position end ((name ++ 39 ∷ []) ++ bytes)) (39 ∷ ((name ++ 39 ∷ [])
    ++ bytes)) ≡ (Quoted name, length (39 ∷ name ++ 39 ∷ [])) =
    ap (λ l. quoted_of (position end l) (39 ∷ l)) rest
    ∙ ap (λ o. quoted_of o (39 ∷ (name ++ 39 ∷ bytes))) place
    ∙ ap (λ l. or_ill (name_of l) (length name + 2) kind.Name (39 ∷ (name
    ++ 39 ∷ bytes))) (take-append_seam name (39 ∷ bytes))
    ∙ ap (λ b. or_ill (cond b (Some (Quoted name)) None) (length name + 2) kind.Name (39 ∷ (name
    ++ 39 ∷ bytes))) test
    ∙ ap (λ n. (Quoted name, n)) len in
    sym read

-- a word, before what is no letter
avg_read : (bytes : List ℕ) → prefix_len is_letter bytes ≡ 0
    → (Measuring Avg, 3) ≡ token_at (codes "avg" ++ bytes)
avg_read bytes ends = ap (λ n. word_at (1 + (1 + (1 + n))) (97 ∷ 118 ∷ 103 ∷ bytes)) (sym ends)

-- the word of totals
total_read : (bytes : List ℕ) → prefix_len is_letter bytes ≡ 0
    → (Measuring Total, 5) ≡ token_at (codes "total" ++ bytes)
total_read bytes ends = ap (λ n. word_at (1 + (1 + (1 + (1 + (1 + n))))) (116 ∷ 111 ∷ 116 ∷ 97 ∷ 108 ∷ bytes))
    (sym ends)

-- the word of least values
low_read : (bytes : List ℕ) → prefix_len is_letter bytes ≡ 0
    → (Measuring Low, 3) ≡ token_at (codes "low" ++ bytes)
low_read bytes ends = ap (λ n. word_at (1 + (1 + (1 + n))) (108 ∷ 111 ∷ 119 ∷ bytes)) (sym ends)

-- the word of greatest values
high_read : (bytes : List ℕ) → prefix_len is_letter bytes ≡ 0
    → (Measuring High, 4) ≡ token_at (codes "high" ++ bytes)
high_read bytes ends = ap (λ n. word_at (1 + (1 + (1 + (1 + n)))) (104 ∷ 105 ∷ 103 ∷ 104 ∷ bytes)) (sym ends)

-- the word of counts
count_read : (bytes : List ℕ) → prefix_len is_letter bytes ≡ 0
    → (Measuring Count, 5) ≡ token_at (codes "count" ++ bytes)
count_read bytes ends = ap (λ n. word_at (1 + (1 + (1 + (1 + (1 + n))))) (99 ∷ 111 ∷ 117 ∷ 110 ∷ 116 ∷ bytes))
    (sym ends)

-- the word of first values
first_read : (bytes : List ℕ) → prefix_len is_letter bytes ≡ 0
    → (Measuring First, 5) ≡ token_at (codes "first" ++ bytes)
first_read bytes ends = ap (λ n. word_at (1 + (1 + (1 + (1 + (1 + n)))))
    (102 ∷ 105 ∷ 114 ∷ 115 ∷ 116 ∷ bytes)) (sym ends)

-- the word of last values
last_read : (bytes : List ℕ) → prefix_len is_letter bytes ≡ 0
    → (Measuring Last, 4) ≡ token_at (codes "last" ++ bytes)
last_read bytes ends = ap (λ n. word_at (1 + (1 + (1 + (1 + n)))) (108 ∷ 97 ∷ 115 ∷ 116 ∷ bytes)) (sym ends)

-- the word of calculations
calc_read : (bytes : List ℕ) → prefix_len is_letter bytes ≡ 0
    → (Calculation, 4) ≡ token_at (codes "calc" ++ bytes)
calc_read bytes ends = ap (λ n. word_at (1 + (1 + (1 + (1 + n)))) (99 ∷ 97 ∷ 108 ∷ 99 ∷ bytes)) (sym ends)

-- the word of sizes
abs_read : (bytes : List ℕ) → prefix_len is_letter bytes ≡ 0 → (Absolute, 3) ≡ token_at (codes "abs" ++ bytes)
abs_read bytes ends = ap (λ n. word_at (1 + (1 + (1 + n))) (97 ∷ 98 ∷ 115 ∷ bytes)) (sym ends)

-- the word of the lesser
min_read : (bytes : List ℕ) → prefix_len is_letter bytes ≡ 0
    → (Picking Least, 3) ≡ token_at (codes "min" ++ bytes)
min_read bytes ends = ap (λ n. word_at (1 + (1 + (1 + n))) (109 ∷ 105 ∷ 110 ∷ bytes)) (sym ends)

-- the word of the greater
max_read : (bytes : List ℕ) → prefix_len is_letter bytes ≡ 0
    → (Picking Greatest, 3) ≡ token_at (codes "max" ++ bytes)
max_read bytes ends = ap (λ n. word_at (1 + (1 + (1 + n))) (109 ∷ 97 ∷ 120 ∷ bytes)) (sym ends)

-- the word of choices
if_read : (bytes : List ℕ) → prefix_len is_letter bytes ≡ 0 → (Choice, 2) ≡ token_at (codes "if" ++ bytes)
if_read bytes ends = ap (λ n. word_at (1 + (1 + n)) (105 ∷ 102 ∷ bytes)) (sym ends)

-- each measure's word
measure_read : (m : Measure) (bytes : List ℕ) → (m ≡ Area → ⊥) → prefix_len is_letter bytes ≡ 0
    → IsReadAt (Measuring m) bytes
measure_read Area bytes can ends = absurd (can refl)
measure_read Avg bytes can ends = record { piece = avg_read bytes ends; other = refl; some = lit< tt }
measure_read Total bytes can ends = record { piece = total_read bytes ends; other = refl; some = lit< tt }
measure_read Low bytes can ends = record { piece = low_read bytes ends; other = refl; some = lit< tt }
measure_read High bytes can ends = record { piece = high_read bytes ends; other = refl; some = lit< tt }
measure_read Count bytes can ends = record { piece = count_read bytes ends; other = refl; some = lit< tt }
measure_read First bytes can ends = record { piece = first_read bytes ends; other = refl; some = lit< tt }
measure_read Last bytes can ends = record { piece = last_read bytes ends; other = refl; some = lit< tt }

-- each comparison
cmp_read : (cmp : Cmp) (bytes : List ℕ) → Breaks (Comparing cmp) bytes → IsReadAt (Comparing cmp) bytes
cmp_read Le bytes ends = record { piece = refl; other = refl; some = lit< tt }
cmp_read Ge bytes ends = record { piece = refl; other = refl; some = lit< tt }
cmp_read Ne bytes ends = record { piece = refl; other = refl; some = lit< tt }
cmp_read Eq bytes ends = record { piece = refl; other = refl; some = lit< tt }
cmp_read Lt bytes ends = record {
  piece = sym (ap (λ b. cond b (
    Comparing Le,
    2,
  ) (cond (nat_eq (get_or bytes 0 0) 62) (Comparing Ne, 2) (Comparing Lt, 1))) ends.0
      ∙ ap (λ b. cond b (Comparing Ne, 2) (Comparing Lt, 1)) ends.1);
  other = refl;
  some = lit< tt;
}
cmp_read Gt bytes ends = record {
  piece = sym (ap (λ b. cond b (Comparing Ge, 2) (Comparing Gt, 1)) ends.0);
  other = refl;
  some = lit< tt;
}

-- each token is read from its spelling
read_at : (t : Token) (bytes : List ℕ) → IsWritten ⊥ t → Breaks t bytes → IsReadAt t bytes
read_at (Number n) bytes can ends =
    let small : can.0 < 2 ^ 64 = omega (arith, can.2) in
    let is = decimal_is can.0 small in
    let r = number_read can.0 (decimal can.0) bytes is can.2 ends.1 in
    subst (λ z. IsReadAt (Number z) bytes) (sym can.1) (record { piece = r.0; other = r.1; some = is.some })
read_at (Quoted name) bytes can ends = record
    { piece = name_read name bytes can; other = refl; some = omega arith }
read_at (Measuring m) bytes can ends = measure_read m bytes can ends.0
read_at Calculation bytes can ends = record { piece = calc_read bytes ends.0; other = refl; some = lit< tt }
read_at Absolute bytes can ends = record { piece = abs_read bytes ends.0; other = refl; some = lit< tt }
read_at (Picking Least) bytes can ends = record
    { piece = min_read bytes ends.0; other = refl; some = lit< tt }
read_at (Picking Greatest) bytes can ends = record
    { piece = max_read bytes ends.0; other = refl; some = lit< tt }
read_at Choice bytes can ends = record { piece = if_read bytes ends.0; other = refl; some = lit< tt }
read_at Open bytes can ends = record { piece = refl; other = refl; some = lit< tt }
read_at Close bytes can ends = record { piece = refl; other = refl; some = lit< tt }
read_at Comma bytes can ends = record { piece = refl; other = refl; some = lit< tt }
read_at (Summing Plus) bytes can ends = record { piece = refl; other = refl; some = lit< tt }
read_at (Summing Minus) bytes can ends = record { piece = refl; other = refl; some = lit< tt }
read_at (Multiplying Times) bytes can ends = record { piece = refl; other = refl; some = lit< tt }
read_at (Multiplying Over) bytes can ends = record { piece = refl; other = refl; some = lit< tt }
read_at (Multiplying Modulo) bytes can ends = record { piece = refl; other = refl; some = lit< tt }
read_at (Comparing cmp) bytes can ends = cmp_read cmp bytes ends
read_at (Ill why) bytes can ends = absurd can
read_at End bytes can ends = absurd can

-- what is no word breaks words off
breaks_words : (ts : List Token) → AllWritten ⊥ ts → is_wordy (next_of ts End) ≡ false
    → (prefix_len is_letter (spelled ts) ≡ 0) × (prefix_len is_ascii_digit (spelled ts) ≡ 0)
breaks_words [] can e = (refl, refl)
breaks_words (Quoted name ∷ ts) can e = (refl, refl)
breaks_words (Open ∷ ts) can e = (refl, refl)
breaks_words (Close ∷ ts) can e = (refl, refl)
breaks_words (Comma ∷ ts) can e = (refl, refl)
breaks_words (Summing Plus ∷ ts) can e = (refl, refl)
breaks_words (Summing Minus ∷ ts) can e = (refl, refl)
breaks_words (Multiplying Times ∷ ts) can e = (refl, refl)
breaks_words (Multiplying Over ∷ ts) can e = (refl, refl)
breaks_words (Multiplying Modulo ∷ ts) can e = (refl, refl)
breaks_words (Comparing Le ∷ ts) can e = (refl, refl)
breaks_words (Comparing Ge ∷ ts) can e = (refl, refl)
breaks_words (Comparing Ne ∷ ts) can e = (refl, refl)
breaks_words (Comparing Lt ∷ ts) can e = (refl, refl)
breaks_words (Comparing Gt ∷ ts) can e = (refl, refl)
breaks_words (Comparing Eq ∷ ts) can e = (refl, refl)
breaks_words (Ill why ∷ ts) can e = absurd can.0
breaks_words (End ∷ ts) can e = absurd can.0
breaks_words (t ∷ ts) can e = absurd (false≢true (sym e))

-- a digit is no part of a comparison
digit_breaks : (ds bytes : List ℕ) → list_all is_ascii_digit ds ≡ true → 0 < length ds
    → (nat_eq (get_or (ds ++ bytes) 0 0) 61 ≡ false) × (nat_eq (get_or (ds ++ bytes) 0 0) 62 ≡ false)
digit_breaks [] bytes all some = absurd (omega (arith, some))
digit_breaks (d ∷ ds) bytes all some =
    let test : is_ascii_digit d ≡ true = both_left (is_ascii_digit d) (list_all is_ascii_digit ds) all in
    (grind (arith, nat_tests), grind (arith, nat_tests))

-- what is no comparison breaks one off
breaks_comparison : (ts : List Token) → AllWritten ⊥ ts → is_comparing (next_of ts End) ≡ false
    → (nat_eq (get_or (spelled ts) 0 0) 61 ≡ false) × (nat_eq (get_or (spelled ts) 0 0) 62 ≡ false)
breaks_comparison [] can e = (refl, refl)
breaks_comparison (Number n ∷ ts) can e =
    let small : can.0.0 < 2 ^ 64 = omega (arith, can.0.2) in
    let is = decimal_is can.0.0 small in
    subst (λ z. (nat_eq (get_or (spelling (Number z)
    ++ spelled ts) 0 0) 61 ≡ false) × (nat_eq (get_or (spelling (Number z)
    ++ spelled ts) 0 0) 62 ≡ false))
    (sym can.0.1) (digit_breaks (decimal can.0.0) (spelled ts) is.digits is.some)
breaks_comparison (Comparing cmp ∷ ts) can e = absurd (false≢true (sym e))
breaks_comparison (Ill why ∷ ts) can e = absurd can.0
breaks_comparison (End ∷ ts) can e = absurd can.0
breaks_comparison (Quoted name ∷ ts) can e = (refl, refl)
breaks_comparison (Measuring Area ∷ ts) can e = (refl, refl)
breaks_comparison (Measuring Avg ∷ ts) can e = (refl, refl)
breaks_comparison (Measuring Total ∷ ts) can e = (refl, refl)
breaks_comparison (Measuring Low ∷ ts) can e = (refl, refl)
breaks_comparison (Measuring High ∷ ts) can e = (refl, refl)
breaks_comparison (Measuring Count ∷ ts) can e = (refl, refl)
breaks_comparison (Measuring First ∷ ts) can e = (refl, refl)
breaks_comparison (Measuring Last ∷ ts) can e = (refl, refl)
breaks_comparison (Calculation ∷ ts) can e = (refl, refl)
breaks_comparison (Absolute ∷ ts) can e = (refl, refl)
breaks_comparison (Picking Least ∷ ts) can e = (refl, refl)
breaks_comparison (Picking Greatest ∷ ts) can e = (refl, refl)
breaks_comparison (Choice ∷ ts) can e = (refl, refl)
breaks_comparison (Open ∷ ts) can e = (refl, refl)
breaks_comparison (Close ∷ ts) can e = (refl, refl)
breaks_comparison (Comma ∷ ts) can e = (refl, refl)
breaks_comparison (Summing Plus ∷ ts) can e = (refl, refl)
breaks_comparison (Summing Minus ∷ ts) can e = (refl, refl)
breaks_comparison (Multiplying Times ∷ ts) can e = (refl, refl)
breaks_comparison (Multiplying Over ∷ ts) can e = (refl, refl)
breaks_comparison (Multiplying Modulo ∷ ts) can e = (refl, refl)

-- if a test or `false` is false, the test is false
word_ends : (b : Bool) → (b || false) ≡ false → b ≡ false
word_ends true e = e
word_ends false e = refl

-- tokens that do not clash break each other off
breaks : (t : Token) (ts : List Token) → AllWritten ⊥ ts → clash t (next_of ts End) ≡ false
    → Breaks t (spelled ts)
breaks (Comparing cmp) ts can e = breaks_comparison ts can e
breaks (Number n) ts can e = breaks_words ts can (word_ends (is_wordy (next_of ts End)) e)
breaks (Measuring m) ts can e = breaks_words ts can (word_ends (is_wordy (next_of ts End)) e)
breaks Calculation ts can e = breaks_words ts can (word_ends (is_wordy (next_of ts End)) e)
breaks Absolute ts can e = breaks_words ts can (word_ends (is_wordy (next_of ts End)) e)
breaks (Picking pick) ts can e = breaks_words ts can (word_ends (is_wordy (next_of ts End)) e)
breaks Choice ts can e = breaks_words ts can (word_ends (is_wordy (next_of ts End)) e)
breaks t ts can e = tt

-- tokens that lie apart are read again
pub read_back : (ts : List Token) → AllWritten ⊥ ts → Apart ts End → tokens_of (spelled ts) ≡ ts
read_back [] can apart = refl
read_back (t ∷ ts) can apart =
    read_token t (spelled ts) (read_at t (spelled ts) can.0 (breaks t ts can.1 apart.0))
    ∙ ap (λ l. t ∷ l) (read_back ts can.1 apart.1)
