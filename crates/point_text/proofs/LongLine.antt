-- Lemmas on a line that is too long to have a point.
use Rattle.std.proofs.Common.{◌≡◌, ℕ, ◌+◌, ◌-◌, ◌<◌, ℤ, pos, neg_ℤ, ◌⊎◌, inl, inr, Bool, ◌&&◌, suc, nat_le, drop, true, false, cond, List, [], ◌∷◌, ◌++◌, length, take, get_or, map, nat_eq, position, Option, Some, None, Result, Err, arith}
use Rattle.std.proofs.Common.{refl, sym, ap, ◌∙◌, append_assoc, length-append, length-take}
use Rattle.std.proofs.lemmas.Bool.Decides.{nat_tests}
use Rattle.std.proofs.lemmas.Bool.{eqb-true, ltb-true, ltb-false}
use Rattle.std.proofs.lemmas.List.{take_more, take_all}
use Rattle.std.proofs.lemmas.List.Elements.{All-append, All-cons, All-nil}
use Rattle.std.proofs.lemmas.List.Splits.{length-slice_split, join_with_byte-slice_split}
use Rattle.std.proofs.lemmas.List.Sums.{sum_by-append}
use Rattle.std.specs.List.{count_by, join_with_byte, slice_split}
use Rattle.std.specs.Str.Lines.{strip_carriage_return}
use Rattle.trend_num.specs.{Point, Reason, numeral, unsigned_numeral, signed_by}
use Rattle.trend_num.specs.declared.refusal.Reason.TheVariants.{Fields, Number}
use Rattle.point_text.specs.{point_read, point_of_fields, point_of_line, HasNoFeed, ReadSame, reads_of}
use Rattle.point_text.proofs.Split.{feed_found, feed_not_found, lines_begun, lines_fed}

-- how many commas are in a line
abbrev pub commas : List ℕ → ℕ
commas line = count_by (λ b. nat_eq b 44) line

-- what a line of so many commas reads as, if one of its two fields is no number
abbrev pub bad_by : ℕ → Result Point Reason
bad_by n = cond (nat_eq n 1) (Err Number) (Err Fields)

many_bad : (n : ℕ) → 1 < n → nat_eq n 1 ≡ false
many_bad n many = grind (arith, nat_tests)

-- a second field that is no number
second_bad : (t : Option ℤ) → point_read t None ≡ Err Number
second_bad None = refl
second_bad (Some t) = refl

-- such fields
bad_fields : (fields : List (List ℕ)) → ((t v : List ℕ) → fields ≡ t ∷ v ∷ [] → (numeral t ≡ None) ⊎ (numeral v ≡ None))
    → (n : ℕ) → length fields ≡ n + 1 → point_of_fields fields ≡ bad_by n
bad_fields [] bad n count = absurd (omega arith)
bad_fields (t ∷ []) bad n count = ap bad_by {x = 0} {y = n} (omega arith)
bad_fields (t ∷ v ∷ []) bad n count =
    let one : 1 ≡ n = omega arith in
    elim (bad t v refl) [
      | inl none ↦ ap (λ r. point_read r (numeral v)) none ∙ ap bad_by one
      | inr none ↦ ap (point_read (numeral t)) none ∙ second_bad (numeral t) ∙ ap bad_by one
    ]
bad_fields (t ∷ v ∷ w ∷ more) bad n count = sym (ap (λ b. cond b (Err Number) (Err Fields)) (many_bad n (omega arith)))

and_no : (a : Bool) → a && false ≡ false
and_no true = refl
and_no false = refl

no_and : (a c : Bool) → a && false && c ≡ false
no_and true c = refl
no_and false c = refl

below_no : (m n : ℕ) → n < m → nat_le m n ≡ false
below_no m n h = grind (arith, nat_tests)

-- more than 20 digits are no number
unsigned_long : (f : List ℕ) → 20 < length f → unsigned_numeral f ≡ None
unsigned_long f long = grind (arith, below_no, no_and)

-- and more than 21 bytes are no numeral
numeral_long : (f : List ℕ) → 21 < length f → numeral f ≡ None
numeral_long [] long = absurd (omega arith)
numeral_long (b ∷ bs) long =
    let signed = unsigned_long bs (omega arith) in
    let plain = unsigned_long (b ∷ bs) (omega arith) in
    elim (nat_eq b 45) as (λ x. cond x (signed_by (λ n. neg_ℤ (pos n)) (unsigned_numeral bs)) (signed_by pos (unsigned_numeral (b ∷ bs))) ≡ None) [
      | true ↦ ap (signed_by (λ n. neg_ℤ (pos n))) signed
      | false ↦ ap (signed_by pos) plain
    ]

-- nor are bytes that begin with an x
numeral_x : (f : List ℕ) → numeral (120 ∷ f) ≡ None
numeral_x f = grind (arith, and_no)

-- two fields and the comma between them are the line
two_joined : (line t v : List ℕ) → slice_split (λ b. nat_eq b 44) line ≡ t ∷ v ∷ [] → line ≡ t ++ 44 ∷ v
two_joined line t v parts = sym (join_with_byte-slice_split 44 line) ∙ ap (join_with_byte 44) parts

one_long : (t v : List ℕ) → 43 < length t + length v + 1 → (numeral t ≡ None) ⊎ (numeral v ≡ None)
one_long t v long = grind (arith, numeral_long, ltb-true, ltb-false)

-- a long line
long_bad : (line : List ℕ) → 43 < length line → point_of_line line ≡ bad_by (commas line)
long_bad line long =
    bad_fields (slice_split (λ b. nat_eq b 44) line)
    (λ t v parts. let total = ap length (two_joined line t v parts) ∙ length-append t (44 ∷ v) in one_long t v (omega (arith, total)))
    (commas line) (length-slice_split (λ b. nat_eq b 44) line)

first_x : (t v f : List ℕ) → 120 ∷ f ≡ t ++ 44 ∷ v → numeral t ≡ None
first_x [] v f e = absurd (omega (arith, ap (λ l. get_or l 0 0) e))
first_x (a ∷ t) v f e = ap (λ x. numeral (x ∷ t)) (sym (ap (λ l. get_or l 0 0) e)) ∙ numeral_x t

-- a line that begins with an x
x_bad : (f : List ℕ) → point_of_line (120 ∷ f) ≡ bad_by (commas (120 ∷ f))
x_bad f =
    bad_fields (slice_split (λ b. nat_eq b 44) (120 ∷ f)) (λ t v parts. inl (first_x t v f (two_joined (120 ∷ f) t v parts)))
    (commas (120 ∷ f)) (length-slice_split (λ b. nat_eq b 44) (120 ∷ f))

-- the carriage return at the end of a line is no comma
commas_stripped : (line : List ℕ) → 0 < length line → get_or line (length line - 1) 0 ≡ 13 → commas (take (length line - 1) line) ≡ commas line
commas_stripped line some last =
    let n = length line - 1 in
    let whole : line ≡ take n line ++ 13 ∷ [] =
    sym (take_all (n + 1) line (omega arith)) ∙ take_more line n 0 (omega arith) ∙ ap (λ b. take n line ++ b ∷ []) last in
    let sum : commas line ≡ commas (take n line) + 0 = ap commas whole ∙ sum_by-append (λ b. cond (nat_eq b 44) 1 0) (take n line) (13 ∷ []) in
    omega arith

-- a line with or without that carriage return
by_strip : (P : List ℕ → Type 0) (line : List ℕ) → P line → (get_or line (length line - 1) 0 ≡ 13 → P (take (length line - 1) line)) → P (strip_carriage_return line)
by_strip P line whole stripped = grind (arith, eqb-true)

-- whatever follows it, a line reads so
pub record StaysBad (line : List ℕ) : Type 0 where
  pub some : 0 < length line
  pub begun : (x : List ℕ) → point_of_line (line ++ x) ≡ bad_by (commas (line ++ x))
  pub ended : (x : List ℕ) → point_of_line (strip_carriage_return (line ++ x)) ≡ bad_by (commas (line ++ x))

long_stripped : (line : List ℕ) → 44 < length line → point_of_line (strip_carriage_return line) ≡ bad_by (commas line)
long_stripped line long =
    by_strip (λ l. point_of_line l ≡ bad_by (commas line)) line (long_bad line (omega arith))
    (λ last. long_bad (take (length line - 1) line) (omega (arith, length-take (length line - 1) line)) ∙ ap bad_by (commas_stripped line (omega arith) last))

long_stays : (line : List ℕ) → 44 < length line → StaysBad line
long_stays line long = grind (arith, long_bad, length-append, long_stripped)

x_stripped : (f : List ℕ) → get_or (120 ∷ f) (length (120 ∷ f) - 1) 0 ≡ 13 → point_of_line (take (length (120 ∷ f) - 1) (120 ∷ f)) ≡ bad_by (commas (120 ∷ f))
x_stripped [] last = absurd (omega arith)
x_stripped (b ∷ f) last =
    let front : take (length (120 ∷ b ∷ f) - 1) (120 ∷ b ∷ f) ≡ 120 ∷ take (length f) (b ∷ f) =
    ap (λ n. take n (120 ∷ b ∷ f)) {x = length (120 ∷ b ∷ f) - 1} {y = suc (length f)} (omega arith) in
    ap point_of_line front ∙ x_bad (take (length f) (b ∷ f)) ∙ ap (λ l. bad_by (commas l)) (sym front)
    ∙ ap bad_by (commas_stripped (120 ∷ b ∷ f) (omega arith) last)

x_stays : (f : List ℕ) → StaysBad (120 ∷ f)
x_stays f = record {
  some = omega arith;
  begun = λ x. x_bad (f ++ x);
  ended = λ x. by_strip (λ l. point_of_line l ≡ bad_by (commas (120 ∷ (f ++ x)))) (120 ∷ (f ++ x)) (x_bad (f ++ x)) (x_stripped (f ++ x));
}

-- its line feed comes
fed_reads : (line front after : List ℕ) → StaysBad line → HasNoFeed line → HasNoFeed front
    → reads_of (line ++ (front ++ 10 ∷ after)) ≡ bad_by (commas line + commas front) ∷ reads_of after
fed_reads line front after bad one more =
    ap reads_of (sym (append_assoc line front (10 ∷ after)))
    ∙ ap (map point_of_line) (lines_fed (line ++ front) after (All-append (λ b. nat_eq b 10 ≡ false) line front one more))
    ∙ ap (λ r. r ∷ reads_of after) (bad.ended front ∙ ap bad_by (sum_by-append (λ b. cond (nat_eq b 44) 1 0) line front))

-- or none does
begun_reads : (line front : List ℕ) → StaysBad line → HasNoFeed line → HasNoFeed front → reads_of (line ++ front) ≡ bad_by (commas line + commas front) ∷ []
begun_reads line front bad one more =
    let some : 0 < length (line ++ front) = omega (arith, bad.some, length-append line front) in
    ap (map point_of_line) (lines_begun (line ++ front) (All-append (λ b. nat_eq b 10 ≡ false) line front one more) some)
    ∙ ap (λ r. r ∷ []) (bad.begun front ∙ ap bad_by (sum_by-append (λ b. cond (nat_eq b 44) 1 0) line front))

-- two lines of as many commas
bad_same : (a b : List ℕ) → StaysBad a → StaysBad b → HasNoFeed a → HasNoFeed b → ((n : ℕ) → bad_by (commas a + n) ≡ bad_by (commas b + n))
    → (more : List ℕ) (at : Option ℕ) → position (λ b. nat_eq b 10) more ≡ at → reads_of (a ++ more) ≡ reads_of (b ++ more)
bad_same a b A B one two same more None none =
    let rest = feed_not_found more none in
    begun_reads a more A one rest ∙ ap (λ r. r ∷ []) (same (commas more)) ∙ sym (begun_reads b more B two rest)
bad_same a b A B one two same more (Some i) at =
    let front = take i more in
    let after = take (length more - (i + 1)) (drop (i + 1) more) in
    let cut = feed_found more i at in
    ap (λ l. reads_of (a ++ l)) cut.0 ∙ fed_reads a front after A one cut.1 ∙ ap (λ r. r ∷ reads_of after) (same (commas front))
    ∙ sym (fed_reads b front after B two cut.1) ∙ ap (λ l. reads_of (b ++ l)) (sym cut.0)

-- an x and commas replace a long line
short_same : (line f : List ℕ) → 44 < length line → HasNoFeed line → HasNoFeed (120 ∷ f)
    → ((n : ℕ) → bad_by (commas line + n) ≡ bad_by (commas (120 ∷ f) + n)) → ReadSame line (120 ∷ f)
short_same line f long one two same =
    record { same = λ more. bad_same line (120 ∷ f) (long_stays line long) (x_stays f) one two same more (position (λ b. nat_eq b 10) more) refl }

not_feeds : (b : ℕ) (f : List ℕ) → nat_eq b 10 ≡ false → HasNoFeed f → HasNoFeed (b ∷ f)
not_feeds b f other rest = All-cons (λ b. nat_eq b 10 ≡ false) b f other rest

none : HasNoFeed []
none = All-nil (λ b. nat_eq b 10 ≡ false)

-- as many commas
pub short_none : (line : List ℕ) → 44 < length line → HasNoFeed line → commas line ≡ 0 → ReadSame line (120 ∷ [])
short_none line long one count = short_same line [] long one (not_feeds 120 [] refl none) (λ n. ap (λ i. bad_by (i + n)) count)

pub short_one : (line : List ℕ) → 44 < length line → HasNoFeed line → commas line ≡ 1 → ReadSame line (120 ∷ 44 ∷ [])
short_one line long one count = grind (arith, short_same, not_feeds, none)

-- two, where there are more
pub short_many : (line : List ℕ) → 44 < length line → HasNoFeed line → 1 < commas line → ReadSame line (120 ∷ 44 ∷ 44 ∷ [])
short_many line long one count = grind (arith, short_same, not_feeds, none, many_bad)
