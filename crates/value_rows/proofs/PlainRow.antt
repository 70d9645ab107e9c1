-- Lemmas on a plain row: its line is the next record of its text.
use Rattle.std.proofs.Common.{◌≡◌, ◌⊎◌, inl, inr, ℕ, ◌<◌, ℤ, pos, neg_ℤ, Bool, ◌&&◌, true, false, cond, List, [], ◌∷◌, ◌++◌, All, length, get_or, nat_eq, nat_le, Option, Some, None, Ok, refl, sym, ap, ◌∙◌, append_assoc, subst, arith}
use Rattle.std.proofs.lemmas.Bool.Decides.{nat_tests}
use Rattle.std.proofs.lemmas.Bool.{eqb-true, false≢true}
use Rattle.std.proofs.lemmas.List.{take_more, take_all}
use Rattle.std.proofs.lemmas.List.Elements.{All-head, All-tail, All-cons, All-from_get_or}
use Rattle.std.proofs.lemmas.List.Folds.{list_all_at}
use Rattle.std.proofs.lemmas.List.Splits.{join_with_byte-slice_split}
use Rattle.std.specs.Char.{is_ascii_digit}
use Rattle.std.specs.List.{join_with_byte, list_all, slice_split}
use Rattle.std.specs.Str.Lines.{strip_carriage_return}
use Rattle.csv.proofs.ReadFacts.{run-copies}
use Rattle.csv.specs.Machine.{Read, Runs, step, next_record}
use Rattle.csv.specs.Reading.{default_config}
use Rattle.csv.specs.declared.parser.Action.TheVariants as act
use Rattle.csv.specs.declared.parser.State.{State}
use Rattle.csv.specs.declared.parser.State.TheVariants as st
use Rattle.trend_num.specs.{Point, IsName, is_name_byte, digits_value, numeral, signed_by, unsigned_numeral}
use Rattle.trend_num.proofs.Numbers.{digit_at, digit_code}
use Rattle.point_text.specs.{IsFirstPoint, point_read, point_of_fields, point_of_line}
use Rattle.value_rows.specs.{first_place_of, raw_row, IsFirstRow, records_left, RawRow}
use Rattle.value_rows.proofs.Left.{first_left, same_next}

-- neither a quote, a comma, a carriage return nor a line feed
pub record IsBare (b : ℕ) : Type 0 where
  pub quote : nat_eq b 34 ≡ false
  pub comma : nat_eq b 44 ≡ false
  pub return : nat_eq b 13 ≡ false
  pub feed : nat_eq b 10 ≡ false

-- the next record of a text
abbrev next : State → List (List ℕ) → List ℕ → List ℕ → Option Read
next = next_record default_config

-- the state in which a record begins
abbrev start : State
start = st.StartRecord

-- such a byte joins the field at hand
joins : (b : ℕ) → IsBare b → step default_config st.InField b ≡ (st.InField, act.Copy)
joins b bare = rw (bare.comma, bare.return, bare.feed) refl

-- or begins one
begins_field : (b : ℕ) → IsBare b → step default_config st.StartField b ≡ (st.InField, act.Copy)
begins_field b bare = rw (bare.quote, bare.comma, bare.return, bare.feed) refl

-- or a record
begins_record : (b : ℕ) → IsBare b → step default_config start b ≡ (st.InField, act.Copy)
begins_record b bare = rw (bare.quote, bare.comma, bare.return, bare.feed) refl

-- so do such bytes
bare_runs : (x : List ℕ) → All IsBare x → Runs default_config st.InField x
unfolding Runs
bare_runs [] bare = tt
bare_runs (b ∷ x) bare = (joins b (All-head IsBare b x bare), bare_runs x (All-tail IsBare b x bare))

-- a field of such bytes, up to the byte that ends it
field_read : (s : State) (fields : List (List ℕ)) (b : ℕ) (x tail : List ℕ)
    → step default_config s b ≡ (st.InField, act.Copy) → All IsBare x
    → next s fields [] (b ∷ (x ++ tail)) ≡ next st.InField fields (b ∷ x) tail
unfolding next_record
field_read s fields b x tail begins bare = grind (arith, run-copies, bare_runs)

-- up to a comma
comma_read : (s : State) (fields : List (List ℕ)) (b : ℕ) (x tail : List ℕ)
    → step default_config s b ≡ (st.InField, act.Copy) → All IsBare x
    → next s fields [] (b ∷ (x ++ 44 ∷ tail)) ≡ next st.StartField (fields ++ (b ∷ x) ∷ []) [] tail
unfolding next_record
comma_read s fields b x tail begins bare = field_read s fields b x (44 ∷ tail) begins bare

-- up to a line feed
feed_read : (s : State) (fields : List (List ℕ)) (b : ℕ) (x tail : List ℕ)
    → step default_config s b ≡ (st.InField, act.Copy) → All IsBare x
    → next s fields [] (b ∷ (x ++ 10 ∷ tail)) ≡ Some (fields ++ (b ∷ x) ∷ [], start, tail)
unfolding next_record
feed_read s fields b x tail begins bare = field_read s fields b x (10 ∷ tail) begins bare

-- up to a carriage return
return_read : (s : State) (fields : List (List ℕ)) (b : ℕ) (x tail : List ℕ)
    → step default_config s b ≡ (st.InField, act.Copy) → All IsBare x
    → next s fields [] (b ∷ (x ++ 13 ∷ tail)) ≡ Some (fields ++ (b ∷ x) ∷ [], st.AfterCr, tail)
unfolding next_record
return_read s fields b x tail begins bare = field_read s fields b x (13 ∷ tail) begins bare

-- a field that has bytes, and such ones alone
pub record IsBareField (x : List ℕ) : Type 0 where
  pub some : 0 < length x
  pub bare : All IsBare x

-- the last of three fields ends at a line feed or at a carriage return
abbrev EndsLine : ℕ → State → Type 0
EndsLine c end = ((c ≡ 10) × (end ≡ start)) ⊎ ((c ≡ 13) × (end ≡ st.AfterCr))

-- the last field
last_read : (c : ℕ) (end : State) (v tail : List ℕ) (fields : List (List ℕ)) → EndsLine c end → IsBareField v
    → next st.StartField fields [] (v ++ c ∷ tail) ≡ Some (fields ++ v ∷ [], end, tail)
last_read c end [] tail fields ends is = absurd (omega (arith, is.some))
last_read c end (b ∷ v) tail fields (inl (byte, state)) is =
    let first = begins_field b (All-head IsBare b v is.bare) in
    rw (byte, state) (feed_read st.StartField fields b v tail first (All-tail IsBare b v is.bare))
last_read c end (b ∷ v) tail fields (inr (byte, state)) is =
    let first = begins_field b (All-head IsBare b v is.bare) in
    rw (byte, state) (return_read st.StartField fields b v tail first (All-tail IsBare b v is.bare))

-- the middle one
middle_read : (t tail : List ℕ) (fields : List (List ℕ)) → IsBareField t
    → next st.StartField fields [] (t ++ 44 ∷ tail) ≡ next st.StartField (fields ++ t ∷ []) [] tail
middle_read [] tail fields is = absurd (omega (arith, is.some))
middle_read (b ∷ t) tail fields is =
    let first = begins_field b (All-head IsBare b t is.bare) in
    comma_read st.StartField fields b t tail first (All-tail IsBare b t is.bare)

-- the first one
first_read : (name tail : List ℕ) → IsBareField name
    → next start [] [] (name ++ 44 ∷ tail) ≡ next st.StartField (name ∷ []) [] tail
first_read [] tail is = absurd (omega (arith, is.some))
first_read (b ∷ name) tail is =
    let first = begins_record b (All-head IsBare b name is.bare) in
    comma_read start [] b name tail first (All-tail IsBare b name is.bare)

-- three fields are a record
three_read : (c : ℕ) (end : State) (name t v tail : List ℕ) → EndsLine c end → IsBareField name
    → IsBareField t → IsBareField v
    → next start [] [] (name ++ 44 ∷ (t ++ 44 ∷ (v ++ c ∷ tail))) ≡ Some (name ∷ t ∷ v ∷ [], end, tail)
three_read c end name t v tail ends bare_name bare_t bare_v =
    first_read name (t ++ 44 ∷ (v ++ c ∷ tail)) bare_name
    ∙ middle_read t (v ++ c ∷ tail) (name ∷ []) bare_t
    ∙ last_read c end v tail (name ∷ t ∷ []) ends bare_v

-- a line feed after a carriage return is passed over
return_fed : (after : List ℕ)
    → next st.AfterCr [] [] (10 ∷ after) ≡ next start [] [] after
unfolding next_record
return_fed after = refl

-- with a line feed after them they are the first record
fed_first : (name t v after : List ℕ) → IsBareField name → IsBareField t → IsBareField v
    → records_left start (name ++ 44 ∷ (t ++ 44 ∷ (v ++ 10 ∷ after))) ≡ (name ∷ t ∷ v ∷ []) ∷ records_left start after
fed_first name t v after bare_name bare_t bare_v =
    let text = name ++ 44 ∷ (t ++ 44 ∷ (v ++ 10 ∷ after)) in
    first_left start text (name ∷ t ∷ v ∷ [], start, after) refl
    (three_read 10 start name t v after (inl (refl, refl)) bare_name bare_t bare_v)

-- and with a carriage return and a line feed
returned_first : (name t v after : List ℕ) → IsBareField name → IsBareField t → IsBareField v
    → records_left start (name ++ 44 ∷ (t ++ 44 ∷ (v ++ 13 ∷ 10 ∷ after))) ≡ (name ∷ t ∷ v ∷ []) ∷ records_left start after
returned_first name t v after bare_name bare_t bare_v =
    let text = name ++ 44 ∷ (t ++ 44 ∷ (v ++ 13 ∷ 10 ∷ after)) in
    first_left start text (name ∷ t ∷ v ∷ [], st.AfterCr, 10 ∷ after) refl
    (three_read 13 st.AfterCr name t v (10 ∷ after) (inr (refl, refl)) bare_name bare_t bare_v)
    ∙ ap (λ l. (name ∷ t ∷ v ∷ []) ∷ l) (same_next st.AfterCr start (10 ∷ after) after refl refl (return_fed after))

-- a digit is such a byte
digit_bare : (b : ℕ) → is_ascii_digit b ≡ true → IsBare b
digit_bare b is = grind (arith, digit_code, nat_tests)

-- so are those of digits
digits_bare : (x : List ℕ) → list_all is_ascii_digit x ≡ true → All IsBare x
digits_bare x all = All-from_get_or IsBare x 0 (λ i below. digit_bare (get_or x i 0) (digit_at x i all below))

-- digits that spell a number have bytes, and such ones alone
unsigned_bare : (x : List ℕ) (n : ℕ) → unsigned_numeral x ≡ Some n → IsBareField x
unsigned_bare x n is =
    elim (nat_le 1 (length x)) as (λ a. nat_le 1 (length x) ≡ a
    → cond (a && nat_le (length x) 20 && list_all is_ascii_digit x) (Some (digits_value x)) None ≡ Some n → IsBareField x) [
      | true ↦ λ some spelled.
          let digits = all_digits (nat_le (length x) 20) (list_all is_ascii_digit x) spelled in
          record { some = grind (arith, nat_tests); bare = digits_bare x digits }
      | false ↦ λ _ none. absurd (cc)
    ] refl is
  where
    all_digits : (few all : Bool) → cond (few && all) (Some (digits_value x)) None ≡ Some n → all ≡ true
    all_digits true true e = refl
    all_digits true false e = absurd (cc)
    all_digits false all e = absurd (cc)

-- a number with its sign was spelled
signed_some : (sign : ℕ → ℤ) (o : Option ℕ) (z : ℤ) → signed_by sign o ≡ Some z → (n : ℕ) × (o ≡ Some n)
signed_some sign None z is = absurd (cc)
signed_some sign (Some n) z is = (n, refl)

-- so has a numeral
numeral_bare : (x : List ℕ) (z : ℤ) → numeral x ≡ Some z → IsBareField x
numeral_bare [] z is = absurd (cc)
numeral_bare (b ∷ x) z is =
    elim (nat_eq b 45) as (λ m. nat_eq b 45 ≡ m
    → cond m (signed_by (λ n. neg_ℤ (pos n)) (unsigned_numeral x)) (signed_by pos (unsigned_numeral (b ∷ x))) ≡ Some z
    → IsBareField (b ∷ x)) [
      | true ↦ λ minus spelled.
          let (n, digits) = signed_some (λ n. neg_ℤ (pos n)) (unsigned_numeral x) z spelled in
          let sign : IsBare 45 = record { quote = refl; comma = refl; return = refl; feed = refl } in
          let first : IsBare b = subst IsBare (sym (eqb-true _ _ minus)) sign in
          record { some = omega arith; bare = All-cons IsBare b x first (unsigned_bare x n digits).bare }
      | false ↦ λ _ spelled.
          let (n, digits) = signed_some pos (unsigned_numeral (b ∷ x)) z spelled in
          unsigned_bare (b ∷ x) n digits
    ] refl is

-- a letter, a digit or one of `_`, `.` and `-` is such a byte
name_byte_bare : (b : ℕ) → is_name_byte b ≡ true → IsBare b
name_byte_bare b is = grind (arith, false≢true, eqb-true)

-- a name has bytes, and such ones alone
name_bare : (name : List ℕ) → IsName name → IsBareField name
name_bare name is = grind (arith, name_byte_bare, false≢true, list_all_at)

-- a time and a value that were read, and the line that they are in
record IsRead (line : List ℕ) (p : Point) : Type 0 where
  t : List ℕ
  v : List ℕ
  joined : line ≡ t ++ 44 ∷ v
  bare_t : IsBareField t
  bare_v : IsBareField v
  reads : point_read (numeral t) (numeral v) ≡ Ok p

-- fields of which a point was read
fields_read : (line : List ℕ) (p : Point) (fields : List (List ℕ))
    → slice_split (λ b. nat_eq b 44) line ≡ fields → point_of_fields fields ≡ Ok p → IsRead line p
fields_read line p [] parts read = absurd (cc)
fields_read line p (t ∷ []) parts read = absurd (cc)
fields_read line p (t ∷ v ∷ w ∷ more) parts read = absurd (cc)
fields_read line p (t ∷ v ∷ []) parts read =
    let (time, value, first, second) = both (numeral t) (numeral v) read in
    record {
      t = t;
      v = v;
      joined = sym (join_with_byte-slice_split 44 line) ∙ ap (join_with_byte 44) parts;
      bare_t = numeral_bare t time first;
      bare_v = numeral_bare v value second;
      reads = read;
    }
  where
    both : (o q : Option ℤ) → point_read o q ≡ Ok p → (a : ℤ) × (b : ℤ) × (o ≡ Some a) × (q ≡ Some b)
    both None q e = absurd (cc)
    both (Some a) None e = absurd (cc)
    both (Some a) (Some b) e = (a, b, refl, refl)

-- the line less a carriage return, and the line
stripped : (P : List ℕ → List ℕ → Type 0) (line : List ℕ) → P line line → ((front : List ℕ)
    → line ≡ front ++ 13 ∷ [] → P line front)
    → P line (strip_carriage_return line)
stripped P line whole short = grind (arith, eqb-true, take_all, take_more)

-- a plain row is the first one
pub plain_first : (tags : List (List ℕ)) (text name rest after : List ℕ) (tag : ℕ) (p : Point)
    → text ≡ name ++ 44 ∷ rest → IsName name
    → Some tag ≡ first_place_of tags name → IsFirstPoint rest after (Ok p)
    → IsFirstRow (raw_row tags) text after (record { tag = tag; point = p })
plain_first tags text name rest after tag p cut is_name place first =
    stripped (λ line front. point_of_line front ≡ Ok p → IsFirstRow (raw_row tags) text after row) first.line fed returned
    (sym first.reads)
  where
    row : RawRow
    row = record { tag = tag; point = p }

    good : (t v : List ℕ) → point_read (numeral t) (numeral v) ≡ Ok p → raw_row tags (name ∷ t ∷ v ∷ []) ≡ Ok row
    good t v reads = rw (sym place, reads) refl

    fed : point_of_line first.line ≡ Ok p → IsFirstRow (raw_row tags) text after row
    fed read =
        let is = fields_read first.line p (slice_split (λ b. nat_eq b 44) first.line) refl read in
        let shape : text ≡ name ++ 44 ∷ (is.t ++ 44 ∷ (is.v ++ 10 ∷ after)) =
        cut ∙ ap (λ l. name ++ 44 ∷ l)
        (first.cut ∙ ap (λ l. l ++ 10 ∷ after) is.joined ∙ append_assoc is.t (44 ∷ is.v) (10 ∷ after)) in
        record {
          fields = name ∷ is.t ∷ is.v ∷ [];
          first = grind (arith, fed_first, name_bare);
          reads = good is.t is.v is.reads;
        }

    returned : (front : List ℕ) → first.line ≡ front ++ 13 ∷ [] → point_of_line front ≡ Ok p
        → IsFirstRow (raw_row tags) text after row
    returned front back read =
        let is = fields_read front p (slice_split (λ b. nat_eq b 44) front) refl read in
        let line : rest ≡ front ++ 13 ∷ 10 ∷ after =
        first.cut ∙ ap (λ l. l ++ 10 ∷ after) back ∙ append_assoc front (13 ∷ []) (10 ∷ after) in
        let shape : text ≡ name ++ 44 ∷ (is.t ++ 44 ∷ (is.v ++ 13 ∷ 10 ∷ after)) =
        cut ∙ ap (λ l. name ++ 44 ∷ l)
        (line ∙ ap (λ l. l ++ 13 ∷ 10 ∷ after) is.joined ∙ append_assoc is.t (44 ∷ is.v) (13 ∷ 10 ∷ after)) in
        record {
          fields = name ∷ is.t ∷ is.v ∷ [];
          first = grind (arith, returned_first, name_bare);
          reads = good is.t is.v is.reads;
        }
