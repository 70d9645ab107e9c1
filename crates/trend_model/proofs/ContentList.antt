-- The list of a content reads as its records do.
use Rattle.std.proofs.Common.{◌≡◌, ℕ, ◌<◌, inl, inr, ℤ, Bool, true, false, cond, List, [], ◌∷◌, ◌++◌, Option, None, Some, nat_eq, fold, refl, sym, ap, ◌∙◌, subst, arith, append_assoc, append-nil}
use Rattle.std.specs.Prelude.{is_some}
use Rattle.std.proofs.lemmas.List.Elements.{All-head, All-tail}
use Rattle.std.proofs.lemmas.Bool.{cases_eq, ne_eqb, eq-eqb}
use Rattle.trend_num.specs.{Point, Rec, Kind}
use Rattle.trend_num.specs.declared.archive.Kind.TheVariants.{Kept, Late}
use Rattle.std.specs.Option.{option_or}
use Rattle.trend_model.specs.{value_at, is_late_record, late_at, kept_at, content_at, IsRising, IsContentOf, IsClosedContentOf, over, placed, listed, closed_by}
use Rattle.trend_model.specs.Walk.{kept}
use Rattle.trend_model.proofs.Placing.{time, AllAfter, rising_head, rising_tail, rising_nil, rising_placed, placed_by, time_of_over}

-- ---- one record more in a list of records

-- what a record reads as at a time, where it is Late and where it is Kept
abbrev late_here : Rec → ℕ → Option ℤ
late_here r t = cond (is_late_record r.kind) (value_at r.point t) None

abbrev kept_here : Rec → ℕ → Option ℤ
kept_here r t = cond (is_late_record r.kind) None (value_at r.point t)

first_assoc : (a b c : Option ℤ) → option_or (option_or a b) c ≡ option_or a (option_or b c)
first_assoc (Some x) b c = refl
first_assoc None b c = refl

-- one more is looked at first
late_push : (rs : List Rec) (r : Rec) (t : ℕ) → late_at (rs ++ r ∷ []) t ≡ option_or (late_here r t) (late_at rs t)
late_push [] r t = nothing_after (late_here r t)
  where
    nothing_after : (a : Option ℤ) → option_or None a ≡ option_or a None
    nothing_after (Some x) = refl
    nothing_after None = refl
late_push (x ∷ rs) r t = ap (λ a. option_or a (late_here x t)) (late_push rs r t) ∙ first_assoc (late_here r t) (late_at rs t) (late_here x t)

kept_push : (rs : List Rec) (r : Rec) (t : ℕ) → kept_at (rs ++ r ∷ []) t ≡ option_or (kept_here r t) (kept_at rs t)
kept_push [] r t = nothing_after (kept_here r t)
  where
    nothing_after : (a : Option ℤ) → option_or None a ≡ option_or a None
    nothing_after (Some x) = refl
    nothing_after None = refl
kept_push (x ∷ rs) r t = ap (λ a. option_or a (kept_here x t)) (kept_push rs r t) ∙ first_assoc (kept_here r t) (kept_at rs t) (kept_here x t)

-- the content after one more record, from the content and what is Late there
abbrev content_after : Rec → ℕ → Option ℤ → Option ℤ → Option ℤ
content_after r t late content = option_or (late_here r t) (option_or late (option_or (kept_here r t) content))

content_push : (rs : List Rec) (r : Rec) (t : ℕ) → content_at (rs ++ r ∷ []) t ≡ content_after r t (late_at rs t) (content_at rs t)
content_push rs r t = grind (arith, late_push, kept_push)

-- ---- a rising list, by the record that is at a time

-- the record at a time
abbrev found : List Rec → ℕ → Option Rec
found [] t = None
found (x ∷ xs) t = cond (nat_eq (time x) t) (Some x) (found xs t)

-- what it reads as
abbrev value_found : Option Rec → Option ℤ
value_found None = None
value_found (Some x) = Some x.point.v

abbrev late_found : Option Rec → Option ℤ
late_found None = None
late_found (Some x) = cond (is_late_record x.kind) (Some x.point.v) None

-- nothing is at a time that is before all
record Nothing (l : List Rec) (t : ℕ) : Type 0 where
  no_late : late_at l t ≡ None
  no_kept : kept_at l t ≡ None
  none : found l t ≡ None

nothing_before : (l : List Rec) (t : ℕ) → AllAfter t l → Nothing l t
nothing_before [] t after = record { no_late = refl; no_kept = refl; none = refl }
nothing_before (x ∷ xs) t after =
    let head : t < time x = All-head (λ y. t < time y) x xs after in
    let rest = nothing_before xs t (All-tail (λ y. t < time y) x xs after) in
    let other : nat_eq (time x) t ≡ false = ne_eqb (time x) t (omega arith) in
    record {
      no_late = rw (rest.no_late, other) (both_none (is_late_record x.kind));
      no_kept = rw (rest.no_kept, other) (both_none (is_late_record x.kind));
      none = rw other rest.none;
    }
  where
    both_none : (b : Bool) → cond {A = Option ℤ} b None None ≡ None
    both_none true = refl
    both_none false = refl

-- a rising list reads as the record that is found
late_is : (l : List Rec) → IsRising l → (t : ℕ) → late_at l t ≡ late_found (found l t)
late_is [] rises t = refl
late_is (x ∷ xs) rises t =
    elim (cases_eq (time x) t) [
      | inl same ↦
          let rest = nothing_before xs t (subst (λ u. AllAfter u xs) same (rising_head x xs rises)) in
          rw (rest.no_late, eq-eqb (time x) t same) refl
      | inr other ↦ rw (ne_eqb (time x) t other) (last_none (is_late_record x.kind) (late_at xs t) ∙ late_is xs (rising_tail x xs rises) t)
    ]
  where
    last_none : (b : Bool) (a : Option ℤ) → option_or a (cond b None None) ≡ a
    last_none b (Some v) = refl
    last_none true None = refl
    last_none false None = refl

content_is : (l : List Rec) → IsRising l → (t : ℕ) → content_at l t ≡ value_found (found l t)
content_is [] rises t = refl
content_is (x ∷ xs) rises t =
    elim (cases_eq (time x) t) [
      | inl same ↦
          let rest = nothing_before xs t (subst (λ u. AllAfter u xs) same (rising_head x xs rises)) in
          rw (rest.no_late, rest.no_kept, eq-eqb (time x) t same) (one_of_two (is_late_record x.kind) x.point.v)
      | inr other ↦
          rw (ne_eqb (time x) t other) (last_none (is_late_record x.kind) (late_at xs t) (kept_at xs t) ∙ content_is xs (rising_tail x xs rises) t)
    ]
  where
    one_of_two : (b : Bool) (v : ℤ) → option_or (cond b (Some v) None) (cond b None (Some v)) ≡ Some v
    one_of_two true v = refl
    one_of_two false v = refl

    last_none : (b : Bool) (a c : Option ℤ) → option_or (option_or a (cond b None None)) (option_or c (cond b None None)) ≡ option_or a c
    last_none b (Some v) c = refl
    last_none true None (Some w) = refl
    last_none false None (Some w) = refl
    last_none true None None = refl
    last_none false None None = refl

-- ---- one record more in a rising list

-- what is then at the record's time
abbrev onto : Rec → Option Rec → Rec
onto r None = r
onto r (Some x) = over r x

abbrev found_after : Rec → ℕ → Option Rec → Option Rec
found_after r t o = cond (nat_eq (time r) t) (Some (onto r o)) o

found-placed : (r : Rec) (l : List Rec) → IsRising l → (t : ℕ) → found (placed r l) t ≡ found_after r t (found l t)
found-placed r [] rises t = refl
found-placed r (x ∷ xs) rises t = placed_by (λ m. found m t ≡ found_after r t (found (x ∷ xs) t)) r x xs first
    (later (found-placed r xs (rising_tail x xs rises) t)) there
  where
    first : time r < time x → found (r ∷ x ∷ xs) t ≡ found_after r t (found (x ∷ xs) t)
    first before =
        elim (cases_eq (time r) t) [
          | inl same ↦
              let other : nat_eq (time x) t ≡ false = ne_eqb (time x) t (omega arith) in
              let rest = nothing_before xs t (λ k d within. let h = rising_head x xs rises k d within in omega arith) in
              rw (eq-eqb (time r) t same, other, rest.none) refl
          | inr other ↦ rw (ne_eqb (time r) t other) refl
        ]

    later : found (placed r xs) t ≡ found_after r t (found xs t) → time x < time r → found (x ∷ placed r xs) t ≡ found_after r t (found (x ∷ xs) t)
    later rest after =
        elim (cases_eq (time x) t) [
          | inl same ↦ rw (eq-eqb (time x) t same, ne_eqb (time r) t (omega arith)) refl
          | inr other ↦ rw (ne_eqb (time x) t other) rest
        ]

    there : time r ≡ time x → found (over r x ∷ xs) t ≡ found_after r t (found (x ∷ xs) t)
    there same =
        elim (cases_eq (time x) t) [
          | inl is ↦ rw (eq-eqb (time (over r x)) t (time_of_over r x same ∙ is), eq-eqb (time r) t (same ∙ is), eq-eqb (time x) t is) refl
          | inr other ↦
              rw (ne_eqb (time (over r x)) t (λ h. other (sym (time_of_over r x same) ∙ h)), ne_eqb (time r) t (λ h. other (sym same ∙ h)), ne_eqb (time x) t other) refl
        ]

-- it is Late there where the new record is, or one was
late_by : (here : Bool) (k : Kind) (p : Point) (o : Option Rec)
    → late_found (cond here (Some (onto (record { kind = k; point = p }) o)) o) ≡ option_or (cond (is_late_record k) (cond here (Some p.v) None) None) (late_found o)
late_by false Late p o = refl
late_by false Kept p o = refl
late_by true Late p None = refl
late_by true Kept p None = refl
late_by true Late p (Some x) = by_kind x.kind x.point
  where
    by_kind : (k : Kind) (q : Point) → late_found (Some (over (record { kind = Late; point = p }) (record { kind = k; point = q }))) ≡ Some p.v
    by_kind Late q = refl
    by_kind Kept q = refl
late_by true Kept p (Some x) = by_kind x.kind x.point
  where
    by_kind : (k : Kind) (q : Point) → late_found (Some (over (record { kind = Kept; point = p }) (record { kind = k; point = q }))) ≡ cond (is_late_record k) (Some q.v) None
    by_kind Late q = refl
    by_kind Kept q = refl

-- and its value is that of what is over the other
value_by : (here : Bool) (k : Kind) (p : Point) (o : Option Rec)
    → value_found (cond here (Some (onto (record { kind = k; point = p }) o)) o)
    ≡ option_or (cond (is_late_record k) (cond here (Some p.v) None) None)
    (option_or (late_found o) (option_or (cond (is_late_record k) None (cond here (Some p.v) None)) (value_found o)))
value_by here k p None = alone here k
  where
    alone : (here : Bool) (k : Kind) → value_found (cond here (Some (record { kind = k; point = p })) None)
        ≡ option_or (cond (is_late_record k) (cond here (Some p.v) None) None) (option_or (cond (is_late_record k) None (cond here (Some p.v) None)) None)
    alone true Late = refl
    alone true Kept = refl
    alone false Late = refl
    alone false Kept = refl
value_by here k p (Some x) = by_kinds here k x.kind x.point
  where
    by_kinds : (here : Bool) (k j : Kind) (q : Point)
        → value_found (cond here (Some (over (record { kind = k; point = p }) (record { kind = j; point = q }))) (Some (record { kind = j; point = q })))
        ≡ option_or (cond (is_late_record k) (cond here (Some p.v) None) None)
        (option_or (cond (is_late_record j) (Some q.v) None) (option_or (cond (is_late_record k) None (cond here (Some p.v) None)) (Some q.v)))
    by_kinds true Late Late q = refl
    by_kinds true Late Kept q = refl
    by_kinds true Kept Late q = refl
    by_kinds true Kept Kept q = refl
    by_kinds false Late Late q = refl
    by_kinds false Late Kept q = refl
    by_kinds false Kept Late q = refl
    by_kinds false Kept Kept q = refl

late-placed : (r : Rec) (l : List Rec) → IsRising l → (t : ℕ) → late_at (placed r l) t ≡ option_or (late_here r t) (late_at l t)
late-placed r l rises t = grind (arith, late_is, rising_placed, found-placed, late_by, time)

content-placed : (r : Rec) (l : List Rec) → IsRising l → (t : ℕ) → content_at (placed r l) t ≡ content_after r t (late_at l t) (content_at l t)
content-placed r l rises t = grind (arith, content_is, rising_placed, found-placed, value_by, time, late_is)

-- ---- the law

-- the content of records, and of one more
pub content_more : (rs l : List Rec) (r : Rec) → IsContentOf rs l → IsContentOf (rs ++ r ∷ []) (placed r l)
content_more rs l r is = grind (arith, rising_placed, content-placed, content_push, late-placed, late_push)

-- the content of no records
pub content_none : IsContentOf [] []
content_none = record { rising = rising_nil; content = λ t. refl; late = λ t. refl }

-- the content of records, and of more
content_all : (rs more l : List Rec) → IsContentOf rs l → IsContentOf (rs ++ more) (fold (λ m r. placed r m) l more)
content_all rs [] l is = rw append-nil is
content_all rs (r ∷ more) l is =
    subst (λ qs. IsContentOf qs (fold (λ m x. placed x m) (placed r l) more)) (append_assoc rs (r ∷ []) more)
    (content_all (rs ++ r ∷ []) more (placed r l) (content_more rs l r is))

pub content_listed : (rs : List Rec) → IsContentOf rs (listed rs)
content_listed rs = content_all [] rs [] content_none

-- ---- closed by a point

first_none : (a : Option ℤ) → option_or a None ≡ a
first_none (Some x) = refl
first_none None = refl

-- where there is something, a point adds nothing
stands : (a : Option ℤ) (v : ℤ) → is_some a ≡ true → a ≡ option_or a (Some v)
stands (Some x) v some = refl
stands None v some = absurd cc

-- where there is nothing, a Kept record is what is read
fills : (late kept : Option ℤ) (v : ℤ) → is_some (option_or late kept) ≡ false
    → option_or late (option_or (Some v) (option_or late kept)) ≡ option_or (option_or late kept) (Some v)
fills (Some x) kept v none = absurd cc
fills None (Some x) v none = absurd cc
fills None None v none = refl

-- elsewhere it changes nothing
elsewhere : (late kept : Option ℤ) → option_or late (option_or late kept) ≡ option_or (option_or late kept) None
elsewhere (Some x) kept = refl
elsewhere None kept = sym (first_none kept)

-- the value of a content at a time, closed by a point
closed_value : (l : List Rec) (q : Point) (there : Bool) → is_some (content_at l q.t) ≡ there → IsRising l → (t : ℕ)
    → content_at (cond there l (placed (kept q) l)) t ≡ option_or (content_at l t) (value_at q t)
closed_value l q true is rises t =
    elim (cases_eq q.t t) [
      | inl same ↦ rw (eq-eqb q.t t same) (stands (content_at l t) q.v (subst (λ u. is_some (content_at l u) ≡ true) same is))
      | inr other ↦ rw (ne_eqb q.t t other) (sym (first_none (content_at l t)))
    ]
closed_value l q false is rises t =
    content-placed (kept q) l rises t ∙ elim (cases_eq q.t t) [
      | inl same ↦
          rw (eq-eqb q.t t same) (fills (late_at l t) (kept_at l t) q.v (subst (λ u. is_some (content_at l u) ≡ false) same is))
      | inr other ↦ rw (ne_eqb q.t t other) (elsewhere (late_at l t) (kept_at l t))
    ]

closed_rises : (l : List Rec) (q : Point) (there : Bool) → IsRising l → IsRising (cond there l (placed (kept q) l))
closed_rises l q true rises = rises
closed_rises l q false rises = rising_placed (kept q) l rises

closed_late : (l : List Rec) (q : Point) (there : Bool) → IsRising l → (t : ℕ) → late_at (cond there l (placed (kept q) l)) t ≡ late_at l t
closed_late l q true rises t = refl
closed_late l q false rises t = late-placed (kept q) l rises t

-- a content that is closed by a point
pub content_closed : (rs l : List Rec) (q : Option Point) → IsContentOf rs l → IsClosedContentOf rs q (closed_by q l)
content_closed rs l None is = record { rising = is.rising; content = λ t. is.content t ∙ sym (first_none (content_at rs t)); late = is.late }
content_closed rs l (Some q) is =
    let there = is_some (content_at l q.t) in
    record {
      rising = closed_rises l q there is.rising;
      content = λ t. closed_value l q there refl is.rising t ∙ ap (λ a. option_or a (value_at q t)) (is.content t);
      late = λ t. closed_late l q there is.rising t ∙ is.late t;
    }
