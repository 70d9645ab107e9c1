-- Fields that are all kept, and the first that is not: it is one alone, and there is none where all are kept.
use Rattle.std.proofs.Common.{◌≡◌, inl, inr, ℕ, ◌+◌, ◌<◌, ◌≤◌, Bool, true, nat_le, All, List, [], ◌∷◌, ◌++◌, length, get_or, Option, Some, refl, sym, ap, ◌∙◌, subst, arith, length-append}
use Rattle.std.specs.List.{list_all}
use Rattle.std.proofs.lemmas.Bool.{and_parts, cases_order, leb-true}
use Rattle.std.proofs.lemmas.List.{get_or_append_left, get_or_at}
use Rattle.std.proofs.lemmas.List.Elements.{All-cons, All-nil}
use Rattle.archive_file.specs.{Field, Keeps, Breaks, BreaksFirst}

-- ---- all are kept

-- all of these fields end before a place
abbrev all_within : List Field → ℕ → Bool
all_within fields end = list_all (λ f. nat_le (f.place + f.size) end) fields

-- fields within an image are kept where each keeps its rule
pub kept_in : (c : List ℕ) (fields : List Field) (n : ℕ) → length c ≡ n → all_within fields n ≡ true
    → list_all (λ f. f.is_kept) fields ≡ true → All (Keeps c) fields
kept_in c [] n long within kept = All-nil (Keeps c)
kept_in c (f ∷ fields) n long within kept =
    let both = and_parts (nat_le (f.place + f.size) n) (all_within fields n) within in
    let each = and_parts f.is_kept (list_all (λ g. g.is_kept) fields) kept in
    All-cons (Keeps c) f fields (record { there = omega (arith, leb-true (f.place + f.size) n both.0, long); kept = each.0 })
    (kept_in c fields n long both.1 each.1)

-- ---- the first that is not

-- a field that is kept does not break
kept_holds : (c : List ℕ) (f : Field) (a : ℕ) (byte : Option ℕ) → Keeps c f → Breaks c f a byte → ⊥
kept_holds c f a byte keeps breaks = grind arith

-- a field breaks in one way
breaks_once : (c : List ℕ) (f : Field) (a b : ℕ) (byte other : Option ℕ) → Breaks c f a byte → Breaks c f b other
    → (a ≡ b) × (byte ≡ other)
breaks_once c f a b byte other x y = grind arith

module _ (c : List ℕ) (fields : List Field) (a : ℕ) (byte : Option ℕ) (x : BreaksFirst c fields a byte) where
  -- its number is that of the fields before it
  number : length x.before < length fields
  number = omega (arith, ap length x.are, length-append x.before (x.field ∷ x.behind))

  field_there : (d : Field) → get_or fields (length x.before) d ≡ x.field
  field_there d = ap (λ l. get_or l (length x.before) d) x.are
      ∙ get_or_at x.before x.field x.behind d (length x.before) refl

  -- where all fields are kept, none is the first that is not
  pub none_broken : All (Keeps c) fields → ⊥
  none_broken kept =
      kept_holds c x.field a byte (subst (Keeps c) (field_there x.field) (kept (length x.before) x.field number)) x.breaks

  -- the place is in the image or at its end
  pub broken_within : a ≤ length c
  broken_within = grind arith

  module _ (b : ℕ) (other : Option ℕ) (y : BreaksFirst c fields b other) where
    -- it is not among the fields before another
    not_before : length x.before < length y.before → ⊥
    not_before less =
        let same : get_or y.before (length x.before) x.field ≡ x.field =
        sym (ap (λ l. get_or l (length x.before) x.field) y.are
        ∙ get_or_append_left y.before (y.field ∷ y.behind) x.field (length x.before) less) ∙ field_there x.field in
        kept_holds c x.field a byte (subst (Keeps c) same (y.kept (length x.before) x.field less)) x.breaks

-- the first field that is not kept is one alone
pub one_broken : (c : List ℕ) (fields : List Field) (a b : ℕ) (byte other : Option ℕ) → BreaksFirst c fields a byte
    → BreaksFirst c fields b other → (a ≡ b) × (byte ≡ other)
one_broken c fields a b byte other x y = elim (cases_order (length x.before) (length y.before)) [
  | inl same ↦
      let field : x.field ≡ y.field = sym (field_there c fields a byte x x.field)
      ∙ ap (λ n. get_or fields n x.field) same ∙ field_there c fields b other y x.field in
      breaks_once c y.field a b byte other (subst (λ f. Breaks c f a byte) field x.breaks) y.breaks
  | inr (inl less) ↦ absurd (not_before c fields a byte x b other y less)
  | inr (inr more) ↦ absurd (not_before c fields b other y a byte x more)
]
