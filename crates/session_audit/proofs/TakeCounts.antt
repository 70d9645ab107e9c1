-- What the rest of a tape has, one entry further on.
use Rattle.std.proofs.Common.{◌≡◌, ◌∙◌, ℕ, ◌+◌, ◌<◌, Bool, true, false, cond, List, ◌∷◌, drop, length, get_or, refl, sym, ap, arith}
use Rattle.std.specs.List.{count_by}
use Rattle.std.proofs.lemmas.List.{at_drop_more}
use Rattle.std.proofs.lemmas.List.Recursion.{is_count_by}
use Rattle.tag_cell.specs.{Entry, taken}
use Rattle.tag_cell.specs.declared.entry.Entry.TheVariants.{Take, Ask, Pull, Commit}
use Rattle.session_audit.specs.{acked_at_pull}

module _ (tape : List Entry) (i : ℕ) (e : Entry) (within : i < length tape) (is : e ≡ get_or tape i e) where
  -- what a count of the rest is, by its first entry
  pub counts : (F : List Entry → ℕ) (x : Entry) → e ≡ x → F (drop i tape) ≡ F (x ∷ drop (i + 1) tape)
  counts F x so = at_drop_more F tape i e within ∙ ap (λ y. F (y ∷ drop (i + 1) tape)) (sym is ∙ so)

  -- an entry that is no commit and no pull
  pub passes_on : (last : ℕ) → ((moment acked : ℕ) → e ≡ Commit moment acked → ⊥) → ((group from upto : ℕ) → e ≡ Pull group from upto → ⊥)
      → acked_at_pull last (drop i tape) ≡ acked_at_pull last (drop (i + 1) tape)
  passes_on last no_commit no_pull = counts (acked_at_pull last) e refl ∙ by e no_commit no_pull
    where
      by : (x : Entry) → ((moment acked : ℕ) → x ≡ Commit moment acked → ⊥) → ((group from upto : ℕ) → x ≡ Pull group from upto → ⊥)
          → acked_at_pull last (x ∷ drop (i + 1) tape) ≡ acked_at_pull last (drop (i + 1) tape)
      by (Take collector row p held records) none other = refl
      by (Ask reader row q reply) none other = refl
      by (Pull group from upto) none other = absurd (other group from upto refl)
      by (Commit moment acked) none other = absurd (none moment acked refl)

-- ---- how many takes there are

abbrev pub is_take : Entry → Bool
is_take (Take collector row p held records) = true
is_take (Ask reader row q reply) = false
is_take (Pull group from upto) = false
is_take (Commit moment acked) = false

pub takes_counted : (tape : List Entry) → length (taken tape) ≡ count_by is_take tape
takes_counted tape = is_count_by (λ l. length (taken l)) is_take refl one tape
  where
    one : (e : Entry) (l : List Entry) → length (taken (e ∷ l)) ≡ cond (is_take e) (1 + length (taken l)) (length (taken l))
    one (Take collector row p held records) l = omega arith
    one (Ask reader row q reply) l = refl
    one (Pull group from upto) l = refl
    one (Commit moment acked) l = refl
