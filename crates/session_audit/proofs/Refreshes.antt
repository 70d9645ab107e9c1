-- Which turns are refreshes, and how many there are.
use Rattle.std.proofs.Common.{◌≡◌, ℕ, ◌+◌, ◌≤◌, Bool, true, false, cond, List, [], ◌∷◌, ◌++◌, All, length, get_or, refl, sym, ap, subst, ◌∙◌, arith, append-nil}
use Rattle.std.specs.List.{count_by}
use Rattle.std.specs.Prelude.{slice_index}
use Rattle.std.proofs.lemmas.List.Recursion.{is_count_by}
use Rattle.std.proofs.lemmas.List.Elements.{All-head, All-tail, filter_map-append}
use Rattle.group_book.specs.{Turn, ToldBook}
use Rattle.group_book.specs.declared.turn.Turn.TheVariants.{Refresh, Ask, Save}
use Rattle.session_audit.specs.{AreEach, IsAsk, IsAskedMore, refreshes, reached_by, IsWithinTurns}

-- ---- how many refreshes there are

abbrev pub is_refresh : Turn → Bool
is_refresh (Refresh versions) = true
is_refresh (Ask reader row calc k reply) = false
is_refresh (Save number moment) = false

pub refreshes_counted : (tape : List Turn) → length (refreshes tape) ≡ count_by is_refresh tape
refreshes_counted tape = is_count_by (λ l. length (refreshes l)) is_refresh refl one tape
  where
    one : (t : Turn) (l : List Turn) → length (refreshes (t ∷ l)) ≡ cond (is_refresh t) (1 + length (refreshes l)) (length (refreshes l))
    one (Refresh versions) l = omega arith
    one (Ask reader row calc k reply) l = refl
    one (Save number moment) l = refl

-- ---- books that were asked

-- questions are none
asks_refresh_none : (more : List Turn) → All IsAsk more → refreshes more ≡ []
asks_refresh_none [] each = refl
asks_refresh_none (Ask reader row calc k reply ∷ more) each =
    asks_refresh_none more (All-tail IsAsk (Ask reader row calc k reply) more each)
asks_refresh_none (Refresh versions ∷ more) each = absurd (All-head IsAsk (Refresh versions) more each)
asks_refresh_none (Save number moment ∷ more) each = absurd (All-head IsAsk (Save number moment) more each)

-- so a book that was asked has as many as before
pub asked_refreshes : {D : Type 0} (old new : ToldBook D) → IsAskedMore old new → refreshes new.tape ≡ refreshes old.tape
asked_refreshes old new step =
    ap (λ b. refreshes b.tape) step.changed ∙ (filter_map-append reached_by old.tape step.more
    ∙ (ap (λ l. refreshes old.tape ++ l) (asks_refresh_none step.more step.each) ∙ append-nil (refreshes old.tape)))

pub asked_within : {D : Type 0} (turns : List ℕ) (old new : List (ToldBook D)) → AreEach IsAskedMore old new
    → IsWithinTurns turns old → IsWithinTurns turns new
asked_within turns old new asked before = record {
  each = λ group d below.
      subst (λ n. n ≤ slice_index turns group)
      (sym (ap length (asked_refreshes (get_or old group d) (get_or new group d) (asked.each group d))))
      (before.each group d (omega (arith, below, asked.as_many)));
}
