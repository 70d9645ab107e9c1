-- Entries of one kind show nothing of the work of another.
use Rattle.std.proofs.Common.{◌≡◌, ℕ, List, [], ◌∷◌, ◌++◌, All, get_or, Option, None, refl, ap, ◌∙◌, arith, append-nil}
use Rattle.std.proofs.lemmas.List.Elements.{All-head, All-tail, filter_map-append}
use Rattle.tag_cell.specs.{Entry, ToldCell}
use Rattle.tag_cell.specs.declared.entry.Entry.TheVariants.{Take, Ask, Pull, Commit}
use Rattle.session_audit.specs.{Item, Shown, Reached, seen_by, tape_shows, ask_of, take_of, AreAllFound, AreAllShown, AreLonger, IsAskEntry, IsCommitEntry, IsTakeEntry}

-- ---- one entry

pub taken_asks : (e : Entry) → IsTakeEntry e → ask_of e ≡ None
taken_asks (Take collector row p held records) is = refl
taken_asks (Ask reader row q reply) is = absurd is
taken_asks (Pull group from upto) is = absurd is
taken_asks (Commit moment acked) is = absurd is

pub asked_takes : (e : Entry) → IsAskEntry e → take_of e ≡ None
asked_takes (Take collector row p held records) is = absurd is
asked_takes (Ask reader row q reply) is = refl
asked_takes (Pull group from upto) is = absurd is
asked_takes (Commit moment acked) is = absurd is

pub committed_takes : (e : Entry) → IsCommitEntry e → take_of e ≡ None
committed_takes (Take collector row p held records) is = absurd is
committed_takes (Ask reader row q reply) is = absurd is
committed_takes (Pull group from upto) is = absurd is
committed_takes (Commit moment acked) is = refl

pub committed_asks : (e : Entry) → IsCommitEntry e → ask_of e ≡ None
committed_asks (Take collector row p held records) is = absurd is
committed_asks (Ask reader row q reply) is = absurd is
committed_asks (Pull group from upto) is = absurd is
committed_asks (Commit moment acked) is = refl

-- ---- tapes

-- entries that show nothing
none_shown : {E : Type 0} (work : E → Option Shown) (IsOf : E → Type 0) (worker : ℕ) (more : List E)
    → ((e : E) → IsOf e → work e ≡ None) → All IsOf more → tape_shows work worker more ≡ []
none_shown work IsOf worker [] kind each = refl
none_shown work IsOf worker (e ∷ more) kind each =
    let none : seen_by work worker e ≡ None = rw (kind e (All-head IsOf e more each)) refl in
    rw none (none_shown work IsOf worker more kind (All-tail IsOf e more each))

-- a tape that is longer by such entries
pub same_shown : {E : Type 0} (work : E → Option Shown) (IsOf : E → Type 0) (worker : ℕ) (old new more : List E)
    → ((e : E) → IsOf e → work e ≡ None) → All IsOf more → new ≡ old ++ more
    → tape_shows work worker new ≡ tape_shows work worker old
same_shown work IsOf worker old new more kind each is =
    ap (tape_shows work worker) is ∙ (filter_map-append (seen_by work worker) old more
    ∙ (ap (λ l. tape_shows work worker old ++ l) (none_shown work IsOf worker more kind each)
    ∙ append-nil (tape_shows work worker old)))

-- ---- all cells

-- what was found stays
pub longer_found : {D : Type 0} (work : Entry → Option Shown) (IsOf : Entry → Type 0) (old new : List (ToldCell D))
    (works : List Reached) → ((e : Entry) → IsOf e → work e ≡ None) → AreLonger IsOf old new → AreAllFound work old works
    → AreAllFound work new works
longer_found work IsOf old new works kind longer before = record {
  each = λ tag d below.
      (let step = longer.each tag d in
      record {
        each = λ worker. same_shown work IsOf worker (get_or old tag d).tape (get_or new tag d).tape step.more kind step.each step.tape
            ∙ (before.each tag d (omega (arith, below, longer.as_many))).each worker;
      });
}

-- and what is shown
pub longer_shown : {D A : Type 0} (work : Entry → Option Shown) (item_of : ℕ → ℕ → A → Option Item) (IsOf : Entry → Type 0)
    (files : List (List A)) (old new : List (ToldCell D)) → ((e : Entry) → IsOf e → work e ≡ None) → AreLonger IsOf old new
    → AreAllShown work item_of files old → AreAllShown work item_of files new
longer_shown work item_of IsOf files old new kind longer before = record {
  each = λ tag worker d below.
      (let step = longer.each tag d in
      same_shown work IsOf worker (get_or old tag d).tape (get_or new tag d).tape step.more kind step.each step.tape
      ∙ before.each tag worker d (omega (arith, below, longer.as_many)));
}
