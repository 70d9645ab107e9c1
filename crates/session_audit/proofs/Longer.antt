-- Cells that have gained entries of a kind, one after another.
use Rattle.std.proofs.Common.{◌≡◌, ◌⊎◌, ℕ, ◌<◌, inl, inr, Bool, List, [], ◌∷◌, length, get_or, set, Some, true, false, nat_eq, refl, sym, ap, subst, ◌∙◌, arith}
use Rattle.std.specs.Bool.{MatchBool}
use Rattle.std.proofs.lemmas.List.Elements.{All-cons, All-nil}
use Rattle.std.proofs.lemmas.List.{get_or-set_other, get_or-set_same, length-set}
use Rattle.std.proofs.lemmas.Option.{slice_get-get_or}
use Rattle.tag_cell.specs.{Acked, AreTakesAcknowledged, CommitNo, Entry, IsCommitted, ToldCell, takes_waiting}
use Rattle.tag_cell.specs.declared.entry.Entry.TheVariants.{Commit}
use Rattle.tag_cell.specs.declared.entry.CommitNo.TheVariants as commit
use Rattle.session_audit.specs.{AreLonger, IsCommitEntry, IsLonger, longer_trans, IsCellRefusal, IsCommittedCell, IsSo, OfFault, OfMemory, commit_status}
use Rattle.session_audit.proofs.Each.{each_set}

-- one of the cells gained entries
pub longer_set : {D : Type 0} (IsOf : Entry → Type 0) (first now : List (ToldCell D)) (tag : ℕ) (c d : ToldCell D)
    → tag < length now → IsLonger IsOf (get_or now tag d) c → AreLonger IsOf first now → AreLonger IsOf first (set now tag c)
longer_set IsOf first now tag c d within step before =
    each_set (IsLonger IsOf) (longer_trans IsOf) first now tag c d within step before

-- a commit leaves an entry of its own, if values waited
pub longer_committed : {D : Type 0} (before now : ℕ) (a : Acked) (first old new : ToldCell D) → IsCommitted before now a old new
    → IsLonger IsCommitEntry first old → IsLonger IsCommitEntry first new
longer_committed before now a first old new step longer = by (nat_eq (takes_waiting old) 0) step
  where
    by : (none : Bool) → MatchBool none ((new ≡ old) × (a ≡ record { acked = old.journal.acked; waiting = 0 }))
        (AreTakesAcknowledged before now a old new) → IsLonger IsCommitEntry first new
    by true (same, _) = subst (IsLonger IsCommitEntry first) (sym same) longer
    by false done = longer_trans IsCommitEntry first old new longer (record {
      more = Commit now a.acked ∷ [];
      each = All-cons IsCommitEntry (Commit now a.acked) [] tt (All-nil IsCommitEntry);
      tape = ap (λ c. c.tape) done.same;
      same_def = ap (λ c. c.def) done.same;
      same_opening = ap (λ c. c.opening) done.same;
    })

-- the cell of a tag that was just looked at
so_here : {D : Type 0} (P : ToldCell D → Type 0) (now : List (ToldCell D)) (tag : ℕ) (c : ToldCell D) → tag < length now → P c
    → IsSo (set now tag c) tag P
so_here P now tag c within so = record {
  cell = c;
  there = slice_get-get_or (set now tag c) tag c (omega (arith, within, length-set now tag c))
      ∙ ap Some (get_or-set_same now tag c c within);
  so = so;
}

-- the cells before it are as they were
front_stays : {D : Type 0} (now : List (ToldCell D)) (tag : ℕ) (c : ToldCell D)
    → ((k : ℕ) (d : ToldCell D) → k < tag → IsCommittedCell (get_or now k d))
    → (k : ℕ) (d : ToldCell D) → k < tag → IsCommittedCell (get_or (set now tag c) k d)
front_stays now tag c front k d below =
    subst IsCommittedCell (sym (get_or-set_other now tag k c d (λ same. omega (arith, below, same)))) (front k d below)

-- why a commit of it was refused
pub commit_refused : {D : Type 0} (now : List (ToldCell D)) (tag : ℕ) (c : ToldCell D) (no : CommitNo) → tag < length now
    → (no ≡ commit.WantOfMemory) ⊎ (c.journal.failed ≡ true)
    → ((k : ℕ) (d : ToldCell D) → k < tag → IsCommittedCell (get_or now k d)) → IsCellRefusal (set now tag c) (commit_status tag no)
commit_refused now tag c commit.Broken within (inl is) front = absurd (cc)
commit_refused now tag c commit.Broken within (inr failed) front =
    OfFault tag refl (so_here (λ x. x.journal.failed ≡ true) now tag c within failed) (front_stays now tag c front)
commit_refused now tag c commit.DeviceFault within (inl is) front = absurd (cc)
commit_refused now tag c commit.DeviceFault within (inr failed) front =
    OfFault tag refl (so_here (λ x. x.journal.failed ≡ true) now tag c within failed) (front_stays now tag c front)
commit_refused now tag c commit.WantOfMemory within why front = OfMemory refl
