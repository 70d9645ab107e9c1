-- What is sent in its turn after the held point, and what it makes of an archive: its held point, tuning and records.
use Rattle.std.proofs.Common.{◌≡◌, ℕ, ◌<◌, ◌≤◌, Bool, true, false, cond, ◌&&◌, List, [], ◌∷◌, ◌++◌, length, Option, None, Some, refl, sym, ap, ◌∙◌, arith, length-append, append_assoc, append-nil}
use Rattle.trend_num.specs.{Point, Rec}
use Rattle.trend_model.specs.{IfThere, Sent, InOrder, Late, Tuned}
use Rattle.trend_model.specs.Walk.{kept, late, is_short, is_early, is_near}
use Rattle.trend_model.specs.State.{Archive, keeps, holding, joins, line_after, stair_after, ends_at, archive_on, archived}
use Rattle.trend_model.proofs.SentTunings.{force_sent}

-- what is so of both ways on is so of the one that is taken
pub cond_by : {A : Type 0} (P : A → Type 0) (b : Bool) (x y : A) → (b ≡ true → P x) → (b ≡ false → P y)
    → P (cond b x y)
cond_by P true x y first second = first refl
cond_by P false x y first second = second refl

-- the point that is held once this is sent, the newest first, where q was held
abbrev pub held_after : Option Point → List Sent → Option Point
held_after q [] = q
held_after q (InOrder p ∷ ss) = Some p
held_after q (Late x ∷ ss) = held_after q ss
held_after q (Tuned u ∷ ss) = held_after q ss

-- x is not after the held point, and there is one
abbrev pub IsLateAfter : Option Point → Point → Type 0
IsLateAfter None x = ⊥
IsLateAfter (Some q) x = x.t ≤ q.t

-- this comes next after the held point: a point with the property P, after it or late, or a new tuning
abbrev pub IsNext : (Point → Type 0) → Option Point → Sent → Type 0
IsNext P q (InOrder p) = P p × IfThere (λ (s : Point). s.t < p.t) q
IsNext P q (Late x) = P x × IsLateAfter q x
IsNext P q (Tuned u) = Unit {0}

-- so does each of these in its turn, which are listed the newest first
abbrev pub Follows : (Point → Type 0) → Option Point → List Sent → Type 0
Follows P q [] = Unit {0}
Follows P q (s ∷ ss) = Follows P q ss × IsNext P (held_after q ss) s

-- ---- the archive holding what it is sent

-- what is so of each way on of an archive of lines by p is so of the one that is taken: p is kept, or held, or the held
-- point is kept and p is held
line_ways : (P : Archive → Type 0) (c : Archive) (p : Point) → P (keeps c p) → ((u l : Point) → P (holding c p u l))
    → ((q : Point) → P (holding (keeps c q) p p p)) → (a q u l : Option Point) → P (line_after c p a q u l)
line_ways P c p keep hold both None q u l = keep
line_ways P c p keep hold both (Some a) (Some q) (Some u) (Some l) =
    cond_by P (joins c.tuning a u l p) _ _ (λ e. hold _ _)
    (λ e. cond_by P (is_short c.tuning a p && is_early c.tuning a q) _ _ (λ e. hold p p) (λ e. both q))
line_ways P c p keep hold both (Some a) None u l = hold p p
line_ways P c p keep hold both (Some a) (Some q) None l = hold p p
line_ways P c p keep hold both (Some a) (Some q) (Some u) None = hold p p

-- the same of an archive of stairs
stair_ways : (P : Archive → Type 0) (c : Archive) (p : Point) → P (keeps c p) → P (holding c p p p) → (a : Option Point)
    → P (stair_after c p a)
stair_ways P c p keep hold None = keep
stair_ways P c p keep hold (Some a) =
    cond_by P (is_short c.tuning a p && is_near c.tuning a p) _ _ (λ e. hold)
    (λ e. cond_by P (is_short c.tuning a p && is_early c.tuning a p) _ _ (λ e. hold) (λ e. keep))

-- the same of both kinds
pub value_ways : (P : Archive → Type 0) (step : Bool) (c : Archive) (p : Point) → P (keeps c p)
    → ((u l : Point) → P (holding c p u l)) → ((q : Point) → P (holding (keeps c q) p p p))
    → P (archive_on step c (InOrder p))
value_ways P false c p keep hold both = line_ways P c p keep hold both c.hinge c.held c.upper c.lower
value_ways P true c p keep hold both = stair_ways P c p keep (hold p p) c.hinge

-- the end of a span leaves its last value held
held_ends : (c : Archive) (q u l : Option Point) → c.held ≡ q → (ends_at c q u l).held ≡ q
held_ends c None u l e = e
held_ends c (Some q) None l e = e
held_ends c (Some q) (Some u) None e = e
held_ends c (Some q) (Some u) (Some l) e = refl

-- the archive holding the last value sent in order
pub held_archived : (step : Bool) (c : Archive) (ss : List Sent)
    → (archived step c ss).held ≡ held_after c.held ss
held_archived step c [] = refl
held_archived step c (Late x ∷ ss) = held_archived step c ss
held_archived step c (Tuned u ∷ ss) =
    (let r = archived step c ss in held_ends r r.held r.upper r.lower refl) ∙ held_archived step c ss
held_archived step c (InOrder p ∷ ss) =
    value_ways (λ (r : Archive). r.held ≡ Some p) step (archived step c ss) p refl (λ u l. refl) (λ q. refl)

-- the archive has the last tuning that was sent
pub tuning_archived : (step : Bool) (c : Archive) (ss : List Sent)
    → (archived step c ss).tuning ≡ force_sent c.tuning ss
tuning_archived step c [] = refl
tuning_archived step c (Late x ∷ ss) = tuning_archived step c ss
tuning_archived step c (Tuned u ∷ ss) = refl
tuning_archived step c (InOrder p ∷ ss) =
    let r = archived step c ss in
    value_ways (λ (x : Archive). x.tuning ≡ r.tuning) step r p refl (λ u l. refl) (λ q. refl) ∙ tuning_archived step c ss

-- ---- the records only grow

-- records only grow at their end, by so many at most
pub record Grows (most : ℕ) (old new : List Rec) : Type 0 where
  pub more : List Rec
  pub at_end : new ≡ old ++ more
  pub few : length more ≤ most

-- records that stay have grown by none
pub grows_none : (most : ℕ) (rs : List Rec) → Grows most rs rs
grows_none most rs = record { more = []; at_end = sym (append-nil rs); few = omega arith }

-- one record more is one
grows_one : (rs : List Rec) (r : Rec) → Grows 1 rs (rs ++ (r ∷ []))
grows_one rs r = record { more = r ∷ []; at_end = refl; few = omega arith }

-- the end of a span adds one record at most
grows_ends : (c : Archive) (q u l : Option Point) → Grows 1 c.records (ends_at c q u l).records
grows_ends c None u l = grows_none 1 c.records
grows_ends c (Some q) None l = grows_none 1 c.records
grows_ends c (Some q) (Some u) None = grows_none 1 c.records
grows_ends c (Some q) (Some u) (Some l) = grows_one c.records (kept q)

-- one thing more that is sent adds one record at most
pub grows_on : (step : Bool) (c : Archive) (s : Sent) → Grows 1 c.records (archive_on step c s).records
grows_on step c (Late x) = grows_one c.records (late x)
grows_on step c (Tuned u) = grows_ends c c.held c.upper c.lower
grows_on step c (InOrder p) =
    value_ways (λ (r : Archive). Grows 1 c.records r.records) step c p (grows_one c.records (kept p))
    (λ u l. grows_none 1 c.records) (λ q. grows_one c.records (kept q))

-- each thing that is sent adds one record at most
pub grows_archived : (step : Bool) (c : Archive) (ss : List Sent)
    → Grows (length ss) c.records (archived step c ss).records
grows_archived step c [] = grows_none 0 c.records
grows_archived step c (s ∷ ss) =
    let before = grows_archived step c ss in
    let last = grows_on step (archived step c ss) s in
    let few_before = before.few in
    let few_last = last.few in
    record {
      more = before.more ++ last.more;
      at_end = last.at_end ∙ ap (λ rs. rs ++ last.more) before.at_end
          ∙ append_assoc c.records before.more last.more;
      few = (let n = length-append before.more last.more in omega arith);
    }
