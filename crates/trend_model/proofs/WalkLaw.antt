-- The invariant of the compression's walk, of lines and of stairs: the chain of kept points, and the values since
-- the last.
use Rattle.std.proofs.Common.{◌≡◌, ℕ, ◌≤◌, ◌⊎◌, inl, inr, Bool, true, false, ◌&&◌, ◌-ℤ◌, List, [], ◌∷◌, ◌++◌, Option, None, Some, nat_le, unsigned_abs, refl, sym, subst, arith}
use Rattle.std.proofs.lemmas.Bool.Decides.{nat_tests}
use Rattle.trend_num.specs.{Point, Rec, Tuning, Within}
use Rattle.trend_model.specs.{IsAmong, Origin, Sent, InOrder, Late, Tuned, RisesInTime, lines, stairs}
use Rattle.trend_model.specs.Walk.{Walk, walk, walk_on, line_on, stair_on, ended, kept, late, is_short, is_early, is_fit, is_near}
use Rattle.trend_model.proofs.Doors.{pass_each, second_of_both, within_test}
use Rattle.trend_model.proofs.Walks.{line_by, stair_by}
use Rattle.trend_model.proofs.Order.{time_of, time_of_sent}
use Rattle.trend_model.proofs.SentTunings.{force_sent, sent_of_made}
use Rattle.trend_model.proofs.Since.{IsFitted, IsSince, since_none, since_late, since_adds, sent_of_late, sent_of_tuned, last_span}
use Rattle.trend_model.proofs.Chain.{IsChain, among_left, among_right, near_right, kept_of_late, chain_recorded, chain_more, chain_first, chain_keeps}

-- what holds once there is a hinge a
pub record IsHung (o : Origin) (ss : List Sent) (rs : List Rec) (a : Point) (since passed : List Point) : Type 0
  where
    pub chain : IsChain o ss rs passed a
    pub values : IsSince o ss a since passed

-- what holds before there is one
pub record IsUnhung (ss : List Sent) (rs : List Rec) : Type 0 where
  pub none_sent : (x : Point) → IsAmong (InOrder x) ss → ⊥
  pub none_kept : (x : Point) → IsAmong (kept x) rs → ⊥

-- with a hinge and without; before there is one nothing is since it
abbrev pub IsWalked : Origin → List Sent → List Rec → Option Point → List Point → List Point → Type 0
IsWalked o ss rs None [] passed = IsUnhung ss rs
IsWalked o ss rs None (q ∷ since) passed = ⊥
IsWalked o ss rs (Some a) since passed = IsHung o ss rs a since passed

-- a walk through what was sent
pub record IsWalk (o : Origin) (ss : List Sent) (w : Walk) : Type 0 where
  pub tuned : w.tuning ≡ force_sent o.tuning ss
  pub walked : IsWalked o ss w.records w.hinge w.since w.passed

-- a walk by its parts
abbrev walk_at : List Rec → Option Point → List Point → List Point → Tuning → Walk
walk_at rs hinge since passed u =
    record { records = rs; hinge = hinge; since = since; passed = passed; tuning = u }

-- the hinge was sent
hinge_sent : (o : Origin) (ss : List Sent) (rs : List Rec) (a : Point) (since passed : List Point)
    → IsHung o ss rs a since passed → IsAmong (InOrder a) ss
hinge_sent o ss rs a since passed i = i.chain.kept_sent a i.chain.hinge_kept

-- the first value is kept
hung_first : (o : Origin) (ss : List Sent) (rs : List Rec) (passed : List Point) (p : Point) → IsUnhung ss rs
    → IsHung o (InOrder p ∷ ss) (rs ++ (kept p ∷ [])) p [] passed
hung_first o ss rs passed p i = record {
  chain = chain_first o ss rs passed p i.none_kept;
  values = grind (arith, since_none, time_of_sent);
}

-- the last of the values since is kept
hung_keeps : (o : Origin) (ss : List Sent) (rs : List Rec) (a q : Point) (since passed : List Point)
    → RisesInTime ss → IsHung o ss rs a (q ∷ since) passed → IsHung o ss (rs ++ (kept q ∷ [])) q [] passed
hung_keeps o ss rs a q since passed rises i = record {
  chain = chain_keeps o ss rs passed a q rises i.chain
      (sent_of_made o.tuning _ q ss (i.values.made q (inl refl))) (i.values.after q (inl refl))
      (last_span o ss a q since passed rises (hinge_sent o ss rs a (q ∷ since) passed i) i.values);
  values = since_none o ss q passed i.values.end_last;
}

-- p joins some of the values since
hung_adds : (o : Origin) (ss : List Sent) (rs : List Rec) (a p : Point) (old before since passed : List Point)
    → RisesInTime (InOrder p ∷ ss) → IsHung o ss rs a old before
    → ((x : Point) → IsAmong x since → IsAmong x old) → ((x : Point) → IsAmong x before → IsAmong x passed)
    → ((x : Point) → IsAmong x old → IsAmong x since ⊎ IsAmong x passed)
    → ((x : Point) → IsAmong x (p ∷ since) → IsFitted o.step a p x (force_sent o.tuning ss).comp_dev passed)
    → IsHung o (InOrder p ∷ ss) rs a (p ∷ since) passed
hung_adds o ss rs a p old before since passed rises i left gone covered fits = record {
  chain = chain_more o (InOrder p) ss rs before passed a rises gone i.chain;
  values = grind (arith, since_adds, hinge_sent);
}

-- ---- lines

-- the end of a line is on it
near_end : (a p x : Point) (d : ℕ) → x ≡ p → Within a p x d
near_end a p x d e = subst (λ z. Within a p z d) (sym e) (near_right false a p d)

-- each of the values is near the line that fits
fit_near : (u : Tuning) (a p x : Point) (values : List Point) → is_fit u a values p ≡ true → IsAmong x values
    → Within a p x u.comp_dev
fit_near u a p x values fits there = grind (arith, within_test, pass_each)

-- p alone is on its line
hung_alone : (t : Tuning) (ss : List Sent) (rs : List Rec) (a p : Point) (old before passed : List Point)
    → RisesInTime (InOrder p ∷ ss) → IsHung (lines t) ss rs a old before
    → ((x : Point) → IsAmong x before → IsAmong x passed) → ((x : Point) → IsAmong x old → IsAmong x passed)
    → IsHung (lines t) (InOrder p ∷ ss) rs a (p ∷ []) passed
hung_alone t ss rs a p old before passed rises i gone covered =
    hung_adds (lines t) ss rs a p old before [] passed rises i (λ x h. absurd h) gone
    (λ x h. inr (covered x h))
    (λ x h. elim h [ inl e ↦ near_end a p x (force_sent t ss).comp_dev e | inr none ↦ absurd none ])

-- a line continues in each of three ways
line_walks_by : (t : Tuning) (ss : List Sent) (rs : List Rec) (a q p : Point) (since passed : List Point)
    (joins early : Bool) → (joins ≡ true → is_fit (force_sent t ss) a (q ∷ since) p ≡ true)
    → RisesInTime (InOrder p ∷ ss) → IsHung (lines t) ss rs a (q ∷ since) passed
    → IsWalk (lines t) (InOrder p ∷ ss)
    (line_by joins early (walk_at rs (Some a) (q ∷ since) passed (force_sent t ss)) p q)
line_walks_by t ss rs a q p since passed true early fits rises i = record {
  tuned = refl;
  walked = hung_adds (lines t) ss rs a p (q ∷ since) passed (q ∷ since) passed rises i (λ x h. h) (λ x h. h)
      (λ x h. inl h) (λ x h. elim h [
        | inl e ↦ near_end a p x (force_sent t ss).comp_dev e
        | inr there ↦ fit_near (force_sent t ss) a p x (q ∷ since) (fits refl) there
      ]);
}
line_walks_by t ss rs a q p since passed false true fits rises i = record {
  tuned = refl;
  walked = hung_alone t ss rs a p (q ∷ since) passed ((q ∷ since) ++ passed) rises i
      (λ x h. among_right x (q ∷ since) passed h) (λ x h. among_left x (q ∷ since) passed h);
}
line_walks_by t ss rs a q p since passed false false fits rises i = record {
  tuned = refl;
  walked = hung_alone t ss (rs ++ (kept q ∷ [])) q p [] passed passed rises
      (hung_keeps (lines t) ss rs a q since passed rises.1 i) (λ x h. h) (λ x h. absurd h);
}

-- a line continues by a value in order
line_walks : (t : Tuning) (ss : List Sent) (p : Point) (rs : List Rec) (hinge : Option Point)
    (since passed : List Point) → RisesInTime (InOrder p ∷ ss) → IsWalked (lines t) ss rs hinge since passed
    → IsWalk (lines t) (InOrder p ∷ ss)
    (line_on (walk_at rs hinge since passed (force_sent t ss)) p hinge since)
line_walks t ss p rs None [] passed rises i =
    record { tuned = refl; walked = hung_first (lines t) ss rs passed p i }
line_walks t ss p rs None (q ∷ since) passed rises i = absurd i
line_walks t ss p rs (Some a) [] passed rises i = record {
  tuned = refl;
  walked = hung_alone t ss rs a p [] passed passed rises i (λ x h. h) (λ x h. absurd h);
}
line_walks t ss p rs (Some a) (q ∷ since) passed rises i =
    let u = force_sent t ss in
    line_walks_by t ss rs a q p since passed (is_short u a p && is_fit u a (q ∷ since) p)
    (is_short u a p && is_early u a q) (second_of_both (is_short u a p) (is_fit u a (q ∷ since) p)) rises i

-- ---- stairs

-- the fact of a test
at_most_of_test : (m n : ℕ) → nat_le m n ≡ true → m ≤ n
at_most_of_test m n h = grind (arith, nat_tests)

-- p is passed over
hung_skips : (t : Tuning) (ss : List Sent) (rs : List Rec) (a p : Point) (since passed : List Point)
    → RisesInTime (InOrder p ∷ ss) → IsHung (stairs t) ss rs a since passed
    → IsHung (stairs t) (InOrder p ∷ ss) rs a (p ∷ since) (p ∷ passed)
hung_skips t ss rs a p since passed rises i =
    hung_adds (stairs t) ss rs a p since passed since (p ∷ passed) rises i (λ x h. h) (λ x h. inr h)
    (λ x h. inl h) (λ x h. grind arith)

-- a stair continues in each of three ways
stair_walks_by : (t : Tuning) (ss : List Sent) (rs : List Rec) (a p : Point) (since passed : List Point)
    (joins early : Bool) → (joins ≡ true → is_near (force_sent t ss) a p ≡ true)
    → RisesInTime (InOrder p ∷ ss) → IsHung (stairs t) ss rs a since passed
    → IsWalk (stairs t) (InOrder p ∷ ss)
    (stair_by joins early (walk_at rs (Some a) since passed (force_sent t ss)) p)
stair_walks_by t ss rs a p since passed true early nears rises i = record {
  tuned = refl;
  walked = hung_adds (stairs t) ss rs a p since passed since passed rises i (λ x h. h) (λ x h. h)
      (λ x h. inl h) (λ x h. elim h [
        | inl e ↦ inl (subst (λ (z : Point). unsigned_abs (z.v -ℤ a.v) ≤ (force_sent t ss).comp_dev) (sym e)
            (at_most_of_test _ _ (nears refl)))
        | inr there ↦ i.values.fit x there
      ]);
}
stair_walks_by t ss rs a p since passed false true nears rises i =
    record { tuned = refl; walked = hung_skips t ss rs a p since passed rises i }
stair_walks_by t ss rs a p since passed false false nears rises i =
    let skipped = hung_skips t ss rs a p since passed rises i in
    let sent_a = hinge_sent (stairs t) (InOrder p ∷ ss) rs a (p ∷ since) (p ∷ passed) skipped in
    record {
      tuned = refl;
      walked = record {
        chain = chain_keeps (stairs t) (InOrder p ∷ ss) rs passed a p rises
            (chain_more (stairs t) (InOrder p) ss rs passed passed a rises (λ x h. h) i.chain) (inl refl)
            (skipped.values.after p (inl refl))
            (λ x there ax xp clear. last_span (stairs t) (InOrder p ∷ ss) a p since (p ∷ passed) rises sent_a
            skipped.values x there ax xp (λ y h ay. elim h [
              | inl e ↦ (let at = time_of y p e in omega arith)
              | inr gone ↦ clear y gone ay
            ]));
        values = since_none (stairs t) (InOrder p ∷ ss) p passed skipped.values.end_last;
      };
    }

-- a stair continues by a value in order
stair_walks : (t : Tuning) (ss : List Sent) (p : Point) (rs : List Rec) (hinge : Option Point)
    (since passed : List Point) → RisesInTime (InOrder p ∷ ss) → IsWalked (stairs t) ss rs hinge since passed
    → IsWalk (stairs t) (InOrder p ∷ ss) (stair_on (walk_at rs hinge since passed (force_sent t ss)) p hinge)
stair_walks t ss p rs None [] passed rises i =
    record { tuned = refl; walked = hung_first (stairs t) ss rs passed p i }
stair_walks t ss p rs None (q ∷ since) passed rises i = absurd i
stair_walks t ss p rs (Some a) since passed rises i =
    let u = force_sent t ss in
    stair_walks_by t ss rs a p since passed (is_short u a p && is_near u a p)
    (is_short u a p && is_early u a p) (second_of_both (is_short u a p) (is_near u a p)) rises i

-- ---- late values and tunings

-- a late value is recorded
late_walks : (o : Origin) (ss : List Sent) (y : Point) (rs : List Rec) (hinge : Option Point)
    (since passed : List Point) → RisesInTime (Late y ∷ ss) → IsWalked o ss rs hinge since passed
    → IsWalked o (Late y ∷ ss) (rs ++ (late y ∷ [])) hinge since passed
late_walks o ss y rs None [] passed rises i = record {
  none_sent = λ x there. i.none_sent x (sent_of_late x y ss there);
  none_kept = λ x k. i.none_kept x (kept_of_late x y rs k);
}
late_walks o ss y rs None (q ∷ since) passed rises i = absurd i
late_walks o ss y rs (Some a) since passed rises i = record {
  chain = chain_recorded o (Late y ∷ ss) rs passed a y
      (chain_more o (Late y) ss rs passed passed a rises (λ x h. h) i.chain);
  values = since_late o ss a y since passed i.values;
}

-- a tuning leaves a hinge with nothing since
hung_tuned : (o : Origin) (ss : List Sent) (u : Tuning) (rs : List Rec) (a : Point) (passed : List Point)
    → RisesInTime ss → IsHung o ss rs a [] passed → IsHung o (Tuned u ∷ ss) rs a [] passed
hung_tuned o ss u rs a passed rises i = record {
  chain = chain_more o (Tuned u) ss rs passed passed a rises (λ x h. h) i.chain;
  values = since_none o (Tuned u ∷ ss) a passed (λ x there. i.values.end_last x (sent_of_tuned x u ss there));
}

-- a tuning ends the span
tuned_walks : (o : Origin) (ss : List Sent) (u w : Tuning) (rs : List Rec) (hinge : Option Point)
    (since passed : List Point) → RisesInTime ss → IsWalked o ss rs hinge since passed
    → IsWalk o (Tuned u ∷ ss) (record (ended (walk_at rs hinge since passed w) since) { tuning = u })
tuned_walks o ss u w rs None [] passed rises i = record {
  tuned = refl;
  walked =
      record { none_sent = λ x there. i.none_sent x (sent_of_tuned x u ss there); none_kept = i.none_kept };
}
tuned_walks o ss u w rs None (q ∷ since) passed rises i = absurd i
tuned_walks o ss u w rs (Some a) [] passed rises i =
    record { tuned = refl; walked = hung_tuned o ss u rs a passed rises i }
tuned_walks o ss u w rs (Some a) (q ∷ since) passed rises i = record {
  tuned = refl;
  walked =
      hung_tuned o ss u (rs ++ (kept q ∷ [])) q passed rises (hung_keeps o ss rs a q since passed rises i);
}

-- a value in order, of a tag of either kind
value_walks : (t : Tuning) (step : Bool) (ss : List Sent) (p : Point) (w : Walk)
    → RisesInTime (InOrder p ∷ ss) → IsWalk (record { tuning = t; step = step }) ss w
    → IsWalk (record { tuning = t; step = step }) (InOrder p ∷ ss) (walk_on step w (InOrder p))
value_walks t false ss p w rises i =
    subst (λ u. IsWalk (lines t) (InOrder p ∷ ss)
    (line_on (walk_at w.records w.hinge w.since w.passed u) p w.hinge w.since))
    (sym i.tuned) (line_walks t ss p w.records w.hinge w.since w.passed rises i.walked)
value_walks t true ss p w rises i =
    subst (λ u. IsWalk (stairs t) (InOrder p ∷ ss)
    (stair_on (walk_at w.records w.hinge w.since w.passed u) p w.hinge))
    (sym i.tuned) (stair_walks t ss p w.records w.hinge w.since w.passed rises i.walked)

-- the walk keeps its invariant
pub walk_holds : (o : Origin) (ss : List Sent) → RisesInTime ss → IsWalk o ss (walk o ss)
walk_holds o [] rises = record {
  tuned = refl;
  walked = record { none_sent = λ x there. there; none_kept = λ x k. k };
}
walk_holds o (Late y ∷ ss) rises =
    let i = walk_holds o ss rises in
    let w = walk o ss in
    record { tuned = i.tuned; walked = late_walks o ss y w.records w.hinge w.since w.passed rises i.walked }
walk_holds o (Tuned u ∷ ss) rises =
    let i = walk_holds o ss rises in
    let w = walk o ss in
    tuned_walks o ss u w.tuning w.records w.hinge w.since w.passed rises i.walked
walk_holds o (InOrder p ∷ ss) rises =
    value_walks o.tuning o.step ss p (walk o ss) rises (walk_holds o ss rises.1)
