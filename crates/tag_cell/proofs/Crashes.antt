-- What a crash leaves, over a commit.
use Rattle.std.proofs.Common.{◌≡◌, inl, inr, ⊎_elim, ℕ, ◌+◌, ◌-◌, ◌≤◌, zero, suc, Bool, true, false, List, [], ◌∷◌, ◌++◌, length, map, take, drop, nat_le, if◌then◌else◌, refl, sym, ◌∙◌, ap, subst, arith, length-append, le_refl, le_trans}
use Rattle.std.proofs.lemmas.List.{append-nil, map-append, take-append-drop}
use Rattle.std.proofs.Math.Seq.{take-append_seam, take-length}
use Rattle.std.proofs.lemmas.Bool.Decides.{nat_tests}
use Rattle.trend_num.specs.{Point, TagDef}
use Rattle.trend_model.specs.{Raw}
use Rattle.trend_model.specs.State.{State, after, replay}
use Rattle.disk_model.specs.{Trace, moment, During, LeftSince}
use Rattle.disk_model.proofs.Moments.{parted, only_since, weaker}
use Rattle.crash_recovery.specs.{AllRecover, GoesOnFrom, RecoversEither}
use Rattle.device_layout.specs.{AllFit, Recovers}
use Rattle.crash_recovery.proofs.Replays.{replay_append}
use Rattle.tag_cell.specs.{Entry, TagOpening, CellWalk, after_entry, cell_walked, taken, acked_at, opened, state_after, Shown, FitAll, GoesOnBy, IsCountable, IsSafe, RecoversPart}
use Rattle.tag_cell.specs.declared.entry.Entry.TheVariants.{Take, Ask, Pull, Commit}
use Rattle.tag_cell.proofs.Tapes.{taken-append}

-- ---- some of the values

-- an image recovers a state or that followed by the first of these values, so it recovers some of them
pub part_either : (def : TagDef) (s r : State) (points : List Point) (n : ℕ) (c : List ℕ) → n ≤ length points
    → r ≡ replay def.step s (map Raw (take n points)) → RecoversEither def s r c → RecoversPart def s points 0 c
part_either def s r points n c within is (inl old) = record { count = 0; enough = omega arith; within = omega arith; recovered = old }
part_either def s r points n c within is (inr new) =
    record { count = n; enough = omega arith; within = within; recovered = subst (Recovers def c) is new }

-- fewer are asked for
pub part_least : (def : TagDef) (s : State) (points : List Point) (least fewer : ℕ) (c : List ℕ) → fewer ≤ least
    → RecoversPart def s points least c → RecoversPart def s points fewer c
part_least def s points least fewer c le is =
    record { count = is.count; enough = le_trans le is.enough; within = is.within; recovered = is.recovered }

-- the first values of two lists, where these are the whole first list and some of the second
pub take-beyond : {A : Type 0} (xs ys : List A) (n : ℕ) → take (length xs + n) (xs ++ ys) ≡ xs ++ take n ys
take-beyond [] ys n = let e : 0 + n ≡ n = omega arith in ap (λ (k : ℕ). take k ys) e
take-beyond (x ∷ xs) ys n =
    let e : suc (length xs) + n ≡ suc (length xs + n) = omega arith in
    ap (λ (k : ℕ). take k (x ∷ (xs ++ ys))) e ∙ ap (λ l. x ∷ l) (take-beyond xs ys n)

-- what continues from where the first values lead continues by all of them
pub part_behind : (def : TagDef) (s : State) (xs ys : List Point) (c : List ℕ)
    → RecoversPart def (replay def.step s (map Raw xs)) ys 0 c → RecoversPart def s (xs ++ ys) (length xs) c
part_behind def s xs ys c is =
    let within : is.count ≤ length ys = is.within in
    record {
      count = length xs + is.count;
      enough = omega arith;
      within = omega (arith, length-append xs ys);
      recovered = subst (Recovers def c)
          (sym (ap (λ ps. replay def.step s (map Raw ps)) (take-beyond xs ys is.count)
          ∙ (ap (replay def.step s) (map-append Raw xs (take is.count ys))
          ∙ replay_append def.step s (map Raw xs) (map Raw (take is.count ys))))) is.recovered;
    }

-- ---- moments

-- at no moment more is acknowledged than at the end
pub acked_at-most : (show : List Point → Shown) (step : Bool) (o : TagOpening) (w : CellWalk) (es : List Entry) (t n : ℕ) → n ≤ w.acked
    → FitAll show step o w es → acked_at t n es ≤ (cell_walked w es).acked
acked_at-most show step o w [] t n le all = le
acked_at-most show step o w (Take collector row p h k ∷ es) t n le all =
    acked_at-most show step o (after_entry w (Take collector row p h k)) es t n le all.1
acked_at-most show step o w (Ask reader row q a ∷ es) t n le all = acked_at-most show step o w es t n le all.1
acked_at-most show step o w (Pull group first upto ∷ es) t n le all = acked_at-most show step o w es t n le all.1
acked_at-most show step o w (Commit m acked ∷ es) t n le all =
    acked_at-most show step o (after_entry w (Commit m acked)) es t (if nat_le m t then acked else n)
    (either_most (nat_le m t) acked n (le_trans le (omega (arith, all.0.more)))) all.1
  where
    either_most : (b : Bool) (a k : ℕ) → k ≤ a → (if b then a else k) ≤ a
    either_most true a k h = le_refl a
    either_most false a k h = h

-- a commit at the end counts from its moment on
pub acked_at-commit : (t n : ℕ) (es : List Entry) (m acked : ℕ)
    → acked_at t n (es ++ Commit m acked ∷ []) ≡ (if nat_le m t then acked else acked_at t n es)
acked_at-commit t n [] m acked = refl
acked_at-commit t n (Take collector row p h k ∷ es) m acked = acked_at-commit t n es m acked
acked_at-commit t n (Ask reader row q a ∷ es) m acked = acked_at-commit t n es m acked
acked_at-commit t n (Pull group first upto ∷ es) m acked = acked_at-commit t n es m acked
acked_at-commit t n (Commit k a ∷ es) m acked = acked_at-commit t (if nat_le k t then a else n) es m acked

-- a device stays safe over calls at each moment of which a crash leaves some of the takes, and all that are acknowledged
pub safe_more : (def : TagDef) (o : TagOpening) (tape : List Entry) (old new : Trace) (acked : ℕ)
    → ((t : ℕ) → acked_at t o.summary.taken tape ≤ acked) → IsSafe def o tape (LeftSince old)
    → (IsCountable o tape → During old new (RecoversPart def (opened o) (taken tape) (acked - o.summary.taken)))
    → IsSafe def o tape (LeftSince new)
safe_more def o tape old new acked most safe during = record {
  images = λ few t c since left. ⊎_elim
      (λ now. part_least def (opened o) (taken tape) (acked - o.summary.taken) (acked_at t o.summary.taken tape - o.summary.taken) c
      (omega (arith, most t)) ((during few).each c now))
      (λ before. safe.images few t c since before)
      (parted old new t c (during few).later left);
}

-- a test that passes
le_when : (m t : ℕ) → nat_le m t ≡ true → m ≤ t
le_when m t is = grind (arith, nat_tests)

-- a commit whose entry is the moment of the device's clock
pub safe_commit : (def : TagDef) (o : TagOpening) (tape tape' : List Entry) (trace : Trace) (acked count : ℕ)
    → IsSafe def o tape (LeftSince trace) → tape' ≡ tape ++ Commit (moment trace) acked ∷ []
    → acked ≡ o.summary.taken + count → count ≤ length (taken tape)
    → (IsCountable o tape → AllRecover def trace (state_after def.step o (take count (taken tape))))
    → IsSafe def o tape' (LeftSince trace)
safe_commit def o tape tape' trace acked count safe longer are within recovers =
    let m : ℕ = moment trace in
    let all : taken tape' ≡ taken tape = ap taken longer ∙ (taken-append tape (Commit m acked ∷ []) ∙ append-nil (taken tape)) in
    record {
      images = λ few t c since left.
          let few' : IsCountable o tape = omega (arith, few, ap length all) in
          subst (λ (ps : List Point). RecoversPart def (opened o) ps (acked_at t o.summary.taken tape' - o.summary.taken) c) (sym all)
          (subst (λ (n : ℕ). RecoversPart def (opened o) (taken tape) (n - o.summary.taken) c)
          (sym (ap (acked_at t o.summary.taken) longer ∙ acked_at-commit t o.summary.taken tape m acked))
          (by_moment few' t c since left (nat_le m t) refl));
    }
  where
    by_moment : (few : IsCountable o tape) (t : ℕ) (c : List ℕ) → o.moment ≤ t → LeftSince trace t c → (b : Bool) → nat_le (moment trace) t ≡ b
        → RecoversPart def (opened o) (taken tape) ((if b then acked else acked_at t o.summary.taken tape) - o.summary.taken) c
    by_moment few t c since left true is = record {
      count = count;
      enough = omega (arith, are);
      within = within;
      recovered = (recovers few).each c (only_since trace (moment trace) t c refl (le_when (moment trace) t is) left);
    }
    by_moment few t c since left false is = safe.images few t c since left

-- ---- the device work of a commit

-- the values of the first entries are the first values
pub taken-take : (rest : List Entry) (n : ℕ) → taken (take n rest) ≡ take (length (taken (take n rest))) (taken rest)
taken-take rest n =
    sym (ap (take (length (taken (take n rest)))) (ap taken (sym (take-append-drop n rest)) ∙ taken-append (take n rest) (drop n rest))
    ∙ take-append_seam (taken (take n rest)) (taken (drop n rest)))

-- the first of values that find room find room
pub fit_take : (step : Bool) (s : State) (n : ℕ) (ps : List Point) → AllFit step s (map Raw ps) → AllFit step s (map Raw (take n ps))
fit_take step s zero ps fit = tt
fit_take step s (suc n) [] fit = tt
fit_take step s (suc n) (p ∷ ps) fit = (fit.0, fit_take step (after step s (Raw p)) n ps fit.1)

-- the values of a batch find room
pub batch_fits : (def : TagDef) (s r : State) (step : Bool) (rest : List Entry) (n : ℕ) (sent : List Point) → sent ≡ taken (take n rest)
    → GoesOnBy def s step r (taken rest) → AllFit def.step s (map Raw sent)
batch_fits def s r step rest n sent is goes =
    subst (λ (ps : List Point). AllFit def.step s (map Raw ps)) (sym (is ∙ taken-take rest n))
    (fit_take def.step s (length (taken (take n rest))) (taken rest) goes.fits)

-- a crash during a batch leaves some of the values
pub during_batch : (def : TagDef) (s : State) (rest : List Entry) (n : ℕ) (sent : List Point) (old new : Trace)
    → sent ≡ taken (take n rest) → During old new (RecoversEither def s (replay def.step s (map Raw sent)))
    → During old new (RecoversPart def s (taken rest) 0)
during_batch def s rest n sent old new is during =
    let count : ℕ = length (taken (take n rest)) in
    let within : count ≤ length (taken rest) =
    omega (arith, ap length (ap taken (sym (take-append-drop n rest)) ∙ taken-append (take n rest) (drop n rest)), length-append (taken (take n rest)) (taken (drop n rest))) in
    weaker old new (RecoversEither def s (replay def.step s (map Raw sent))) (RecoversPart def s (taken rest) 0)
    (λ c either. part_either def s (replay def.step s (map Raw sent)) (taken rest) count c within
    (ap (λ (ps : List Point). replay def.step s (map Raw ps)) (is ∙ taken-take rest n)) either) during

-- a crash during a checkpoint leaves none or all of them
pub during_all : (def : TagDef) (s r : State) (step : Bool) (points : List Point) (old new : Trace)
    → GoesOnBy def s step r points → During old new (RecoversEither def s r) → During old new (RecoversPart def s points 0)
during_all def s r step points old new goes during =
    weaker old new (RecoversEither def s r) (RecoversPart def s points 0)
    (λ c either. part_either def s r points (length points) c (le_refl (length points))
    (goes.state ∙ ap (λ (ps : List Point). replay def.step s (map Raw ps)) (sym (take-length points))) either) during

-- a core that continues by values continues by events
pub goes_from : (def : TagDef) (s r : State) (step : Bool) (points : List Point) → GoesOnBy def s step r points → GoesOnFrom def s step r
goes_from def s r step points goes = (goes.same_step, (map Raw points, goes.state))
