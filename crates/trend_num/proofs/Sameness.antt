-- What a derived `==` says.
use Rattle.std.proofs.Common.{◌≡◌, ℕ, ◌-◌, ℤ, Bool, ◌&&◌, List, ◌++◌, length, take, replicate, Option, None, Some, nat_eq, refl, sym, ap, ap₂, ◌∙◌}
use Rattle.std.specs.Bool.{Decides}
use Rattle.std.specs.Option.{option_eq}
use Rattle.std.specs.Ordering.{int_eq}
use Rattle.std.specs.Str.{bytes_eq}
use Rattle.std.proofs.lemmas.Bool.Decides.{Decides-eqb, Decides-int_eq, Decides-and}
use Rattle.std.proofs.lemmas.Slice.Eq.{bytes_eq-Decides}
use Rattle.std.proofs.Math.Seq.{take-append_seam}
use Rattle.trend_num.specs.{Summary, Point, Tuning}

-- two places that may be empty
option_same : {A : Type 0} (same : A → A → Bool) → ((x y : A) → Decides (same x y) (x ≡ y)) → (a b : Option A)
    → Decides (option_eq same a b) (a ≡ b)
option_same same each None None = (λ e. refl, λ e. refl)
option_same same each None (Some y) = (λ e. absurd (cc), λ e. absurd (cc))
option_same same each (Some x) None = (λ e. absurd (cc), λ e. absurd (cc))
option_same same each (Some x) (Some y) = (λ e. ap Some ((each x y).0 e), λ e. (each x y).1 (held x y e))
  where
    held : {A : Type 0} (x y : A) → Some x ≡ Some y → x ≡ y
    held x y e = cc

abbrev pub same_point : Point → Point → Bool
same_point x y = nat_eq x.t y.t && int_eq x.v y.v

point_same : (x y : Point) → Decides (same_point x y) (x ≡ y)
point_same x y =
    let both = Decides-and (nat_eq x.t y.t) (int_eq x.v y.v) (Decides-eqb x.t y.t) (Decides-int_eq x.v y.v) in
    let make : ℕ → ℤ → Point = λ t v. record { t = t; v = v } in
    (λ e. (let parts = both.0 e in ap₂ make parts.0 parts.1), λ e. both.1 (ap (λ (p : Point). p.t) e, ap (λ (p : Point). p.v) e))

place_same : (a b : Option Point) → Decides (option_eq same_point a b) (a ≡ b)
place_same a b = option_same same_point point_same a b

-- two names, as their stored bytes
pub name_same : (a b : List ℕ)
    → Decides (nat_eq (length a) (length b) && bytes_eq (a ++ replicate (64 - length a) 0) (b ++ replicate (64 - length b) 0)) (a ≡ b)
name_same a b =
    let padded : List ℕ → List ℕ = λ l. l ++ replicate (64 - length l) 0 in
    let both = Decides-and (nat_eq (length a) (length b)) (bytes_eq (padded a) (padded b))
    (Decides-eqb (length a) (length b)) (bytes_eq-Decides (padded a) (padded b)) in (
      λ e. (let parts = both.0 e in
          sym (take-append_seam a (replicate (64 - length a) 0)) ∙ ap₂ take parts.0 parts.1 ∙ take-append_seam b (replicate (64 - length b) 0)),
      λ e. both.1 (ap length e, ap padded e),
    )

abbrev same_tuning : Tuning → Tuning → Bool
same_tuning u w = nat_eq u.exc_dev w.exc_dev && (nat_eq u.exc_max w.exc_max && (nat_eq u.comp_dev w.comp_dev
    && (nat_eq u.comp_min w.comp_min && nat_eq u.comp_max w.comp_max)))

tuning_same : (u w : Tuning) → Decides (same_tuning u w) (u ≡ w)
tuning_same u w =
    let times = Decides-and _ _ (Decides-eqb u.comp_min w.comp_min) (Decides-eqb u.comp_max w.comp_max) in
    let comp = Decides-and _ _ (Decides-eqb u.comp_dev w.comp_dev) times in
    let wait = Decides-and _ _ (Decides-eqb u.exc_max w.exc_max) comp in
    let all = Decides-and _ _ (Decides-eqb u.exc_dev w.exc_dev) wait in (
      λ e. made (all.0 e),
      λ e. all.1 (
        ap (λ (t : Tuning). t.exc_dev) e,
        (
          ap (λ (t : Tuning). t.exc_max) e,
          (
            ap (λ (t : Tuning). t.comp_dev) e,
            (ap (λ (t : Tuning). t.comp_min) e, ap (λ (t : Tuning). t.comp_max) e),
          ),
        ),
      ),
    )
  where
    make : ℕ → ℕ → ℕ → ℕ → ℕ → Tuning
    make a b c d e = record { exc_dev = a; exc_max = b; comp_dev = c; comp_min = d; comp_max = e }

    made : {u w : Tuning} → (u.exc_dev ≡ w.exc_dev) × ((u.exc_max ≡ w.exc_max) × ((u.comp_dev ≡ w.comp_dev)
        × ((u.comp_min ≡ w.comp_min) × (u.comp_max ≡ w.comp_max)))) → u ≡ w
    made {u = u} {w = w} p =
        ap (λ a. make a u.exc_max u.comp_dev u.comp_min u.comp_max) p.0
        ∙ ap (λ b. make w.exc_dev b u.comp_dev u.comp_min u.comp_max) p.1.0
        ∙ ap (λ c. make w.exc_dev w.exc_max c u.comp_min u.comp_max) p.1.1.0
        ∙ ap₂ (λ d e. make w.exc_dev w.exc_max w.comp_dev d e) p.1.1.1.0 p.1.1.1.1

abbrev same_summary : Summary → Summary → Bool
same_summary a b = nat_eq a.taken b.taken && (nat_eq a.records b.records && (option_eq same_point a.held b.held
    && (option_eq same_point a.pending b.pending && (option_eq same_point a.hinge b.hinge
    && (option_eq same_point a.upper b.upper && (option_eq same_point a.lower b.lower
    && option_eq same_tuning a.tuning b.tuning))))))

-- two summaries
pub summary_same : (a b : Summary) → Decides (same_summary a b) (a ≡ b)
summary_same a b =
    let tuning = option_same same_tuning tuning_same a.tuning b.tuning in
    let lower = Decides-and _ _ (place_same a.lower b.lower) tuning in
    let upper = Decides-and _ _ (place_same a.upper b.upper) lower in
    let hinge = Decides-and _ _ (place_same a.hinge b.hinge) upper in
    let pending = Decides-and _ _ (place_same a.pending b.pending) hinge in
    let held = Decides-and _ _ (place_same a.held b.held) pending in
    let records = Decides-and _ _ (Decides-eqb a.records b.records) held in
    let all = Decides-and _ _ (Decides-eqb a.taken b.taken) records in (
      λ e. made (all.0 e),
      λ e. all.1 (
        ap (λ (s : Summary). s.taken) e,
        (
          ap (λ (s : Summary). s.records) e,
          (
            ap (λ (s : Summary). s.held) e,
            (
              ap (λ (s : Summary). s.pending) e,
              (
                ap (λ (s : Summary). s.hinge) e,
                (
                  ap (λ (s : Summary). s.upper) e,
                  (ap (λ (s : Summary). s.lower) e, ap (λ (s : Summary). s.tuning) e),
                ),
              ),
            ),
          ),
        ),
      ),
    )
  where
    make : ℕ → ℕ → Option Point → Option Point → Option Point → Option Point → Option Point → Option Tuning → Summary
    make n r q w a u l t =
        record { taken = n; records = r; held = q; pending = w; hinge = a; upper = u; lower = l; tuning = t }

    made : {a b : Summary} → (a.taken ≡ b.taken) × ((a.records ≡ b.records) × ((a.held ≡ b.held) × ((a.pending ≡ b.pending)
        × ((a.hinge ≡ b.hinge) × ((a.upper ≡ b.upper) × ((a.lower ≡ b.lower) × (a.tuning ≡ b.tuning))))))) → a ≡ b
    made {a = a} {b = b} p =
        ap₂ (λ n r. make n r a.held a.pending a.hinge a.upper a.lower a.tuning) p.0 p.1.0
        ∙ ap₂ (λ q w. make b.taken b.records q w a.hinge a.upper a.lower a.tuning) p.1.1.0 p.1.1.1.0
        ∙ ap₂ (λ h u. make b.taken b.records b.held b.pending h u a.lower a.tuning) p.1.1.1.1.0 p.1.1.1.1.1.0
        ∙ ap₂ (λ l t. make b.taken b.records b.held b.pending b.hinge b.upper l t) p.1.1.1.1.1.1.0 p.1.1.1.1.1.1.1
