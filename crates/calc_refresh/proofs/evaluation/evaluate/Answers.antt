use Rattle.std.proofs.Common.{◌≡◌, ℕ, ◌+◌, ◌*◌, ◌++◌, [], ◌∷◌, inl, inr, Contains, get_or, length, take, subst, sym, ap, ◌∙◌, arith}
use Rattle.std.proofs.lemmas.Bool.{cases_eq}
use Rattle.std.proofs.lemmas.List.{take_all, take_more}
use Rattle.std.proofs.lemmas.List.Elements.{Contains-append_left, Contains-push, Contains-push_cases}
use Rattle.sheet_law.specs.{column}
use Rattle.calc_refresh.specs.{lists_of}
use Rattle.calc_refresh.proofs.Columns.{lengths_at}
use Rattle.calc_refresh.proofs.evaluation.evaluate.Goals as goal

product : (a b : ℕ) → (a + 1) * b ≡ a * b + b
product a b = grind arith

pub evaluate_window-requires-clause-within : goal.evaluate_window-requires-clause-within
evaluate_window-requires-clause-within g c = λ j row within.
    let inside = c.loop-k.auto.rows in
    let same = lengths_at c.loop-k.rows c.args.rows.now j row within (omega arith) c.loop-k.invariant.lengths in
    omega (arith, same, c.requires.within c.loop-k.k-index 0 c.loop-k-test.true j row (omega arith))

pub loop-k-preserved : goal.loop-k-preserved
loop-k-preserved g c =
    let i = c.loop-k.k-index in
    let due = c.args.due.now in
    let k = get_or due i 0 in
    let was = c.loop-k.invariant in
    let next : take (i + 1) due ≡ take i due ++ k ∷ [] = take_more due i 0 c.loop-k-test.true in
    record {
      filled = λ j has. elim (cases_eq j k) [
        | inl same ↦
            ap (λ x. column x (lists_of c.evaluate_window.new.rows)) same
            ∙ (grind arith)
        | inr other ↦ elim (Contains-push_cases (take i due) k j (subst (λ l. Contains l j) next has)) [
          | inl before ↦ c.evaluate_window.ensures.others j other ∙ was.filled j before
          | inr here ↦ absurd (other (sym here))
        ]
      ];
      others = λ j none. elim (cases_eq j k) [
        | inl same ↦ absurd (none (subst (λ l. Contains l j) (sym next)
            (subst (λ x. Contains (take i due ++ x ∷ []) j) same (Contains-push (take i due) j))))
        | inr other ↦
            c.evaluate_window.ensures.others j other
            ∙ was.others j (λ has. none (subst (λ l. Contains l j) (sym next) (Contains-append_left (take i due) (k ∷ []) j has)))
      ];
      lengths = c.evaluate_window.ensures.lengths ∙ was.lengths;
      stepped =
          let rows = ap (λ n. (i + 1) * n) c.evaluate_window.auto.rows in
          omega (arith, c.evaluate_window.ensures.steps, rows, product i (length c.loop-k.rows), was.stepped);
    }

pub returns-clause-values : goal.returns-clause-values
returns-clause-values g c = grind (arith, take_all)
