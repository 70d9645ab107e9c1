use Rattle.std.proofs.Common.{◌≡◌, ℕ, ◌+◌, ◌-◌, ◌<◌, List, [], ◌∷◌, ◌++◌, take, drop, set, length, ap, ◌∙◌, append-nil, arith}
use Rattle.std.specs.List.{copy_within}
use Rattle.std.proofs.lemmas.List.{drop_all}
use Rattle.late_insert.proofs.directory.shift_in.Goals as goal

-- all but the last are copied one place up, and the first is written
shifted : (xs : List ℕ) (x : ℕ) → 0 < length xs
    → set (copy_within xs 0 (length xs - 1) 1) 0 x ≡ x ∷ take (length xs - 1) xs
shifted [] x some = absurd (omega arith)
shifted (y ∷ ys) x some =
    let n = length (y ∷ ys) - 1 in
    let many : n - 0 ≡ n = omega arith in
    ap (λ k. x ∷ (take k (y ∷ ys) ++ drop (1 + k) (y ∷ ys))) many
    ∙ (ap (λ l. x ∷ (take n (y ∷ ys) ++ l)) (drop_all (1 + n) (y ∷ ys) (omega arith))
    ∙ ap (λ l. x ∷ l) (append-nil (take n (y ∷ ys))))

pub returns : goal.returns
returns c =
    ap (λ l. set l 0 c.args.x) c.copy_within.ensures.after ∙ shifted c.args.numbers.now c.args.x c.requires
