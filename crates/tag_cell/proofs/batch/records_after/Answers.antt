use Rattle.std.proofs.Common.{◌≡◌, ◌∙◌, ℕ, ◌+◌, [], ◌∷◌, ap, sym, refl, take}
use Rattle.trend_num.specs.{Point}
use Rattle.tag_cell.specs.{last_records, Entry}
use Rattle.tag_cell.specs.declared.entry.Entry.TheVariants.{Take, Ask, Pull, Commit}
use Rattle.tag_cell.proofs.Tapes.{last_records-more}
use Rattle.tag_cell.proofs.batch.records_after.Goals.{in-Take, in_default}
use Rattle.tag_cell.proofs.batch.records_after.Goals as goal

-- an entry that is no take has no number of records
quiet : (n : ℕ) (e : Entry) → ((collector row : ℕ) (p h : Point) (k : ℕ) → e ≡ Take collector row p h k → ⊥) → last_records n (e ∷ []) ≡ n
quiet n (Take collector row p h k) not = absurd (not collector row p h k refl)
quiet n (Ask reader row q a) not = refl
quiet n (Pull group first upto) not = refl
quiet n (Commit m a) not = refl

pub loop-entry-preserved : goal.loop-entry-preserved
loop-entry-preserved c =
    let es = c.args.entries.now in
    let i : ℕ = c.loop-entry.entry-index in
    let e : Entry = c.entry-item.result in
    let before : ℕ = last_records c.args.records (take i es) in
    let more : last_records c.args.records (take (i + 1) es) ≡ last_records before (e ∷ []) =
    last_records-more c.args.records es i e c.loop-entry-test.true c.entry-item.is in
    elim c.match-entry.branch [
      | in-Take w ↦ w.last-is ∙ (sym (ap (λ (x : Entry). last_records before (x ∷ [])) w.in-Take.is) ∙ sym more)
      | in_default w ↦ w.last-is ∙ (c.loop-entry.invariant ∙ (sym (quiet before e w.in_default.not-Take) ∙ sym more))
    ]
