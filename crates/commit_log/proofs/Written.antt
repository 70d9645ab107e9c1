-- The bytes of rows, added turn by turn.
use Rattle.std.proofs.Common.{◌≡◌, ℕ, ◌+◌, ◌<◌, ◌≤◌, List, [], ◌∷◌, ◌++◌, length, get_or, take, sym, ap, ◌∙◌, arith, append_assoc, length-append}
use Rattle.std.proofs.lemmas.Grind.{flat_map-append}
use Rattle.std.proofs.lemmas.List.{take_all, take_more}
use Rattle.commit_log.specs.{LogTurn, rows_image, puts, WritesRows}
use Rattle.commit_log.proofs.Tapes.{puts-append}

-- where rows are still to come there is a turn
pub turn_left : (rest : List LogTurn) (turns done count : ℕ) → length (puts (take turns rest)) ≡ done → done < count
    → count ≤ length (puts rest) → turns < length rest
turn_left rest turns done count long more there = grind (arith, take_all)

-- one turn more
pub one_more : (rest : List LogTurn) (turns done n : ℕ) (old mid new : List ℕ) (e : LogTurn) → turns < length rest
    → e ≡ get_or rest turns e → WritesRows done rest old mid turns → new ≡ mid ++ rows_image (puts (e ∷ []))
    → n ≡ length (puts (e ∷ [])) → WritesRows (done + n) rest old new (turns + 1)
one_more rest turns done n old mid new e low is so_far added count = record {
  within = omega (arith, low);
  long = omega (arith, ap length rows, length-append (puts (take turns rest)) (puts (e ∷ [])), so_far.long, count);
  bytes_are = grind (arith, append_assoc, rows, flat_map-append);
}
  where
    rows : puts (take (turns + 1) rest) ≡ puts (take turns rest) ++ puts (e ∷ [])
    rows = ap puts (take_more rest turns e low ∙ ap (λ x. take turns rest ++ x ∷ []) (sym is)) ∙ puts-append (take turns rest) (e ∷ [])
