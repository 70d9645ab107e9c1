-- Room on the tapes of a session's tags, at their opening.
use Rattle.std.proofs.Common.{◌≡◌, ℕ, List, [], ◌∷◌, arith, map, subst}
use Rattle.tag_cell.specs.{ToldCell as Cell}
use Rattle.run_command.specs.{AreRoomy}

module _ {D : Type 0} where
  own_room : (cells : List (Cell D)) → AreRoomy (map (λ c. c.room) cells) cells
  own_room [] = tt
  own_room (c ∷ cs) = (omega arith, own_room cs)

  -- cells that were opened with this room
  pub opened_roomy : (takes : List ℕ) (cells : List (Cell D)) → map (λ c. c.room) cells ≡ takes → AreRoomy takes cells
  opened_roomy takes cells same = subst (λ l. AreRoomy l cells) same (own_room cells)
