-- The tags of the groups' inputs.
use Rattle.std.specs.Prelude.{◌≡◌, ℕ, ◌<◌, ◌≤◌, List, [], All, length, slice_index_or}
use Rattle.group_book.specs.{ToldBook as Book}

-- a book has one tag for each of its inputs, at most 64, and all these tags exist
pub record IsInputsOf {D : Type 0} (many : ℕ) (tags : List ℕ) (book : Book D) : Type 0 where
  pub same : length tags ≡ book.def.inputs
  pub few : length tags ≤ 64
  pub known : All (λ tag. tag < many) tags

-- each book has its tags like that
pub record AreInputs {D : Type 0} (many : ℕ) (inputs : List (List ℕ)) (books : List (Book D)) : Type 0 where
  pub as_many : length inputs ≡ length books
  pub each : (group : ℕ) (b : Book D) → group < length books
      → IsInputsOf many (slice_index_or inputs group []) (slice_index_or books group b)
