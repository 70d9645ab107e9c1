-- The fields of a record, by their number. For private functions: no public call cites it.
use Rattle.std.specs.Prelude.{◌≡◌, ◌≢◌, ℕ, List, [], ◌∷◌, length}
use Rattle.value_rows.specs.declared.fields.Fields.{Fields}
use Rattle.value_rows.specs.declared.fields.Fields.TheVariants.{Two, Three, Four, Other}

-- there are neither two fields nor three nor four
pub record AreOther (fields : List (List ℕ)) : Type 0 where
  pub not_two : length fields ≢ 2
  pub not_three : length fields ≢ 3
  pub not_four : length fields ≢ 4

abbrev pub AreFields : Fields → List (List ℕ) → Type 0
AreFields (Two a b) fields = fields ≡ a.now ∷ b.now ∷ []
AreFields (Three a b c) fields = fields ≡ a.now ∷ b.now ∷ c.now ∷ []
AreFields (Four a b c d) fields = fields ≡ a.now ∷ b.now ∷ c.now ∷ d.now ∷ []
AreFields Other fields = AreOther fields
