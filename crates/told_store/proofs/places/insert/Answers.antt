use Rattle.std.proofs.Common.{◌≡◌, ◌∙◌, Bool, true, false, Some, IsTrue, List, ℕ, ap, cond, refl, subst, sym}
use Rattle.std.proofs.lemmas.{Map.Text.btree_map_updates_text, Bool.false≢true, Slice.Eq.bytes_eq-Decides}
use Rattle.std.specs.{Prelude.bytes_eq, Prelude.string_bytes, BTreeMap.get_by_text}
use Rattle.told_store.specs.Places.{is_placed}
use Rattle.told_store.proofs.places.insert.Goals.{In_ok-insert}
use Rattle.told_store.proofs.places.insert.Goals as goal

-- what is at a name then
at_name : (c : In_ok-insert) (n : List ℕ) → get_by_text c.insert.new.self n
    ≡ cond (bytes_eq c.args.name.now n) (Some c.args.kept) (get_by_text c.args.places.now n)
at_name c n =
    btree_map_updates_text (string_bytes c.in_ok-key.key) c.args.places.now c.insert.new.self _ c.in_ok-insert.ensures.updates n
    ∙ ap (λ k. cond (bytes_eq k n) (Some c.args.kept) (get_by_text c.args.places.now n)) c.in_ok-key.ensures.ok

pub returns-clause-put : goal.returns-clause-put
returns-clause-put c = at_name (goal.at.returns-clause-put c).In_ok-insert

-- what is chosen where the test cannot hold
not_chosen : {X : Type 0} (b : Bool) (x y z : X) → z ≡ cond b x y → (b ≡ true → ⊥) → z ≡ y
not_chosen true x y z is never = absurd (never refl)
not_chosen false x y z is never = is

pub returns-clause-kept : goal.returns-clause-kept
returns-clause-kept c = λ n placed.
    not_chosen (bytes_eq c.args.name.now n) _ _ _ (at_name (goal.at.returns-clause-kept c).In_ok-insert n)
    (λ same. let e : c.args.name.now ≡ n = (bytes_eq-Decides c.args.name.now n).0 same in
    false≢true (subst IsTrue (ap (λ m. is_placed c.args.places.now m) (sym e) ∙ c.requires) placed))
