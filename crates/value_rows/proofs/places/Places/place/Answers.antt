use Rattle.std.proofs.Common.{◌≡◌, ◌<◌, length, get_or, [], rules, subst, Some, List, ℕ}
use Rattle.value_rows.specs.{first_place_of}
use Rattle.value_rows.proofs.NameMap.{hint_holds}
use Rattle.value_rows.proofs.places.Places.place.Goals as goal

pub returns-clause-place : goal.returns-clause-place
returns-clause-place c =
    let names = c.self.inside.names.now in
    let slots = c.self.inside.hints.items in
    let i = c.index-hint.result.now in
    let here : i ≡ get_or slots c.slot_of.result i = search rules in
    let within : c.slot_of.result < length slots = search rules in
    let below : i < length names = search rules in
    let same : c.args.name.now ≡ get_or names i [] = search rules in
    subst (λ (l : List (List ℕ)). Some i ≡ first_place_of l c.args.name.now) c.self.view_is
    (hint_holds names slots c.slot_of.result i c.args.name.now c.self.invariant.hints within here below same)
