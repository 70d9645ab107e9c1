use Rattle.std.proofs.Common.{◌≡◌, rules}
use Rattle.value_rows.specs.{first_place_of}
use Rattle.value_rows.proofs.NameMap.{place_named, place_within}
use Rattle.value_rows.proofs.places.Places.place_in_map.Goals as goal

pub returns-clause-within : goal.returns-clause-within
returns-clause-within c =
    let is : c.copied.result ≡ first_place_of c.args.self.now c.args.name.now = search rules in
    place_within c.args.self.now c.args.name.now c.copied.result is

pub returns-clause-name : goal.returns-clause-name
returns-clause-name c =
    let is : c.copied.result ≡ first_place_of c.self.inside.names.now c.args.name.now = search rules in
    place_named c.self.inside.names.now c.args.name.now c.copied.result c.self.invariant.named is
