use Rattle.std.proofs.Common.{◌≡◌, ◌<◌, ◌∙◌, All, length, map, ap, sym, subst, arith}
use Rattle.std.proofs.lemmas.List.{length-map}
use Rattle.std.proofs.lemmas.List.Elements.{All-map}
use Rattle.tag_base.proofs.group.group_of.Goals as goal

-- The group has the places and the names of the inputs of its text, and as many calculations.
pub returns-in-Ok-clause-sound : goal.returns-in-Ok-clause-sound
returns-in-Ok-clause-sound c =
    let inputs = c.in_ok-text.text.inputs.items in
    let sound = c.in_ok-text.ensures.sound in
    let places : c.in_ok-inputs.inputs.items ≡ map (λ i. i.place) inputs = c.in_ok-inputs.ensures ∙ ap (map (λ i. i.place)) c.deref.ensures.value in
    let names : c.in-Ok.calcs.inputs ≡ map (λ i. i.name) inputs =
    c.in-Ok.ensures.names ∙ c.deref-3.ensures.value ∙ c.in_ok-names.ensures ∙ ap (map (λ i. i.name)) c.deref-2.ensures.value in
    let count = ap length c.deref.ensures.value in
    let many_places = simp length-map at (ap length places) in
    let many_names = simp length-map at (ap length names) in
    record {
      inputs_are_tags = subst (All (λ i. i < length c.args.tags.now)) (sym places)
          (All-map (λ i. i < length c.args.tags.now) (λ i. i.place) inputs sound.inputs_are_tags);
      some_inputs = omega (arith, sound.some_inputs, c.deref.ensures.len);
      few_inputs = omega (arith, sound.few_inputs, c.deref.ensures.len);
      as_many_names = omega arith;
      some_calcs = omega (arith, sound.some_calcs, c.in-Ok.ensures.as_many, c.deref-4.ensures.len);
      few_calcs = omega (arith, sound.few_calcs, c.in-Ok.ensures.as_many, c.deref-4.ensures.len);
      start = sound.start;
      some_period = sound.some_period;
      short_period = sound.short_period;
    }
