use Rattle.std.proofs.Common.{◌≡◌, ◌≢◌, All, AllPairs, length, sym, subst, ◌∙◌, ap, arith}
use Rattle.std.proofs.lemmas.List.Elements.{All-nil, All-push, All-same}
use Rattle.trend_num.specs.{TuningInRange}
use Rattle.tag_base.specs.{GroupDef, IsSoundGroup}
use Rattle.run_command.proofs.DrillNaming.{as_many_tags, distinct_tags}
use Rattle.run_command.proofs.DrillSound.{sound_group, tuned_tags}
use Rattle.run_command.proofs.drill_plant.drill_base.Goals as goal

pub invariant_of-result : goal.invariant_of-result
invariant_of-result c =
    let many : length c.in_ok-defs.defs.items ≡ c.args.tags = ap length c.in_ok-defs.ensures ∙ as_many_tags c.args.tags in
    record { few_tags = omega arith; few_groups = omega arith }

pub returns-clause-as_many : goal.returns-clause-as_many
returns-clause-as_many c = ap length c.in_ok-defs.ensures ∙ as_many_tags c.args.tags

pub returns-clause-tuned : goal.returns-clause-tuned
returns-clause-tuned c = All-same (λ def. TuningInRange def.tuning) _ _ c.in_ok-defs.ensures (tuned_tags c.args.tags)

pub returns-clause-sound : goal.returns-clause-sound
returns-clause-sound c =
    let tags = c.args.tags in
    let Sound : GroupDef → Type 0 = λ g. IsSoundGroup tags g in
    let many = ap length c.in_ok-defs.ensures ∙ as_many_tags tags in
    let group = sound_group tags c.in_ok-group.group c.requires.some c.requires.few c.in_ok-group.ensures in
    let none = All-same Sound _ _ c.new-groups.ensures.items (All-nil Sound) in
    let all = All-same Sound _ _ c.in_ok-push.ensures.items (All-push Sound _ _ none group) in
    subst (λ n. All (IsSoundGroup n) c.push.new.self.items) (sym many) all

pub returns-clause-distinct : goal.returns-clause-distinct
returns-clause-distinct c =
    subst (AllPairs (λ a b. a.name ≢ b.name)) (sym c.in_ok-defs.ensures) (distinct_tags c.args.tags c.requires.few)
