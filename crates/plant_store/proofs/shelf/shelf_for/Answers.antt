use Rattle.std.proofs.Common.{◌∙◌, All, ap, arith, subst, sym}
use Rattle.trend_num.specs.{IsName}
use Rattle.tag_base.specs.{GroupDef}
use Rattle.plant_store.specs.Tags.{AreDistinct}
use Rattle.plant_store.specs.{device_names_of}
use Rattle.plant_store.specs.Groups.{AreNamesOf}
use Rattle.plant_store.proofs.Labels.{shelf_is}
use Rattle.plant_store.proofs.shelf.shelf_for.Goals as goal

pub returns : goal.returns
returns c = shelf_is c.args.base.now _ c.len.result c.len-2.result c.requires.distinct_groups
    (c.in_ok-tag_names.ensures.names ∙ ap device_names_of c.deref.ensures.value)
    (c.in_ok-tag_names.ensures.apart (subst AreDistinct (sym c.deref.ensures.value) c.requires.distinct))
    (subst (λ l. AreNamesOf l c.in_ok-group_names.group_names.items) c.deref-2.ensures.value c.in_ok-group_names.ensures.names)
    (subst (All (λ (g : GroupDef). IsName g.name)) c.deref-2.ensures.value c.in_ok-group_names.ensures.named)
    c.in_ok-tags.ensures.none c.in_ok-groups.ensures.none (omega (arith, c.len.ensures, c.args.base.now.tags.ok.0))
    (omega (arith, c.len-2.ensures, c.args.base.now.groups.ok.0)) c.in_ok-tags.ensures.room c.in_ok-groups.ensures.room
