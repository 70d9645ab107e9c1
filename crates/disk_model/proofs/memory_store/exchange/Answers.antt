use Rattle.std.proofs.Common.{◌≡◌, length, take, get_or, slice_set, None, refl, sym, ap, ◌∙◌, subst, arith}
use Rattle.disk_model.specs.{device_of, named, Puts}
use Rattle.disk_model.proofs.Places.{device_at_place, exchanged}
use Rattle.disk_model.proofs.memory_store.exchange.Goals as goal

pub returns-clause-found : goal.returns-clause-found
returns-clause-found c = grind (arith, device_at_place)

pub returns-clause-put : goal.returns-clause-put
returns-clause-put c =
    let ds = c.args.devices.now.items in
    let name = c.args.name.now in
    let first : device_of (named (take c.in_ok-place.place ds)) name ≡ None =
    subst (λ l. device_of (named (take c.in_ok-place.place l)) name ≡ None) c.deref.ensures.value c.in_ok-place.ensures.first in
    subst (λ d. Puts (named ds) (named (slice_set ds c.in_ok-place.place (c.index_mut.result.now.0, c.replace.new.dest))) name d) c.replace.ensures.after
    (exchanged ds c.in_ok-place.place c.index_mut.result.now (c.index_mut.result.now.0, c.replace.new.dest) name
    (omega (arith, c.in_ok-place.ensures.there, ap length c.deref.ensures.value)) c.index_mut.ensures.value first
    (c.in_ok-place.ensures.named c.index_mut.result.now (c.index_mut.ensures.value ∙ ap (λ l. get_or l c.in_ok-place.place c.index_mut.result.now) (sym c.deref.ensures.value))) refl)
