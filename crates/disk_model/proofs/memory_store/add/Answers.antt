use Rattle.disk_model.proofs.Places.{added}
use Rattle.disk_model.proofs.memory_store.add.Goals as goal

pub returns-clause-ok : goal.returns-clause-ok
returns-clause-ok c =
    added c.args.devices.now.items c.push.new.self.items c.in_ok-name.name c.args.name.now c.args.dev c.requires c.in_ok-name.ensures.ok c.in_ok-push.ensures.items
