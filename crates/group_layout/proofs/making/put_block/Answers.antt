use Rattle.std.proofs.Common.{◌≡◌, ◌∙◌, ℕ, List, sym, subst, ◌+◌, ◌∷◌, ◌++◌, [], length, ap, arith}
use Rattle.group_layout.specs.{block_image, block_size, parts_of}
use Rattle.disk_model.specs.{Sees, IsGuarded, IsShut, open_byte, FromOld, Now, During, seen, written}
use Rattle.group_layout.proofs.BlockAdded.{block_ready}
use Rattle.group_layout.proofs.Beginnings.{length-block_image, shut_guarded}
use Rattle.archive_file.proofs.ReadImages.{shut_reached}
use Rattle.group_layout.proofs.making.put_block.Goals as goal

pub returns-in_default-clause-any_moment : goal.returns-in_default-clause-any_moment
returns-in_default-clause-any_moment g c =
    shut_guarded _ (c.args.at + 1) (block_image (parts_of c.args.b.now) ++ 0 ∷ []) c.args.at c.requires

pub returns-in_default-checked_add-clause-any_moment : goal.returns-in_default-checked_add-clause-any_moment
returns-in_default-checked_add-clause-any_moment g c =
    shut_guarded _ (c.args.at + 1) (block_image (parts_of c.args.b.now) ++ 0 ∷ []) c.args.at c.requires

pub write_guarded-requires-clause-room : goal.write_guarded-requires-clause-room
write_guarded-requires-clause-room g c = shut_reached _ c.args.at c.requires

pub returns-clause-next : goal.returns-clause-next
returns-clause-next g c =
    omega (arith, c.in-Some.ensures, c.len.ensures, ap length c.in-Ok.ensures, length-block_image (parts_of c.args.b.now))

pub returns-clause-ready : goal.returns-clause-ready
returns-clause-ready g c =
    let b = parts_of c.args.b.now in
    let old = (g.D.Disk.device c.args.dev.now).trace in
    let new = (g.D.Disk.device c.write_guarded.new.dev).trace in
    let same = c.deref.ensures.value ∙ c.in-Ok.ensures in
    let next : c.in-Some.next ≡ c.args.at + block_size b
    = omega (arith, c.in-Some.ensures, c.len.ensures, ap length c.in-Ok.ensures, length-block_image b) in
    subst (λ (n : ℕ). Now new (IsShut n)) (sym next)
    (block_ready b c.args.at old new c.requires
    (subst (λ (l : List ℕ). During old new (FromOld old (IsGuarded (c.args.at + 1) l c.args.at))) same c.write_guarded.ensures.any_moment)
    (subst (λ (l : List ℕ). Sees new (written (written (seen old) (c.args.at + 1) l) c.args.at (open_byte ∷ []))) same
    c.in-Ok-write_guarded.ensures.reads) c.in-Ok-write_guarded.ensures.settled)
