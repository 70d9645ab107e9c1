use Rattle.std.proofs.Common.{arith, ◌≡◌, map, refl, ap, ◌∙◌, subst}
use Rattle.std.proofs.lemmas.Result.{err_from_is_err_and}
use Rattle.archive_file.proofs.FieldLaws.{told_through}
use Rattle.group_layout.specs.{MayFollow, last_of, last_read, parts_of}
use Rattle.group_layout.proofs.Walks.{last_read-push}
use Rattle.group_layout.proofs.block_reader.GroupReaderBlockReader.add.Goals as goal
use Rattle.group_layout.proofs.block_reader.GroupReaderBlockReader.add.Goals.{After-last_or-before}

-- the block before
before : (g : _) (c : After-last_or-before g) → parts_of c.last_or-before.result.now ≡ last_read c.args.self.now.unsaved c.args.self.now.list.items
before g c = c.last_or-before.ensures ∙ ap (λ l. last_of (parts_of c.args.self.now.unsaved) (map parts_of l)) c.deref.ensures.value

pub read_block-requires : goal.read_block-requires
read_block-requires g c = grind (arith, before)

pub returns-in_err-read-clause-damaged : goal.returns-in_err-read-clause-damaged
returns-in_err-read-clause-damaged g c = grind (arith, before, err_from_is_err_and, told_through)

pub returns-clause-added : goal.returns-clause-added
returns-clause-added g c =
    let here = before g (goal.at.returns-clause-added g c).After-last_or-before in (
      refl,
      refl,
      record {
        block = c.in_ok-read.read;
        are = c.in-Ok.ensures.items;
        spelled = rw c.size_of_block-size.ensures c.in_ok-read.ensures.spelled;
        follows = subst (λ b. MayFollow c.args.self.now.calcs b (parts_of c.in_ok-read.read)) here c.in_ok-read.ensures.follows;
        size_is = c.size_of_block-size.ensures;
      },
    )

pub returns-clause-ready : goal.returns-clause-ready
returns-clause-ready g c = grind (arith, before, last_read-push)
