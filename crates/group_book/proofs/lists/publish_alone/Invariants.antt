use Rattle.group_book.proofs.lists.publish_alone.Given as goal

abbrev pub ghosts-publish_on : goal.ghosts-publish_on
ghosts-publish_on g a = record { name = a.blank.name; parts = a.blank.parts }
