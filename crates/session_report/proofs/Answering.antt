-- Entries that answer nothing.
use Rattle.std.proofs.Common.{◌≡◌, None, Some, refl}
use Rattle.tag_cell.specs.{Entry}
use Rattle.tag_cell.specs.declared.entry.Entry.TheVariants as entry
use Rattle.group_book.specs.{Turn}
use Rattle.group_book.specs.declared.turn.Turn.TheVariants as turn
use Rattle.trend_report.specs.declared.reply_line.ReplyText.TheVariants.{Row}
use Rattle.session_report.specs.{answer_of_group, answer_of_tag}

-- an entry of a tag's tape
pub no_tag_answer : (e : Entry) → ((reader : _) (row : _) (query : _) (reply : _) → e ≡ entry.Ask reader row query reply → ⊥)
    → answer_of_tag (Some e) ≡ Row None
no_tag_answer (entry.Take collector row p held records) not_so = refl
no_tag_answer (entry.Ask reader row query reply) not_so = absurd (not_so reader row query reply refl)
no_tag_answer (entry.Pull group from upto) not_so = refl
no_tag_answer (entry.Commit moment acked) not_so = refl

-- a turn of a group
pub no_group_answer : (e : Turn) → ((reader : _) (row : _) (calc : _) (k : _) (reply : _) → e ≡ turn.Ask reader row calc k reply → ⊥)
    → answer_of_group (Some e) ≡ Row None
no_group_answer (turn.Refresh versions) not_so = refl
no_group_answer (turn.Ask reader row calc k reply) not_so = absurd (not_so reader row calc k reply refl)
no_group_answer (turn.Save number moment) not_so = refl
