-- what the report prints
pub mod Askers
pub mod Snaps
pub mod Report
-- what only private functions cite
pub mod Places
pub use Askers.{tag_asker, group_asker, is_by, first_by}
pub use Snaps.{held_after, held_points, closing, same_held, had, checked}
pub use Report.{placed_answers, texts, lines_of_each, tag_tape, answer_of_tag, answer_of_group, reply_to, replies_to, reply_lines, last_row, last_rows, report}
pub use Places.{is_snap, is_snapped, AreMarked, held_lists, IsHeldFor, Table, place_in, query_in, HasPlaceOfEach, is_about, IsQueryAbout, IsAboutOther, place_by, kept_first, ArePlacesFilled, answer_place_of, ArePlaces}
pub use declared.asker.Asker.{Asker}
pub use declared.session.Session.{Session}
