-- What a group's tape records: which versions its refreshes reached, and what its saves left.
use Rattle.std.specs.Prelude.{ℕ, List, [], ◌∷◌, ◌++◌, drop, take, Option, None, Some, nat_le, if◌then◌else◌}
use Rattle.trend_num.specs.{Rec}
use Rattle.group_book.specs.declared.turn.Turn.{Turn}
use Rattle.group_book.specs.declared.turn.Turn.TheVariants.{Refresh, Ask, Save}
use Rattle.group_book.specs.declared.history.GroupOpening.{GroupOpening}

-- a place on a tape: the versions so far, the number of the last save if there was one, and the moment of that save, or
-- else of the opening
pub record BookWalk : Type 0 where
  pub versions : List ℕ
  pub number : Option ℕ
  pub moment : ℕ

-- the place at the opening
abbrev pub book_start : GroupOpening → BookWalk
book_start o = record { versions = o.versions.items; number = None; moment = o.moment }

-- the place after one more turn
abbrev pub after_turn : BookWalk → Turn → BookWalk
after_turn w (Refresh versions) = record w { versions = versions.items }
after_turn w (Ask reader row calc k reply) = w
after_turn w (Save number moment) = record w { number = Some number; moment = moment }

-- the place after these turns
abbrev pub book_walked : BookWalk → List Turn → BookWalk
book_walked w [] = w
book_walked w (e ∷ es) = book_walked (after_turn w e) es

-- the versions at the last save. `now` has the versions so far, and `saved` those at the last save so far
abbrev pub saved_at : List ℕ → List ℕ → List Turn → List ℕ
saved_at now saved [] = saved
saved_at now saved (Refresh versions ∷ es) = saved_at versions.items saved es
saved_at now saved (Ask reader row calc k reply ∷ es) = saved_at now saved es
saved_at now saved (Save number moment ∷ es) = saved_at now now es

-- the first records of each input, as many as its version says
abbrev pub cut : List ℕ → List (List Rec) → List (List Rec)
cut [] rss = []
cut (v ∷ vs) [] = []
cut (v ∷ vs) (rs ∷ rss) = take v rs ∷ cut vs rss

-- the records of each input after those
abbrev pub uncut : List ℕ → List (List Rec) → List (List Rec)
uncut [] rss = []
uncut (v ∷ vs) [] = []
uncut (v ∷ vs) (rs ∷ rss) = drop v rs ∷ uncut vs rss

-- The versions at the last save at or before a moment, and those of each refresh since. `now` has the versions so far,
-- and `since` those since the last such save so far. If there was none, `since` begins with the opening.
abbrev pub versions_since : ℕ → List ℕ → List (List ℕ) → List Turn → List (List ℕ)
versions_since t now since [] = since
versions_since t now since (Refresh versions ∷ es) = versions_since t versions.items (since ++ versions.items ∷ []) es
versions_since t now since (Ask reader row calc k reply ∷ es) = versions_since t now since es
versions_since t now since (Save number moment ∷ es) =
    versions_since t now (if nat_le moment t then now ∷ [] else since) es
