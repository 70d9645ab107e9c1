-- Workers are given their seats.
use Rattle.std.proofs.Common.{◌≡◌, ℕ, ◌<◌, List, [], ◌∷◌, ◌++◌, length, get_or, sym, ◌∙◌, subst, arith}
use Rattle.std.specs.Prelude.{All}
use Rattle.std.proofs.lemmas.Grind.{common_steps}
use Rattle.std.proofs.lemmas.List.Elements.{All-nil, All-push}
use Rattle.atomic_table.specs.Seated.{TableId}
use Rattle.snapshot_table.specs.{Looking, LooksAt}
use Rattle.collector_pool.specs.{Role, SessionWorker, AreSeated, IsReady, IsRoleOf, IsSeatedAs, worker_of}
use Rattle.collector_pool.specs.declared.work.Work.{Work}

-- no seat is needed yet
pub none_seated : {O : Type 0} (stops : O → ℕ) (w : Work) (lookers : List Looking) → AreSeated stops w lookers []
none_seated stops w lookers = record { numbered = λ place d few. absurd (omega arith); ready = λ board looks. All-nil (IsReady stops w board) }

-- elements that are numbered, and one more
numbered_more : {A : Type 0} (number : A → ℕ) (xs : List A) (x : A)
    → ((place : ℕ) (d : A) → place < length xs → number (get_or xs place d) ≡ place) → number x ≡ length xs
    → (place : ℕ) (d : A) → place < length (xs ++ x ∷ []) → number (get_or (xs ++ x ∷ []) place d) ≡ place
numbered_more number xs x are one place d few = grind (arith, common_steps, are place d, one)

-- one more worker has its seat
pub one_seated : {O : Type 0} (stops : O → ℕ) (w : Work) (lookers : List Looking) (role : Role) (old new : List (SessionWorker O))
    → AreSeated stops w lookers old → IsSeatedAs stops role old new → worker_of w role ≡ length old
    → ((board : List TableId) → All (LooksAt board) lookers → IsRoleOf w board role) → AreSeated stops w lookers new
one_seated stops w lookers role old new seated one worker fits = record {
  numbered = λ place d few.
      let few' : place < length (old ++ one.seat ∷ []) = subst (λ (l : List _). place < length l) one.seats few in
      rw one.seats (numbered_more (λ s. s.note.worker) old one.seat seated.numbered one.worker place d few');
  ready = λ board looks.
      let role_fits : IsRoleOf w board one.seat.role = rw one.role_is (fits board looks) in
      let this : IsReady stops w board one.seat =
      record { role = role_fits; worker = rw one.role_is (one.worker ∙ sym worker); fresh = one.fresh } in
      rw one.seats (All-push (IsReady stops w board) old one.seat (seated.ready board looks) this);
}
