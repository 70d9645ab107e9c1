-- Tags that are opened one after the other.
use Rattle.std.proofs.Common.{◌≡◌, ◌≢◌, ◌⊎◌, inl, inr, ℕ, suc, ◌+◌, ◌<◌, ◌≤◌, List, All, [], ◌∷◌, ◌++◌, length, take, get_or, codes, refl, sym, ◌∙◌, ap, subst, arith}
use Rattle.std.proofs.lemmas.List.{get_or-take, get_or_default, take_more, append_cancel_right, length-take-le}
use Rattle.std.specs.List.{AllZip}
use Rattle.std.proofs.lemmas.Bool.{cases_order}
use Rattle.std.proofs.lemmas.Slice.Zip.{all_zipped_more}
use Rattle.trend_num.specs.{TagDef}
use Rattle.tag_core.specs.Core.{Core}
use Rattle.disk_model.specs.{Trace}
use Rattle.crash_recovery.specs.{StaysSame}
use Rattle.tag_cell.specs.{device_name}
use Rattle.plant_store.specs.Tags.{tag_trace_of, AreDistinct, IsOpened, AreTagsOpened, AreOtherTagsSame, AllStaySame, IsLeft, AreLeft}
use Rattle.plant_store.proofs.TagDevices.{still}
use Rattle.plant_store.proofs.CellLists.{all_before, all_last}

-- the first i tags are opened
pub record IsSoFar (tags : List TagDef) (i : ℕ) (old now : List ℕ → Trace)
    (cores : List Core) : Type 0 where
  pub opened : AreDistinct tags → AreTagsOpened (take i tags) old cores
  pub others : AreOtherTagsSame (take i tags) old now
  pub left : AreDistinct tags → AreLeft (take i tags) old now cores
  pub same : AreDistinct tags → AllStaySame tags old now

-- this is tag i
pub record IsTag (tags : List TagDef) (i : ℕ) (def : TagDef) : Type 0 where
  pub there : i < length tags
  pub is : def ≡ get_or tags i def

-- the opening of its device changes no other device
pub record IsTurn (def : TagDef) (now new : List ℕ → Trace) : Type 0 where
  pub others : (n : List ℕ) → n ≢ device_name def.name → new n ≡ now n
  pub same : StaysSame def (tag_trace_of now def) (tag_trace_of new def)

-- before the first tag
pub begun : (tags : List TagDef) (old : List ℕ → Trace) → IsSoFar tags 0 old old []
begun tags old = record {
  opened = λ distinct. tt;
  others = λ n apart. refl;
  left = λ distinct. tt;
  same = λ distinct k d in'. still (get_or tags k d) (tag_trace_of old (get_or tags k d));
}

-- two tags of one device name have one name
pub one_name : (a b : TagDef) → device_name a.name ≡ device_name b.name → a.name ≡ b.name
one_name a b same = append_cancel_right a.name b.name (codes ".tag") same

-- tag i is this one, whatever is the default for one that is not there
pub any_default : (tags : List TagDef) (i : ℕ) (def d : TagDef) → IsTag tags i def → get_or tags i d ≡ def
any_default tags i def d tag = get_or_default tags i d def tag.there ∙ sym tag.is

-- another tag has another device
pub apart : (tags : List TagDef) (k i : ℕ) (def d : TagDef) → AreDistinct tags → IsTag tags i def
    → k < length tags
    → (k < i) ⊎ (i < k) → device_name (get_or tags k d).name ≢ device_name def.name
apart tags k i def d distinct tag in' (inl before) same =
    distinct k i d before tag.there
    (one_name (get_or tags k d) def same ∙ ap (λ x. x.name) (sym (any_default tags i def d tag)))
apart tags k i def d distinct tag in' (inr behind) same =
    distinct i k d behind in'
    (ap (λ x. x.name) (any_default tags i def d tag) ∙ sym (one_name (get_or tags k d) def same))

-- the first tags with this one
pub one_longer : (tags : List TagDef) (i : ℕ) (def : TagDef) → IsTag tags i def → take (i + 1) tags ≡ take i tags ++ def ∷ []
one_longer tags i def tag = take_more tags i def tag.there ∙ ap (λ (x : TagDef). take i tags ++ x ∷ []) (sym tag.is)

-- a tag has another device than each of those before it
pub beyond : (tags : List TagDef) (i k : ℕ) (def : TagDef) → AreDistinct tags → IsTag tags k def → i ≤ k
    → All (λ (d : TagDef). device_name def.name ≢ device_name d.name) (take i tags)
beyond tags i k def distinct tag from j e below =
    let long : length (take i tags) ≡ i = length-take-le i tags (omega (arith, from, tag.there)) in
    let before : j < i = omega (arith, below, long) in
    λ (same : device_name def.name ≡ device_name (get_or (take i tags) j e).name).
    apart tags j k def e distinct tag (omega (arith, before, from, tag.there)) (inl (omega (arith, before, from)))
    (ap (λ (x : TagDef). device_name x.name) (sym (get_or-take i tags j e before)) ∙ sym same)

-- so the device of one that was not reached is as it was
pub not_reached : (tags : List TagDef) (i k : ℕ) (def : TagDef) (old now : List ℕ → Trace) → AreOtherTagsSame (take i tags) old now
    → AreDistinct tags → IsTag tags k def → i ≤ k → tag_trace_of now def ≡ tag_trace_of old def
not_reached tags i k def old now others distinct tag from = others (device_name def.name) (beyond tags i k def distinct tag from)

-- what none of the first tags has, nor the next one, is as it was
pub reached : (tags : List TagDef) (i : ℕ) (def : TagDef) (old now new : List ℕ → Trace) → AreOtherTagsSame (take i tags) old now
    → IsTag tags i def → ((n : List ℕ) → n ≢ device_name def.name → new n ≡ now n) → AreOtherTagsSame (take (i + 1) tags) old new
reached tags i def old now new others tag step n none =
    let both = subst (All (λ (d : TagDef). n ≢ device_name d.name)) (one_longer tags i def tag) none in
    step n (all_last (λ (d : TagDef). n ≢ device_name d.name) (take i tags) def both)
    ∙ others n (all_before (λ (d : TagDef). n ≢ device_name d.name) (take i tags) def both)

-- each device stays the same, as that of the next tag does and no other was changed
one_same : (tags : List TagDef) (i : ℕ) (def : TagDef) (old now new : List ℕ → Trace)
    → AreDistinct tags → AllStaySame tags old now
    → IsTag tags i def → tag_trace_of now def ≡ tag_trace_of old def → IsTurn def now new → (k : ℕ) (d : TagDef)
    → k < length tags
    → (k ≡ i) ⊎ ((k < i) ⊎ (i < k))
    → StaysSame (get_or tags k d) (tag_trace_of old (get_or tags k d)) (tag_trace_of new (get_or tags k d))
one_same tags i def old now new distinct kept tag was turn k d in' (inl e) =
    let this : get_or tags k d ≡ def = ap (λ j. get_or tags j d) e ∙ any_default tags i def d tag in
    subst (λ (x : TagDef). StaysSame x (tag_trace_of old x) (tag_trace_of new x)) (sym this)
    (subst (λ (o : Trace). StaysSame def o (tag_trace_of new def)) was turn.same)
one_same tags i def old now new distinct kept tag was turn k d in' (inr other) =
    let unchanged = turn.others (device_name (get_or tags k d).name)
    (apart tags k i def d distinct tag in' other) in
    subst (λ (o : Trace). StaysSame (get_or tags k d) (tag_trace_of old (get_or tags k d)) o)
    (sym unchanged) (kept k d in')

pub all_same : (tags : List TagDef) (i : ℕ) (def : TagDef) (old now new : List ℕ → Trace)
    (cores : List Core)
    → IsSoFar tags i old now cores → AreDistinct tags → IsTag tags i def → IsTurn def now new
    → AllStaySame tags old new
all_same tags i def old now new cores so_far distinct tag turn = λ k d in'.
    one_same tags i def old now new distinct (so_far.same distinct) tag
    (not_reached tags i i def old now so_far.others distinct tag (omega arith)) turn
    k d in' (cases_order k i)

-- one tag more
one_more : (tags : List TagDef) (i : ℕ) (def : TagDef) (old : List ℕ → Trace) (cores : List Core)
    (core : Core)
    → AreTagsOpened (take i tags) old cores → IsTag tags i def → IsOpened def (tag_trace_of old def) core
    → AreTagsOpened (take (i + 1) tags) old (cores ++ core ∷ [])
one_more tags i def old cores core front tag opened =
    subst (λ (l : List TagDef). AreTagsOpened l old (cores ++ core ∷ [])) (sym (one_longer tags i def tag))
    (all_zipped_more (λ (d : TagDef) (c : Core). IsOpened d (tag_trace_of old d) c)
    (take i tags) cores def core front opened)

-- what holds of pairs place by place follows from what else does
pub zip_weaker : {A B : Type 0} (P Q : A → B → Type 0) (xs : List A) (ys : List B)
    → ((k : ℕ) (d : A) (y : B) → k < length xs → P (get_or xs k d) y → Q (get_or xs k d) y)
    → AllZip P xs ys → AllZip Q xs ys
zip_weaker P Q [] [] follows all = tt
zip_weaker P Q [] (y ∷ ys) follows all = absurd all
zip_weaker P Q (x ∷ xs) [] follows all = absurd all
zip_weaker P Q (x ∷ xs) (y ∷ ys) follows all = (
  follows 0 x y (omega arith) all.0,
  zip_weaker P Q xs ys (λ k d z below p. follows (suc k) d z (omega (arith, below)) p) all.1,
)

-- the devices of the first tags are left as they were, and that of the next one is left
pub one_left : (tags : List TagDef) (i : ℕ) (def : TagDef) (old now new : List ℕ → Trace) (cores : List Core)
    (core : Core)
    → AreDistinct tags → AreLeft (take i tags) old now cores → IsTag tags i def → IsTurn def now new
    → IsLeft def (tag_trace_of old def) (tag_trace_of new def) core
    → AreLeft (take (i + 1) tags) old new (cores ++ core ∷ [])
one_left tags i def old now new cores core distinct front tag turn left =
    let long : length (take i tags) ≡ i = length-take-le i tags (omega (arith, tag.there)) in
    subst (λ (l : List TagDef). AreLeft l old new (cores ++ core ∷ [])) (sym (one_longer tags i def tag))
    (all_zipped_more (λ (d : TagDef) (c : Core). IsLeft d (tag_trace_of old d) (tag_trace_of new d) c)
    (take i tags) cores def core
    (zip_weaker (λ (d : TagDef) (c : Core). IsLeft d (tag_trace_of old d) (tag_trace_of now d) c)
    (λ (d : TagDef) (c : Core). IsLeft d (tag_trace_of old d) (tag_trace_of new d) c) (take i tags) cores
    (λ k d c below was.
    let before : k < i = omega (arith, below, long) in
    let place = get_or-take i tags k d before in
    let unchanged = turn.others (device_name (get_or (take i tags) k d).name)
    (λ e. apart tags k i def d distinct tag (omega (arith, before, tag.there)) (inl before)
    (ap (λ (x : TagDef). device_name x.name) (sym place) ∙ e)) in
    subst (λ (o : Trace). IsLeft (get_or (take i tags) k d) (tag_trace_of old (get_or (take i tags) k d)) o c)
    (sym unchanged) was) front)
    left)

pub next : (tags : List TagDef) (i : ℕ) (def : TagDef) (old now new : List ℕ → Trace)
    (cores : List Core) (core : Core)
    → IsSoFar tags i old now cores → IsTag tags i def → IsTurn def now new
    → IsOpened def (tag_trace_of now def) core → IsLeft def (tag_trace_of now def) (tag_trace_of new def) core
    → IsSoFar tags (i + 1) old new (cores ++ core ∷ [])
next tags i def old now new cores core so_far tag turn opened left = record {
  opened = λ distinct. one_more tags i def old cores core (so_far.opened distinct) tag
      (subst (λ (o : Trace). IsOpened def o core)
      (not_reached tags i i def old now so_far.others distinct tag (omega arith)) opened);
  others = reached tags i def old now new so_far.others tag turn.others;
  left = λ distinct. one_left tags i def old now new cores core distinct (so_far.left distinct) tag turn
      (subst (λ (o : Trace). IsLeft def o (tag_trace_of new def) core)
      (not_reached tags i i def old now so_far.others distinct tag (omega arith)) left);
  same = λ distinct. all_same tags i def old now new cores so_far distinct tag turn;
}
