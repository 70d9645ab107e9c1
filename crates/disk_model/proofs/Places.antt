-- What a store in memory has at each name after a device was exchanged or added.
use Rattle.std.proofs.Common.{◌≡◌, ◌≢◌, ℕ, zero, suc, ◌+◌, ◌<◌, Bool, true, false, cond, List, [], ◌∷◌, ◌++◌, length, take, set, get_or, Option, None, Some, is_some, refl, sym, ap, subst, arith}
use Rattle.std.proofs.lemmas.{Grind.common_steps, Bool.false_from_ne_true, List.take_more, List.map_push, Slice.Eq.bytes_eq-Decides}
use Rattle.std.specs.{Prelude.bytes_eq, Prelude.String, Prelude.string_bytes, declared.alloc.Global.Global}
use Rattle.disk_model.specs.{DiskState, Devices, device_of, has_device, named, Puts}

-- the devices with another one in the place of that of a name
abbrev with_device : Devices → List ℕ → DiskState → Devices
with_device [] name new = []
with_device (d ∷ ds) name new = cond (bytes_eq d.0 name) ((d.0, new) ∷ ds) (d ∷ with_device ds name new)

-- names that compare as equal are one
same_name : (a b : List ℕ) → bytes_eq a b ≡ true → a ≡ b
same_name a b is = (bytes_eq-Decides a b).0 is

-- names that are one compare as equal
name_same : (a : List ℕ) → bytes_eq a a ≡ true
name_same a = (bytes_eq-Decides a a).1 refl

-- names that are two do not compare as equal
other_name : (a b : List ℕ) → a ≢ b → bytes_eq a b ≡ false
other_name a b apart = false_from_ne_true (bytes_eq a b) (λ is. apart (same_name a b is))

-- where none is found at the head or after it
none_cond : (b : Bool) (d : DiskState) (o : Option DiskState) → cond b (Some d) o ≡ None → (b ≡ false) × (o ≡ None)
none_cond true d o is = absurd (cc (is))
none_cond false d o is = (refl, is)

-- a device of the name is found after those among which there is none
pub device_of-append : (xs ys : Devices) (name : List ℕ) → device_of xs name ≡ None → device_of (xs ++ ys) name ≡ device_of ys name
device_of-append [] ys name none = refl
device_of-append (x ∷ xs) ys name none = grind (arith, none_cond, device_of-append xs ys name)

-- none is found among one more of another name
pub none_more : (ds : List (String Global × DiskState)) (i : ℕ) (e : String Global × DiskState) (name : List ℕ) → i < length ds → e ≡ get_or ds i e
    → device_of (named (take i ds)) name ≡ None → bytes_eq (string_bytes e.0) name ≡ false → device_of (named (take (i + 1) ds)) name ≡ None
none_more ds i e name there is none other = grind (arith, common_steps, take_more, map_push, device_of-append)

-- the first of the name is the one that counts
pub device_at_place : (ds : List (String Global × DiskState)) (i : ℕ) (e : String Global × DiskState) (name : List ℕ) → i < length ds → e ≡ get_or ds i e
    → device_of (named (take i ds)) name ≡ None → bytes_eq (string_bytes e.0) name ≡ true → device_of (named ds) name ≡ Some e.1
device_at_place [] i e name there is none same = absurd (omega (arith, there))
device_at_place (x ∷ ds) zero e name there is none same = grind arith
device_at_place (x ∷ ds) (suc i) e name there is none same = grind (arith, none_cond, device_at_place ds i e name)

-- and the one that is exchanged
pub with_at_place : (ds : List (String Global × DiskState)) (i : ℕ) (e new : String Global × DiskState) (name : List ℕ) → i < length ds → e ≡ get_or ds i e
    → device_of (named (take i ds)) name ≡ None → bytes_eq (string_bytes e.0) name ≡ true → string_bytes new.0 ≡ string_bytes e.0
    → named (set ds i new) ≡ with_device (named ds) name new.1
with_at_place [] i e new name there is none same kept = absurd (omega (arith, there))
with_at_place (x ∷ ds) zero e new name there is none same kept = grind arith
with_at_place (x ∷ ds) (suc i) e new name there is none same kept = grind (arith, none_cond, with_at_place ds i e new name)

-- the device that was put is at its name
pub with_same : (ds : Devices) (name : List ℕ) (new : DiskState) → is_some (device_of ds name) ≡ true → device_of (with_device ds name new) name ≡ Some new
with_same [] name new among = absurd (cc (among))
with_same (d ∷ ds) name new among = grind (arith, with_same ds name new)

-- every other name has the device that it had
pub with_other : (ds : Devices) (name n : List ℕ) (new : DiskState) → n ≢ name → device_of (with_device ds name new) n ≡ device_of ds n
with_other [] name n new apart = refl
with_other (d ∷ ds) name n new apart = grind (arith, other_name, same_name, with_other ds name n new apart)

-- the same names have a device
pub with_among : (ds : Devices) (name n : List ℕ) (new : DiskState) → has_device ds n ≡ true → has_device (with_device ds name new) n ≡ true
with_among ds name n new among = grind (arith, same_name, with_same, with_other, name_same)

-- a device that was added is at its name
pub device_of-add : (ds : Devices) (name : List ℕ) (new : DiskState) → device_of ds name ≡ None → device_of (ds ++ (name, new) ∷ []) name ≡ Some new
device_of-add ds name new none = grind (arith, device_of-append, name_same)

-- and every other name has what it had
pub add_other : (ds : Devices) (name n : List ℕ) (new : DiskState) → n ≢ name → device_of (ds ++ (name, new) ∷ []) n ≡ device_of ds n
add_other [] name n new apart = ap (λ b. cond b (Some new) None) (other_name name n (λ is. apart (sym is)))
add_other (d ∷ ds) name n new apart = ap (λ o. cond (bytes_eq d.0 n) (Some d.1) o) (add_other ds name n new apart)

-- a name that had a device has one
pub add_among : (ds : Devices) (name n : List ℕ) (new : DiskState) → has_device ds n ≡ true → has_device (ds ++ (name, new) ∷ []) n ≡ true
add_among [] name n new among = absurd (cc (among))
add_among (d ∷ ds) name n new among = grind (arith, add_among ds name n new)

-- the first device of a name was exchanged
pub exchanged : (ds : List (String Global × DiskState)) (i : ℕ) (e new : String Global × DiskState) (name : List ℕ) → i < length ds → e ≡ get_or ds i e
    → device_of (named (take i ds)) name ≡ None → bytes_eq (string_bytes e.0) name ≡ true → string_bytes new.0 ≡ string_bytes e.0
    → Puts (named ds) (named (set ds i new)) name new.1
exchanged ds i e new name there is none same kept =
    let found = ap is_some (device_at_place ds i e name there is none same) in
    subst (λ l. Puts (named ds) l name new.1) (sym (with_at_place ds i e new name there is none same kept)) (grind (arith, with_same, with_other, with_among))

-- a device was added where there was none of its name
pub added : (ds news : List (String Global × DiskState)) (key : String Global) (name : List ℕ) (new : DiskState) → device_of (named ds) name ≡ None
    → string_bytes key ≡ name → news ≡ ds ++ (key, new) ∷ [] → Puts (named ds) (named news) name new
added ds news key name new none is all = grind (arith, map_push, device_of-add, add_other, add_among)
