-- What the log of a device in memory says after one call more.
use Rattle.std.proofs.Common.{◌≡◌, ℕ, zero, suc, List, [], ◌∷◌, ◌++◌, length, replicate, refl}
use Rattle.std.proofs.lemmas.List.{length-replicate}
use Rattle.disk_model.specs.{declared.memory_disk.Pick.Pick, declared.memory_log.Note.Note, DeviceCall, Wrote, WroteInPart, Resized, ResizedInPart, Synced, Idle, content, IsTorn, IsBetween, IsImage, picked, picked_bytes, picked_length}
use Rattle.disk_model.specs.{call_of, idles, calls_after}
use Rattle.disk_model.specs.declared.memory_disk.Pick.TheVariants.{Old, New, Fill}
use Rattle.disk_model.proofs.Bytes.{torn_written, torn_self, torn_as, between_resized, between_self}

-- one note more is one call more, after the idle ones before it
pub calls_after-push : (es : List DeviceCall) (ns : List Note) (n : Note) → calls_after es (ns ++ n ∷ []) ≡ call_of n.call ∷ idles n.idle (calls_after es ns)
calls_after-push es [] n = refl
calls_after-push es (m ∷ ns) n = calls_after-push (call_of m.call ∷ idles m.idle es) ns n

-- idle calls change nothing of what a read gives
pub content-idles : (first : List ℕ) (n : ℕ) (es : List DeviceCall) → content first (idles n es) ≡ content first es
content-idles first zero es = refl
content-idles first (suc n) es = content-idles first n es

-- nor of the picked image
pub picked-idles : (pick : Pick) (first : List ℕ) (n : ℕ) (es : List DeviceCall) → picked pick first (idles n es) ≡ picked pick first es
picked-idles pick first zero es = refl
picked-idles pick first (suc n) es = picked-idles pick first n es

-- what is picked of a write is one that may be torn
torn_picked : (pick : Pick) (bytes image : List ℕ) (at : ℕ) → IsTorn at (length bytes) image (picked_bytes pick bytes image at)
torn_picked Old bytes image at = torn_self at (length bytes) image
torn_picked New bytes image at = torn_written image at bytes
torn_picked (Fill b) bytes image at = torn_as image at (length bytes) (replicate (length bytes) b) (length-replicate (length bytes) b)

-- what is picked of a change of the length is one that may be cut short
between_picked : (pick : Pick) (image : List ℕ) (len : ℕ) → IsBetween len image (picked_length pick image len)
between_picked Old image len = between_self len image
between_picked New image len = between_resized image len
between_picked (Fill b) image len = between_resized image len

-- the picked image is one that a crash may leave
pub picked_image : (pick : Pick) (first : List ℕ) (es : List DeviceCall) → IsImage first es (picked pick first es)
picked_image pick first [] = refl
picked_image pick first (Wrote at bytes ∷ es) = (picked pick first es, picked_image pick first es, torn_picked pick bytes (picked pick first es) at)
picked_image pick first (WroteInPart at bytes ∷ es) = (picked pick first es, picked_image pick first es, torn_picked pick bytes (picked pick first es) at)
picked_image pick first (Resized len ∷ es) = (picked pick first es, picked_image pick first es, between_picked pick (picked pick first es) len)
picked_image pick first (ResizedInPart len ∷ es) = (picked pick first es, picked_image pick first es, between_self len (picked pick first es))
picked_image pick first (Synced ∷ es) = refl
picked_image pick first (Idle ∷ es) = picked_image pick first es
