-- What bits that are put leave: these, the rest of the byte in which they end clear, every other bit as it was.
use mathlib.Core.Path.{◌≡◌, refl, ◌∙◌}
use mathlib.Core.Bool.{Bool, true, false, cond}
use mathlib.Core.List.{List, [], ◌∷◌, ◌++◌}
use Prim.Native.Nat.{ℕ, zero, suc, ◌+◌, ◌*◌, ◌/◌, ◌<◌, ◌≤◌}
use native.Mathlib.Decide.{ℕ_discrete}
use native.Mathlib.Omega.{arith}
use lib.ListN.{length, get_or, replicate, length-append, length-replicate}
use lib.Seq.{get_or-set_other}
use borrow.Author.Tests.{le-leb}
use Rattle.bits.specs.Bits.{get_bit, make_bit, make_bits, bits_of, rest_bits, put_bits}
use Rattle.bits.specs.Room.{end_of, room_for, after_field}
use Rattle.bits.specs.Put.{BitsPut, EveryField}
use Rattle.bits.proofs.Numbers.{length-bits_of}
use Rattle.bits.proofs.Stream.{length-make_bit, length-make_bits, make_append, get_same, get_before, kept_before, bits_made}
use Rattle.bits.proofs.Put.{put_make, put_append}

-- a bit that is cleared is clear
get_clear : (l : List ℕ) (p q n : ℕ) → p ≤ q → q < p + n → p + n ≤ 8 * length l → get_bit (make_bits l p (replicate n false)) q ≡ false
unfolding make_bits
get_clear l p q zero a b h = absurd (omega arith)
get_clear l p q (suc n) a b h =
    go (ℕ_discrete q p) (λ k. get_clear (make_bit l p false) (suc p) q n k (omega arith) (omega (arith, length-make_bit l p false)))
  where
    go : Dec (q ≡ p) → (suc p ≤ q → get_bit (make_bits (make_bit l p false) (suc p) (replicate n false)) q ≡ false)
        → get_bit (make_bits (make_bit l p false) (suc p) (replicate n false)) q ≡ false
    go (yes e) f = rw e (get_before (make_bit l p false) (suc p) p (replicate n false) (omega arith) ∙ get_same l p false (omega arith))
    go (no e) f = f (omega arith)

-- a byte after those in which bits are made others is kept
byte_kept : (l : List ℕ) (p i : ℕ) (bs : List Bool) → p + length bs ≤ 8 * i → get_or (make_bits l p bs) i 0 ≡ get_or l i 0
unfolding make_bits make_bit
byte_kept l p i [] h = refl
byte_kept l p i (b ∷ bs) h = byte_kept (make_bit l p b) (suc p) i bs (omega arith) ∙ get_or-set_other l (p / 8) i _ 0 (λ e. omega arith)

-- bits that are put leave as many bytes as there were
pub length-put_bits : (l : List ℕ) (p : ℕ) (bs : List Bool) → length (put_bits l p bs) ≡ length l
unfolding put_bits
length-put_bits l p [] = refl
length-put_bits l p (b ∷ bs) = length-make_bits l p _

-- what bits that are put leave
pub put_leaves : (l : List ℕ) (p : ℕ) (bs : List Bool) → 0 < length bs → p + length bs ≤ 8 * length l → BitsPut l (put_bits l p bs) p bs
put_leaves l p bs some h =
    let e = p + length bs in
    let n = rest_bits e in
    let zs = replicate n false in
    let len = length-make_bits l p bs in
    let f = put_make l p bs some in
    let two = f ∙ make_append l p bs zs in
    record {
      within = h;
      bits = rw two (kept_before (make_bits l p bs) e p (length bs) zs (omega arith) ∙ bits_made l p bs h);
      rest = λ q a b. rw two (get_clear (make_bits l p bs) e q n a (omega arith) (omega (arith, len)));
      before = λ q a. rw f (get_before l p q (bs ++ zs) a);
      past = λ i a. rw f (byte_kept l p i (bs ++ zs) (omega (arith, length-append bs zs, length-replicate n false)));
      size = length-put_bits l p bs;
    }

-- what a field leaves
field_put : (l : List ℕ) (p w v : ℕ) → 0 < w → w ≤ 32 → p + w ≤ end_of (length l) → BitsPut l (after_field l p w v) p (bits_of w v)
unfolding room_for end_of
field_put l p w v some a b =
    let len = length-bits_of w v in
    rw (le-leb w 32 a, le-leb (p + w) (end_of (length l)) b) (put_leaves l p (bits_of w v) (omega (arith, len)) (omega (arith, len)))

-- whether or not there is room for no bits, nothing is put
no_bits : (l : List ℕ) (p v : ℕ) → after_field l p 0 v ≡ l
unfolding put_bits bits_of
no_bits l p v = go (room_for (length l) p 0)
  where
    go : (b : Bool) → cond b l l ≡ l
    go true = refl
    go false = refl

pub every_field : EveryField
every_field = record { put = field_put; no_bits = no_bits; append = put_append }
