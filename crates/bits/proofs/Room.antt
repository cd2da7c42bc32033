-- What the test for room says.
use mathlib.Core.Path.{◌≡◌, sym, ◌∙◌}
use mathlib.Core.Bool.{true, false}
use Prim.Native.Nat.{ℕ, ◌+◌, ◌-◌, ◌*◌, ◌^◌, ◌<◌, ◌≤◌}
use native.Mathlib.Omega.{arith}
use native.Mathlib.Decide.{dec_le}
use borrow.Author.Tests.{le-leb, lt-leb, leb-true}
use lib.Dec.{leb}
use Rattle.bits.specs.Room.{end_of, room_for}

-- n bits from p on lie within len bytes, and the position after them is a usize
pub record Room (len p n : ℕ) : Type 0 where
  pub within : p + n ≤ 8 * len
  pub holds : p + n < 2 ^ 64

-- the test says so
pub room : (len p n : ℕ) → room_for len p n ≡ true → Room len p n
unfolding room_for end_of
room len p n e = omega (arith, leb-true (p + n) (end_of len) e)

-- and where it is so, the test does
pub room_back : (len p n : ℕ) → Room len p n → room_for len p n ≡ true
unfolding room_for end_of
room_back len p n r = le-leb (p + n) (end_of len) (omega arith)

-- n is within what is left from p up to e
pub leb_left : (n p e : ℕ) → p ≤ e → leb n (e - p) ≡ leb (p + n) e
leb_left n p e h = go (dec_le (p + n) e)
  where
    go : Dec (p + n ≤ e) → leb n (e - p) ≡ leb (p + n) e
    go (yes k) = le-leb n (e - p) (omega arith) ∙ sym (le-leb (p + n) e k)
    go (no k) = lt-leb n (e - p) (omega arith) ∙ sym (lt-leb (p + n) e (omega arith))

-- past e no bits are within it
pub leb_past : (n p e : ℕ) → e < p → false ≡ leb (p + n) e
leb_past n p e h = sym (lt-leb (p + n) e (omega arith))
