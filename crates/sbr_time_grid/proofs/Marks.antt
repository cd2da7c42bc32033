-- Laws of the tables by bs_pointer, and of the border at which two noise floors meet.
use mathlib.Core.Path.{◌≡◌, refl}
use mathlib.Core.Bool.{true, and-eq-true_iff}
use Prim.Native.Nat.{ℕ, zero, suc, ◌<◌}
use native.Mathlib.Omega.{arith}
use borrow.Author.Tests.{ltb-true, lt-leb}
use Rattle.sbr_grid.specs.Grid.{Grid, num_env_of}
use Rattle.sbr_time_grid.specs.TimeGrid.{by_pointer, middle_border, noise_fits}

-- the entry of a pointer of 0 or 1, where both have the same
pub pointer_low : {A : Type 0} (p : ℕ) (a b : A) → p < 2 → by_pointer p a a b ≡ a
pointer_low zero a b h = refl
pointer_low (suc zero) a b h = refl
pointer_low (suc (suc p)) a b h = absurd (omega arith)

-- the entry of a pointer above 1
pub pointer_high : {A : Type 0} (p : ℕ) (a b c : A) → 1 < p → by_pointer p a b c ≡ c
pointer_high zero a b c h = absurd (omega arith)
pointer_high (suc zero) a b c h = absurd (omega arith)
pointer_high (suc (suc p)) a b c h = refl

-- the entry of a pointer above 0, where all have the same
pub pointer_some : {A : Type 0} (p : ℕ) (a b : A) → (p ≡ 0 → ⊥) → by_pointer p a b b ≡ b
pointer_some zero a b h = absurd (h refl)
pointer_some (suc zero) a b h = refl
pointer_some (suc (suc p)) a b h = refl

-- two noise floors meet before the last border
pub noise_meet : (g : Grid) → noise_fits g ≡ true → 1 < num_env_of g → middle_border g < num_env_of g
unfolding noise_fits
noise_meet g e h =
    let p = simp and-eq-true_iff at (rw (lt-leb (num_env_of g) 1 h) at e) in
    ltb-true (middle_border g) (num_env_of g) p.1
