-- What `grid_for_borders` tests, and what it hands on.
use Rattle.std.specs.Prelude.{Option, Err}
use Rattle.std.specs.Option.{ok_or}
use Rattle.std.specs.List.{list_all, find}
use mathlib.Core.Path.{◌≡◌, sym, ◌∙◌}
use mathlib.Core.Bool.{Bool, true, false, ◌&&◌, false≢true, and-eq-true_iff}
use mathlib.Core.List.{List, map}
use Prim.Native.Nat.{ℕ, ◌+◌, ◌≤◌}
use native.Mathlib.Omega.{arith}
use borrow.Author.Tests.{le-leb, eq-eqb, leb-true, eqb-true}
use lib.Dec.{leb, eqb}
use lib.IntN.{ℤ, nat_abs}
use Rattle.std.proofs.lemmas.Bool.{and_parts}
use lib.ListN.{length, take, length-map}
use Rattle.sbr_grid.specs.declared.SbrGrid.{SbrGrid}
use Rattle.sbr_grid.specs.declared.Refusal.TheVariants.{SlotCount, NoGrid}
use Rattle.sbr_grid.specs.Refusals.{Outcome, result_map}
use Rattle.sbr_grid.specs.Grid.{first, view_of, record_of}
use Rattle.sbr_grid.specs.Times.{is_slot_count}
use Rattle.sbr_grid.proofs.First.{first-length, first_take, first_back}
use Rattle.sbr_named.specs.Shapes.{candidate, has_borders, named_grid}
use Rattle.sbr_named.specs.declared.shape.TheConstants.{SHAPES}
use Rattle.sbr_named.specs.Code.{is_border, is_mark, can_be_named}
use Rattle.sbr_named.proofs.Tried.{found}
use Rattle.sbr_named.proofs.Chosen.{no_grid_exactly}
use Rattle.sbr_named.proofs.Limits.{Limits, limits}
use Rattle.sbr_named.proofs.Signed.{border_from_zero}

module _ (zs : List ℤ) (res : List Bool) (mark : ℤ) where
  -- what the test of what is named says
  pub can_told : can_be_named zs res mark ≡ true → Limits zs res mark
  can_told h =
      let q = and_parts (leb 1 (length res) && leb (length res) 5 && eqb (length zs) (length res + 1) && list_all is_border zs) (is_mark mark) h in
      let p = simp and-eq-true_iff at q.0 in
      record {
        count = eqb-true (length zs) (length res + 1) p.0.1;
        some = leb-true 1 (length res) p.0.0.0;
        few = leb-true (length res) 5 p.0.0.1;
        borders = p.1;
        marked = q.1;
      }

  -- what has limits passes it
  can_pass : Limits zs res mark → can_be_named zs res mark ≡ true
  can_pass l = rw (le-leb 1 (length res) l.some, le-leb (length res) 5 l.few, eq-eqb (length zs) (length res + 1) l.count, l.borders) l.marked

  -- a slot count that is none is refused by 1
  pub no_slots : (n : ℕ) → is_slot_count n ≡ false → ◌≡◌ {A = Outcome SbrGrid} (Err SlotCount) (result_map record_of (named_grid n zs res mark))
  no_slots n e = rw ((no_grid_exactly n zs res mark).slot_count.1 e)

  -- after it, what no frame can have is refused by 10
  pub no_limits : (n : ℕ) → is_slot_count n ≡ true → can_be_named zs res mark ≡ false
      → ◌≡◌ {A = Outcome SbrGrid} (Err NoGrid) (result_map record_of (named_grid n zs res mark))
  no_limits n e h = rw ((no_grid_exactly n zs res mark).no_grid.1 (e, λ g s. false≢true (sym h ∙ can_pass (limits n zs res mark g s))))

-- the borders that stand in the places in use are those handed in
pub borders_back : (zs : List ℤ) (t : List ℕ) → length zs ≤ 6 → t ≡ first 0 6 (map nat_abs zs) → take (length zs) t ≡ map nat_abs zs
borders_back zs t h e =
    let x = map nat_abs zs in
    let n : length x ≡ length zs = length-map zs nat_abs in
    rw e (first_take 0 (length zs) (first 0 6 x) (omega (arith, first-length 0 6 x)) ∙ first_back 0 6 (length zs) x n h)

-- what the search through the shapes gives is the answer
pub answer : (n : ℕ) (zs : List ℤ) (res : List Bool) (mark m : ℤ) (bs : List ℕ) (r : Option SbrGrid) → is_slot_count n ≡ true → Limits zs res mark
    → bs ≡ map nat_abs zs → m ≡ mark
    → r ≡ find (λ g. has_borders n bs m (view_of g)) (map (λ s. record_of (candidate n bs res m s)) SHAPES)
    → ok_or r NoGrid ≡ result_map record_of (named_grid n zs res mark)
unfolding named_grid
answer n zs res mark m bs r s l b e f =
    rw (s, border_from_zero zs l.borders, ← b, ← e) (rw f (found n bs res m l.some l.few))
