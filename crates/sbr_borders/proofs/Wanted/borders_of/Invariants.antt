use Rattle.std.proofs.Common.{◌≡◌, ◌≤◌, ◌++◌, true, leb, length, drop}
use Rattle.std.specs.List.{list_all}
use Rattle.sbr_grid.specs.Grid.{first}
use Rattle.sbr_build.specs.Slots.{slot_list}
use Rattle.sbr_borders.specs.Borders.{places}
use Rattle.sbr_borders.specs.Wanted.{wanted_list}
use Rattle.sbr_borders.proofs.Wanted.borders_of.Given as goal

-- what is left of both lists, behind as many as have their place
abbrev pub invariant-loop-b : goal.invariant-loop-b
invariant-loop-b l =
    let ws = wanted_list l.self in
    let is = first 0 l.self.count l.shifts in
    let i = length (slot_list l.out) in
    (l.b-iterator.a.rest.now ≡ drop i ws) × (l.b-iterator.b.rest.now ≡ drop i l.shifts) × (i ≤ l.self.count) × (list_all (λ b. leb b 33) (slot_list l.out) ≡ true)
    × (slot_list l.out ++ places (drop i ws) (drop i is) ≡ places ws is)
