-- Whole lines, and how long they are.
use mathlib.Core.Path.{◌≡◌, refl}
use mathlib.Core.List.{List, [], ◌∷◌, ◌++◌, map, append_assoc}
use Prim.Native.Nat.{ℕ, suc, ◌*◌, ◌≤◌, ◌<◌}
use native.Mathlib.Omega.{arith}
use native.Mathlib.Decide.{dec_le}
use lib.IntN.{ℤ, pos, negsuc}
use lib.ListN.{length, length-append, length-map}
use Rattle.sbr_grid.specs.declared.FrameClass.{FrameClass}
use Rattle.sbr_grid.specs.declared.FrameClass.TheVariants.{FixFix, FixVar, VarFix, VarVar}
use Rattle.sbr_grid.specs.declared.Refusal.{Refusal}
use Rattle.sbr_grid.specs.declared.Refusal.TheVariants.{SlotCount, Samples, Tables, Room, Record, TimeGrid, BitsEnd, EnvelopeCount, Chain, NoGrid}
use Rattle.sbr_grid.specs.Refusals.{number_of}
use Rattle.sbr_reader.specs.Read.{Accepted}
use Rattle.sbr_list.specs.Listing.{decimal, signed, behind, spaced, class_name, resolution, stroke, frame_line, refusal_line}
use Rattle.sbr_list.specs.Line.{with_text, Small, Short, times_text}
use Rattle.sbr_list.proofs.Lines.{line_whole, decimal_one, decimal_two, decimal_three, spaced_behind}

digits : (n : ℕ) → Dec (suc n ≤ 10) → Dec (suc n ≤ 100) → (length (decimal n) ≤ 3) × (n < 100 → length (decimal n) ≤ 2)
digits n (yes a) d = rw (decimal_one n a) (omega arith)
digits n (no a) (yes b) = rw (decimal_two n (omega arith) b) (omega arith)
digits n (no a) (no b) = rw (decimal_three n (omega arith)) (omega arith)

-- a number below 1000 has at most three digits, one below 100 at most two
length-decimal : (n : ℕ) → length (decimal n) ≤ 3
length-decimal n = (digits n (dec_le (suc n) 10) (dec_le (suc n) 100)).0

length-small : (n : ℕ) → n < 100 → length (decimal n) ≤ 2
length-small n h = (digits n (dec_le (suc n) 10) (dec_le (suc n) 100)).1 h

length-signed : (z : ℤ) → length (signed z) ≤ 4
unfolding signed
length-signed (pos n) = omega (arith, length-decimal n)
length-signed (negsuc n) = omega (arith, length-decimal (suc n))

length_behind : (l : List ℕ) → Small l → length (behind l) ≤ 3 * length l
unfolding behind
length_behind [] s = omega arith
length_behind (x ∷ l) s =
    omega (arith, length-append (decimal x) (behind l), length-small x (s 0), length_behind l (λ k. s (suc k)))

-- each of several small numbers takes at most three bytes
length-spaced : (l : List ℕ) → Small l → length (spaced l) ≤ 3 * length l
unfolding spaced
length-spaced [] s = omega arith
length-spaced (x ∷ l) s =
    rw (spaced_behind x l) (omega (arith, length-append (decimal x) (behind l), length-small x (s 0), length_behind l (λ k. s (suc k))))

length_class : (c : FrameClass) → length (class_name c) ≡ 6
length_class FixFix = refl
length_class FixVar = refl
length_class VarFix = refl
length_class VarVar = refl

-- a refusal's number
pub number_few : (e : Refusal) (m : ℕ) → m ≡ number_of e → m < 1000
number_few SlotCount m h = omega arith
number_few Samples m h = omega arith
number_few Tables m h = omega arith
number_few Room m h = omega arith
number_few Record m h = omega arith
number_few TimeGrid m h = omega arith
number_few BitsEnd m h = omega arith
number_few EnvelopeCount m h = omega arith
number_few Chain m h = omega arith
number_few NoGrid m h = omega arith

-- a frame's line has at most 64 bytes
pub length_frame : (i : ℕ) (f : Accepted) → Short i f → length (frame_line i f) ≤ 64
unfolding frame_line
length_frame i f s =
    simp (length-append, length-map)
    (omega (
      arith,
      length-decimal i,
      length_class f.grid.frame_class,
      length-spaced f.time.t_e s.times.small,
      length-spaced f.time.t_q s.times.small_noise,
      length-signed f.time.l_a,
    ))

-- a refusal's line too
pub length_refusal : (i : ℕ) (e : Refusal) → length (refusal_line i e) ≤ 64
unfolding refusal_line
length_refusal i e = simp length-append (omega (arith, length-decimal i, length-decimal (number_of e)))

-- parts that were put behind one another are a frame's line
pub frame_whole : (r : List ℕ) (i : ℕ) (f : Accepted) → Short i f
    → r ≡ with_text [] (((((((decimal i ++ (32 ∷ [])) ++ class_name f.grid.frame_class) ++ (32 ∷ [])) ++ times_text f.time) ++ stroke) ++ map resolution f.grid.freq_res) ++ (10 ∷ []))
    → r ≡ frame_line i f
unfolding frame_line
frame_whole r i f s e = rw (← (line_whole (frame_line i f) (length_frame i f s))) (simp append_assoc at e)

pub refusal_whole : (r : List ℕ) (i : ℕ) (e : Refusal) (m : ℕ) → m ≡ number_of e
    → r ≡ with_text [] (((decimal i ++ (32 ∷ 114 ∷ 101 ∷ 102 ∷ 117 ∷ 115 ∷ 101 ∷ 100 ∷ 32 ∷ [])) ++ decimal m) ++ (10 ∷ []))
    → r ≡ refusal_line i e
unfolding refusal_line
refusal_whole r i e m f g =
    rw (← (line_whole (refusal_line i e) (length_refusal i e))) (simp (f, append_assoc) at g)
