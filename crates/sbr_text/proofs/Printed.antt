-- A line that is printed is read as what it shows.
use mathlib.Core.Path.{◌≡◌, refl, sym, subst, ◌∙◌}
use mathlib.Core.Bool.{Bool, true, false}
use mathlib.Core.List.{List, [], ◌∷◌, ◌++◌, map, append_assoc, append_cancel_right}
use Prim.Native.Nat.{ℕ}
use native.Mathlib.Omega.{arith}
use lib.IntN.{ℤ, pos}
use lib.Signed.{nat_abs-le}
use Rattle.sbr_reader.specs.Read.{Accepted}
use Rattle.sbr_list.specs.Listing.{decimal, signed, spaced, class_name, resolution, stroke, frame_line}
use Rattle.sbr_list.specs.Line.{Short}
use Rattle.sbr_text.specs.declared.parts.Part.TheVariants.{Flags}
use Rattle.sbr_text.specs.Parts.{parts, no_number, no_parts, closed, read_bytes, read_line, kind_of}
use Rattle.sbr_text.specs.Reads.{named_line, Names, Legible, LineReads}
use Rattle.sbr_text.proofs.Texts.{piece, signed-read, class_read, borders_read, noise_read, rest_read}

-- a line of which all was read names what it holds
named : (l : List ℕ) (c : Bool) (bs : List ℕ) (res : List Bool) (mark : ℤ)
    → read_bytes no_parts l ≡ parts true c Flags no_number (map pos bs) 1 mark res → Names (read_line l) bs res mark
unfolding read_line kind_of
named l c bs res mark e =
    subst (λ s. Names (closed s) bs res mark) (sym e) (record { kind = refl; borders = refl; flags = refl; marked = refl })

-- the short line names its frame
short : (bs : List ℕ) (res : List Bool) (mark : ℤ) → Legible bs res mark → Names (read_line (named_line bs mark res)) bs res mark
short bs res mark h =
    named (named_line bs mark res) false bs res mark
    (borders_read false bs (signed mark ++ (stroke ++ map resolution res)) h.borders h.small
    ∙ rest_read false (map pos bs) mark res h.marked h.flags)

-- a line of a listing before its line feed
abbrev pub shown : ℕ → Accepted → List ℕ
shown i f =
    decimal i ++ (32 ∷ class_name f.grid.frame_class ++ (32 ∷ spaced f.time.t_e ++ (stroke ++ (spaced f.time.t_q
    ++ (stroke ++ (signed f.time.l_a ++ (stroke ++ map resolution f.grid.freq_res)))))))

-- with it that is the line
pub shown-line : (i : ℕ) (f : Accepted) → shown i f ++ (10 ∷ []) ≡ frame_line i f
unfolding frame_line
shown-line i f = simp append_assoc

-- it is read as what it shows
shown_read : (i : ℕ) (f : Accepted) → Short i f
    → read_bytes no_parts (shown i f) ≡ parts true true Flags no_number (map pos f.time.t_e) 1 f.time.l_a f.grid.freq_res
unfolding signed read_bytes
shown_read i f h =
    let t = f.time in
    let behind-noise : List ℕ = signed t.l_a ++ (stroke ++ map resolution f.grid.freq_res) in
    let behind-borders : List ℕ = spaced t.t_q ++ (stroke ++ behind-noise) in
    let behind-class : List ℕ = spaced t.t_e ++ (stroke ++ behind-borders) in
    piece no_parts _ (decimal i) (class_name f.grid.frame_class ++ (32 ∷ behind-class))
    (signed-read no_parts refl (pos i) h.number)
    ∙ class_read f.grid.frame_class (pos i) behind-class
    ∙ borders_read true t.t_e behind-borders (omega (arith, h.times.borders)) (λ k. omega (arith, h.times.small k))
    ∙ noise_read (map pos t.t_e) t.t_q behind-noise (λ k. omega (arith, h.times.small_noise k))
    ∙ rest_read true (map pos t.t_e) t.l_a f.grid.freq_res (omega (arith, nat_abs-le t.l_a h.times.mark)) (omega (arith, h.flags))

-- the line of a listing names its frame
long : (i : ℕ) (f : Accepted) (l : List ℕ) → Short i f → frame_line i f ≡ l ++ (10 ∷ [])
    → Names (read_line l) f.time.t_e f.grid.freq_res f.time.l_a
long i f l h e =
    let q : shown i f ≡ l = append_cancel_right (shown i f) l (10 ∷ []) (shown-line i f ∙ e) in
    named l true f.time.t_e f.grid.freq_res f.time.l_a (rw q at (shown_read i f h))

-- a line that is printed is read as what it shows
pub line_reads : LineReads
line_reads = record { short = short; long = long }
