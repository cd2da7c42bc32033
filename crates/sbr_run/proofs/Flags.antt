-- The flag over a list of readings, whatever bytes are read.
use Rattle.std.specs.Prelude.{Ok, Err}
use mathlib.Core.Path.{◌≡◌, refl, sym, ap, ◌∙◌}
use mathlib.Core.Bool.{Bool}
use mathlib.Core.List.{List, [], ◌∷◌, map}
use Prim.Native.Nat.{ℕ}
use Rattle.sbr_grid.specs.Refusals.{Outcome}
use Rattle.sbr_reader.specs.Read.{Accepted, carrying}
use Rattle.sbr_reader.proofs.Told.{told_frame}
use Rattle.sbr_run.specs.Run.{Terms, frame_of, frames_from}
use Rattle.sbr_run.specs.Readings.{Reading, reading, Receiver, heard, listened, noted, read, frame_heard, OwnReading, sent_of, flag_after, FlagsFollow, EveryFlag}

-- one reading more in front, by what it comes to
record More (r : Terms) (c : Receiver) (rs : List Reading) (o : Outcome Accepted) : Type 0 where
  begin : map (frame_heard r) (noted o (read rs)) ≡ frames_from r c.attack (map sent_of (noted o (read rs)))
  left : (listened (heard c o) rs).attack ≡ flag_after c.attack (noted o (read rs))

more : (r : Terms) (n : ℕ) (bytes : List ℕ) (c : Receiver) (x : Reading) (rs : List Reading) (o : Outcome Accepted) → reading x ≡ o → OwnReading n bytes c x o
    → FlagsFollow r (heard c o) rs → More r c rs o
more r n bytes c x rs (Err e) q own d = record { begin = d.begin; left = d.left }
more r n bytes c x rs (Ok f) q own d =
    let t = told_frame bytes c.position n (carrying c.border c.attack) f (ap reading (sym own) ∙ q) in
    let rest = d.begin ∙ ap (λ (a : Bool). frames_from r a (map sent_of (read rs))) t.ends in
    record {
      begin = λ i. frame_of r f.grid f.time (t.begins i) ∷ rest i;
      left = d.left ∙ ap (λ (a : Bool). flag_after a (read rs)) t.ends;
    }

pub every_flag : EveryFlag
every_flag r n bytes c [] own = record { begin = refl; left = refl }
every_flag r n bytes c (x ∷ rs) own =
    let d = more r n bytes c x rs (reading x) refl own.0 (every_flag r n bytes (heard c (reading x)) rs own.1) in
    record { begin = d.begin; left = d.left }
