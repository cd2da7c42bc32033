-- Term 3.
use Rattle.std.specs.Prelude.{Ok, Err}
use mathlib.Core.Path.{◌≡◌, refl, sym, ap, ◌∙◌, subst}
use mathlib.Core.Bool.{Bool, true, false, cond}
use mathlib.Core.List.{List, [], ◌∷◌, ◌++◌, append_assoc, append-nil}
use Prim.Native.Nat.{ℕ, zero, suc, ◌-◌, ◌<◌}
use native.Mathlib.Omega.{arith}
use lib.Dec.{leb}
use lib.ListN.{length, get_or}
use lib.Ieee.{Float}
use Rattle.bits.specs.Room.{room_for}
use Rattle.sbr_grid.specs.declared.Refusal.{Refusal}
use Rattle.sbr_grid.specs.declared.Refusal.TheVariants.{Room, Record}
use Rattle.sbr_grid.specs.Refusals.{Outcome}
use Rattle.sbr_grid.specs.Grid.{Grid}
use Rattle.sbr_grid.proofs.Outcomes.{unless_answered}
use Rattle.sbr_grid.specs.Times.{Times, is_slot_count}
use Rattle.sbr_time_grid.specs.TimeGrid.{time_grid}
use Rattle.sbr_time_grid.proofs.Ends.{time_ends}
use Rattle.sbr_qmf.specs.Qmf.{SampleAt, columns, samples_needed}
use Rattle.sbr_writer.specs.Syntax.{grid_bits}
use Rattle.sbr_writer.specs.Write.{Wrote, writable, write_grid}
use Rattle.sbr_parse.specs.Syntax.{sbr_grid}
use Rattle.sbr_bands.specs.Tables.{tables_fit, spans}
use Rattle.sbr_envelopes.specs.Envelopes.{rows, rows_of, energies, sum_of, row_lengths, rows_length}
use Rattle.sbr_envelopes.proofs.Rows.{rows-length}
use Rattle.sbr_means.proofs.Spans.{spans-length}
use Rattle.sbr_reader.specs.Read.{marks_end}
use Rattle.sbr_onsets.specs.Onsets.{lead_for}
use Rattle.sbr_encoder.proofs.EveryElection.{every_election, not_at_end}
use Rattle.sbr_run.specs.Run.{Turn, Sent, Terms, Elects, State, last_border, after, sent, Run, Frame, frame_of, frames_from, frames_sent, stream}
use Rattle.sbr_run.specs.Term3.{Differ, Term3, SoundChoice, EveryCall}
use Rattle.sbr_run.proofs.OneFrame.{Good}
use Rattle.sbr_run.proofs.Transmit.{GoodChain, Left, run_left, run_chain, written}
use Rattle.sbr_run.proofs.Receive.{read_back_by}

-- a writable record is refused for room only
room_by : (g : Grid) (w : Wrote) (e : Refusal) (a b : Bool) → a ≡ true → ◌≡◌ {A = Outcome Wrote} (cond a (cond b (Ok w) (Err Room)) (Err Record)) (Err e) → e ≡ Room
room_by g w e true true p q = let z : ◌≡◌ {A = ℕ} 0 1 = cc in absurd (omega arith)
room_by g w e true false p q = cc
room_by g w e false b p q = let z : ◌≡◌ {A = ℕ} 0 1 = cc in absurd (omega arith)

room_only : (g : Grid) → writable g ≡ true → (bytes : List ℕ) (p : ℕ) (e : Refusal) → write_grid bytes p g ≡ Err e → e ≡ Room
unfolding write_grid
room_only g f bytes p e q = room_by g _ e (writable g) (room_for (length bytes) p (length (grid_bits g))) f q

-- ---- two streams

-- two frames whose bits begin alike have one record, and alike bits behind
heads : (n b n' b' : ℕ) (f g : Sent) (u v : List Bool) → Good n b f → Good n' b' g → grid_bits f.grid ++ u ≡ grid_bits g.grid ++ v → (f.grid ≡ g.grid) × (u ≡ v)
heads n b n' b' f g u v x y e =
    let p : ◌≡◌ {A = Outcome (Grid × List Bool)} (Ok (f.grid, u)) (Ok (g.grid, v)) = sym (x.reads u) ∙ ap sbr_grid e ∙ y.reads v in
    let q : ◌≡◌ {A = Grid × List Bool} (f.grid, u) (g.grid, v) = cc in
    (ap (λ (z : Grid × List Bool). z.0) q, ap (λ (z : Grid × List Bool). z.1) q)

fronts : (n b b' : ℕ) (f g : Sent) (fs gs : List Sent) (u v : List Bool) → Good n b f → Good n b' g → stream (f ∷ fs) ++ u ≡ stream (g ∷ gs) ++ v
    → (f.grid ≡ g.grid) × (stream fs ++ u ≡ stream gs ++ v)
fronts n b b' f g fs gs u v x y q =
    heads n b n b' f g (stream fs ++ u) (stream gs ++ v) x y
    (sym (append_assoc (grid_bits f.grid) (stream fs) u) ∙ q ∙ append_assoc (grid_bits g.grid) (stream gs) v)

-- frames that are alike in class, borders, mark and resolutions
record Same (f g : Frame) : Type 0 where
  class : f.class ≡ g.class
  borders : f.borders ≡ g.borders
  mark : f.mark ≡ g.mark
  resolutions : f.resolutions ≡ g.resolutions

same_front : (r r' : Terms) (n b b' : ℕ) (a a' : Bool) (f g : Sent) → Good n b f → Good n b' g → f.grid ≡ g.grid
    → Same (frame_of r f.grid f.time a) (frame_of r' g.grid g.time a')
same_front r r' n b b' a a' f g x y e =
    let t : f.time ≡ g.time = cc (sym x.frame_meets.derived ∙ ap (time_grid n) e ∙ y.frame_meets.derived) in
    record {
      class = ap (λ (k : Grid). k.frame_class) e;
      borders = ap (λ (k : Times). k.t_e) t;
      mark = ap (λ (k : Times). k.l_a) t;
      resolutions = ap (λ (k : Grid). k.freq_res) e;
    }

-- frames of two chains of one slot count whose streams begin alike are so, as far as both go
same-frames : (r r' : Terms) (n b b' : ℕ) (a a' : Bool) (fs gs : List Sent) (z z' : State) (u v : List Bool) → GoodChain n b a fs z → GoodChain n b' a' gs z' → stream fs ++ u ≡ stream gs ++ v
    → (i : ℕ) (d : Frame) → i < length fs → i < length gs → Same (get_or (frames_from r a fs) i d) (get_or (frames_from r' a' gs) i d)
same-frames r r' n b b' a a' [] gs z z' u v x y q i d h k = absurd (omega arith)
same-frames r r' n b b' a a' (f ∷ fs) [] z z' u v x y q i d h k = absurd (omega arith)
same-frames r r' n b b' a a' (f ∷ fs) (g ∷ gs) z z' u v x y q zero d h k =
    same_front r r' n b b' a a' f g x.0 y.0 (fronts n b b' f g fs gs u v x.0 y.0 q).0
same-frames r r' n b b' a a' (f ∷ fs) (g ∷ gs) z z' u v x y q (suc i) d h k =
    same-frames r r' n (last_border f.time) (last_border g.time) (marks_end f.grid f.time) (marks_end g.grid g.time) fs gs z z' u v x.1 y.1
    (fronts n b b' f g fs gs u v x.0 y.0 q).1 i d (omega arith) (omega arith)

-- so neither of two streams begins the other where a frame differs
apart_by : (r r' : Terms) (b b' : ℕ) (fs gs : List Sent) (z z' : State) → r.slots ≡ r'.slots → GoodChain r.slots b false fs z → GoodChain r'.slots b' false gs z' → (i : ℕ) (d : Frame)
    → i < length fs → i < length gs → Differ (get_or (frames_sent r fs) i d) (get_or (frames_sent r' gs) i d) → (v : List Bool) → stream fs ++ v ≡ stream gs → ⊥
apart_by r r' b b' fs gs z z' s x y i d h k ne v q =
    let y' = subst (λ (n : ℕ). GoodChain n b' false gs z') (sym s) y in
    let p = same-frames r r' r.slots b b' false false fs gs z z' v [] x y' (q ∙ sym (append-nil (stream gs))) i d h k in
    ne p.class p.borders p.mark p.resolutions

differ_sym : (a b : Frame) → Differ a b → Differ b a
differ_sym a b ne c bs m rs = ne (sym c) (sym bs) (sym m) (sym rs)

-- ---- energies

count_timed : (n : ℕ) (high low : List ℕ) (x : SampleAt) (g : Grid) (room : ℕ) (es : List Float) (o : Outcome Times) → time_grid n g ≡ o → rows_of x high low g room o ≡ Ok es
    → length es ≡ sum_of (row_lengths (length high - 1) (length low - 1) g.freq_res)
unfolding rows_length
count_timed n high low x g room es (Err r) q e = let z : ◌≡◌ {A = ℕ} 0 1 = cc in absurd (omega arith)
count_timed n high low x g room es (Ok t) q e =
    let ends = time_ends n g t q in
    let all = rows x high low g.freq_res (spans t.t_e) in
    let same : es ≡ all = cc (unless_answered (leb (length all) room) _ _ e).1 in
    ap length same
    ∙ rows-length x high low g.freq_res (spans t.t_e) (omega (arith, spans-length t.t_e 0 (length t.t_e - 1), ends.count))

energies_count : (n : ℕ) (high low : List ℕ) (x : List Float) (g : Grid) (room : ℕ) (es : List Float) → energies n high low x g room ≡ Ok es
    → length es ≡ sum_of (row_lengths (length high - 1) (length low - 1) g.freq_res)
unfolding energies
energies_count n high low x g room es e =
    let f = unless_answered (tables_fit high low) _ _ (unless_answered (is_slot_count n) _ _ e).1 in
    count_timed n high low (columns x) g room es (time_grid n g) refl (unless_answered (leb (samples_needed n) (length x)) _ _ f.1).1

-- ---- the claim

pub every_call : EveryCall
every_call By sound =
    let left : (r : Terms) (s : State) (ts : List Turn) → Run By r s ts → Left r.slots s (after s ts) (sent ts) = run_left By sound in
    let chain : (r : Terms) (s : State) (ts : List Turn) → Run By r s ts → GoodChain r.slots s.border false (sent ts) (after s ts) = λ r s ts u.
    run_chain r.slots s (after s ts) (sent ts) u.clear (left r s ts u) in
    record {
      sendable = λ r previous e a.
          let s = sound r previous e a in
          record {
            timed = (s.sound.time, s.sound.derived);
            not_at_end = not_at_end r.slots (lead_for r.slots previous) e.grid s.sound;
            room_only = room_only e.grid s.fits;
          };
      transmitted = λ r s ts u. written r s ts u.clear (left r s ts u);
      read_back = λ r s ts u bytes q h rs own. read_back_by r (sent ts) s.border (after s ts) bytes q rs (chain r s ts u) h own;
      energies_count = energies_count;
      apart = λ r r' s s' ts ts' u u' same i d h k ne.
          let c = chain r s ts u in
          let c' = chain r' s' ts' u' in
          let f = get_or (frames_sent r (sent ts)) i d in
          let f' = get_or (frames_sent r' (sent ts')) i d in
          record {
            first = apart_by r r' s.border s'.border (sent ts) (sent ts') (after s ts) (after s' ts') same c c' i d h k ne;
            second = apart_by r' r s'.border s.border (sent ts') (sent ts) (after s' ts') (after s ts) (sym same) c' c i d k h (differ_sym f f' ne);
          };
    }

-- elections are sound
pub elects_sound : SoundChoice Elects
elects_sound r previous e c = every_election r.slots r.high r.low c.samples previous c.variable e (sym c.is)

pub term3 : Term3
term3 = every_call Elects elects_sound
