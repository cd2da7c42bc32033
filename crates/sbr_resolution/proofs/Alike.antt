-- The resolution of an envelope looks at the samples of the high table's bands in its own columns alone.
use mathlib.Core.Path.{◌≡◌, refl}
use mathlib.Core.Bool.{Bool, true, false, cond, ◌&&◌}
use mathlib.Core.List.{List, [], ◌∷◌, map}
use Prim.Native.Nat.{ℕ, zero, suc, ◌+◌, ◌-◌, ◌≤◌, ◌<◌}
use native.Mathlib.Omega.{arith}
use lib.Dec.{leb}
use lib.ListN.{length}
use Rattle.sbr_qmf.specs.Qmf.{SampleAt, AlikeIn}
use Rattle.sbr_energy.proofs.Alike.{mean-same}
use Rattle.sbr_bands.specs.Tables.{entry, last_entry, Span, spans_from, spans}
use Rattle.sbr_bands.proofs.TableLaws.{Table, table_from, table_to}
use Rattle.sbr_means.specs.Means.{mean_in}
use Rattle.sbr_resolution.specs.Resolution.{inside, some_spread, elect_freq_res}

module _ (t : ℕ) (high : List ℕ) (x y : SampleAt) (f : Table high 2) (a : AlikeIn t (entry high 0) (last_entry high) x y) (env : Span) (h : env.to ≤ t) where
  -- a band within the high table
  pub in-band : (b : Span) → entry high 0 ≤ b.from → b.to ≤ last_entry high → mean_in x env b ≡ mean_in y env b
  in-band b p q = mean-same t (entry high 0) (last_entry high) x y a env.from env.to b.from b.to h p q

  -- a band of the high table
  pub high-band : (i : ℕ) → i + 1 < length high
      → mean_in x env (record { from = entry high i; to = entry high (i + 1) }) ≡ mean_in y env (record { from = entry high i; to = entry high (i + 1) })
  high-band i l = in-band _ (table_from high 2 i f (omega arith)) (table_to high 2 (i + 1) f l)

  -- one band more, where it is inside
  one_more : (b : Bool) (s : Span) (ss : List Span) → mean_in x env s ≡ mean_in y env s → map (mean_in x env) ss ≡ map (mean_in y env) ss
      → map (mean_in x env) (cond b (s ∷ ss) ss) ≡ map (mean_in y env) (cond b (s ∷ ss) ss)
  one_more true s ss p q = rw (p, q)
  one_more false s ss p q = q

  -- the bands inside another
  inside-same : (lo : Span) (i k : ℕ) → i + k < length high → map (mean_in x env) (inside lo (spans_from high i k)) ≡ map (mean_in y env) (inside lo (spans_from high i k))
  unfolding inside spans_from
  inside-same lo i zero l = refl
  inside-same lo i (suc k) l =
      one_more (leb lo.from (entry high i) && leb (entry high (i + 1)) lo.to) _ _ (high-band i (omega arith)) (inside-same lo (suc i) k (omega arith))

  some_same : (los : List Span) → some_spread x (spans high) env los ≡ some_spread y (spans high) env los
  unfolding some_spread
  some_same [] = refl
  some_same (lo ∷ los) = rw (inside-same lo 0 (length high - 1) (omega (arith, f.some)), some_same los)

  pub freq-res-same : (low : List ℕ) → elect_freq_res x high low env ≡ elect_freq_res y high low env
  unfolding elect_freq_res
  freq-res-same low = rw (some_same (spans low))
