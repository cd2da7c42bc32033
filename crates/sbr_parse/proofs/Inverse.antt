-- Writing and reading are inverse: the proofs of specs/Inverse.antt.
use Rattle.std.specs.Prelude.{Ok}
use Rattle.std.proofs.lemmas.Bool.{and_parts}
use Rattle.std.proofs.lemmas.List.{nil_from_length}
use mathlib.Core.Path.{◌≡◌, refl, ap, ◌∙◌, subst}
use mathlib.Core.Bool.{Bool, true, false, ◌||◌, false≢true}
use mathlib.Core.List.{List, [], ◌∷◌, ◌++◌, reverse, reverse-reverse}
use Prim.Native.Nat.{ℕ, zero, suc, ◌+◌, ◌-◌, ◌*◌, ◌^◌, ◌≤◌, ◌<◌}
use native.Mathlib.Nat.{zero-add, add-zero}
use native.Mathlib.Omega.{arith}
use borrow.Author.Tests.{le-leb, leb-true, eq-eqb, eqb-true, ne_eqb}
use lib.Dec.{leb, eqb}
use lib.ListN.{length, get_or, replicate, length-reverse}
use Rattle.bits.specs.Bits.{bits_of}
use Rattle.sbr_grid.specs.declared.FrameClass.{FrameClass}
use Rattle.sbr_grid.specs.declared.FrameClass.TheVariants.{FixFix, FixVar, VarFix, VarVar}
use Rattle.sbr_grid.specs.Grid.{by_class, class_code, class_of, width_from, ptr_bits, Grid, num_env_of}
use Rattle.sbr_grid.proofs.Widths.{pointer_width, pointer_narrow}
use Rattle.sbr_grid.proofs.Laws.{class_of_code, code_lt}
use Rattle.sbr_writer.specs.Syntax.{twos, env_code, body_bits, grid_bits}
use Rattle.sbr_writer.specs.Write.{every, small, all_are, class_fits, fields_fit_of, writable}
use Rattle.sbr_writer.proofs.Writable.{fields_told, fields_fit}
use Rattle.sbr_parse.specs.Syntax.{received, ordered, behind_counts, fix_fix, fix_var, var_fix, var_var, sbr_grid}
use Rattle.sbr_parse.specs.Inverse.{cleared, ReadsBack, WritesBack}
use Rattle.sbr_parse.proofs.Monad.{Back, Reads, Seen, back_then, back_map, back_flags, back_field, back_counted, back_lengths, seen_then, seen_map, seen_flags, seen_field, seen_counted, seen_lengths}
use Rattle.sbr_parse.proofs.ParseLaws.{length-ordered}

-- ---- what was written is read back

-- what stands behind the counts of n envelopes
back_behind : (c : FrameClass) (b0 b1 : ℕ) (rel0 rel1 : List ℕ) (n p : ℕ) (res : List Bool) → small rel0 ≡ true → small rel1 ≡ true
    → length rel0 + length rel1 + 1 ≡ n → p ≤ n → length res ≡ n
    → Back (behind_counts c b0 b1 (length rel0) (length rel1)) (received c (ordered c res) b0 b1 rel0 rel1 p)
    (twos rel0 ++ (twos rel1 ++ (bits_of (ptr_bits n) p ++ res)))
unfolding behind_counts
back_behind c b0 b1 rel0 rel1 n p res s0 s1 e l h =
    rw e
    (back_then _ (back_lengths rel0 s0)
    (back_then _ (back_lengths rel1 s1)
    (back_then _ (back_field (ptr_bits n) p (omega (arith, (pointer_width n).holds)))
    (back_map (λ r. received c (ordered c r) b0 b1 rel0 rel1 p) (back_flags n res h)))))

-- flags that are all b are that many b
all_same : (b : Bool) (fs : List Bool) → all_are b fs ≡ true → replicate (length fs) b ≡ fs
unfolding every
all_same b [] h = refl
all_same true (true ∷ fs) h = ap {B = List Bool} (λ t. true ∷ t) (all_same true fs h)
all_same true (false ∷ fs) h = absurd (false≢true h)
all_same false (true ∷ fs) h = absurd (false≢true h)
all_same false (false ∷ fs) h = ap {B = List Bool} (λ t. false ∷ t) (all_same false fs h)

-- 1, 2 and 4 envelopes are two to the power of a number of at most 2
env_code_lem : (n : ℕ) → (eqb n 1 || eqb n 2 || eqb n 4) ≡ true → (env_code n ≤ 2) × (2 ^ env_code n ≡ n)
env_code_lem zero h = absurd (false≢true h)
env_code_lem (suc zero) h = (omega arith, refl)
env_code_lem (suc (suc zero)) h = (omega arith, refl)
env_code_lem (suc (suc (suc zero))) h = absurd (false≢true h)
env_code_lem (suc (suc (suc (suc zero)))) h = (omega arith, refl)
env_code_lem (suc (suc (suc (suc (suc n))))) h =
    let m = suc (suc (suc (suc (suc n)))) in
    absurd (false≢true (rw (ne_eqb m 1 (λ e. omega arith), ne_eqb m 2 (λ e. omega arith), ne_eqb m 4 (λ e. omega arith)) at h))

-- a body without variable borders
back_fixed : (fs : List Bool)
    → (eqb (length fs) 1 || eqb (length fs) 2 || eqb (length fs) 4) ≡ true → all_are (get_or fs 0 false) fs ≡ true
    → Back fix_fix (received FixFix fs 0 0 [] [] 0) (bits_of 2 (env_code (length fs)) ++ (get_or fs 0 false ∷ []))
unfolding fix_fix
back_fixed fs h a =
    let t = env_code (length fs) in
    let c = env_code_lem (length fs) h in
    let b = get_or fs 0 false in
    let e : replicate (2 ^ t) b ≡ fs = rw c.1 (all_same b fs a) in
    back_then _ (back_field 2 t (omega arith))
    (back_then _ (back_counted (2 ^ t) (leb t 2) (le-leb _ _ c.0))
    (rw e at (back_map (λ res. received FixFix (replicate (2 ^ t) (get_or res 0 false)) 0 0 [] [] 0) (back_flags 1 (b ∷ []) refl))))

-- the body of each class
pub back_body : (c : FrameClass) (g : Grid) → g.frame_class ≡ c → fields_fit_of g ≡ true → class_fits c g ≡ true → Back (by_class c fix_fix fix_var var_fix var_var) (cleared g) (body_bits c g)
unfolding body_bits class_fits fix_var var_fix var_var twos every
back_body FixFix g q h k =
    let t = and_parts _ _ k in
    rw q (back_fixed g.freq_res t.0 t.1)
back_body FixVar g q h k =
    let t = and_parts _ _ k in
    let f = fields_told g h in
    let e : length g.rel_bord_1 + 1 ≡ num_env_of g = eqb-true _ _ t.0 in
    let l : num_env_of g ≤ 4 = leb-true _ _ t.1 in
    rw q
    (back_then _ (back_field 2 g.var_bord_1 (omega arith))
    (back_then _ (back_field 2 (length g.rel_bord_1) (omega arith))
    (rw (reverse-reverse g.freq_res) at (back_behind FixVar 0 g.var_bord_1 [] g.rel_bord_1 (num_env_of g) g.pointer (reverse g.freq_res) refl f.small1
    (omega arith) f.pointed (length-reverse g.freq_res)))))
back_body VarFix g q h k =
    let t = and_parts _ _ k in
    let f = fields_told g h in
    let e : length g.rel_bord_0 + 1 ≡ num_env_of g = eqb-true _ _ t.0 in
    let l : num_env_of g ≤ 4 = leb-true _ _ t.1 in
    rw q
    (back_then _ (back_field 2 g.var_bord_0 (omega arith))
    (back_then _ (back_field 2 (length g.rel_bord_0) (omega arith))
    (back_behind VarFix g.var_bord_0 0 g.rel_bord_0 [] (num_env_of g) g.pointer g.freq_res f.small0 refl
    (omega arith) f.pointed refl)))
back_body VarVar g q h k =
    let t = and_parts _ _ k in
    let s = and_parts _ _ t.0 in
    let f = fields_told g h in
    let m = length g.rel_bord_0 + length g.rel_bord_1 + 1 in
    let e : m ≡ num_env_of g = eqb-true _ _ s.0 in
    let l0 : length g.rel_bord_0 ≤ 3 = leb-true _ _ s.1 in
    let l1 : length g.rel_bord_1 ≤ 3 = leb-true _ _ t.1 in
    rw q
    (back_then _ (back_field 2 g.var_bord_0 (omega arith))
    (back_then _ (back_field 2 g.var_bord_1 (omega arith))
    (back_then _ (back_field 2 (length g.rel_bord_0) (omega arith))
    (back_then _ (back_field 2 (length g.rel_bord_1) (omega arith))
    (back_then _ (back_counted m (leb m 5) (le-leb m 5 (omega arith)))
    (back_behind VarVar g.var_bord_0 g.var_bord_1 g.rel_bord_0 g.rel_bord_1 (num_env_of g) g.pointer g.freq_res f.small0
    f.small1 e f.pointed refl))))))

-- a record that can be written is read from the bits that it writes
pub back_grid : (g : Grid) → writable g ≡ true → Back sbr_grid (cleared g) (grid_bits g)
unfolding sbr_grid grid_bits
back_grid g h =
    let t = and_parts _ _ h in
    back_then _ (back_field 2 (class_code g.frame_class) (code_lt g.frame_class))
    (rw (class_of_code g.frame_class) (back_body g.frame_class g refl t.0 t.1))

-- what any writable record writes is read back, whatever bits follow
pub reads_back : ReadsBack
reads_back g rest h = (back_grid g h).reads rest

-- ---- what was read is written back

-- g is cleared, has lists that a record holds, writes the bits u, has a pointer as narrow as its field, and is writable but for
-- a pointer above its envelope count
pub record Sent (g : Grid) (u : List Bool) : Type 0 where
  pub clear : cleared g ≡ g
  pub held : (num_env_of g ≤ 5) × (length g.rel_bord_0 ≤ 4) × (length g.rel_bord_1 ≤ 4)
  pub bits : u ≡ grid_bits g
  pub narrow : g.pointer < 2 ^ ptr_bits (num_env_of g)
  pub fits : g.pointer ≤ num_env_of g → writable g ≡ true

-- a record without variable borders: one flag for all envelopes
same_all : (b : Bool) (n : ℕ) → all_are b (replicate n b) ≡ true
unfolding every
same_all b zero = refl
same_all true (suc n) = same_all true n
same_all false (suc n) = same_all false n

sent_fixed : (t : ℕ) (b : Bool) → t ≤ 2
    → Sent (received FixFix (replicate (2 ^ t) b) 0 0 [] [] 0) (bits_of 2 0 ++ (bits_of 2 t ++ (b ∷ [])))
unfolding grid_bits body_bits fields_fit_of class_fits every width_from
sent_fixed zero b l = record { clear = refl; held = omega arith; bits = refl; narrow = omega arith; fits = λ h. same_all b 1 }
sent_fixed (suc zero) b l = record { clear = refl; held = omega arith; bits = refl; narrow = omega arith; fits = λ h. same_all b 2 }
sent_fixed (suc (suc zero)) b l = record { clear = refl; held = omega arith; bits = refl; narrow = omega arith; fits = λ h. same_all b 4 }
sent_fixed (suc (suc (suc t))) b l = absurd (omega arith)

one_flag : (res : List Bool) → length res ≡ 1 → res ≡ get_or res 0 false ∷ []
one_flag [] e = absurd (omega arith)
one_flag (b ∷ []) e = refl
one_flag (b ∷ (c ∷ fs)) e = absurd (omega arith)

-- what is read behind the counts, where each record that has it is cleared, one that its class can send, and writes the bits s of it
seen_behind : (c : FrameClass) (b0 b1 j k n : ℕ) (s : List Bool → List Bool) → b0 ≤ 3 → b1 ≤ 3 → j ≤ 3 → k ≤ 3 → j + k + 1 ≤ 5 → 3 * (j + k) + 4 ≤ n
    → ((rel0 rel1 : List ℕ) (p : ℕ) (res : List Bool) → length rel0 ≡ j → length rel1 ≡ k → length res ≡ j + k + 1
    → let g = received c (ordered c res) b0 b1 rel0 rel1 p in
    (cleared g ≡ g) × (class_fits c g ≡ true) × (s (twos rel0 ++ (twos rel1 ++ (bits_of (ptr_bits (j + k + 1)) p ++ res))) ≡ grid_bits g))
    → Reads n (λ g v. Sent g (s v)) (behind_counts c b0 b1 j k)
unfolding behind_counts
seen_behind c b0 b1 j k n s l0 l1 lj lk l h q =
    let m = j + k + 1 in
    let w = pointer_narrow m (omega arith) in
    seen_then _ _ n (seen_lengths j) (omega arith)
    (λ rel0 r0. seen_then _ _ (n - 2 * j) (seen_lengths k) (omega arith)
    (λ rel1 r1. seen_then _ _ (n - 2 * j - 2 * k) (seen_field (ptr_bits m)) (omega arith)
    (λ p hp. seen_map (λ res. received c (ordered c res) b0 b1 rel0 rel1 p) _ (n - 2 * j - 2 * k - ptr_bits m) (seen_flags m) (omega arith)
    (λ res d.
    let g = received c (ordered c res) b0 b1 rel0 rel1 p in
    let t = q rel0 rel1 p res r0.0 r1.0 d in
    let e : length (ordered c res) ≡ m = length-ordered (by_class c false true false false) res ∙ d in
    record {
      clear = t.0;
      held = omega (arith, r0.0, r1.0);
      bits = t.2;
      narrow = rw e hp;
      fits = λ i. rw (
        fields_fit g (record {
          some = omega arith;
          most = omega arith;
          bord_0 = l0;
          bord_1 = l1;
          rel0 = omega (arith, r0.0);
          rel1 = omega (arith, r1.0);
          small0 = r0.1;
          small1 = r1.1;
          pointed = i;
        }),
        t.1,
      );
    }))))

-- every body that is read is that of a record, and has at most 24 bits
pub seen_body : (c : FrameClass) → Reads 24 (λ g u. Sent g (bits_of 2 (class_code c) ++ u)) (by_class c fix_fix fix_var var_fix var_var)
unfolding fix_fix fix_var var_fix var_var grid_bits body_bits class_fits every twos
seen_body FixFix =
    seen_then _ _ 24 (seen_field 2) (omega arith)
    (λ t ht. seen_then _ _ 22 (seen_counted (2 ^ t) (leb t 2)) (omega arith)
    (λ n hn. seen_map _ _ 22 (seen_flags 1) (omega arith)
    (λ res e. rw (hn.1, one_flag res e) (sent_fixed t (get_or res 0 false) (leb-true t 2 hn.0)))))
seen_body FixVar =
    seen_then _ _ 24 (seen_field 2) (omega arith)
    (λ b hb. seen_then _ _ 22 (seen_field 2) (omega arith)
    (λ k hk. seen_behind FixVar 0 b 0 k 20 _ (omega arith) (omega arith) (omega arith) (omega arith) (omega arith) (omega arith)
    (λ rel0 rel1 p res h0 h1 d. rw (nil_from_length rel0 h0) (
      refl,
      rw (h1, length-reverse res, d, zero-add k, eq-eqb (k + 1) (k + 1) refl, le-leb (k + 1) 4 (omega arith)),
      rw (length-reverse res, d, h1, reverse-reverse res),
    ))))
seen_body VarFix =
    seen_then _ _ 24 (seen_field 2) (omega arith)
    (λ b hb. seen_then _ _ 22 (seen_field 2) (omega arith)
    (λ j hj. seen_behind VarFix b 0 j 0 20 _ (omega arith) (omega arith) (omega arith) (omega arith) (omega arith) (omega arith)
    (λ rel0 rel1 p res h0 h1 d. rw (nil_from_length rel1 h1)
    (refl, rw (h0, d, add-zero j, eq-eqb (j + 1) (j + 1) refl, le-leb (j + 1) 4 (omega arith)), rw (d, h0)))))
seen_body VarVar =
    seen_then _ _ 24 (seen_field 2) (omega arith)
    (λ b0 h0. seen_then _ _ 22 (seen_field 2) (omega arith)
    (λ b1 h1. seen_then _ _ 20 (seen_field 2) (omega arith)
    (λ j hj. seen_then _ _ 18 (seen_field 2) (omega arith)
    (λ k hk. seen_then _ _ 16 (seen_counted (j + k + 1) (leb (j + k + 1) 5)) (omega arith)
    (λ n hn. let l : j + k + 1 ≤ 5 = leb-true (j + k + 1) 5 hn.0 in
    seen_behind VarVar b0 b1 j k 16 _ (omega arith) (omega arith) (omega arith) (omega arith) l (omega arith)
    (λ rel0 rel1 p res r0 r1 d. (
      refl,
      rw (d, r0, r1, eq-eqb (j + k + 1) (j + k + 1) refl, le-leb j 3 (omega arith), le-leb k 3 (omega arith)),
      rw (d, r0, r1),
    )))))))

-- a number below 4 is that of its class
code_of_class : (v : ℕ) → v < 4 → class_code (class_of v) ≡ v
code_of_class zero l = refl
code_of_class (suc zero) l = refl
code_of_class (suc (suc zero)) l = refl
code_of_class (suc (suc (suc zero))) l = refl
code_of_class (suc (suc (suc (suc v)))) l = absurd (omega arith)

-- reading looks at 26 bits at most, and takes those that the record writes
pub seen_grid : Reads 26 Sent sbr_grid
unfolding sbr_grid
seen_grid =
    seen_then _ _ 26 (seen_field 2) (omega arith)
    (λ v l. rw (code_of_class v l) at (seen_body (class_of v)))

-- a record that was read, with the bits that it was read from
pub sent : (bs : List Bool) (g : Grid) (rest : List Bool) → sbr_grid bs ≡ Ok (g, rest)
    → (u : List Bool) × (bs ≡ u ++ rest) × Sent g u
sent bs g rest h = go (seen_grid bs)
  where
    go : Seen 26 Sent sbr_grid bs → (u : List Bool) × (bs ≡ u ++ rest) × Sent g u
    go (Seen.full a u r e l p b) =
        let i : ◌≡◌ {A = Grid × List Bool} (a, r) (g, rest) = cc (b.reads r) in
        subst (λ x. (u : List Bool) × (bs ≡ u ++ x.1) × Sent x.0 u) i (u, e, p)
    go (Seen.none e q never) = let z : ◌≡◌ {A = ℕ} 0 1 = cc in absurd (omega arith)

-- a record that was read with a pointer of at most its envelope count is writable and writes the bits that it was read from
pub writes_back : WritesBack
writes_back bs g rest h l =
    let s = sent bs g rest h in
    let t = s.2 in
    record { fits = t.fits (leb-true g.pointer (num_env_of g) l); clear = t.clear; bits = rw (← t.bits) s.1 }
