use Rattle.std.proofs.Common.{◌≡◌, ◌+◌, max, sym, ◌∙◌, arith}
use Rattle.sbr_onsets.proofs.Onsets.{scan_none, scan-hit, scan-miss, scan-kept, scan-end}
use Rattle.sbr_onsets.proofs.detect_onsets.Goals as goal
use Rattle.sbr_onsets.proofs.detect_onsets.Goals.{then-count-lt-MAX_ONSETS+then-free-s+then-is_attack, else-count-lt-MAX_ONSETS, else-count-lt-MAX_ONSETS-via-then-count-lt-MAX_ONSETS+then-free-s+else-is_attack, else-count-lt-MAX_ONSETS-via-then-count-lt-MAX_ONSETS+else-free-s, else-count-lt-MAX_ONSETS-via-else-count-lt-MAX_ONSETS}

pub loop-s-init : goal.loop-s-init
loop-s-init c = scan_none _ _

pub loop-s-preserved : goal.loop-s-preserved
loop-s-preserved c =
    let l = c.loop-s in
    elim c.if-count-lt-MAX_ONSETS.branch [
      | then-count-lt-MAX_ONSETS+then-free-s+then-is_attack w ↦
          let here : max l.free l.s ≡ l.s = omega arith in
          let behind : max (l.s + 4) (l.s + 1) ≡ l.s + 4 = omega arith in
          rw (w.count-is, w.slot-is, w.free-is, behind)
          (scan-hit (rw here at l.invariant) (omega arith) (omega arith) (sym w.is_attack.ensures ∙ w.if-is_attack.true))
      | else-count-lt-MAX_ONSETS w ↦
          rw (w.count-is, w.slot-is, w.free-is) (elim w.else-count-lt-MAX_ONSETS.branch [
            | else-count-lt-MAX_ONSETS-via-then-count-lt-MAX_ONSETS+then-free-s+else-is_attack w' ↦
                let here : max l.free l.s ≡ l.s = omega arith in
                let behind : max l.free (l.s + 1) ≡ l.s + 1 = omega arith in
                rw behind (scan-miss (rw here at l.invariant) (omega arith) (omega arith) (sym w'.is_attack.ensures ∙ w'.if-is_attack.false))
            | else-count-lt-MAX_ONSETS-via-then-count-lt-MAX_ONSETS+else-free-s w' ↦
                let still : max l.free (l.s + 1) ≡ max l.free l.s = omega arith in
                rw still l.invariant
            | else-count-lt-MAX_ONSETS-via-else-count-lt-MAX_ONSETS w' ↦ scan-kept l.invariant _ (omega arith)
          ])
    ]

pub returns : goal.returns
returns c = scan-end c.loop-s.invariant (omega arith)
