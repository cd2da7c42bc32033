use Rattle.sbr_named.proofs.Stored.{candidate-record}
use Rattle.sbr_named.proofs.frame.NamedFrame.candidate.Goals as goal

pub returns : goal.returns
returns c =
    let f = c.args.self.now in
    let lead = c.lead_count-num_rel_0 in
    let trail = c.trail_count-num_rel_1 in
    rw (
      c.is_overridden.ensures,
      c.pointer.ensures,
      c.stored_lengths-2.ensures,
      c.stored_lengths.ensures,
      c.last_byte.ensures,
      c.first_byte.ensures,
      c.padded.ensures,
      c.noise_of.ensures,
    )
    (candidate-record f.num_slots f.borders.now f.freq_res.now f.l_a c.args.shape lead.result trail.result lead.ensures trail.ensures)
