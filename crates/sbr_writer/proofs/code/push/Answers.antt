-- `sbr_writer::code::push` meets its contract.
use Rattle.bits.proofs.Numbers.{length-bits_of}
use Rattle.sbr_writer.proofs.Gather.{shifted, shifted_fits}
use Rattle.sbr_writer.proofs.code.push.Goals as goal

pub overflow_add-result : goal.overflow_add-result
overflow_add-result c = record { fits = shifted_fits c.args.bits c.args.width c.args.value c.requires.0 c.requires.1 }

pub returns : goal.returns
returns c = record { is = rw (shifted c.args.bits c.args.width c.args.value c.requires.0 c.requires.1, length-bits_of) }
