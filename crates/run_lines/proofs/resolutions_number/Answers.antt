-- `run_lines::resolutions_number` meets its contract.
use Rattle.std.proofs.Common.{◌∙◌, rules}
use Rattle.run_lines.proofs.Numbers.{five_bits}
use Rattle.run_lines.proofs.resolutions_number.Goals as goal

pub returns : goal.returns
returns c = search rules ∙ five_bits c.args.freq_res (search rules)
