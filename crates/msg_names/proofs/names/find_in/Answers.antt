use Rattle.std.proofs.Common.{arith, ap, Some, option_map, string_bytes}
use Rattle.msg_names.specs.Number.{selector_number}
use Rattle.msg_names.proofs.SetLemmas.{number_of-position}
use Rattle.msg_names.proofs.names.find_in.Goals as goal

pub returns-in_err-index : goal.returns-in_err-index
returns-in_err-index c = rw (number_of-position string_bytes c.args.set.now.keys c.args.text.now, ← c.in_err-index.ensures.index) (ap (option_map selector_number) c.from_residual.ensures)

pub returns : goal.returns
returns c = rw (number_of-position string_bytes c.args.set.now.keys c.args.text.now, ← c.in_ok-index.ensures.index) (ap Some (omega arith))
