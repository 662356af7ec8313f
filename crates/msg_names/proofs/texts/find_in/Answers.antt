use Rattle.std.proofs.Common.{arith, ap, Some, ℕ}
use Rattle.std.specs.Prelude.{Vec}
use Rattle.std.specs.Global.{Global}
use Rattle.msg_names.proofs.SetLemmas.{number_of-position}
use Rattle.msg_names.proofs.texts.find_in.Goals as goal

pub returns-in_err-index : goal.returns-in_err-index
returns-in_err-index c = rw (number_of-position (λ (k : Vec ℕ Global). k.items) c.args.set.now.keys c.args.text.now, ← c.in_err-index.ensures.index) c.from_residual.ensures

pub returns : goal.returns
returns c = rw (number_of-position (λ (k : Vec ℕ Global). k.items) c.args.set.now.keys c.args.text.now, ← c.in_ok-index.ensures.index) (ap Some (omega arith))
