use Rattle.std.proofs.Common.{sym, ◌∙◌, ap}
use Rattle.msg_names.specs.Number.{selector_number}
use Rattle.msg_tables.specs.Written.{written}
use Rattle.msg_tables.proofs.foresee.written.Goals as goal

pub returns-in-Attach : goal.returns-in-Attach
returns-in-Attach c = λ h stands. c.attached.ensures h ∙ ap (λ x. written h x c.args.here (selector_number c.args.sel)) (sym c.in-Attach.is)
