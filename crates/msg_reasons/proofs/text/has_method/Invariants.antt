use Rattle.std.proofs.Common.{◌≡◌, drop}
use Rattle.msg_names.specs.Number.{selector_number, imp_number}
use Rattle.msg_rows.specs.Methods.{method_numbers}
use Rattle.msg_reasons.specs.Categories.{has_method}
use Rattle.msg_reasons.proofs.text.has_method.Given as goal

-- the methods that are left decide
abbrev pub invariant-loop-method : goal.invariant-loop-method
invariant-loop-method l =
    has_method (selector_number l.sel) (imp_number l.imp) (method_numbers (drop l.method-index l.methods))
    ≡ has_method (selector_number l.sel) (imp_number l.imp) (method_numbers l.methods)
