use Rattle.std.proofs.Common.{◌≡◌, drop}
use Rattle.msg_names.specs.Number.{selector_number, imp_number}
use Rattle.msg_reasons.specs.Categories.{category_of, last_that_gives}
use Rattle.msg_reasons.proofs.text.last_that_gives.Given as goal

-- the categories that are left decide, after what was found
abbrev pub invariant-loop-place : goal.invariant-loop-place
invariant-loop-place l =
    last_that_gives l.place l.found (drop l.place l.categories) l.class (selector_number l.sel) (imp_number l.imp)
    ≡ category_of l.categories l.class (selector_number l.sel) (imp_number l.imp)
