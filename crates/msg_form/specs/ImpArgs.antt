-- The numbers of arguments that implementations take, by the places of their names.
use Rattle.std.specs.Prelude.{ℕ, ◌-◌, List, Bool, Option, option_map, slice_get}
use Rattle.msg_names.specs.Numbering.{number_of}
use Rattle.msg_form.specs.Faults.{differs}
use Rattle.msg_form.specs.Form.{ImpForm}
use Rattle.msg_form.specs.Json.{◌>>=◌}
use Rattle.msg_form.specs.Text.{Text}
use Rattle.msg_form.specs.declared.form.Pair.{Pair}

-- the number for the implementation that has the place of its name among the names
abbrev pub args_at : List Text → List ImpForm → Text → Option ℕ
args_at names imps name = number_of names name >>= λ n. option_map (λ i. i.args) (slice_get imps (n - 1))

-- the pair's implementation, found by its place, takes more or fewer arguments than its selector
-- has colons
abbrev pub is_miscounted_by : List Text → List ImpForm → Pair → Bool
is_miscounted_by names imps p = differs (args_at names imps p.imp.now) p.selector.now
