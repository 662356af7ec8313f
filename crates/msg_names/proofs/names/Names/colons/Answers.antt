use Rattle.std.proofs.Common.{◌≤◌, ◌-◌, arith, ap, sym, map, string_bytes}
use Rattle.msg_names.specs.Name.{colons_of}
use Rattle.msg_names.specs.Number.{selector_number}
use Rattle.msg_names.proofs.NumberLemmas.{few_colons_at}
use Rattle.msg_names.proofs.names.Names.colons.Goals as goal

few : (c : goal.After-colon_count) → c.colon_count.result ≤ 4
few c = omega (arith, few_colons_at (map string_bytes c.self.inside.set.keys) (selector_number c.args.selector - 1) c.in_ok-text.text.now c.self.invariant (sym c.in_ok-text.ensures), c.colon_count.ensures, ap colons_of c.as_bytes.ensures.value)

pub overflow_cast-result : goal.overflow_cast-result
overflow_cast-result c = omega (arith, few c)

pub returns-clause-few : goal.returns-clause-few
returns-clause-few c = few c
