use Rattle.std.specs.Prelude.{IfSome}
use Rattle.std.proofs.Common.{◌≡◌, ◌<◌, ℕ, length}
use Rattle.msg_names.specs.Number.{selector_number}
use Rattle.msg_tables.specs.Chain.{chain_of}
use Rattle.msg_tables.specs.View.{kept_method}
use Rattle.msg_tables.proofs.ChainLemmas.{chain_from, Suffices, steps_left}
use Rattle.msg_tables.proofs.tables.Tables.method.Given as goal

-- the rest of the chain has what the whole chain has
abbrev pub invariant-loop-at : goal.invariant-loop-at
invariant-loop-at l = record {
  listed : IfSome l.at (λ c. c.class < length l.self.supers);
  rest : (n : ℕ) × Suffices l.self.order n l.at
      × (kept_method l.self.lists (chain_from n l.self.supers l.at) (selector_number l.sel) ≡ kept_method l.self.lists (chain_of l.self.supers l.fn.class) (selector_number l.sel));
}

abbrev pub decreases-loop-at : goal.decreases-loop-at
decreases-loop-at l = steps_left l.self.order l.at
