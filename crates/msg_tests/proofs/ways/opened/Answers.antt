use Rattle.std.proofs.Common.{◌≡◌, [], None, false, refl, arith}
use Rattle.msg_order.specs.Superclasses.{has_cycle}
use Rattle.msg_tables.specs.Given.{origin_of}
use Rattle.msg_tables.specs.Origin.{IsSound}
use Rattle.msg_tests.proofs.ways.opened.Goals as goal

no-cycle : has_cycle [] ≡ false
unfolding has_cycle
no-cycle = refl

none-sound : IsSound (origin_of [] 7 [] None (record { rows = 60; changes = 1000000; senders = 1; words = 100 }))
none-sound = record {
  classes = record { above = λ k d e. grind arith };
  chains = no-cycle;
  lists = λ k d inside. absurd (omega (arith, inside));
  few_classes = omega arith;
  few_rows = omega arith;
  few_changes = omega arith;
  few_senders = omega arith;
  few_words = omega arith;
}

pub new-origin-requires : goal.new-origin-requires
new-origin-requires g c = rw c.new.ensures.items (rw c.new-2.ensures.items none-sound)
