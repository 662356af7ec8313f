-- That a host's classes are sound.
use Rattle.std.proofs.Common.{◌≡◌, ◌≤◌, List, [], false, Some, None, refl, arith}
use Rattle.msg_order.specs.Superclasses.{has_cycle}
use Rattle.msg_tables.specs.Origin.{IsSound}

no-cycle : has_cycle [] ≡ false
unfolding has_cycle
no-cycle = refl

pub four_classes_are_sound : IsSound (record { superclasses = []; made = 4; lists = []; counts = None; limits = record { rows = 1; changes = 3; senders = 100; words = 1000 } })
four_classes_are_sound = record {
  classes = record { above = λ k d e. grind arith };
  chains = no-cycle;
  lists = λ k d inside. absurd (omega (arith, inside));
  few_classes = omega arith;
  few_rows = omega arith;
  few_changes = omega arith;
  few_senders = omega arith;
  few_words = omega arith;
}
