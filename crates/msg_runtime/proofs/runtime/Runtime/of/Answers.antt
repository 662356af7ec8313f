use Rattle.std.proofs.Common.{rules, arith, ◌≡◌, length, ◌∙◌}
use Rattle.std.specs.Prelude.{replicate}
use Rattle.msg_runtime.specs.Parts.{keeper_view}
use Rattle.msg_runtime.proofs.RestingLemmas.{rests_first}
use Rattle.msg_runtime.proofs.runtime.Runtime.of.Goals as goal

-- nobody has rested yet
pub invariant_of-result-2 : goal.invariant_of-result-2
invariant_of-result-2 c =
    let zeros : c.in_ok-rested.rested.items ≡ replicate c.senders.result 0 = search rules in
    let given : length (keeper_view c.args.keeper).given ≡ c.senders.result = c.requires.keeper.1.tidy.kept.given ∙ search rules in
    record {
      keeper = search rules;
      tables = search rules;
      origin = search rules;
      classes = search rules;
      full = λ n below. absurd (omega (arith, below));
      rests = rests_first (keeper_view c.args.keeper) c.senders.result c.in_ok-rested.rested.items zeros given;
    }
