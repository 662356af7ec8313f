use Rattle.msg_eval.specs.declared.eval.TheConstants.{MAX_LOOKUPS, MAX_BODIES}
use Rattle.msg_eval.specs.Evaluation.{bodies, send_of}
use Rattle.msg_eval.proofs.BoundLemmas.{few_points, message_to-at_most, bodies-at_most}
use Rattle.msg_eval.proofs.laws.points_are_few.Goals as goal

pub returns : goal.returns
returns c = λ image receiver sel args points reply ends.
    few_points (send_of image receiver sel args) MAX_LOOKUPS points reply (message_to-at_most image (bodies image MAX_BODIES) (bodies-at_most image MAX_BODIES) receiver sel args MAX_LOOKUPS _ (λ v m le. tt)) ends
