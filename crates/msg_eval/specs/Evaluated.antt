-- What the evaluator's functions are to find, each for what the code has at hand.
use Rattle.std.specs.Prelude.{◌≡◌, ℕ, List, []}
use Rattle.msg_names.specs.Number.{imp_number}
use Rattle.msg_names.specs.declared.value.ClassRef.{ClassRef}
use Rattle.msg_names.specs.declared.value.ImpRef.{ImpRef}
use Rattle.msg_names.specs.declared.value.Value.{Value}
use Rattle.msg_image.specs.Parts.{Expression, Expressions}
use Rattle.msg_image.specs.Plain.{plain_all}
use Rattle.msg_image.specs.declared.expr.Expr.{Expr}
use Rattle.msg_eval.specs.declared.frame.Frame.{Frame}
use Rattle.msg_eval.specs.declared.frame.Message.{Message}
use Rattle.msg_eval.specs.Evaluation.{eval, eval_all, bodies}
use Rattle.msg_eval.specs.Frame.{Scope}
use Rattle.msg_eval.specs.Meaning.{Meaning, Rest}
use Rattle.msg_eval.specs.Message.{message_to, super_message, dispatch, forward}

-- ---- in a body

abbrev pub scope_of : Frame → Scope
scope_of f = record { me = f.me; args = f.args.now.items; home = f.home }

abbrev pub evaluated : Frame → Expression → ℕ → Rest → Meaning
evaluated f e n = eval f.image.now (bodies f.image.now f.depth) (scope_of f) e n

-- nothing is looked up for the expression, whose value this is
abbrev pub IsValue : Frame → Expression → Value → Type 0
IsValue f e v = (n : ℕ) (k : Rest) → evaluated f e n k ≡ k v n

abbrev pub all_evaluated : Frame → Expressions → List Value → ℕ → (List Value → ℕ → Meaning) → Meaning
all_evaluated f es done n = eval_all f.image.now (bodies f.image.now f.depth) (scope_of f) es done n

-- arguments, none of which is evaluated yet
abbrev pub args_evaluated : Frame → List Expr → ℕ → (List Value → ℕ → Meaning) → Meaning
args_evaluated f es n = all_evaluated f (plain_all es) [] n

-- ---- for a message

abbrev pub sent : Message → Value → ℕ → Rest → Meaning
sent m receiver n = message_to m.image.now (bodies m.image.now m.depth) receiver m.sel m.args.now.items n

abbrev pub sent_above : Message → Value → ClassRef → ℕ → Rest → Meaning
sent_above m me home n = super_message m.image.now (bodies m.image.now m.depth) me home m.sel m.args.now.items n

-- at most t receivers come
abbrev pub dispatched : Message → ℕ → Value → ClassRef → ClassRef → ℕ → Rest → Meaning
dispatched m t me c from n = dispatch m.image.now (bodies m.image.now m.depth) t me c from m.sel m.args.now.items n

abbrev pub forwarded : Message → Value → ClassRef → ℕ → (Value × ClassRef → ℕ → Meaning) → Meaning
forwarded m me c n = forward m.image.now (bodies m.image.now m.depth) me c m.sel n

abbrev pub entered : Message → ImpRef → Value → ℕ → Rest → Meaning
entered m i me n = bodies m.image.now m.depth (imp_number i) me m.args.now.items n
