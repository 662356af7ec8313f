-- The evaluation of bodies, and of a send at the top.
use Rattle.std.specs.Prelude.{ℕ, zero, suc, ◌-◌, List, [], ◌∷◌, ◌++◌, Option, Some, None, if◌then◌else◌, slice_get}
use Rattle.msg_names.specs.declared.value.Selector.{Selector}
use Rattle.msg_names.specs.declared.value.Value.{Value}
use Rattle.msg_image.specs.Parts.{ImageParts, ImpParts, Expression, Expressions, Const, Me, Arg, Two, If, Send, Super, NoMore, More}
use Rattle.msg_eval.specs.declared.reply.Reply.TheVariants as replies
use Rattle.msg_eval.specs.declared.reply.SendFault.TheVariants.{NotAnObject, Depth}
use Rattle.msg_eval.specs.declared.eval.TheConstants.{MAX_LOOKUPS, MAX_BODIES}
use Rattle.msg_eval.specs.Argument.{argument}
use Rattle.msg_eval.specs.Frame.{Scope}
use Rattle.msg_eval.specs.Meaning.{Meaning, Ends, Rest, Bodies, fault, go_on}
use Rattle.msg_eval.specs.Message.{message_to, super_message}
use Rattle.msg_eval.specs.Operation.{result_of, is_no}

abbrev mutual
  -- An expression, and then the rest. Both operands of an operation are evaluated, and of an `if`
  -- one part alone. A send evaluates its receiver, then its arguments, then it is dispatched.
  pub eval : ImageParts → Bodies → Scope → Expression → ℕ → Rest → Meaning
  eval image body s (Const v) n k = k v n
  eval image body s Me n k = k s.me n
  eval image body s (Arg i) n k = k (argument s.args i) n
  eval image body s (Two o a b) n k =
      eval image body s a n (λ x n. eval image body s b n (λ y n. go_on (result_of o x y) n k))
  eval image body s (If c a b) n k =
      eval image body s c n (λ v n. if is_no v then eval image body s b n k else eval image body s a n k)
  eval image body s (Send a sel es) n k =
      eval image body s a n (λ me n. eval_all image body s es [] n (λ xs n. message_to image body me sel xs n k))
  eval image body s (Super sel es) n k =
      eval_all image body s es [] n (λ xs n. super_message image body s.me s.home sel xs n k)

  -- arguments from left to right, after those that are done
  pub eval_all : ImageParts → Bodies → Scope → Expressions → List Value → ℕ → (List Value → ℕ → Meaning) → Meaning
  eval_all image body s NoMore done n k = k done n
  eval_all image body s (More e es) done n k =
      eval image body s e n (λ v n. eval_all image body s es (done ++ v ∷ []) n k)

-- the body of an implementation; no lookup answers one that the image doesn't have
abbrev pub eval_body : ImageParts → Bodies → Value → List Value → ℕ → Rest → Option ImpParts → Meaning
eval_body image body me xs n k None = fault NotAnObject
eval_body image body me xs n k (Some i) = eval image body (record { me = me; args = xs; home = i.home }) i.body n k

-- the bodies of an image, with a limit on how many may be active at once
unfoldable pub bodies : ImageParts → ℕ → Bodies
bodies image zero i me xs n k = fault Depth
bodies image (suc d) i me xs n k = eval_body image (bodies image d) me xs n k (slice_get image.imps (i - 1))

-- a send at the top: 32 bodies may be active at once, and 10,000 lookups are made at most
abbrev pub send_of : ImageParts → Value → Selector → List Value → Meaning
send_of image receiver s xs = message_to image (bodies image MAX_BODIES) receiver s xs MAX_LOOKUPS (λ v n. Ends (replies.Value v))
