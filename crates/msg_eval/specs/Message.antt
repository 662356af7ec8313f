-- Messages: lookup, forwarding, and the bodies that they enter.
use Rattle.std.specs.Prelude.{ℕ, zero, suc, List, [], ◌∷◌, Option, Some}
use Rattle.std.specs.Option.{option_map_or}
use Rattle.msg_names.specs.Number.{selector_number}
use Rattle.msg_names.specs.declared.value.ClassRef.{ClassRef}
use Rattle.msg_names.specs.declared.value.Selector.{Selector}
use Rattle.msg_names.specs.declared.value.Value.{Value}
use Rattle.msg_names.specs.declared.value.Value.TheVariants.{Sel, Nil}
use Rattle.msg_image.specs.Parts.{ImageParts, forwarding_selector, superclass_in}
use Rattle.msg_eval.specs.declared.reply.SendFault.TheVariants.{Unrecognized, NotAnObject, Budget}
use Rattle.msg_eval.specs.Meaning.{Meaning, Rest, Bodies, fault, go_on, ask}
use Rattle.msg_eval.specs.Receiver.{receiver_class, new_receiver}

-- what follows a lookup that found an implementation, and what follows one that answered
-- forwarding, number 0
abbrev pub if_found : ℕ → Meaning → Meaning → Meaning
if_found zero found forwarded = forwarded
if_found (suc i) found forwarded = found

-- A receiver of class c has no method for the selector. It is asked `forwardingTargetForSelector:`
-- with the selector as argument, if its class responds to that.
abbrev pub forward : ImageParts → Bodies → Value → ClassRef → Selector → ℕ → (Value × ClassRef → ℕ → Meaning) → Meaning
forward image body me c s n k =
    ask c (selector_number forwarding_selector) n (λ i n. if_found i
    (body i me (Sel s ∷ []) n (λ target n. go_on (new_receiver image me (Unrecognized c s) target) n k))
    (fault (Unrecognized c s)))

-- Dispatch to a receiver of class c, whose lookup begins at `from`. After forwarding it starts
-- again in the new receiver's class, with the same selector and arguments. At most t receivers
-- come, which are never fewer than the lookups left.
abbrev pub dispatch : ImageParts → Bodies → ℕ → Value → ClassRef → ClassRef → Selector → List Value → ℕ → Rest → Meaning
dispatch image body zero me c from s xs n k = fault Budget
dispatch image body (suc t) me c from s xs n k =
    ask from (selector_number s) n (λ i n. if_found i
    (body i me xs n k)
    (forward image body me c s n (λ r n. dispatch image body t r.0 r.1 r.1 s xs n k)))

-- A message to a value. Nil answers nil and looks nothing up, and a number or a selector is no
-- object.
abbrev pub message_to : ImageParts → Bodies → Value → Selector → List Value → ℕ → Rest → Meaning
message_to image body Nil s xs n k = k Nil n
message_to image body me s xs n k = option_map_or (λ c. dispatch image body n me c c s xs n k) (receiver_class image me) (fault NotAnObject)

-- dispatch to a receiver of one class, with the lookup begun at another
abbrev pub super_from : ImageParts → Bodies → Value → Selector → List Value → ℕ → Rest → Option ClassRef → Option ClassRef → Meaning
super_from image body me s xs n k (Some c) (Some from) = dispatch image body n me c from s xs n k
super_from image body me s xs n k _ _ = fault NotAnObject

-- A super send in a body of this home class: the receiver stays, and the lookup begins at the
-- superclass of the home class. An image has such a class wherever a body has a super send.
abbrev pub super_message : ImageParts → Bodies → Value → ClassRef → Selector → List Value → ℕ → Rest → Meaning
super_message image body me home s xs n k = super_from image body me s xs n k (receiver_class image me) (superclass_in image home)
