-- Receivers of messages.
use Rattle.std.specs.Prelude.{Option, Some, None, Result, Ok, Err, if◌then◌else◌, option_map, slice_get}
use Rattle.std.specs.Option.{option_map_or}
use Rattle.msg_names.specs.declared.value.ClassRef.{ClassRef}
use Rattle.msg_names.specs.declared.value.Value.{Value}
use Rattle.msg_names.specs.declared.value.Value.TheVariants.{Object, Class, Nil}
use Rattle.msg_image.specs.Parts.{ImageParts}
use Rattle.msg_tables.specs.After.{of_class, of_meta}
use Rattle.msg_eval.specs.declared.reply.SendFault.{SendFault}
use Rattle.msg_eval.specs.declared.reply.SendFault.TheVariants.{TargetNotAnObject}
use Rattle.msg_eval.specs.Operation.{are_same}

-- the class in which a message to a value is looked up: an object's class, and a class object's
-- metaclass
abbrev pub receiver_class : ImageParts → Value → Option ClassRef
receiver_class image (Object o) = option_map (λ p. of_class p.class) (slice_get image.objects o.object)
receiver_class image (Class k) = Some (of_meta k)
receiver_class image _ = None

-- The new receiver, with its class, where a receiver was asked for a forwarding target and answered
-- this one: an object or a class, other than the receiver. Nil and the receiver itself are no
-- target.
abbrev pub new_receiver : ImageParts → Value → SendFault → Value → Result (Value × ClassRef) SendFault
new_receiver image me unrecognized Nil = Err unrecognized
new_receiver image me unrecognized target =
    if are_same me target then Err unrecognized else option_map_or (λ c. Ok (target, c)) (receiver_class image target) (Err TargetNotAnObject)
