-- The lines of answers.
use Rattle.std.specs.Prelude.{ℕ, List, [], ◌∷◌, ◌++◌, codes, if◌then◌else◌, option_map, unwrap_or, slice_get}
use Rattle.std.specs.List.{flat_map}
use Rattle.msg_names.specs.Number.{selector_number}
use Rattle.msg_names.specs.Numbering.{name_at}
use Rattle.msg_names.specs.declared.value.ClassRef.{ClassRef}
use Rattle.msg_names.specs.declared.value.Selector.{Selector}
use Rattle.msg_names.specs.declared.value.Value.{Value}
use Rattle.msg_names.specs.declared.value.Value.TheVariants.{Number, Object, Class, Sel, Nil}
use Rattle.msg_image.specs.Items.{DocumentParts}
use Rattle.msg_image.specs.Parts.{ImageParts, class_names, ObjectParts}
use Rattle.msg_tables.specs.declared.fault.ChangeFault.{ChangeFault}
use Rattle.msg_tables.specs.declared.fault.ChangeFault.TheVariants as refusals
use Rattle.msg_eval.specs.declared.reply.Reply.{Reply}
use Rattle.msg_eval.specs.declared.reply.Reply.TheVariants as replies
use Rattle.msg_eval.specs.declared.reply.SendFault.{SendFault}
use Rattle.msg_eval.specs.declared.reply.SendFault.TheVariants as faults
use Rattle.msg_io.specs.Decimal.{decimal, digits}
use Rattle.msg_answers.specs.Serial.{Answer, Replied, Changed, serial}
use Rattle.msg_answers.specs.declared.outcome.Outcome.{Outcome}
use Rattle.msg_answers.specs.declared.outcome.Outcome.TheVariants as outcomes

-- ---- names, and nothing for a number that the image doesn't have

-- the name of a class
abbrev pub class_name : ImageParts → ℕ → List ℕ
class_name image k = unwrap_or (slice_get (class_names image) k) []

abbrev pub object_name : ImageParts → ℕ → List ℕ
object_name image o = unwrap_or (option_map (λ (p : ObjectParts). p.name) (slice_get image.objects o)) []

abbrev pub selector_name : ImageParts → Selector → List ℕ
selector_name image s = unwrap_or (name_at image.names (selector_number s)) []

-- ---- answers

abbrev pub value_text : ImageParts → Value → List ℕ
value_text image (Number z) = decimal z
value_text image (Object o) = codes "object " ++ object_name image o.object
value_text image (Class k) = codes "class " ++ class_name image k
value_text image (Sel s) = codes "selector " ++ selector_name image s
value_text image Nil = codes "nil"

-- a method as the Objective-C tools write it: `-[Class selector]`, or `+[Class selector]` where
-- it's the metaclass's
abbrev pub method_text : ImageParts → ClassRef → Selector → List ℕ
method_text image c s = (if c.meta then codes "+[" else codes "-[") ++ class_name image c.class ++ codes " " ++ selector_name image s ++ codes "]"

abbrev pub fault_text : ImageParts → SendFault → List ℕ
fault_text image (faults.Unrecognized c s) = codes "fault: unrecognized " ++ method_text image c s
fault_text image faults.NotAnObject = codes "fault: not an object"
fault_text image faults.NotANumber = codes "fault: not a number"
fault_text image faults.Overflow = codes "fault: overflow"
fault_text image faults.TargetNotAnObject = codes "fault: target not an object"
fault_text image faults.Budget = codes "fault: budget"
fault_text image faults.Depth = codes "fault: depth"

-- a reply: the value, or the fault that ended the send
abbrev pub reply_text : ImageParts → Reply → List ℕ
reply_text image (replies.Value v) = value_text image v
reply_text image (replies.Fault f) = fault_text image f

-- no document that was read has a change of a class or an implementation that isn't its image's
abbrev pub refusal_text : ChangeFault → List ℕ
refusal_text refusals.NoClass = codes "no class"
refusal_text refusals.NoImp = codes "no implementation"
refusal_text refusals.ArgumentCount = codes "argument count"
refusal_text refusals.MethodPresent = codes "method present"
refusal_text refusals.NoMethod = codes "no method"
refusal_text refusals.Limit = codes "limit"
refusal_text refusals.Memory = codes "out of memory"
refusal_text refusals.DuplicateClass = codes "duplicate class"
refusal_text refusals.ClassInUse = codes "class in use"

-- if several were to be made as one, the place of the first that would be refused, from 0
abbrev pub outcome_text : Outcome → List ℕ
outcome_text outcomes.Made = codes "ok"
outcome_text (outcomes.Refused f) = codes "refused: " ++ refusal_text f
outcome_text (outcomes.RefusedAt r) = codes "refused at " ++ digits r.place ++ codes ": " ++ refusal_text r.fault

abbrev pub answer_text : ImageParts → Answer → List ℕ
answer_text image (Replied r) = reply_text image r
answer_text image (Changed o) = outcome_text o

abbrev pub newline : ℕ
newline = 10

-- a text, ended by a newline
abbrev pub line_of : List ℕ → List ℕ
line_of text = text ++ newline ∷ []

-- an answer's text, ended by a newline
abbrev pub answer_line : ImageParts → Answer → List ℕ
answer_line image answer = line_of (answer_text image answer)

-- a line for each answer
abbrev pub text_of : ImageParts → List Answer → List ℕ
text_of image answers = flat_map (answer_line image) answers

-- what a document's run writes
unfoldable pub output_of : DocumentParts → List ℕ
output_of d = text_of d.image (serial d)
