-- What is held says the same to every thread: a pointer, and what a box owns there.
use mir.Raw.{raw}
use base.Shift.{Keyless}
use denote.Memory.{lone}
use denote.RawPtr.{Ptr}
use denote.Struct.Struct.{exits_of}
use denote.Struct.Owning.{shape, fields, to}
use denote.Param.Send.{IsSend, AllSend, owning_send, struct_send, sendable}
use Rattle.std.proofs.Crossing as heap
use Rattle.std_alloc.proofs.SendSync.{quiet, lies}
use Rattle.std_heap.proofs.Global.TheSendSync as handle
use Rattle.std.specs.Global.{Global}
use Rattle.std.specs.declared.option.Option.{Option}
use Rattle.std.specs.declared.option.Option.TheVariants.{None, Some}
use Rattle.msg_names.specs.contracts.texts.Texts as Home
use Rattle.msg_names.proofs.CrossingLemmas.{Texts-send}
use Rattle.msg_c.specs.TextsOwned.{held_owns}
use Rattle.msg_c.specs.contracts.texts_handle.HeldTexts.{the_row, the_type}

held_keyless : (a : Global) (p : Ptr) (s : Option Home.the_row.Denot) → Keyless (held_owns a p s)
held_keyless a p None = tt
held_keyless a p (Some x) = (lies Home.the_row Texts-send p x, heap.frees.frees a (raw (lone Home.the_row.mir)) p)

pub send : IsSend the_row
send =
    let all : AllSend (fields the_type) = (search sendable, (handle.the_field_send, tt)) in
    owning_send the_type all (λ d. held_keyless d.alloc d.at d.state)
    (λ k. quiet (to the_type) (exits_of k (fields the_type)) ((struct_send (shape the_type) all).leaving k))
