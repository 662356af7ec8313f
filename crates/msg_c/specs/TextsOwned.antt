-- What a `HeldTexts` owns: nothing while it is closed, and else the same as a `Box<Texts>`.
use base.Fml.{Fml, ftrue}
use base.Stored.{Coded}
use denote.RawPtr.{Ptr}
use Rattle.std.specs.Box.Ownership.{box_owns}
use Rattle.std.specs.Coded.{coded_option}
use Rattle.std.specs.Global.{Global}
use Rattle.std.specs.declared.option.Option.{Option}
use Rattle.std.specs.declared.option.Option.TheVariants.{None, Some}
use Rattle.std_heap.specs.contracts.GlobalAllocator.TheImpl.{ghosts}
use Rattle.msg_names.specs.contracts.texts.Texts.{the_row}

-- nothing where nothing is held, else what a box of it owns
abbrev pub held_owns : Global → Ptr → Option the_row.Denot → Fml
held_owns alloc at None = ftrue
held_owns alloc at (Some x) = box_owns (ghosts.dealloc_token alloc) the_row at x

-- how what is held is stored in the logic
abbrev pub state_coded : Coded (Option the_row.Denot)
state_coded = coded_option the_row.coded
