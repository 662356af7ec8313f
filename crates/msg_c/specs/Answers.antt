-- The results of calls.
use Rattle.std.specs.Prelude.{◌≡◌, ◌==◌, ◌||◌, if◌then◌else◌, nat_lt, ℕ, Bool, List, Option, Some, None, not, option_map}
use Rattle.msg_names.specs.declared.value.ClassRef.{ClassRef}
use Rattle.msg_tables.specs.History.{History, BeginsWith, holder, superclass}
use Rattle.msg_cache.specs.Views.{ArenaView, classes}
use Rattle.msg_host.specs.Asking.{ask_fault, ask_fault_number, want_of_room}
use Rattle.msg_host.specs.Config.{are_known, config_of, is_beyond}
use Rattle.msg_host.specs.Named.{ref_of}
use Rattle.msg_host.specs.View.{SenderView}
use Rattle.msg_runtime.specs.View.{RuntimeView}
use Rattle.msg_tables.specs.Noted.{WrittenView}
use Rattle.msg_host.specs.declared.fault.AskFault.{AskFault}
use Rattle.msg_c.specs.declared.answer.TheConstants.{NONE}
use Rattle.msg_c.specs.declared.asking.MsgClass.{MsgClass}

-- the number of a question's fault, or 0 if it has none
abbrev pub number_of_fault : Option AskFault → ℕ
number_of_fault None = 0
number_of_fault (Some f) = ask_fault_number f

-- the result for a number of elements, each of which needs a place of a room: 0, or the number that
-- says that the room has too few
abbrev pub number_for_room : ℕ → ℕ → ℕ
number_for_room room count = if nat_lt room count then want_of_room else 0

-- what a sender noted of a lookup, as one number: 0 for nothing, and 2^32, which is no
-- implementation's number, if no method was found
abbrev pub number_of_recalled : Option ℕ → ℕ
number_of_recalled None = 0
number_of_recalled (Some imp) = if imp == 0 then 4294967296 else imp

-- the words of a config aren't known, or ask for more than is given
abbrev pub are_refused : List ℕ → Bool
are_refused words = not (are_known words) || is_beyond (config_of words)

-- the result of a question for a class and a selector of an arena, as far as it is a fault
abbrev pub fault_in : ArenaView → ℕ → ℕ → ℕ
fault_in a class sel = number_of_fault (ask_fault (classes a) class sel)

-- the question is asked: the class is one of the arena's classes, and the selector has a number
abbrev pub IsAsked : ArenaView → ℕ → ℕ → Type 0
IsAsked a class sel = ask_fault (classes a) class sel ≡ None

-- if it isn't asked, the number of its fault is returned
abbrev pub TellsFault : ArenaView → ℕ → ℕ → ℕ → Type 0
TellsFault a class sel n = (f : AskFault) → ask_fault (classes a) class sel ≡ Some f → n ≡ ask_fault_number f

-- a question that is asked finds nothing, and the result says so
abbrev pub TellsNone : ArenaView → ℕ → ℕ → Option ClassRef → ℕ → Type 0
TellsNone a class sel found n = IsAsked a class sel → found ≡ None → n ≡ NONE

-- a question for the superclass of a class reference finds none
abbrev pub TellsNoSuperclass : RuntimeView → ℕ → Bool → ℕ → Type 0
TellsNoSuperclass v class meta n = TellsNone v.arena class 1 (superclass v.keeper.history (ref_of class meta)) n

-- a question for the class of a method finds none
abbrev pub TellsNoHolder : RuntimeView → ℕ → Bool → ℕ → ℕ → Type 0
TellsNoHolder v class meta sel n = TellsNone v.arena class sel (holder v.keeper.history (ref_of class meta) sel) n

-- a class reference is written out
abbrev pub Shows : MsgClass → ClassRef → Type 0
Shows out c = (out.class ≡ c.class) × (out.meta ≡ c.meta)

-- the arena and the history of a runtime, if there is one
abbrev pub runtime_arena : Option RuntimeView → Option ArenaView
runtime_arena = option_map (λ v. v.arena)

abbrev pub runtime_history : Option RuntimeView → Option History
runtime_history = option_map (λ v. v.keeper.history)

-- the room for methods, and what was written last, with the room for what will be
abbrev pub runtime_rooms : Option RuntimeView → Option (List ℕ)
runtime_rooms = option_map (λ v. v.rooms)

abbrev pub runtime_written : Option RuntimeView → Option WrittenView
runtime_written = option_map (λ v. v.written)

-- the number of changes after which each sender rested
abbrev pub runtime_rested : Option RuntimeView → Option (List ℕ)
runtime_rested = option_map (λ v. v.rested)

-- which sender numbers are out
abbrev pub runtime_given : Option RuntimeView → Option (List Bool)
runtime_given = option_map (λ v. v.keeper.given)

-- the arena of a sender, and the history that it has seen, if there is one
abbrev pub sender_arena : Option SenderView → Option ArenaView
sender_arena = option_map (λ w. w.arena)

abbrev pub sender_front : Option SenderView → Option History
sender_front = option_map (λ w. w.seen.front)

-- the sender, if there is one, is of the runtime, if there is one
abbrev pub AreOfOneArena : Option RuntimeView → Option SenderView → Type 0
AreOfOneArena runtime sender = (a b : ArenaView) → runtime_arena runtime ≡ Some a → sender_arena sender ≡ Some b → b ≡ a

-- what is seen afterwards begins with what was seen
abbrev pub SeesOn : Option History → Option History → Type 0
SeesOn was is = (g h : History) → was ≡ Some g → is ≡ Some h → BeginsWith h g
