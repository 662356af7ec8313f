-- What handles hold if they are open, and what calls change of it.
use Rattle.std.specs.Prelude.{◌≡◌, ◌≢◌, ◌<◌, ◌≤◌, ◌+◌, ◌%◌, ℕ, Bool, List, Option, Some, IfSome, is_some, length, slice_index, true}
use Rattle.msg_names.specs.declared.value.ClassRef.{ClassRef}
use Rattle.msg_tables.specs.declared.change.Change.{Change}
use Rattle.msg_tables.specs.declared.change.Change.TheVariants.{AddClass}
use Rattle.msg_tables.specs.Origin.{last_imp}
use Rattle.msg_tables.specs.History.{History}
use Rattle.msg_cache.specs.Plays.{given_again, taken_in}
use Rattle.msg_cache.specs.Views.{ArenaView, classes}
use Rattle.msg_reader.specs.Cost.{ProbesAtMost, ProbesOnceAtMost}
use Rattle.msg_reader.specs.Kept.{FindsUnprobed, HaveNotedSince, LoadsStamp, MissesUnlessChanged}
use Rattle.msg_reader.specs.Notes.{HaveNoted, IsRecalledSince}
use Rattle.msg_host.specs.Asking.{AnswersChange, IsLeft}
use Rattle.msg_host.specs.Listing.{AreRefusedRows, FlushesRows, LackMemoryIf, MakesRows, ReachesRows, RefusesToReach}
use Rattle.msg_host.specs.Lookups.{AreRefusedLookups, AreRowsFound, AreTakenLookups, RowsAreNoted, RowsAreNotedOrAt, RowsKeepOthers, RowsLackOne, RowsMissOne}
use Rattle.msg_host.specs.Named.{TellsAttachFault, attachment, exchange, ref_of}
use Rattle.msg_host.specs.Opening.{OpensAs}
use Rattle.msg_host.specs.View.{SenderView}
use Rattle.msg_host.specs.WayBack as way_back
use Rattle.msg_model.specs.State.{awaits}
use Rattle.msg_runtime.specs.Calls.{AllAreOut, CachesNumber, KeepsAtLeastRoom, RestsAs}
use Rattle.msg_runtime.specs.Resting.{HaveAllSeen, IsLeastOut}
use Rattle.msg_runtime.specs.Parts.{IsNew}
use Rattle.msg_runtime.specs.View.{RuntimeView}
use Rattle.msg_host.specs.declared.changing.MethodRow.{MethodRow}
use Rattle.msg_host.specs.declared.config.HostConfig.{HostConfig}
use Rattle.msg_host.specs.declared.listing.ChangeRow.{ChangeRow}
use Rattle.msg_host.specs.declared.lookups.LookupRow.{LookupRow}
use Rattle.msg_c.specs.Answers.{SeesOn, fault_in, runtime_arena, runtime_given, runtime_history, runtime_rested, runtime_rooms, runtime_written, sender_arena, sender_front}
use Rattle.msg_c.specs.Interned.{TextsView}
use Rattle.msg_c.specs.declared.answer.TheConstants.{MISSED, NOT_NOTED, NOTED_NONE}
use Rattle.msg_c.specs.declared.runtime_handle.RuntimeHandle.{RuntimeHandle}
use Rattle.msg_c.specs.declared.sender_handle.SenderHandle.{SenderHandle}
use Rattle.msg_c.specs.declared.texts_handle.TextsHandle.{TextsHandle}

-- a handle of a runtime is open
abbrev pub HasRuntime : RuntimeHandle → Type 0
HasRuntime r = is_some r.held.state ≡ true

-- one of a sender
abbrev pub HasSender : SenderHandle → Type 0
HasSender s = is_some s.held.state ≡ true

-- one of texts
abbrev pub HasTexts : TextsHandle → Type 0
HasTexts t = is_some t.held.state ≡ true

-- what a handle holds, if it holds a runtime, opens as a config says
abbrev pub OpensIn : HostConfig → RuntimeHandle → Type 0
OpensIn config r = IfSome r.held.state (λ v. OpensAs config v)

-- the same for the runtime in a handle that is open
abbrev pub IfOpen : RuntimeHandle → (RuntimeView → Type 0) → Type 0
IfOpen r is_so = (v : RuntimeView) → r.held.state ≡ Some v → is_so v

-- it has the arena, the history and the room that it had, open or closed
pub record StaysAt (was is : RuntimeHandle) : Type 0 where
  pub arena : runtime_arena is.held.state ≡ runtime_arena was.held.state
  pub history : runtime_history is.held.state ≡ runtime_history was.held.state
  pub rooms : runtime_rooms is.held.state ≡ runtime_rooms was.held.state
  pub written : runtime_written is.held.state ≡ runtime_written was.held.state

-- a handle stays open or closed, and what it holds is left as it was
pub record Leaves (was is : RuntimeHandle) : Type 0 where
  pub stays : is_some is.held.state ≡ is_some was.held.state
  pub left : (v w : RuntimeView) → was.held.state ≡ Some v → is.held.state ≡ Some w → IsLeft v w

-- the same sender numbers are out
abbrev pub LeavesNumbers : RuntimeHandle → RuntimeHandle → Type 0
LeavesNumbers was is = runtime_given is.held.state ≡ runtime_given was.held.state

-- each sender rested after as many changes as before
abbrev pub LeavesRests : RuntimeHandle → RuntimeHandle → Type 0
LeavesRests was is = runtime_rested is.held.state ≡ runtime_rested was.held.state

-- the same for each of those that are out
abbrev pub LeavesRestsOut : RuntimeHandle → RuntimeHandle → Type 0
LeavesRestsOut was is = (v w : RuntimeView) (n : ℕ) → was.held.state ≡ Some v → is.held.state ≡ Some w → awaits v.keeper.given n ≡ true → slice_index w.rested n ≡ slice_index v.rested n

-- as many senders are out as the limit
abbrev pub HasAllOut : RuntimeHandle → Type 0
HasAllOut r = IfOpen r (λ v. AllAreOut v)

-- if both handles are open, what the runtime of one went through with the sender of the other
abbrev pub GoesWith : RuntimeHandle → RuntimeHandle → SenderHandle → (RuntimeView → RuntimeView → SenderView → Type 0) → Type 0
GoesWith was is s goes = (v w : RuntimeView) (u : SenderView) → was.held.state ≡ Some v → is.held.state ≡ Some w → s.held.state ≡ Some u → goes v w u

-- a sender's number that wasn't out is given out: what a handle holds went from was to is
abbrev pub GivesOut : RuntimeHandle → RuntimeHandle → SenderHandle → Type 0
GivesOut was is s = GoesWith was is s (λ v w u. IsNew u.seen v.keeper w.keeper)

-- its number is no longer out
abbrev pub TakesSenderIn : RuntimeHandle → RuntimeHandle → SenderHandle → Type 0
TakesSenderIn was is s = GoesWith was is s (λ v w u. w ≡ record v { keeper = taken_in u.seen v.keeper })

-- it was shown the whole history
abbrev pub Meets : RuntimeHandle → RuntimeHandle → SenderHandle → Type 0
Meets was is s = GoesWith was is s (λ v w u. w ≡ record v { keeper = given_again u.seen v.keeper })

-- the sender was shown the whole history, and it rested
abbrev pub Rests : RuntimeHandle → RuntimeHandle → SenderHandle → Type 0
Rests was is s = GoesWith was is s (λ v w u. (w ≡ record v { keeper = given_again u.seen v.keeper; rested = w.rested }) × RestsAs u.seen v w)

-- the sender that is given out counts as one that rests
abbrev pub RestsAtOpening : RuntimeHandle → RuntimeHandle → SenderHandle → Type 0
RestsAtOpening was is s = GoesWith was is s (λ v w u. RestsAs u.seen v w)

-- this is the least of the numbers of changes after which those that are out have rested, or all if
-- none is out; each has seen as many, so no later find of theirs is older
abbrev pub IsSeenByAll : RuntimeHandle → ℕ → Type 0
IsSeenByAll r n = IfOpen r (λ v. IsLeastOut v.keeper.given v.rested (length v.keeper.history.changes) n × HaveAllSeen v.arena.key v.keeper n)

-- what was found for a class reference and a selector was cached, if there was room, and counted
abbrev pub CachesIn : RuntimeHandle → RuntimeHandle → SenderHandle → ClassRef → ℕ → ℕ → Type 0
CachesIn was is s c sel imp = GoesWith was is s (λ v w u. CachesNumber c sel imp u.seen v w)

-- the result is that of a question for a class and a selector, as far as it is a fault
abbrev pub AnswersAsked : RuntimeHandle → ℕ → ℕ → ℕ → Type 0
AnswersAsked r class sel n = IfOpen r (λ v. n ≡ fault_in v.arena class sel)

-- the same for the history of that runtime
abbrev pub IfAt : RuntimeHandle → (History → Type 0) → Type 0
IfAt r is_so = (h : History) → runtime_history r.held.state ≡ Some h → is_so h

-- a change took what a handle holds from was to is, with the result n
abbrev pub Changes : RuntimeHandle → RuntimeHandle → Change → ℕ → Type 0
Changes was is x n = (v w : RuntimeView) → was.held.state ≡ Some v → is.held.state ≡ Some w → AnswersChange v w x n

-- a change of a selector's methods did, if the selector's number isn't 0
abbrev pub ChangesIf : ℕ → RuntimeHandle → RuntimeHandle → Change → ℕ → Type 0
ChangesIf sel was is x n = 0 < sel → Changes was is x n

-- an exchange of two selectors' methods did, if neither selector's number is 0
abbrev pub Exchanges : RuntimeHandle → RuntimeHandle → ℕ → Bool → ℕ → ℕ → Bool → ℕ → ℕ → Type 0
Exchanges was is class meta sel other other_meta other_sel n =
    0 < sel → 0 < other_sel → Changes was is (exchange (ref_of class meta) sel (ref_of other other_meta) other_sel) n

-- a class was to be made, below a superclass or as a root class
abbrev pub MakesClass : RuntimeHandle → RuntimeHandle → ℕ → Option ℕ → ℕ → Type 0
MakesClass was is class superclass n = Changes was is (AddClass class superclass) n

-- with the result 0 a category was attached
abbrev pub AttachesIn : RuntimeHandle → RuntimeHandle → ℕ → List MethodRow → List MethodRow → ℕ → Type 0
AttachesIn was is class methods class_methods n = n ≡ 0 → Changes was is (attachment class methods class_methods) 0

-- another result says why not
abbrev pub RefusesAttachmentIn : RuntimeHandle → RuntimeHandle → ℕ → List MethodRow → List MethodRow → ℕ → Type 0
RefusesAttachmentIn was is class methods class_methods n = (v w : RuntimeView) → was.held.state ≡ Some v → is.held.state ≡ Some w → TellsAttachFault v w class methods class_methods n

-- the changes that rows mean took what a handle holds from was to is, as one
abbrev pub MakesRowsIn : List ChangeRow → RuntimeHandle → RuntimeHandle → Type 0
MakesRowsIn rows was is = (v w : RuntimeView) → was.held.state ≡ Some v → is.held.state ≡ Some w → MakesRows rows v w

-- of the runtime in a handle, there is no less room
abbrev pub KeepsRoomIn : RuntimeHandle → RuntimeHandle → Type 0
KeepsRoomIn was is = (v w : RuntimeView) → was.held.state ≡ Some v → is.held.state ≡ Some w → KeepsAtLeastRoom v w

-- of the runtime in a handle, the caches that the changes of rows affect are flushed, the others are
-- left as they were, and nothing but these flushes is remembered and counted
abbrev pub FlushesRowsIn : List ChangeRow → RuntimeHandle → RuntimeHandle → Type 0
FlushesRowsIn rows was is = (v w : RuntimeView) → was.held.state ≡ Some v → is.held.state ≡ Some w → FlushesRows rows v w

-- these rows take the runtime in a handle back to what it was
abbrev pub TakesBackIn : List ChangeRow → RuntimeHandle → RuntimeHandle → Type 0
TakesBackIn rows was is = (v w : RuntimeView) → was.held.state ≡ Some v → is.held.state ≡ Some w → way_back.TakesBack rows v w

-- rows are refused by the runtime in a handle: that of this place, for the fault of this number
abbrev pub RefusesRowsIn : RuntimeHandle → List ChangeRow → ℕ → ℕ → Type 0
RefusesRowsIn r rows place n = IfOpen r (λ v. AreRefusedRows rows v.keeper.history place n)

-- if memory was lacking, nothing else forbids them up to that of this place, and there is too
-- little room for these
abbrev pub LacksMemoryIn : RuntimeHandle → List ChangeRow → ℕ → ℕ → Type 0
LacksMemoryIn r rows place n = IfOpen r (λ v. LackMemoryIf rows v place n)

-- the runtime in a handle returns why it doesn't find what rows would affect, and marks what those
-- before would, or nothing
abbrev pub RefusesReachIn : RuntimeHandle → List ChangeRow → ℕ → ℕ → List Bool → List Bool → Type 0
RefusesReachIn r rows place n old new = IfOpen r (λ v. RefusesToReach v rows place n old new)

-- what the changes of rows may alter in the runtime of a handle is marked, in addition to what was
abbrev pub ReachesRowsIn : RuntimeHandle → List ChangeRow → List Bool → List Bool → Type 0
ReachesRowsIn r rows old new = IfOpen r (λ v. ReachesRows rows v.keeper.history (classes v.arena) old new)

-- the same for the history that the sender in an open handle has seen
abbrev pub IfSeen : SenderHandle → (History → Type 0) → Type 0
IfSeen s is_so = (h : History) → sender_front s.held.state ≡ Some h → is_so h

-- what the sender in a handle sees afterwards begins with what it saw
abbrev pub SeesMore : SenderHandle → SenderHandle → Type 0
SeesMore was is = SeesOn (sender_front was.held.state) (sender_front is.held.state)

-- it has seen all changes of the runtime
abbrev pub HasSeenAll : SenderHandle → RuntimeHandle → Type 0
HasSeenAll s r = sender_front s.held.state ≡ runtime_history r.held.state

-- the same for the sender in an open handle
abbrev pub IfSender : SenderHandle → (SenderView → Type 0) → Type 0
IfSender s is_so = (w : SenderView) → s.held.state ≡ Some w → is_so w

-- and with what it was before and is now
abbrev pub IfSenders : SenderHandle → SenderHandle → (SenderView → SenderView → Type 0) → Type 0
IfSenders was is are_so = (u w : SenderView) → was.held.state ≡ Some u → is.held.state ≡ Some w → are_so u w

-- since the stamp that it loaded last its notes have this implementation of a lookup
abbrev pub HasNotedSince : SenderHandle → ClassRef → ℕ → ℕ → Type 0
HasNotedSince s c sel imp = IfSender s (λ w. HaveNotedSince s.notes c sel w.seen imp)

-- a stamp was loaded, and what its notes had since then was found, without a probe
abbrev pub FindsNotedIn : SenderHandle → SenderHandle → ClassRef → ℕ → Option ℕ → Type 0
FindsNotedIn was is c sel found = IfSenders was is (λ u w. FindsUnprobed was.notes c sel u.seen w.seen found)

-- the lookup was missed by a probe, or the stamp of its class reference that was loaded last says
-- more changes than the sender had seen
abbrev pub MissesIn : SenderHandle → SenderHandle → ClassRef → ℕ → Type 0
MissesIn was is c sel = IfSenders was is (λ u w. MissesUnlessChanged u.arena c sel u.seen w.seen)

-- one cache at most was probed, for a lookup, and no more words of it were read than one array has
abbrev pub ProbesOnceIn : SenderHandle → SenderHandle → ClassRef → ℕ → Type 0
ProbesOnceIn was is c sel = IfSenders was is (λ u w. ProbesOnceAtMost u.arena c sel u.seen w.seen)

-- for several lookups no more caches were probed than there are rows
abbrev pub ProbesRowsIn : SenderHandle → SenderHandle → List LookupRow → Type 0
ProbesRowsIn was is rows = IfSenders was is (λ u w. ProbesAtMost (length rows) u.seen w.seen)

-- the stamp of a class reference was loaded, which was n, and nothing else was done
abbrev pub LoadsStampIn : SenderHandle → SenderHandle → ClassRef → ℕ → Type 0
LoadsStampIn was is c n = IfSenders was is (λ u w. LoadsStamp c n u.seen w.seen)

-- they have it at the history of the runtime in an open handle
abbrev pub HasNotedAt : SenderHandle → RuntimeHandle → ClassRef → ℕ → ℕ → Type 0
HasNotedAt s r c sel imp = IfAt r (λ h. HaveNoted s.notes h c sel imp)

-- the same for that sender's arena
abbrev pub IfOfArena : SenderHandle → (ArenaView → Type 0) → Type 0
IfOfArena s is_so = (a : ArenaView) → sender_arena s.held.state ≡ Some a → is_so a

-- the lookups of rows are found, all at one history, which is no older than what the sender of an
-- open handle had seen; it has then seen that
abbrev pub FindsRowsIn : SenderHandle → SenderHandle → List LookupRow → List ℕ → Type 0
FindsRowsIn was is rows imps = IfSenders was is (λ u w. AreRowsFound u.seen w.seen rows imps)

-- its notes had nothing of one of them since a stamp of its class reference that was loaded, or
-- that says more changes than it had seen
abbrev pub LacksRowIn : SenderHandle → SenderHandle → List LookupRow → Type 0
LacksRowIn was is rows = IfSenders was is (λ u w. RowsLackOne u.arena was.notes rows u.seen w.seen)

-- one of them is missed by a probe, or the stamp of its class reference that was loaded last says
-- more changes than it had seen
abbrev pub MissesRowIn : SenderHandle → SenderHandle → List LookupRow → Type 0
MissesRowIn was is rows = IfSenders was is (λ u w. RowsMissOne u.arena rows u.seen w.seen)

-- what each of the lookups found is noted in the handle, unless the note of a later one lies there
abbrev pub NotesRowsIn : SenderHandle → SenderHandle → List LookupRow → List ℕ → Type 0
NotesRowsIn was is rows imps = IfSenders was is (λ u w. RowsAreNoted u.arena is.notes u.seen w.seen rows imps)

-- the same, if they were answered at the history of the runtime in an open handle
abbrev pub NotesRowsAt : RuntimeHandle → SenderHandle → SenderHandle → List LookupRow → List ℕ → Type 0
NotesRowsAt r was is rows imps = IfAt r (λ h. IfSenders was is (λ u w. RowsAreNotedOrAt u.arena h is.notes u.seen w.seen rows imps))

-- if none of the lookups is noted, the handle has the notes that it had
abbrev pub KeepsOtherNotes : SenderHandle → SenderHandle → List LookupRow → Type 0
KeepsOtherNotes was is rows = IfOfArena was (λ a. RowsKeepOthers a was.notes is.notes rows)

-- there are as many places for results as rows, each row means a lookup of its classes, and no
-- place of a row is written
abbrev pub TakesLookupsIn : SenderHandle → List LookupRow → ℕ → ℕ → ℕ → Type 0
TakesLookupsIn s rows places old new = IfOfArena s (λ a. AreTakenLookups (classes a) rows places old new)

-- there is another number of places, or a row means none, and its place is written
abbrev pub RefusesLookupsIn : SenderHandle → List LookupRow → ℕ → ℕ → ℕ → ℕ → Type 0
RefusesLookupsIn s rows places old new n = IfOfArena s (λ a. AreRefusedLookups (classes a) rows places old new n)

-- this is forwarding, or an implementation that the origin of its classes has
abbrev pub IsListedIn : SenderHandle → ℕ → Type 0
IsListedIn s imp = IfOfArena s (λ a. imp ≤ last_imp a.key.origin.counts)

-- a result that is neither 0 nor MISSED is that of a fault of the question
abbrev pub TellsFaultIn : SenderHandle → ℕ → ℕ → ℕ → Type 0
TellsFaultIn s class sel n = IfOfArena s (λ a. n ≢ 0 → n ≢ MISSED → n ≡ fault_in a class sel)

-- if a result is noted, NOTED_NONE for no method, the lookup found it at some point of what its
-- sender has seen, after at least this number of changes
abbrev pub Recalls : SenderHandle → ℕ → ℕ → ℕ → ℕ → Type 0
Recalls s since slot sel n = n ≢ NOT_NOTED → IfSeen s (λ h. IsRecalledSince h since slot sel (n % NOTED_NONE))

-- the sender of an open handle has loaded the count of changes once more
abbrev pub LooksOnceMore : SenderHandle → SenderHandle → Type 0
LooksOnceMore was is = IfSenders was is (λ u w. w.seen.looks ≡ u.seen.looks + 1)

-- it is of the runtime in a handle
abbrev pub IsOfRuntime : SenderHandle → RuntimeHandle → Type 0
IsOfRuntime s r = sender_arena s.held.state ≡ runtime_arena r.held.state

-- the same for the texts in an open handle
abbrev pub IfInterned : TextsHandle → (TextsView → Type 0) → Type 0
IfInterned t is_so = (v : TextsView) → t.held.state ≡ Some v → is_so v
