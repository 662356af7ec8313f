-- The events of the machine that the steps on a table are.
use Rattle.std.specs.Prelude.{List, ◌≡◌, ◌≢◌, ℕ, zero, suc, ◌+◌, ◌-◌, ◌==◌, ◌<◌, ◌≤◌, [], ◌∷◌, ◌++◌, length, true, false, slice_index, slice_set, replicate}
use Rattle.msg_tables.specs.Origin.{class_total}
use mathlib.Core.Option.{some}
use lib.ListN.{get_elem?}
use Rattle.atomic_table.specs.Table.{State as Table, keeps, stepped, opening as opened}
use Rattle.msg_names.specs.declared.value.ClassRef.{ClassRef}
use Rattle.msg_buckets.specs.Word.{sel_of, imp_of}
use Rattle.msg_tables.specs.Origin.{IsSound}
use Rattle.msg_tables.specs.declared.change.Change.{Change}
use Rattle.msg_tables.specs.History.{History, lookup}
use Rattle.msg_model.specs.Event.{Event, Enter, Header, Read, Leave, Fill, Install, Flush, Look, Clear, Commit}
use Rattle.msg_model.specs.declared.event.Seen.{Seen}
use Rattle.msg_model.specs.declared.event.Seen.TheVariants.{Nothing, Array, Word, Out as SeenOut}
use Rattle.msg_model.specs.declared.state.Standing.TheVariants.{Free, Live}
use Rattle.msg_model.specs.declared.state.Whereabouts.TheVariants.{Out, In, Holding}
use Rattle.msg_model.specs.Runs.{opening}
use Rattle.msg_model.specs.State.{Layout, State, capacity, size, awaits, Lawful, Sound}
use Rattle.msg_model.specs.Steps.{after, shows as shown_to, Legal}
use Rattle.msg_model.specs.View.{standing_at}
use Rattle.msg_cache.specs.declared.view.SenderView.{SenderView}
use Rattle.msg_cache.specs.declared.view.TurnAt.TheVariants.{Away, Home}
use Rattle.msg_cache.specs.declared.view.KeeperView.{KeeperView}
use Rattle.msg_cache.specs.declared.view.View.{View}
use Rattle.msg_cache.specs.declared.view.View.TheVariants.{Sender, Keeper, Turn, Spent}
use Rattle.msg_model.specs.Stamps.{last_affected}
use Rattle.msg_cache.specs.Layout.{SettingView, layout_of, header_at, base, stamp_at, probe_at, word_count}
use Rattle.msg_cache.specs.Plays.{headed, read_on, gone_to, told_to, stamped_to, newcomer_with, stored, flushed, installed, committed, looked, rest_looked, given_out, taken_in, at_home, lent}
use Rattle.msg_cache.specs.Rule.{HasNoEntry, NoneIsGivenFrom, StampsAreClosedFor, holds, named, shown_by, since_of, first_keeper}

-- the state that a table shows, while the rule holds of it
abbrev pub shown_at : (key : SettingView) (s : Table ℕ View) → holds lookup key s → State
shown_at key s r = shown_by lookup (layout_of key) key.origin r

-- what a step that is this event sees by the word that it loads; one that stores sees nothing
abbrev pub seen_in : Event → ℕ → Seen
seen_in (Header n c) word = Array (named word)
seen_in (Read n p) word = Word word
seen_in (Look n) word = SeenOut (word == 0)
seen_in (Enter n) word = Nothing
seen_in (Leave n) word = Nothing
seen_in (Fill c p entry) word = Nothing
seen_in (Install c a) word = Nothing
seen_in (Flush c) word = Nothing
seen_in (Clear a p) word = Nothing
seen_in (Commit x) word = Nothing

-- From one state of the table to the next is this event, by a step that loads or stores this word.
-- It isn't refused at the state that was shown, and what is seen is what that state shows. The rule
-- holds for the next state of the table, which shows the state after the event.
pub record IsEvent (key : SettingView) (s : Table ℕ View) (r : holds lookup key s) (e : Event) (word : ℕ) (s' : Table ℕ View) : Type 0 where
  pub legal : Legal lookup (layout_of key) (shown_at key s r) e
  pub sees : seen_in e word ≡ shown_to (shown_at key s r) e
  pub keeps_rule : holds lookup key s'
  pub shows : (r' : holds lookup key s') → shown_at key s' r' ≡ after (layout_of key) (shown_at key s r) e

-- the state after a Look at each of this number of sender numbers, from one on
abbrev pub after_looks : Layout → ℕ → ℕ → State → State
after_looks z n zero m = m
after_looks z n (suc d) m = after z (after_looks z n d m) (Look (n + d))

-- From one state of the table to the next is a Look at each of this number of sender numbers, from
-- one on, one after another. None is refused, and each sees its sender out. The rule holds for the
-- next state, which shows the state after the last Look.
pub record AreLooks (key : SettingView) (s : Table ℕ View) (r : holds lookup key s) (n d : ℕ) (s' : Table ℕ View) : Type 0 where
  pub legal : (e : ℕ) → e < d → Legal lookup (layout_of key) (after_looks (layout_of key) n e (shown_at key s r)) (Look (n + e))
  pub sees : (e : ℕ) → e < d → SeenOut true ≡ shown_to (after_looks (layout_of key) n e (shown_at key s r)) (Look (n + e))
  pub keeps_rule : holds lookup key s'
  pub shows : (r' : holds lookup key s') → shown_at key s' r' ≡ after_looks (layout_of key) n d (shown_at key s r)

-- From one state of the table to the next is no event: the rule holds for the next state, which
-- shows the same.
pub record IsNone (key : SettingView) (s : Table ℕ View) (r : holds lookup key s) (s' : Table ℕ View) : Type 0 where
  pub keeps_rule : holds lookup key s'
  pub shows : (r' : holds lookup key s') → shown_at key s' r' ≡ shown_at key s r

-- ---- the state

-- however the rule holds for a table, it shows the same state
abbrev pub OneIsShown : Type 0
OneIsShown = (key : SettingView) (s : Table ℕ View) (r r' : holds lookup key s) → shown_at key s r ≡ shown_at key s r'

-- the state that is shown is lawful, in the words of the machine
abbrev pub ShownIsLawful : Type 0
ShownIsLawful = (key : SettingView) (s : Table ℕ View) (r : holds lookup key s) → Lawful lookup (layout_of key) (shown_at key s r)

-- it is lawful and its numbers are in range
abbrev pub ShownIsSound : Type 0
ShownIsSound = (key : SettingView) (s : Table ℕ View) (r : holds lookup key s) → Sound lookup (layout_of key) (shown_at key s r)

-- a table of zeros, with the keeper's first view, shows the machine before the first event
abbrev pub OpeningIsShown : Type 0
OpeningIsShown = (key : SettingView) → IsSound key.origin → 0 < key.senders
    → let s = opened (replicate (word_count (layout_of key)) 0) [] (Keeper (first_keeper key)) in
    holds lookup key s × ((r : holds lookup key s) → shown_at key s r ≡ opening key.origin)

-- The number of each sender is given out. By what the keeper knows, the sender has seen all changes
-- that there were when the number was last given out.
abbrev pub SendersHaveSeen : Type 0
SendersHaveSeen = (key : SettingView) (s : Table ℕ View) → holds lookup key s → (chair : ℕ) (k : KeeperView) → get_elem? s.views chair ≡ some (Keeper k)
    → (id : ℕ) (v : SenderView) → get_elem? s.views id ≡ some (Sender v) → (awaits k.given v.number ≡ true) × (since_of k.since v.number ≤ size v.front)

-- ---- a sender's steps

abbrev pub OfSender : ((key : SettingView) (s : Table ℕ View) → holds lookup key s → ℕ → SenderView → Type 0) → Type 0
OfSender P = (key : SettingView) (s : Table ℕ View) (r : holds lookup key s) (id : ℕ) (v : SenderView) → get_elem? s.views id ≡ some (Sender v) → P key s r id v

-- the store of 1 in the probe word of a sender that is out is Enter
abbrev pub EnterIsEnter : Type 0
EnterIsEnter = OfSender (λ key s r id v. v.whereabouts ≡ Out → IsEvent key s r (Enter v.number) 1 (stepped s (probe_at (layout_of key) v.number) 1 id [] (Sender (gone_to v v.front In)) keeps))

-- the store of 0 in the probe word of a sender that isn't out is Leave
abbrev pub LeaveIsLeave : Type 0
LeaveIsLeave = OfSender (λ key s r id v. v.whereabouts ≢ Out → IsEvent key s r (Leave v.number) 0 (stepped s (probe_at (layout_of key) v.number) 0 id [] (Sender (gone_to v v.front Out)) keeps))

-- the sender's front is then the history
abbrev pub HeaderIsHeader : Type 0
HeaderIsHeader = OfSender (λ key s r id v. (c : ClassRef) (sel : ℕ) → v.whereabouts ≡ In → c.class < class_total key.origin
    → let n = slice_index s.words (header_at c) in
    IsEvent key s r (Header v.number c) n (stepped s (header_at c) n id [] (Sender (headed c sel (shown_at key s r).history v n)) keeps))

-- the load of a word of the array that a sender holds is Read
abbrev pub BucketIsRead : Type 0
BucketIsRead = OfSender (λ key s r id v. (a p : ℕ) → v.whereabouts ≡ Holding v.last.class a → p < capacity (layout_of key) a → 0 < v.last.sel
    → let i = base (layout_of key) a + p in let n = slice_index s.words i in
    (front : History) × IsEvent key s r (Read v.number p) n (stepped s i n id [] (Sender (read_on front v i n)) keeps))

-- a sender's load of the count of changes is no event, and the sender has then seen the whole
-- history
abbrev pub VersionIsNone : Type 0
VersionIsNone = OfSender (λ key s r id v. ((c : ClassRef) (a : ℕ) → v.whereabouts ≢ Holding c a)
    → IsNone key s r (stepped s 0 (slice_index s.words 0) id [] (Sender (told_to v (shown_at key s r).history)) keeps))

-- A sender's load of a stamp, with no array held, is no event. The sender has then seen the whole
-- history too. No change of it after as many as the stamp says affects the class reference.
abbrev pub StampLoadIsNone : Type 0
StampLoadIsNone = OfSender (λ key s r id v. (c : ClassRef) → c.class < class_total key.origin → ((d : ClassRef) (a : ℕ) → v.whereabouts ≢ Holding d a)
    → let i = stamp_at (layout_of key) c in
    IsNone key s r (stepped s i (slice_index s.words i) id [] (Sender (stamped_to v (shown_at key s r).history c (slice_index s.words i))) keeps) × (last_affected (shown_at key s r).history c ≤ slice_index s.words i))

-- ---- the keeper's steps

abbrev pub OfAKeeper : Type 1
OfAKeeper = (key : SettingView) (s : Table ℕ View) → holds lookup key s → ℕ → KeeperView → Type 0

abbrev pub OfKeeper : OfAKeeper → Type 0
OfKeeper P = (key : SettingView) (s : Table ℕ View) (r : holds lookup key s) (id : ℕ) (k : KeeperView) → get_elem? s.views id ≡ some (Keeper k) → P key s r id k

abbrev pub KeeperFills : OfAKeeper
KeeperFills key s r id k = (c : ClassRef) (a p w : ℕ) → standing_at k.standings a ≡ Live c → p < capacity (layout_of key) a
    → let i = base (layout_of key) a + p in slice_index k.words i ≡ 0 → 0 < sel_of w → imp_of w ≡ lookup k.history c (sel_of w)
    → IsEvent key s r (Fill c p w) w (stepped s i w id [] (Keeper (stored i w k)) keeps)

-- a store over a word that is 0, of an entry that agrees with the lookup now, in a live array is
-- Fill
abbrev pub StoreIsFill : Type 0
StoreIsFill = OfKeeper KeeperFills

abbrev pub KeeperInstalls : OfAKeeper
KeeperInstalls key s r id k = (c : ClassRef) (a : ℕ) → c.class < class_total key.origin → a < length key.capacities → standing_at k.standings a ≡ Free
    → HasNoEntry (layout_of key) k a
    → IsEvent key s r (Install c a) (suc a) (stepped s (header_at c) (suc a) id [] (Keeper (installed c a k)) keeps)

-- a store of an array's number plus one in a header word, if the array is free and its words are 0,
-- is Install
abbrev pub StoreIsInstall : Type 0
StoreIsInstall = OfKeeper KeeperInstalls

abbrev pub KeeperFlushes : OfAKeeper
KeeperFlushes key s r id k = (c : ClassRef) (a : ℕ) → c.class < class_total key.origin → slice_index k.words (header_at c) ≡ suc a
    → IsEvent key s r (Flush c) 0 (stepped s (header_at c) 0 id [] (Keeper (flushed c k)) keeps)

-- a store of 0 in the header word of a class reference that has a live array is Flush
abbrev pub StoreIsFlush : Type 0
StoreIsFlush = OfKeeper KeeperFlushes

abbrev pub KeeperLooks : OfAKeeper
KeeperLooks key s r id k = (n : ℕ) → n < key.senders
    → let i = probe_at (layout_of key) n in let f = slice_index s.words i in
    IsEvent key s r (Look n) f (stepped s i f id [] (Keeper (looked n (f == 0) k)) keeps)

-- the keeper's load of a probe word is Look
abbrev pub LoadIsLook : Type 0
LoadIsLook = OfKeeper KeeperLooks

abbrev pub KeeperRestLooks : OfAKeeper
KeeperRestLooks key s r id k = (n : ℕ) → n ≤ key.senders → NoneIsGivenFrom n k.given
    → AreLooks key s r n (key.senders - n) (stepped s 0 (slice_index s.words 0) id [] (Keeper (rest_looked n (key.senders - n) k)) keeps)

-- the keeper's load of the count of changes, by which it sees out all sender numbers from one on,
-- none of which anybody has, is a Look at each of them
abbrev pub LoadIsRest : Type 0
LoadIsRest = OfKeeper KeeperRestLooks

abbrev pub KeeperClears : OfAKeeper
KeeperClears key s r id k = (a p : ℕ) → standing_at k.standings a ≡ Free → p < capacity (layout_of key) a
    → let i = base (layout_of key) a + p in IsEvent key s r (Clear a p) 0 (stepped s i 0 id [] (Keeper (stored i 0 k)) keeps)

-- a store of 0 in a word of a free array is Clear
abbrev pub StoreIsClear : Type 0
StoreIsClear = OfKeeper KeeperClears

abbrev pub KeeperCommits : OfAKeeper
KeeperCommits key s r id k = (xs : List Change) (g : History) → 0 < length xs → k.turn ≡ Home g → StampsAreClosedFor key k xs → Legal lookup (layout_of key) (shown_at key s r) (Commit xs)
    → IsEvent key s r (Commit xs) (size k.history + 1) (stepped s 0 (size k.history + 1) id [] (Keeper (committed xs k)) keeps)

-- the store of the count of changes, one higher, while the turn is joined, if no live entry would
-- disagree, is Commit
abbrev pub StoreIsCommit : Type 0
StoreIsCommit = OfKeeper KeeperCommits

-- ---- what is no event

abbrev pub KeeperStamps : OfAKeeper
KeeperStamps key s r id k = (c : ClassRef) (w : ℕ) → c.class < class_total key.origin → last_affected k.history c ≤ w
    → let i = stamp_at (layout_of key) c in IsNone key s r (stepped s i w id [] (Keeper (stored i w k)) keeps)

-- the store of a stamp, of at least the number of the last change that affects its class reference,
-- is no event
abbrev pub StampStoreIsNone : Type 0
StampStoreIsNone = OfKeeper KeeperStamps

abbrev pub KeeperWitnesses : OfAKeeper
KeeperWitnesses key s r id k = IsNone key s r (stepped s 0 (slice_index s.words 0) id [] (Keeper k) keeps)

-- the keeper's load of the count of changes is no event
abbrev pub WitnessIsNone : Type 0
WitnessIsNone = OfKeeper KeeperWitnesses

abbrev pub KeeperSplits : OfAKeeper
KeeperSplits key s r id k = (n : ℕ) (stamps : List (ClassRef × ℕ)) → n < key.senders → awaits k.given n ≡ false
    → IsNone key s r (record { words = s.words; homes = s.homes; views = slice_set s.views id (Keeper (given_out n k)) ++ Sender (newcomer_with n stamps k.history) ∷ [] })

-- splitting off a sender's seat is no event, whichever stamps it is said to have loaded
abbrev pub SplitIsNone : Type 0
SplitIsNone = OfKeeper KeeperSplits

abbrev pub KeeperJoins : OfAKeeper
KeeperJoins key s r id k = (other : ℕ) (v : SenderView) → ¬ (other ≡ id) → v.whereabouts ≡ Out → get_elem? (slice_set s.views id (Keeper (taken_in v k))) other ≡ some (Sender v)
    → IsNone key s r (record { words = s.words; homes = s.homes; views = slice_set (slice_set s.views id (Keeper (taken_in v k))) other Spent })

-- joining the seat of a sender that is out is no event
abbrev pub JoinIsNone : Type 0
JoinIsNone = OfKeeper KeeperJoins

abbrev pub KeeperSplitsTurn : OfAKeeper
KeeperSplitsTurn key s r id k = k.turn ≢ Away
    → IsNone key s r (record { words = s.words; homes = s.homes; views = slice_set s.views id (Keeper (lent k)) ++ Turn k.history ∷ [] })

-- splitting off the turn's seat is no event
abbrev pub SplitTurnIsNone : Type 0
SplitTurnIsNone = OfKeeper KeeperSplitsTurn

abbrev pub KeeperJoinsTurn : OfAKeeper
KeeperJoinsTurn key s r id k = (other : ℕ) (g : History) → ¬ (other ≡ id) → get_elem? (slice_set s.views id (Keeper (at_home g k))) other ≡ some (Turn g)
    → IsNone key s r (record { words = s.words; homes = s.homes; views = slice_set (slice_set s.views id (Keeper (at_home g k))) other Spent })

-- joining the turn's seat is no event
abbrev pub JoinTurnIsNone : Type 0
JoinTurnIsNone = OfKeeper KeeperJoinsTurn
