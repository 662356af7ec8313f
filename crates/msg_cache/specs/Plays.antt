-- What each step means to the seat that makes it.
use Rattle.std.specs.Prelude.{◌≡◌, ◌≢◌, ℕ, zero, suc, ◌+◌, ◌-◌, ◌==◌, ◌≤◌, List, [], ◌∷◌, ◌++◌, length, map, Bool, true, false, Option, Some, None, slice_set, slice_index, if◌then◌else◌}
use Rattle.atomic_table.specs.Table.{Me, Step}
use Rattle.msg_names.specs.declared.value.ClassRef.{ClassRef}
use Rattle.msg_tables.specs.declared.change.Change.{Change}
use Rattle.msg_tables.specs.History.{History, BeginsWith, and_then}
use Rattle.msg_model.specs.declared.state.Standing.{Standing}
use Rattle.msg_model.specs.declared.state.Standing.TheVariants.{Live, Retired}
use Rattle.msg_model.specs.declared.state.Whereabouts.{Whereabouts}
use Rattle.msg_model.specs.declared.state.Whereabouts.TheVariants.{Out}
use Rattle.msg_model.specs.State.{size}
use Rattle.msg_model.specs.Steps.{everyone, seeing, seen_out}
use Rattle.msg_buckets.specs.Word.{sel_of, imp_of}
use Rattle.msg_cache.specs.declared.view.SenderView.{SenderView}
use Rattle.msg_cache.specs.declared.view.TurnAt.{TurnAt}
use Rattle.msg_cache.specs.declared.view.TurnAt.TheVariants.{Never, Away, Home}
use Rattle.msg_cache.specs.declared.view.KeeperView.{KeeperView}
use Rattle.msg_cache.specs.declared.view.View.{View}
use Rattle.msg_cache.specs.declared.view.View.TheVariants.{Sender, Keeper, Turn, Spent}
use Rattle.msg_cache.specs.Layout.{SettingView, header_at}
use Rattle.msg_cache.specs.Rule.{named, IsAccepted}
use Rattle.msg_model.specs.Stamps.{last_affected}

abbrev pub Sat : Type 0
Sat = Me ℕ View

abbrev pub Telling : Type 1
Telling = Step ℕ → Sat → ℕ → Sat → Type 0

-- ---- what is said where a seat has no such view

abbrev pub no_history : History
no_history = record { origin = record { superclasses = []; made = 0; lists = []; counts = None; limits = record { rows = 0; changes = 0; senders = 0; words = 0 } }; changes = [] }

-- a class reference
abbrev pub no_class : ClassRef
no_class = record { class = 0; meta = false }

abbrev pub nobody : SenderView
nobody = record { number = 0; front = no_history; whereabouts = Out; count = 0; looks = 0; stamps = []; last = record { class = no_class; sel = 0; array = None; reads = [] } }

abbrev pub no_keeper : KeeperView
no_keeper = record { history = no_history; words = []; standings = []; given = []; since = []; turn = Never; told = no_history; stores = []; looked_at = [] }

-- a setting
abbrev pub no_setting : SettingView
no_setting = record { origin = no_history.origin; senders = 0; capacities = [] }

-- stamps
abbrev pub no_stamps : List (ClassRef × ℕ)
no_stamps = []

-- changes
abbrev pub no_changes : List Change
no_changes = []

abbrev pub sender_of : View → SenderView
sender_of (Sender v) = v
sender_of (Keeper k) = nobody
sender_of (Turn h) = nobody
sender_of Spent = nobody

-- the keeper's view of a seat
abbrev pub keeper_of : View → KeeperView
keeper_of (Keeper k) = k
keeper_of (Sender v) = no_keeper
keeper_of (Turn h) = no_keeper
keeper_of Spent = no_keeper

abbrev pub turn_of : View → History
turn_of (Turn h) = h
turn_of (Keeper k) = no_history
turn_of (Sender v) = no_history
turn_of Spent = no_history

-- ---- a sender's views

-- it has seen the word n in the header of c, when it looked for s
abbrev pub headed : ClassRef → ℕ → History → SenderView → ℕ → SenderView
headed c s g v n = record { number = v.number; front = g; whereabouts = seeing c (named n); count = v.count + 1; looks = v.looks; stamps = v.stamps; last = record { class = c; sel = s; array = named n; reads = [] } }

-- it has read n in the word i
abbrev pub read_on : History → SenderView → ℕ → ℕ → SenderView
read_on g v i n =
    record { number = v.number; front = g; whereabouts = v.whereabouts; count = v.count; looks = v.looks; stamps = v.stamps; last = record { class = v.last.class; sel = v.last.sel; array = v.last.array; reads = v.last.reads ++ (i, n) ∷ [] } }

abbrev pub gone_to : SenderView → History → Whereabouts → SenderView
gone_to v g p = record { number = v.number; front = g; whereabouts = p; count = v.count; looks = v.looks; stamps = v.stamps; last = v.last }

-- it has loaded the count of changes, and seen this history
abbrev pub told_to : SenderView → History → SenderView
told_to v g = record { number = v.number; front = g; whereabouts = v.whereabouts; count = v.count; looks = v.looks + 1; stamps = v.stamps; last = v.last }

-- it has loaded a stamp of the class reference, which was n, and seen this history
abbrev pub stamped_to : SenderView → History → ClassRef → ℕ → SenderView
stamped_to v g c n = record { number = v.number; front = g; whereabouts = v.whereabouts; count = v.count; looks = v.looks; stamps = (c, n) ∷ v.stamps; last = v.last }

-- a sender that was just given out, and the stamps that it is said to have loaded
abbrev pub newcomer_with : ℕ → List (ClassRef × ℕ) → History → SenderView
newcomer_with n stamps h = record { number = n; front = h; whereabouts = Out; count = 0; looks = 0; stamps = stamps; last = record { class = no_class; sel = 0; array = None; reads = [] } }

-- a sender that was just given out, which has loaded none
abbrev pub newcomer : ℕ → History → SenderView
newcomer n h = newcomer_with n [] h

-- the same sender, given out again at this history: it still says which stamps it has loaded
abbrev pub renewed : SenderView → History → SenderView
renewed v h = newcomer_with v.number v.stamps h

-- ---- what a sender learns from its steps

abbrev pub seated : SenderView → Sat
seated v = (Sender v, [])

-- for a class reference and a selector, in a table of this number of arrays, the word n was found
pub record SawHeader (arrays : ℕ) (c : ClassRef) (s n : ℕ) (v : SenderView) (m' : Sat) : Type 0 where
  pub front : History
  pub seat : m' ≡ seated (headed c s front v n)
  pub begins : BeginsWith front v.front
  pub accepted : IsAccepted front
  pub among : n ≤ arrays

-- what is learnt from a header load
abbrev pub Headed : ℕ → ClassRef → ℕ → Telling
Headed arrays c s st m n m' = SawHeader arrays c s n (sender_of m.0) m'

-- the word i was n
pub record SawWord (look : History → ClassRef → ℕ → ℕ) (i n : ℕ) (v : SenderView) (m' : Sat) : Type 0 where
  pub front : History
  pub seat : m' ≡ seated (read_on front v i n)
  pub begins : BeginsWith front v.front
  pub accepted : IsAccepted front
  pub hit : sel_of n ≡ v.last.sel → imp_of n ≡ look front v.last.class v.last.sel
  pub miss : sel_of n ≢ v.last.sel → front ≡ v.front

-- what is learnt from a bucket load: the word is the entry of a lookup, or not of the selector
abbrev pub Reads : (History → ClassRef → ℕ → ℕ) → Telling
Reads look st m n m' = SawWord look st.word n (sender_of m.0) m'

pub record SawVersion (n : ℕ) (v : SenderView) (m' : Sat) : Type 0 where
  pub front : History
  pub seat : m' ≡ seated (told_to v front)
  pub begins : BeginsWith front v.front
  pub accepted : IsAccepted front
  pub length_is : size front ≡ n

-- the stamp of a class reference was n: no change after so many has affected it
pub record SawStamp (c : ClassRef) (n : ℕ) (v : SenderView) (m' : Sat) : Type 0 where
  pub front : History
  pub seat : m' ≡ seated (stamped_to v front c n)
  pub begins : BeginsWith front v.front
  pub accepted : IsAccepted front
  pub since : last_affected front c ≤ n

-- what is learnt from a load of a stamp
abbrev pub Stamped : ClassRef → Telling
Stamped c st m n m' = SawStamp c n (sender_of m.0) m'

-- what is learnt from a load of the count of changes
abbrev pub Published : Telling
Published st m n m' = SawVersion n (sender_of m.0) m'

-- the sender is then in, or out
abbrev pub Goes : Whereabouts → Telling
Goes p st m n m' = m' ≡ seated (gone_to (sender_of m.0) (sender_of m.0).front p)

-- ---- the keeper's views

-- one word stored
abbrev pub stored : ℕ → ℕ → KeeperView → KeeperView
stored i w k = record k { words = slice_set k.words i w; stores = k.stores ++ (i, w) ∷ [] }

-- an array, if there is one, is retired from the class reference and awaits all senders
abbrev pub retire : ClassRef → Option ℕ → KeeperView → List Standing
retire c None k = k.standings
retire c (Some a) k = slice_set k.standings a (Retired c (size k.history) (everyone (length k.given)))

-- the header word of a class reference is 0, and its array is retired
abbrev pub flushed : ClassRef → KeeperView → KeeperView
flushed c k = record k { words = slice_set k.words (header_at c) 0; standings = retire c (named (slice_index k.words (header_at c))) k; stores = k.stores ++ (header_at c, 0) ∷ [] }

abbrev pub installed : ClassRef → ℕ → KeeperView → KeeperView
installed c a k = record k { words = slice_set k.words (header_at c) (suc a); standings = slice_set (retire c (named (slice_index k.words (header_at c))) k) a (Live c); stores = k.stores ++ (header_at c, suc a) ∷ [] }

-- the history is longer by changes that are made as one, and word 0 counts them
abbrev pub committed : List Change → KeeperView → KeeperView
committed xs k = record k { history = and_then k.history xs; words = slice_set k.words 0 (size k.history + 1); turn = Home (and_then k.history xs); stores = k.stores ++ (0, size k.history + 1) ∷ [] }

-- a sender number was looked at, and its sender is out or not
abbrev pub looked : ℕ → Bool → KeeperView → KeeperView
looked n out k = record k { standings = if out then map (seen_out n) k.standings else k.standings; looked_at = k.looked_at ++ n ∷ [] }

-- the same for this number of sender numbers, from one on, which are all out
abbrev pub rest_looked : ℕ → ℕ → KeeperView → KeeperView
rest_looked n zero k = k
rest_looked n (suc d) k = looked (n + d) true (rest_looked n d k)

-- a sender number is out, and the number of changes is noted
abbrev pub given_out : ℕ → KeeperView → KeeperView
given_out n k = record k { given = slice_set k.given n true; since = (n, size k.history) ∷ k.since }

-- a sender is back, and what it had seen is known
abbrev pub taken_in : SenderView → KeeperView → KeeperView
taken_in v k = record k { given = slice_set k.given v.number false; told = v.front }

-- a sender is back, and its number is out again
abbrev pub given_again : SenderView → KeeperView → KeeperView
given_again v k = given_out v.number (taken_in v k)

abbrev pub at_home : History → KeeperView → KeeperView
at_home g k = record k { turn = Home g }

-- the turn is away
abbrev pub lent : KeeperView → KeeperView
lent k = record k { turn = Away }

-- ---- what the keeper learns from its steps

-- a keeper's seat, which has no other views
abbrev pub kept : KeeperView → Sat
kept k = (Keeper k, [])

-- what a joined sender had seen is a beginning of the history, and a joined turn's history is the
-- history
abbrev pub IsTold : KeeperView → Type 0
IsTold k = BeginsWith k.history k.told × ((g : History) → k.turn ≡ Home g → g ≡ k.history)

-- one word is stored
abbrev pub Stores : Telling
Stores st m n m' = m' ≡ kept (stored st.word st.first (keeper_of m.0))

-- the header word's class reference is flushed
abbrev pub Flushes : Telling
Flushes st m n m' = (c : ClassRef) → st.word ≡ header_at c → m' ≡ kept (flushed c (keeper_of m.0))

-- the array is the live one of the header word's class reference
abbrev pub Installs : Telling
Installs st m n m' = (c : ClassRef) (a : ℕ) → st.word ≡ header_at c → st.first ≡ suc a → m' ≡ kept (installed c a (keeper_of m.0))

-- the changes are committed
abbrev pub Commits : List Change → Telling
Commits xs st m n m' = (m' ≡ kept (committed xs (keeper_of m.0))) × IsTold (keeper_of m.0)

-- the sender number was looked at, and is no longer awaited if its probe word was 0
abbrev pub Looks : ℕ → Telling
Looks i st m n m' = m' ≡ kept (looked i (n == 0) (keeper_of m.0))

-- all sender numbers from one on, below so many, are seen out
abbrev pub RestLooks : ℕ → ℕ → Telling
RestLooks i senders st m n m' = m' ≡ kept (rest_looked i (senders - i) (keeper_of m.0))

-- the keeper's load of the version word changes nothing
abbrev pub Witnesses : Telling
Witnesses st m n m' = (m' ≡ m) × IsTold (keeper_of m.0)

-- ---- splits and joins

-- what a seat knows to which another is joined
abbrev pub joined : View → View → View
joined (Keeper k) (Sender v) = Keeper (taken_in v k)
joined (Keeper k) (Turn g) = Keeper (at_home g k)
joined (Keeper k) (Keeper j) = Keeper k
joined (Keeper k) Spent = Keeper k
joined (Sender v) w = Sender v
joined (Turn g) w = Turn g
joined Spent w = Spent

-- the keeper, once a sender number was given out
abbrev pub split_left : ℕ → View → View
split_left n v = Keeper (given_out n (keeper_of v))

-- and that sender
abbrev pub split_right : ℕ → List (ClassRef × ℕ) → View → View
split_right n stamps v = Sender (newcomer_with n stamps (keeper_of v).history)

-- the keeper, once the turn was lent
abbrev pub lent_left : View → View
lent_left v = Keeper (lent (keeper_of v))

-- and the turn
abbrev pub lent_right : View → View
lent_right v = Turn (keeper_of v).history

-- a list of one view, which is the turn's
abbrev pub turn_in : List View → History
turn_in [] = no_history
turn_in (v ∷ vs) = turn_of v

abbrev pub turn_view : History → View
turn_view h = Turn h

-- or a sender's
abbrev pub sender_in : List View → SenderView
sender_in [] = nobody
sender_in (v ∷ vs) = sender_of v

abbrev pub sender_view : SenderView → View
sender_view v = Sender v

-- the turn was split off at some time
abbrev pub is_lent : TurnAt → Bool
is_lent Never = false
is_lent Away = true
is_lent (Home h) = true
