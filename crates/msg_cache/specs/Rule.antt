-- The rule of a table: what its words, the keeper's view and the senders' views have to do with one
-- another, and the state that it shows.
use Rattle.std.specs.Prelude.{◌≡◌, ℕ, zero, suc, ◌+◌, ◌<◌, ◌≤◌, ◌==◌, List, [], ◌∷◌, length, Bool, true, false, nat_lt, Option, Some, None, slice_index, replicate, if◌then◌else◌, All}
use mathlib.Core.Option.{some}
use lib.ListN.{get_elem?}
use Rattle.atomic_table.specs.Table.{State as Table}
use Rattle.msg_names.specs.declared.value.ClassRef.{ClassRef}
use Rattle.msg_tables.specs.Origin.{OriginView}
use Rattle.msg_tables.specs.Origin.{IsSound}
use Rattle.msg_tables.specs.History.{History, BeginsWith, and_then, empty, log}
use Rattle.msg_tables.specs.declared.change.Change.{Change}
use Rattle.msg_tables.specs.Refusal.{IsLog}
use Rattle.msg_tables.specs.Several.{is_affected_by_all}
use Rattle.msg_model.specs.Event.{Event}
use Rattle.msg_model.specs.declared.state.Standing.TheVariants.{Free, Live, Retired}
use Rattle.msg_model.specs.declared.state.Whereabouts.{Whereabouts}
use Rattle.msg_model.specs.declared.state.Whereabouts.TheVariants.{Out, In, Holding}
use Rattle.msg_model.specs.State.{Layout, State, Agrees, capacity, state_from, size, awaits, Sound}
use Rattle.msg_model.specs.Steps.{after, Legal}
use Rattle.msg_model.specs.View.{standing_at}
use Rattle.msg_cache.specs.declared.view.SenderView.{SenderView}
use Rattle.msg_cache.specs.declared.view.TurnAt.TheVariants.{Never, Away, Home}
use Rattle.msg_cache.specs.declared.view.KeeperView.{KeeperView}
use Rattle.msg_cache.specs.declared.view.View.{View}
use Rattle.msg_cache.specs.declared.view.View.TheVariants.{Sender, Keeper, Turn, Spent}
use Rattle.msg_cache.specs.Layout.{SettingView, layout_of, header_at, base, stamp_at, probes, probe_at, word_count}
use Rattle.msg_model.specs.Stamps.{last_affected}

-- ---- the state that is shown

-- a header word is 0, or the number of an array and one
abbrev pub named : ℕ → Option ℕ
named zero = None
named (suc a) = Some a

-- the live array of a class reference, by its header word
abbrev pub live_in : Layout → List ℕ → ClassRef → Option ℕ
live_in z words c = if nat_lt c.class z.classes then named (slice_index words (header_at c)) else None

-- the words of each array
abbrev pub word_in : Layout → List ℕ → ℕ → ℕ → ℕ
word_in z words a p = if nat_lt p (capacity z a) then slice_index words (base z a + p) else 0

-- each word of the array is 0
abbrev pub HasNoEntry : Layout → KeeperView → ℕ → Type 0
HasNoEntry z k a = (q : ℕ) → q < capacity z a → slice_index k.words (base z a + q) ≡ 0

-- no sender number from n on is given out
abbrev pub NoneIsGivenFrom : ℕ → List Bool → Type 0
NoneIsGivenFrom n given = (m : ℕ) → n ≤ m → awaits given m ≡ false

-- the words of live arrays agree with the method lists once these changes are made
abbrev pub LiveWordsAgreeAfter : (History → ClassRef → ℕ → ℕ) → SettingView → KeeperView → List Change → Type 0
LiveWordsAgreeAfter look key k xs = (c : ClassRef) (b q : ℕ) → b < length key.capacities → standing_at k.standings b ≡ Live c → q < capacity (layout_of key) b
    → Agrees (look (and_then k.history xs)) c (word_in (layout_of key) k.words b q)

-- the stamps of all that these changes affect are closed: above any count that was noted
abbrev pub StampsAreClosedFor : SettingView → KeeperView → List Change → Type 0
StampsAreClosedFor key k xs = (c : ClassRef) → c.class < (layout_of key).classes → is_affected_by_all (log k.history) xs c ≡ true → size k.history < slice_index k.words (stamp_at (layout_of key) c)

-- what the keeper's view says, with senders at these places
abbrev pub shown : Layout → KeeperView → (ℕ → Whereabouts) → State
shown z k whereabouts = state_from k.history (live_in z k.words) (word_in z k.words) (standing_at k.standings) whereabouts

-- ---- the rule

-- changes of a sound origin that were accepted one after another, in lists none of which is empty
pub record IsAccepted (h : History) : Type 0 where
  pub origin : IsSound h.origin
  pub changes : IsLog (log h)
  pub some : All (λ xs. 0 < length xs) h.changes

-- how many changes there were when a sender number was given out last, 0 where it never was
abbrev pub since_of : List (ℕ × ℕ) → ℕ → ℕ
since_of [] n = 0
since_of (g ∷ gs) n = if g.0 == n then g.1 else since_of gs n

-- a probe word
abbrev pub in_word : Whereabouts → ℕ
in_word Out = 0
in_word In = 1
in_word (Holding c a) = 1

-- a sender's view, in the seat j
pub record FitsSender (k : KeeperView) (seat : ℕ → ℕ) (whereabouts : ℕ → Whereabouts) (j : ℕ) (v : SenderView) : Type 0 where
  -- no other seat has its number, which was given out
  pub seated : seat v.number ≡ j
  pub given : awaits k.given v.number ≡ true
  pub placed : whereabouts v.number ≡ v.whereabouts
  -- what it has seen is a beginning of the history
  pub begins : BeginsWith k.history v.front
  -- with all changes that there were when its number was given out last
  pub since : since_of k.since v.number ≤ size v.front
  -- and no longer than the history was when the array that it holds was retired
  pub behind : (c : ClassRef) (a r : ℕ) (awaited : List Bool) → v.whereabouts ≡ Holding c a → standing_at k.standings a ≡ Retired c r awaited → size v.front ≤ r

abbrev pub Fits : KeeperView → ℕ → ℕ → (ℕ → ℕ) → (ℕ → Whereabouts) → ℕ → View → Type 0
Fits k chair away seat whereabouts j (Sender v) = FitsSender k seat whereabouts j v
Fits k chair away seat whereabouts j (Keeper k') = (chair ≡ j) × (k ≡ k')
Fits k chair away seat whereabouts j (Turn h) = (away ≡ j) × (k.turn ≡ Away) × (h ≡ k.history)
Fits k chair away seat whereabouts j Spent = Unit {0}

-- the words of the table: the keeper's copies, and the probe words
pub record IsCopied (z : Layout) (k : KeeperView) (whereabouts : ℕ → Whereabouts) (words : List ℕ) : Type 0 where
  pub copied : (i : ℕ) → i < probes z → slice_index words i ≡ slice_index k.words i
  pub probed : (n : ℕ) → n < z.senders → slice_index words (probe_at z n) ≡ in_word (whereabouts n)
  pub count : length words ≡ word_count z

-- the keeper's view by itself
pub record IsKept (z : Layout) (origin : OriginView) (k : KeeperView) : Type 0 where
  pub words : length k.words ≡ probes z
  pub standings : length k.standings ≡ length z.capacities
  pub given : length k.given ≡ z.senders
  -- word 0 counts the changes
  pub version : slice_index k.words 0 ≡ size k.history
  -- since as many changes as a stamp says none has affected its class reference
  pub stamps : (c : ClassRef) → c.class < z.classes → last_affected k.history c ≤ slice_index k.words (stamp_at z c)
  pub begins : BeginsWith k.history (empty origin)
  pub accepted : IsAccepted k.history
  pub told : BeginsWith k.history k.told
  pub home : (h : History) → k.turn ≡ Home h → h ≡ k.history
  pub never : k.turn ≡ Never → k.history ≡ empty origin
  pub some_sender : 0 < z.senders

module _ (look : History → ClassRef → ℕ → ℕ) (z : Layout) (origin : OriginView) where
  pub record Ruled (words : List ℕ) (views : List View) : Type 0 where
    pub keeper : KeeperView
    -- the keeper's seat, the turn's, and each sender's
    pub chair : ℕ
    pub away : ℕ
    pub seat : ℕ → ℕ
    -- where each sender is
    pub whereabouts : ℕ → Whereabouts
    pub kept : IsKept z origin keeper
    pub copies : IsCopied z keeper whereabouts words
    pub sound : Sound look z (shown z keeper whereabouts)
    -- a number that isn't given out is out
    pub outside : (n : ℕ) → awaits keeper.given n ≡ false → whereabouts n ≡ Out
    pub views_fit : (j : ℕ) (v : View) → get_elem? views j ≡ some v → Fits keeper chair away seat whereabouts j v
    -- there is a keeper, and a sender of each number that is given out
    pub chair_is : get_elem? views chair ≡ some (Keeper keeper)
    pub sits : (n : ℕ) → awaits keeper.given n ≡ true → (v : SenderView) × (get_elem? views (seat n) ≡ some (Sender v)) × (v.number ≡ n)

  -- the state that the table shows
  abbrev pub shown_by : {words : List ℕ} {views : List View} → Ruled words views → State
  shown_by r = shown z r.keeper r.whereabouts

  -- the shown state goes by an event, which is not refused
  abbrev pub GoesBy : {words : List ℕ} {views : List View} → Ruled words views → Event → List ℕ → List View → Type 0
  GoesBy r e words' views' = Legal look z (shown_by r) e × ((r' : Ruled words' views') × (shown_by r' ≡ after z (shown_by r) e))

  -- the shown state stays
  abbrev pub Stays : {words : List ℕ} {views : List View} → Ruled words views → List ℕ → List View → Type 0
  Stays r words' views' = (r' : Ruled words' views') × (shown_by r' ≡ shown_by r)

  -- what the rule says of the keeper's view alone: it is sound, wherever senders are
  pub record IsTidy (k : KeeperView) : Type 0 where
    pub kept : IsKept z origin k
    pub sound : Sound look z (shown z k (λ n. Out))

abbrev pub RuledBy : (History → ClassRef → ℕ → ℕ) → SettingView → List ℕ → List View → Type 0
RuledBy look key words views = Ruled look (layout_of key) key.origin words views

-- what the rule says of the keeper's view alone, on a table of this setting
abbrev pub TidyBy : (History → ClassRef → ℕ → ℕ) → SettingView → KeeperView → Type 0
TidyBy look key k = IsTidy look (layout_of key) key.origin k

-- the rule of a table of this setting: it speaks of the words and of the seats' views
abbrev pub holds : (History → ClassRef → ℕ → ℕ) → SettingView → Table ℕ View → Type 0
holds look key s = RuledBy look key s.words s.views

-- the keeper's view when the table is made: no class reference has a live array, no number is given
-- out, and nothing was stored or looked at
abbrev pub first_keeper : SettingView → KeeperView
first_keeper key =
    let z = layout_of key in
    record { history = empty key.origin; words = replicate (probes z) 0; standings = replicate (length z.capacities) Free; given = replicate z.senders false; since = []; turn = Never; told = empty key.origin; stores = []; looked_at = [] }
