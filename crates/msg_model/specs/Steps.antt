-- The events: when each is refused, what it does, and what it returns.
use Rattle.std.specs.Prelude.{◌≡◌, ℕ, zero, suc, ◌-◌, ◌==◌, ◌||◌, ◌&&◌, not, nat_le, List, [], ◌∷◌, ◌++◌, length, replicate, slice_set, Bool, true, false, Option, Some, None, is_none, option_map, if◌then◌else◌}
use Rattle.std.specs.List.{list_any}
use Rattle.msg_names.specs.declared.value.ClassRef.{ClassRef}
use Rattle.msg_buckets.specs.Word.{sel_of, imp_of}
use Rattle.msg_tables.specs.declared.change.Change.{Change}
use Rattle.msg_names.specs.ClassRef.{same_class}
use Rattle.msg_tables.specs.History.{History, and_then, log}
use Rattle.msg_tables.specs.Several.{refusal_of_all}
use Rattle.msg_model.specs.Event.{Event, Enter, Header, Read, Leave, Fill, Install, Flush, Look, Clear, Commit}
use Rattle.msg_model.specs.declared.event.Seen.{Seen}
use Rattle.msg_model.specs.declared.event.Seen.TheVariants.{Nothing, Array, Word, Out as SeenOut}
use Rattle.msg_model.specs.declared.fault.EventFault.{EventFault}
use Rattle.msg_model.specs.declared.fault.EventFault.TheVariants.{NoSender, NoClass, NoArray, NotOut, NotIn, NotHolding, NotLive, NoPlace, NotFree, NotEmpty, Refused, Disagrees}
use Rattle.msg_model.specs.declared.state.Standing.{Standing}
use Rattle.msg_model.specs.declared.state.Standing.TheVariants.{Free, Live, Retired}
use Rattle.msg_tables.specs.declared.limits.TheConstants.{MOST_SENDERS}
use Rattle.msg_model.specs.declared.state.Whereabouts.{Whereabouts}
use Rattle.msg_model.specs.declared.state.Whereabouts.TheVariants.{Out, In, Holding}
use Rattle.msg_model.specs.State.{Layout, capacity, State, size}

-- ---- what an event does

-- f, but x at n
abbrev pub at : {A : Type 0} → (ℕ → A) → ℕ → A → (ℕ → A)
at f n x m = if m == n then x else f m

abbrev pub at_class : {A : Type 0} → (ClassRef → A) → ClassRef → A → (ClassRef → A)
at_class f c x d = if same_class d c then x else f d

-- the set of all senders
abbrev pub everyone : ℕ → List Bool
everyone senders = replicate senders true ++ replicate (MOST_SENDERS - senders) false

-- the position of a sender that has seen this array of a class reference, or none
abbrev pub seeing : ClassRef → Option ℕ → Whereabouts
seeing c None = In
seeing c (Some a) = Holding c a

-- a word is stored in this array, if there is one
abbrev pub stored : (ℕ → ℕ → ℕ) → Option ℕ → ℕ → ℕ → (ℕ → ℕ → ℕ)
stored words None p word = words
stored words (Some a) p word = at words a (at (words a) p word)

-- this array, if there is one, is retired from the class reference and awaits all senders
abbrev pub retired : Layout → State → ClassRef → Option ℕ → (ℕ → Standing)
retired z m c None = m.standing
retired z m c (Some a) = at m.standing a (Retired c (size m.history) (everyone z.senders))

-- the standing of an array that awaits these senders: free, if it awaits none
abbrev pub awaiting : ClassRef → ℕ → List Bool → Standing
awaiting c r awaited = if list_any (λ b. b) awaited then Retired c r awaited else Free

-- the standing of an array after a sender was seen out
abbrev pub seen_out : ℕ → Standing → Standing
seen_out n Free = Free
seen_out n (Live c) = Live c
seen_out n (Retired c r awaited) = awaiting c r (slice_set awaited n false)

abbrev pub is_out : Whereabouts → Bool
is_out Out = true
is_out In = false
is_out (Holding c a) = false

-- the state after an event
abbrev pub after : Layout → State → Event → State
after z m (Enter n) = record m { whereabouts = at m.whereabouts n In }
after z m (Header n c) = record m { whereabouts = at m.whereabouts n (seeing c (m.live c)) }
after z m (Read n p) = m
after z m (Leave n) = record m { whereabouts = at m.whereabouts n Out }
after z m (Fill c p word) = record m { word = stored m.word (m.live c) p word }
after z m (Install c a) = record m { live = at_class m.live c (Some a); standing = at (retired z m c (m.live c)) a (Live c) }
after z m (Flush c) = record m { live = at_class m.live c None; standing = retired z m c (m.live c) }
after z m (Look n) = record m { standing = if is_out (m.whereabouts n) then (λ a. seen_out n (m.standing a)) else m.standing }
after z m (Clear a p) = record m { word = stored m.word (Some a) p 0 }
after z m (Commit xs) = record m { history = and_then m.history xs }

-- ---- one part of the state changed

-- where a sender is
abbrev pub sender_put : ℕ → Whereabouts → State → State
sender_put n whereabouts m = record m { whereabouts = at m.whereabouts n whereabouts }

-- the live array of a class reference
abbrev pub live_put : ClassRef → Option ℕ → State → State
live_put c array m = record m { live = at_class m.live c array }

-- what an array is for
abbrev pub standing_put : ℕ → Standing → State → State
standing_put a standing m = record m { standing = at m.standing a standing }

-- a word of an array
abbrev pub word_put : ℕ → ℕ → ℕ → State → State
word_put a p word m = record m { word = stored m.word (Some a) p word }

-- the live array of a class reference, if there is one, is retired
abbrev pub live_retired : Layout → ClassRef → State → State
live_retired z c m = record m { standing = retired z m c (m.live c) }

-- no array awaits the sender
abbrev pub all_seen_out : ℕ → State → State
all_seen_out n m = record m { standing = λ a. seen_out n (m.standing a) }

-- ---- what an event returns

-- the word at a place of the array that is held
abbrev pub held_word : (ℕ → ℕ → ℕ) → Whereabouts → ℕ → ℕ
held_word words Out p = 0
held_word words In p = 0
held_word words (Holding c a) p = words a p

-- what the one who makes an event sees
abbrev pub shows : State → Event → Seen
shows m (Header n c) = Array (m.live c)
shows m (Read n p) = Word (held_word m.word (m.whereabouts n) p)
shows m (Look n) = SeenOut (is_out (m.whereabouts n))
shows m (Enter n) = Nothing
shows m (Leave n) = Nothing
shows m (Fill c p word) = Nothing
shows m (Install c a) = Nothing
shows m (Flush c) = Nothing
shows m (Clear a p) = Nothing
shows m (Commit xs) = Nothing

-- ---- when it is refused

-- the fault, if its condition holds
abbrev pub when : Bool → EventFault → Option EventFault
when b f = if b then Some f else None

-- the first of the faults, in their order, that is there
abbrev pub least_event_fault : List (Option EventFault) → Option EventFault
least_event_fault [] = None
least_event_fault (None ∷ fs) = least_event_fault fs
least_event_fault (Some f ∷ fs) = Some f

abbrev pub is_in : Whereabouts → Bool
is_in Out = false
is_in In = true
is_in (Holding c a) = false

-- the number of words of the array that is held, if one is
abbrev pub held_capacity : Layout → Whereabouts → Option ℕ
held_capacity z Out = None
held_capacity z In = None
held_capacity z (Holding c a) = Some (capacity z a)

-- the place is past the end of an array with this number of words, if there is one
abbrev pub is_past : ℕ → Option ℕ → Bool
is_past p None = false
is_past p (Some words) = nat_le words p

-- nobody holds the array, and no class reference has it
abbrev pub is_free : Standing → Bool
is_free Free = true
is_free (Live c) = false
is_free (Retired c r awaited) = false

-- some number below n passes the test
abbrev pub some_below : ℕ → (ℕ → Bool) → Bool
some_below zero test = false
some_below (suc n) test = some_below n test || test n

-- the word isn't 0
abbrev pub is_entry : ℕ → Bool
is_entry word = not (word == 0)

-- the word in this array, if there is one, isn't 0
abbrev pub is_entry_in : (ℕ → ℕ → ℕ) → Option ℕ → ℕ → Bool
is_entry_in words None p = false
is_entry_in words (Some a) p = is_entry (words a p)

-- the word has no selector, or its implementation is not the one that is looked up for it
abbrev pub disagrees : (ClassRef → ℕ → ℕ) → ClassRef → ℕ → Bool
disagrees look c word = sel_of word == 0 || not (imp_of word == look c (sel_of word))

-- a word is an entry that disagrees
abbrev pub is_spoiled_entry : (ClassRef → ℕ → ℕ) → ClassRef → ℕ → Bool
is_spoiled_entry look c word = is_entry word && disagrees look c word

-- some entry of an array, if it is live, disagrees
abbrev pub is_spoiled : (ClassRef → ℕ → ℕ) → ℕ → (ℕ → ℕ) → Standing → Bool
is_spoiled look words word Free = false
is_spoiled look words word (Live c) = some_below words (λ p. is_spoiled_entry look c (word p))
is_spoiled look words word (Retired c r awaited) = false

module _ (look : History → ClassRef → ℕ → ℕ) (z : Layout) (m : State) where
  abbrev pub no_sender : ℕ → Option EventFault
  no_sender n = when (nat_le z.senders n) NoSender

  abbrev pub no_class : ClassRef → Option EventFault
  no_class c = when (nat_le z.classes c.class) NoClass

  abbrev pub no_array : ℕ → Option EventFault
  no_array a = when (nat_le (length z.capacities) a) NoArray

  abbrev pub not_out : ℕ → Option EventFault
  not_out n = when (not (is_out (m.whereabouts n))) NotOut

  abbrev pub not_free : ℕ → Option EventFault
  not_free a = when (not (is_free (m.standing a))) NotFree

  abbrev pub not_live : ClassRef → Option EventFault
  not_live c = when (is_none (m.live c)) NotLive

  abbrev pub no_place : ℕ → Option ℕ → Option EventFault
  no_place p words = when (is_past p words) NoPlace

  -- an array has an entry
  abbrev pub has_entry : ℕ → Bool
  has_entry a = some_below (capacity z a) (λ p. is_entry (m.word a p))

  -- an array is live, and has a word that would not agree with the method lists after the changes
  abbrev pub spoils_array : List Change → ℕ → Bool
  spoils_array xs a = is_spoiled (look (and_then m.history xs)) (capacity z a) (m.word a) (m.standing a)

  -- some live array has a word that would not agree with the method lists after the changes
  abbrev pub spoils : List Change → Bool
  spoils xs = some_below (length z.capacities) (spoils_array xs)

  -- the conditions under which an event is refused, in the order of the faults
  abbrev pub conditions : Event → List (Option EventFault)
  conditions (Enter n) = no_sender n ∷ not_out n ∷ []
  conditions (Header n c) = no_sender n ∷ no_class c ∷ when (not (is_in (m.whereabouts n))) NotIn ∷ []
  conditions (Read n p) = no_sender n ∷ when (is_none (held_capacity z (m.whereabouts n))) NotHolding ∷ no_place p (held_capacity z (m.whereabouts n)) ∷ []
  conditions (Leave n) = no_sender n ∷ when (is_out (m.whereabouts n)) NotIn ∷ []
  conditions (Fill c p word) = no_class c ∷ not_live c ∷ no_place p (option_map (capacity z) (m.live c))
      ∷ when (is_entry_in m.word (m.live c) p) NotEmpty ∷ when (disagrees (look m.history) c word) Disagrees ∷ []
  conditions (Install c a) = no_class c ∷ no_array a ∷ not_free a ∷ when (has_entry a) NotEmpty ∷ []
  conditions (Flush c) = no_class c ∷ not_live c ∷ []
  conditions (Look n) = no_sender n ∷ []
  conditions (Clear a p) = no_array a ∷ no_place p (Some (capacity z a)) ∷ not_free a ∷ []
  conditions (Commit xs) = option_map Refused (refusal_of_all (log m.history) xs) ∷ when (spoils xs) Disagrees ∷ []

  -- the least fault for which an event is refused
  abbrev pub event_refusal : Event → Option EventFault
  event_refusal e = least_event_fault (conditions e)

  -- the event is not refused
  abbrev pub Legal : Event → Type 0
  Legal e = event_refusal e ≡ None
