-- Lists of events.
use Rattle.std.specs.Prelude.{◌≡◌, ◌≢◌, ◌≤◌, ℕ, List, [], ◌∷◌, ◌++◌, None, All}
use Rattle.msg_names.specs.declared.value.ClassRef.{ClassRef}
use Rattle.msg_tables.specs.Origin.{OriginView}
use Rattle.msg_tables.specs.History.{History, empty}
use Rattle.msg_model.specs.Event.{Event, Enter, Header, Read, Leave, Fill, Install, Flush, Look, Clear, Commit}
use Rattle.msg_model.specs.declared.state.Standing.TheVariants.{Free}
use Rattle.msg_model.specs.declared.state.Whereabouts.TheVariants.{Out}
use Rattle.msg_buckets.specs.Word.{sel_of, imp_of}
use Rattle.msg_model.specs.State.{Layout, State, size, first}
use Rattle.msg_model.specs.Steps.{after, Legal}

-- before the first event: no live arrays, all arrays free with words 0, all senders out
abbrev pub opening : OriginView → State
opening origin = record {
  history = empty origin;
  live = λ c. None;
  word = λ a p. 0;
  standing = λ a. Free;
  whereabouts = λ n. Out;
}

-- the state after a list of events
abbrev pub after_all : Layout → State → List Event → State
after_all z m [] = m
after_all z m (e ∷ es) = after_all z (after z m e) es

-- no event is refused at its place
abbrev pub AreLegal : (History → ClassRef → ℕ → ℕ) → Layout → State → List Event → Type 0
AreLegal look z m [] = Unit {0}
AreLegal look z m (e ∷ es) = Legal look z m e × AreLegal look z (after z m e) es

-- the event is no header load of this sender
abbrev pub IsNoHeader : ℕ → Event → Type 0
IsNoHeader n (Header j c) = j ≢ n
IsNoHeader n (Enter j) = Unit {0}
IsNoHeader n (Read j p) = Unit {0}
IsNoHeader n (Leave j) = Unit {0}
IsNoHeader n (Fill c p word) = Unit {0}
IsNoHeader n (Install c a) = Unit {0}
IsNoHeader n (Flush c) = Unit {0}
IsNoHeader n (Look j) = Unit {0}
IsNoHeader n (Clear a p) = Unit {0}
IsNoHeader n (Commit xs) = Unit {0}

-- the event neither flushes the class reference nor gives it another array
abbrev pub LeavesArrayOf : ClassRef → Event → Type 0
LeavesArrayOf c (Install d a) = d ≢ c
LeavesArrayOf c (Flush d) = d ≢ c
LeavesArrayOf c (Enter n) = Unit {0}
LeavesArrayOf c (Header n d) = Unit {0}
LeavesArrayOf c (Read n p) = Unit {0}
LeavesArrayOf c (Leave n) = Unit {0}
LeavesArrayOf c (Fill d p word) = Unit {0}
LeavesArrayOf c (Look n) = Unit {0}
LeavesArrayOf c (Clear a p) = Unit {0}
LeavesArrayOf c (Commit xs) = Unit {0}

-- the sender's last header load in a list of events was of this class reference
abbrev pub HasLoaded : ℕ → ClassRef → List Event → Type 0
HasLoaded n c es = (before : List Event) × (mid : List Event) × (es ≡ before ++ Header n c ∷ mid) × All (IsNoHeader n) mid

-- the word has the implementation that was looked up for its selector at some time since one
-- history and up to another
abbrev pub AgreesBetween : (History → ClassRef → ℕ → ℕ) → ℕ → History → ClassRef → ℕ → Type 0
AgreesBetween look since h c word = (n : ℕ) × (since ≤ n) × (n ≤ size h) × (imp_of word ≡ look (first n h) c (sel_of word))
