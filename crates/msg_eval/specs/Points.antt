-- Replies of a send whose lookups answer at points of a history.
use Rattle.std.specs.Prelude.{◌≡◌, ◌≤◌, ◌↔◌, ℕ, suc, ◌+◌, List, [], ◌∷◌, length, Some, slice_get, take}
use Rattle.msg_names.specs.declared.value.ClassRef.{ClassRef}
use Rattle.msg_names.specs.declared.value.Selector.{Selector}
use Rattle.msg_names.specs.declared.value.Value.{Value}
use Rattle.msg_image.specs.Parts.{ImageParts}
use Rattle.msg_tables.specs.History.{History, log, lookup, BeginsWith}
use Rattle.msg_tables.specs.Stands.{StandsAt}
use Rattle.msg_tables.specs.View.{TablesView}
use Rattle.msg_eval.specs.declared.reply.Reply.{Reply}
use Rattle.msg_eval.specs.Evaluation.{send_of}
use Rattle.msg_eval.specs.Finder.{FindsAt}
use Rattle.msg_eval.specs.Meaning.{Meaning, Ends, Asks}
use Rattle.msg_eval.specs.Step.{RepliesFrom}

-- points that rise from h: each begins with the one before
abbrev pub Rise : History → List History → Type 0
Rise h [] = Unit {0}
Rise h (p ∷ ps) = BeginsWith p h × Rise p ps

-- the last of the points, or h if there are none
abbrev pub last_of : History → List History → History
last_of h [] = h
last_of h (p ∷ ps) = last_of p ps

-- the send ends with the reply where each of its lookups in turn answers at its point
abbrev pub EndsAfter : Meaning → List History → Reply → Type 0
EndsAfter (Ends r) [] reply = r ≡ reply
EndsAfter (Ends r) (p ∷ ps) reply = ⊥
EndsAfter (Asks c s go) [] reply = ⊥
EndsAfter (Asks c s go) (p ∷ ps) reply = EndsAfter (go (lookup p c s)) ps reply

-- the send of a message ends with the reply where its lookups answer at these points
abbrev pub SendAt : ImageParts → Value → Selector → List Value → List History → Reply → Type 0
SendAt image receiver s xs points reply = EndsAfter (send_of image receiver s xs) points reply

-- there are points that rise from one history to another, at which the send ends with the reply
pub record EndsBetween (h now : History) (send : Meaning) (reply : Reply) : Type 0 where
  pub points : List History
  pub rise : Rise h points
  pub ends : EndsAfter send points reply
  pub last : now ≡ last_of h points

-- a send by tables that stay where they are
abbrev pub TablesReply : TablesView → History → Meaning → Reply → Type 0
TablesReply tables h send reply = RepliesFrom FindsAt (λ p. StandsAt tables (log p)) h send reply

-- each send of a message that ends at points has no more of them
abbrev pub EachEndsWithin : ℕ → Type 0
EachEndsWithin most = (image : ImageParts) (receiver : Value) (s : Selector) (xs : List Value) (points : List History) (reply : Reply)
    → SendAt image receiver s xs points reply → length points ≤ most

-- the reply where every lookup answers at h
abbrev pub plain_reply : History → Meaning → Reply
plain_reply h (Ends r) = r
plain_reply h (Asks c s go) = plain_reply h (go (lookup h c s))

-- the reply is that one
abbrev pub IsPlain : History → Meaning → Reply → Type 0
IsPlain h send reply = reply ≡ plain_reply h send

-- each point is h
abbrev pub AllAre : History → List History → Type 0
AllAre h [] = Unit {0}
AllAre h (p ∷ ps) = (p ≡ h) × AllAre h ps

-- with every point h there is one reply and no other
pub record HasOneReply (h : History) (send : Meaning) : Type 0 where
  pub exists : (points : List History) × AllAre h points × EndsAfter send points (plain_reply h send)
  pub only : (points : List History) (reply : Reply) → AllAre h points → EndsAfter send points reply → IsPlain h send reply

-- ---- the same with lists of answers

-- What the answers of a list come to: the reply and how many were used, or the question that comes
-- next.
pub data Outcome : Type 0 where
  Ended : Reply → (used : ℕ) → Outcome
  Asking : ClassRef → ℕ → Outcome

-- a send with the answers of a list, after those that were used
abbrev pub with_answers : Meaning → List ℕ → ℕ → Outcome
with_answers (Ends r) answers used = Ended r used
with_answers (Asks c s go) [] used = Asking c s
with_answers (Asks c s go) (i ∷ is) used = with_answers (go i) is (suc used)

-- There are answers, as many as points: each is the lookup at its point of what is asked after the
-- answers before it, and with all of them the send ends with the reply.
pub record HasAnswersAt (send : Meaning) (used : ℕ) (points : List History) (reply : Reply) : Type 0 where
  pub answers : List ℕ
  pub as_many : length answers ≡ length points
  pub each : (j : ℕ) (p : History) (i : ℕ) → slice_get points j ≡ Some p → slice_get answers j ≡ Some i → (c : ClassRef) × (s : ℕ) × (with_answers send (take j answers) used ≡ Asking c s) × (i ≡ lookup p c s)
  pub ended : with_answers send answers used ≡ Ended reply (used + length answers)

-- at these points the send ends with a reply where there are answers with which it ends so
abbrev pub EndsAsAnswered : Meaning → List History → Type 0
EndsAsAnswered send points = (reply : Reply) → EndsAfter send points reply ↔ HasAnswersAt send 0 points reply
