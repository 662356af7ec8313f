-- What workers answer beside changes, and how sends are distributed.
use Rattle.std.specs.Prelude.{◌≡◌, ℕ, zero, suc, ◌+◌, Bool, true, false, ◌/◌, ◌%◌, ◌<◌, ◌==◌, if◌then◌else◌, List, [], ◌∷◌, ◌++◌, length, min, count_by, slice_index_or}
use Rattle.msg_image.specs.Items.{ItemParts, SendItem}
use Rattle.msg_image.specs.Parts.{ImageParts}
use Rattle.msg_tables.specs.History.{History, BeginsWith}
use Rattle.msg_eval.specs.declared.reply.Reply.{Reply}
use Rattle.msg_eval.specs.Evaluation.{send_of}
use Rattle.msg_eval.specs.Meaning.{Meaning}
use Rattle.msg_eval.specs.Points.{Rise, EndsAfter, last_of}
use Rattle.msg_answers.specs.Serial.{Answer, Replied, Changed, history_after, outcome_at}
use Rattle.msg_answers.specs.Text.{text_of}
use Rattle.msg_answers.specs.declared.outcome.Outcome.{Outcome}

-- whether an item is a send
abbrev pub is_send : ItemParts → Bool
is_send (SendItem r s args) = true
is_send changes = false

-- the sends among items
abbrev pub sends_of : ImageParts → List ItemParts → List Meaning
sends_of image [] = []
sends_of image (SendItem r s args ∷ items) = send_of image r s args ∷ sends_of image items
sends_of image (changes ∷ items) = sends_of image items

-- the history after the changes among items
abbrev pub history_of : History → List ItemParts → History
history_of h [] = h
history_of h (item ∷ items) = history_of (history_after h item) items

-- the outcomes of the changes among items
abbrev pub outcomes_of : History → List ItemParts → List Outcome
outcomes_of h [] = []
outcomes_of h (item ∷ items) = if is_send item then outcomes_of h items else outcome_at h item ∷ outcomes_of (history_after h item) items

-- the answers to items, given those to the sends and to the changes among them
abbrev pub woven : List ItemParts → List Reply → List Outcome → List Answer
woven [] rs os = []
woven (SendItem r s args ∷ items) [] os = woven items [] os
woven (SendItem r s args ∷ items) (reply ∷ rs) os = Replied reply ∷ woven items rs os
woven (changes ∷ items) rs [] = woven items rs []
woven (changes ∷ items) rs (o ∷ os) = Changed o ∷ woven items rs os

-- sends end with these replies at points that rise from one history on, and that another begins
-- with
abbrev pub Served : History → List Meaning → List Reply → History → Type 0
Served h [] [] last = BeginsWith last h
Served h [] (r ∷ rs) last = ⊥
Served h (m ∷ ms) [] last = ⊥
Served h (m ∷ ms) (r ∷ rs) last = (points : List History) × Rise h points × EndsAfter m points r × Served (last_of h points) ms rs last

-- a worker comes to a send: where it is the worker's own a reply was added, and what the sender has
-- seen begins with the last of its points
abbrev pub Goes : Bool → History → Meaning → List Reply → List Reply → History → Type 0
Goes true h m old new now = (r : Reply) × (points : List History) × Rise h points × EndsAfter m points r × BeginsWith now (last_of h points) × (new ≡ old ++ r ∷ [])
Goes false h m old new now = (now ≡ h) × (new ≡ old)

-- the worker of a place: pieces of `cut` places go to the workers in turn
abbrev pub worker_of : ℕ → ℕ → ℕ → ℕ
worker_of cut workers place = (place / cut) % workers

-- how many pieces of `cut` places this number of places make: the whole ones, and one of what is
-- left
abbrev pub pieces_of : ℕ → ℕ → ℕ
pieces_of cut places = places / cut + min 1 (places % cut)

-- the sends among items make this number of pieces of `cut` sends, and so many of the items are
-- changes
abbrev pub HasPieces : ℕ → List ItemParts → ℕ → Type 0
HasPieces cut items pieces = pieces ≡ pieces_of cut (count_by is_send items)

abbrev pub HasChanges : List ItemParts → ℕ → Type 0
HasChanges items changes = changes + count_by is_send items ≡ length items

-- what is at the places from i on that belong to a worker
abbrev pub share_of : {A : Type 0} → (ℕ → ℕ) → ℕ → ℕ → List A → List A
share_of who me i [] = []
share_of who me i (x ∷ xs) = if who i == me then x ∷ share_of who me (i + 1) xs else share_of who me (i + 1) xs

-- how many of the n places from i on belong to a worker
abbrev pub count_of : (ℕ → ℕ) → ℕ → ℕ → ℕ → ℕ
count_of who me i zero = 0
count_of who me i (suc n) = if who i == me then suc (count_of who me (i + 1) n) else count_of who me (i + 1) n

-- a worker's replies among those of all
abbrev pub at_worker : List (List Reply) → ℕ → List Reply
at_worker lists w = slice_index_or lists w []

-- The lines of items were written after what was there, with replies, of which each worker's are
-- its share.
pub record IsGathered (image : ImageParts) (who : ℕ → ℕ) (workers : ℕ) (items : List ItemParts) (lists : List (List Reply)) (outcomes : List Outcome) (old new : List ℕ) : Type 0 where
  pub replies : List Reply
  pub count : length replies ≡ length (sends_of image items)
  pub shares : (w : ℕ) → w < workers → share_of who w 0 replies ≡ at_worker lists w
  pub text : new ≡ old ++ text_of image (woven items replies outcomes)

-- The sends among items were shared out and served, from this history on, while the changes among
-- them were made. Now it's the history after them.
pub record IsServed (image : ImageParts) (who : ℕ → ℕ) (workers : ℕ) (h : History) (items : List ItemParts) (lists : List (List Reply)) (outcomes : List Outcome) (now : History) : Type 0 where
  pub history : now ≡ history_of h items
  pub outcomes_are : outcomes ≡ outcomes_of h items
  pub count : length lists ≡ workers
  pub each : (w : ℕ) → w < workers → (last : History) × Served h (share_of who w 0 (sends_of image items)) (at_worker lists w) last × BeginsWith now last

-- items are sends alone
abbrev pub AllSends : List ItemParts → Type 0
AllSends [] = Unit {0}
AllSends (SendItem r s args ∷ items) = AllSends items
AllSends (changes ∷ items) = ⊥

-- items are one item of changes
abbrev pub IsOneChange : List ItemParts → Type 0
IsOneChange [] = ⊥
IsOneChange (SendItem r s args ∷ items) = ⊥
IsOneChange (changes ∷ items) = items ≡ []

-- Items were answered, and the lines written after what was there. The changes have the answers
-- that they have one after another. The sends that one worker took were answered, in their order,
-- at points that rise from the first history, and are all earlier points of the last.
pub record IsAnswered (image : ImageParts) (who : ℕ → ℕ) (workers : ℕ) (h : History) (items : List ItemParts) (old new : List ℕ) : Type 0 where
  pub replies : List Reply
  pub count : length replies ≡ length (sends_of image items)
  pub text : new ≡ old ++ text_of image (woven items replies (outcomes_of h items))
  pub points : (w : ℕ) → w < workers → (last : History) × Served h (share_of who w 0 (sends_of image items)) (share_of who w 0 replies) last × BeginsWith (history_of h items) last

-- this number of workers answered the items: the piece k of `cut` sends is that of the worker k mod
-- workers
abbrev pub AreAnswered : ImageParts → ℕ → ℕ → History → List ItemParts → List ℕ → List ℕ → Type 0
AreAnswered image workers cut h items old new = IsAnswered image (worker_of cut workers) workers h items old new
