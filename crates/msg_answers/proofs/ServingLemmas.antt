-- What workers serve.
use Rattle.std.proofs.Common.{◌≡◌, ◌≢◌, ◌<◌, ◌+◌, ℕ, zero, suc, Bool, true, false, cond, Result, Ok, Err, List, [], ◌∷◌, ◌++◌, map, length, refl, sym, ap, ◌∙◌, subst, append_assoc, arith}
use Rattle.std.specs.Prelude.{All, ◌==◌, IfOk, MatchResult}
use Rattle.std.proofs.lemmas.List.{append-nil}
use mathlib.Core.Logic.{dite}
use native.Mathlib.Decide.{ℕ_discrete}
use Rattle.msg_names.specs.declared.value.Selector.{Selector}
use Rattle.msg_names.specs.declared.value.Value.{Value}
use Rattle.msg_image.specs.declared.change.Item.{Item}
use Rattle.msg_image.specs.declared.change.Item.TheVariants as items
use Rattle.msg_image.specs.Plain.{item_parts}
use Rattle.msg_image.specs.Sound.{IsSoundItem}
use Rattle.msg_eval.specs.Evaluation.{send_of}
use Rattle.msg_image.specs.Items.{ItemParts, SendItem}
use Rattle.msg_image.specs.Opened.{origin_of}
use Rattle.msg_image.specs.Parts.{ImageParts}
use Rattle.msg_tables.specs.History.{History, BeginsWith}
use Rattle.msg_tables.proofs.BeginsLemmas.{begins_refl, begins_trans}
use Rattle.msg_eval.specs.declared.reply.Reply.{Reply}
use Rattle.msg_eval.specs.Meaning.{Meaning}
use Rattle.msg_eval.specs.Points.{Rise, last_of}
use Rattle.msg_answers.specs.Serving.{Goes, Served, is_send, share_of, sends_of, at_worker}

-- points that rise from a later history rise from an earlier one
pub rise_from : (h k : History) (points : List History) → BeginsWith k h → Rise k points → Rise h points × BeginsWith (last_of k points) (last_of h points)
rise_from h k [] begins rise = (tt, begins)
rise_from h k (p ∷ ps) begins rise = ((begins_trans p k h rise.0 begins, rise.1), begins_refl (last_of p ps))

-- what was served from a later history on was served from an earlier one on
pub served_from : (h k : History) (ms : List Meaning) (rs : List Reply) (last : History) → BeginsWith k h → Served k ms rs last → Served h ms rs last
served_from h k [] [] last begins s = begins_trans last k h s begins
served_from h k [] (r ∷ rs) last begins s = absurd s
served_from h k (m ∷ ms) [] last begins s = absurd s
served_from h k (m ∷ ms) (r ∷ rs) last begins (points, rise, ends, more) =
    let (low, high) = rise_from h k points begins rise in
    (points, low, ends, served_from (last_of h points) (last_of k points) ms rs last high more)

-- what was served from a place on is served from the start
abbrev pub Serves : History → List Meaning → List Reply → History → List Meaning → Type 0
Serves h0 start done h left = (later : List Reply) (last : History) → Served h left later last → Served h0 start (done ++ later) last

pub serve_step : (h0 : History) (start : List Meaning) (b : Bool) (h now : History) (m : Meaning) (left : List Meaning) (old new : List Reply)
    → Goes b h m old new now → ((later : List Reply) (last : History) → Served h (cond b (m ∷ left) left) later last → Served h0 start (old ++ later) last)
    → (later : List Reply) (last : History) → Served now left later last → Served h0 start (new ++ later) last
serve_step h0 start true h now m left old new (r, points, rise, ends, is, grown) so_far later last s =
    let more = so_far (r ∷ later) last (points, rise, ends, served_from (last_of h points) now left later last is s) in
    subst (λ done. Served h0 start done last) (sym (append_assoc old (r ∷ []) later) ∙ ap (λ done. done ++ later) (sym grown)) more
serve_step h0 start false h now m left old new (is, grown) so_far later last s =
    subst (λ done. Served h0 start (done ++ later) last) (sym grown) (so_far later last (subst (λ g. Served g left later last) is s))

pub all_head : (P : ItemParts → Type 0) (x : ItemParts) (xs : List ItemParts) → All P (x ∷ xs) → P x
all_head P x xs all = all 0 x (omega arith)

pub all_tail : (P : ItemParts → Type 0) (x : ItemParts) (xs : List ItemParts) → All P (x ∷ xs) → All P xs
all_tail P x xs all = λ i y lt. all (suc i) y (omega (arith, lt))

-- what isn't a send, as code that looks at an item sees it
pub not_a_send : (item : Item) → ((r : Value) (s : Selector) (args : _) → item ≢ items.Send r s args) → is_send (item_parts item) ≡ false
not_a_send (items.Send r s args) other = absurd (other r s args refl)
not_a_send (items.Change x) other = refl
not_a_send (items.ChangeAll xs) other = refl

-- a worker is at a place, with these items left, and with these replies done
pub record IsServing (image : ImageParts) (who : ℕ → ℕ) (me : ℕ) (h0 : History) (start : List Meaning) (h : History) (place : ℕ) (rest : List ItemParts) (done : List Reply) : Type 0 where
  pub same : h.origin ≡ origin_of image
  pub sound : All (IsSoundItem image) rest
  pub serves : Serves h0 start done h (share_of who me place (sends_of image rest))

module _ (image : ImageParts) (who : ℕ → ℕ) (me : ℕ) (h0 : History) (start : List Meaning) where
  pub serving_here : (h : History) (place : ℕ) (rest : List Item) (done : List Reply) (item : Item) (x : ItemParts) (later : List Item) → IsServing image who me h0 start h place (map item_parts rest) done → rest ≡ item ∷ later → item_parts item ≡ x
      → IsServing image who me h0 start h place (x ∷ map item_parts later) done
  serving_here h place rest done item x later so_far is item_is = subst (λ xs. IsServing image who me h0 start h place xs done) (ap (map item_parts) is ∙ ap (λ y. y ∷ map item_parts later) item_is) so_far

  pub serving_send : (h now : History) (place : ℕ) (done more : List Reply) (r : Value) (s : Selector) (args : List Value) (later : List ItemParts)
      → IsServing image who me h0 start h place (SendItem r s args ∷ later) done → now.origin ≡ origin_of image → Goes (who place == me) h (send_of image r s args) done more now
      → IsServing image who me h0 start now (place + 1) later more
  serving_send h now place done more r s args later so_far same goes = record {
    same = same;
    sound = all_tail (IsSoundItem image) (SendItem r s args) later so_far.sound;
    serves = serve_step h0 start (who place == me) h now (send_of image r s args) (share_of who me (place + 1) (sends_of image later)) done more goes so_far.serves;
  }

  pub serving_changes : (h : History) (place : ℕ) (done : List Reply) (p : ItemParts) (later : List ItemParts) → is_send p ≡ false → IsServing image who me h0 start h place (p ∷ later) done → IsServing image who me h0 start h place later done
  serving_changes h place done (SendItem r s args) later not_send so_far = absurd (cc not_send)
  serving_changes h place done changes later not_send so_far = record {
    same = so_far.same;
    sound = all_tail (IsSoundItem image) changes later so_far.sound;
    serves = so_far.serves;
  }

  pub serving_end : (h : History) (place : ℕ) (rest : List Item) (done : List Reply) → IsServing image who me h0 start h place (map item_parts rest) done → rest ≡ [] → Served h0 start done h
  serving_end h place rest done so_far none =
      let ended = subst (λ xs. IsServing image who me h0 start h place (map item_parts xs) done) none so_far in
      subst (λ z. Served h0 start z h) (append-nil done) (ended.serves [] h (begins_refl h))

-- a worker before the first place
pub serving_start : (image : ImageParts) (who : ℕ → ℕ) (me : ℕ) (h : History) (all : List ItemParts) → h.origin ≡ origin_of image → All (IsSoundItem image) all
    → IsServing image who me h (share_of who me 0 (sends_of image all)) h 0 all []
serving_start image who me h all same sound = record { same = same; sound = sound; serves = λ later last s. s }

pub map_snoc : {A B : Type 0} (f : A → B) (xs : List A) (y : A) → map f (xs ++ y ∷ []) ≡ map f xs ++ f y ∷ []
map_snoc f [] y = refl
map_snoc f (x ∷ xs) y = ap (λ z. f x ∷ z) (map_snoc f xs y)

at_worker_old : (lists : List (List Reply)) (y : List Reply) (w : ℕ) → w < length lists → at_worker (lists ++ y ∷ []) w ≡ at_worker lists w
at_worker_old [] y w lt = absurd (omega (arith, lt))
at_worker_old (x ∷ xs) y zero lt = refl
at_worker_old (x ∷ xs) y (suc w) lt = at_worker_old xs y w (omega (arith, lt))

at_worker_new : (lists : List (List Reply)) (y : List Reply) → at_worker (lists ++ y ∷ []) (length lists) ≡ y
at_worker_new [] y = refl
at_worker_new (x ∷ xs) y = at_worker_new xs y

-- what holds of each worker's replies, and of one more worker's
pub push_worker : (P : ℕ → List Reply → Type 0) (lists : List (List Reply)) (y : List Reply) (n : ℕ) → length lists ≡ n → ((w : ℕ) → w < n → P w (at_worker lists w)) → P n y
    → (w : ℕ) → w < suc n → P w (at_worker (lists ++ y ∷ []) w)
push_worker P lists y n long before last w lt = dite (ℕ_discrete w n)
    (λ (same : w ≡ n). subst (λ k. P k (at_worker (lists ++ y ∷ []) k)) (sym same) (subst (λ k. P k (at_worker (lists ++ y ∷ []) k)) long (subst (λ z. P (length lists) z) (sym (at_worker_new lists y)) (subst (λ k. P k y) (sym long) last))))
    (λ (ne : w ≢ n). let less : w < n = omega (arith, lt, ne) in subst (P w) (sym (at_worker_old lists y w (omega (arith, less, long)))) (before w less))

-- replies that were there were put last
pub share_taken : {A E : Type 0} (r : Result A E) (P : A → Type 0) (old new : List A) → MatchResult r (λ x. new ≡ old ++ x ∷ []) (λ _. ⊥) → IfOk r P → (x : A) × P x × (new ≡ old ++ x ∷ [])
share_taken (Ok x) P old new is kept = (x, kept, is)
share_taken (Err e) P old new is kept = absurd is
