-- From what workers served to the answers of one thread.
use Rattle.std.proofs.Common.{◌≡◌, ◌<◌, ◌≤◌, ◌+◌, ◌⊎◌, ℕ, suc, List, [], ◌∷◌, ◌++◌, map, length, refl, sym, ap, ap₂, ◌∙◌, subst, append_assoc, arith, inl, inr}
use Rattle.std.proofs.lemmas.List.{length-map}
use Rattle.msg_image.specs.Items.{ItemParts, SendItem}
use Rattle.msg_image.specs.Parts.{ImageParts}
use Rattle.msg_tables.specs.History.{History, BeginsWith}
use Rattle.msg_eval.specs.declared.reply.Reply.{Reply}
use Rattle.msg_eval.specs.Evaluation.{send_of}
use Rattle.msg_eval.specs.Meaning.{Meaning}
use Rattle.msg_eval.specs.Points.{Rise, last_of, AllAre, plain_reply}
use Rattle.msg_eval.proofs.PointLemmas.{all_one, plain_only}
use Rattle.msg_tables.proofs.BeginsLemmas.{begins_length}
use Rattle.msg_answers.specs.Serial.{Answer, Replied, answer_at, history_after, serial_from}
use Rattle.msg_answers.specs.Serving.{sends_of, history_of, outcomes_of, woven, Served, share_of, count_of, at_worker, IsGathered, IsServed, IsAnswered, AllSends, IsOneChange}
use Rattle.msg_answers.specs.Text.{text_of, answer_line}
use Rattle.msg_answers.specs.declared.outcome.Outcome.{Outcome}
use Rattle.msg_answers.proofs.GatherLemmas.{shares_same, share_count, share_map}

-- ---- points that rise no further

rise_length : (h : History) (points : List History) → Rise h points → length h.changes ≤ length (last_of h points).changes
rise_length h [] rise = omega arith
rise_length h (p ∷ ps) rise = let a = begins_length p h rise.0 in let b = rise_length p ps rise.1 in omega (arith, a, b)

served_length : (h : History) (ms : List Meaning) (rs : List Reply) (last : History) → Served h ms rs last → length h.changes ≤ length last.changes
served_length h [] [] last s = begins_length last h s
served_length h [] (r ∷ rs) last s = absurd s
served_length h (m ∷ ms) [] last s = absurd s
served_length h (m ∷ ms) (r ∷ rs) last (points, rise, ends, more) =
    let a = rise_length h points rise in let b = served_length (last_of h points) ms rs last more in omega (arith, a, b)

last_is : (h p : History) (points : List History) → p ≡ h → AllAre h points → last_of p points ≡ h
last_is h p [] same all = same
last_is h p (q ∷ qs) same all = last_is h q qs all.0 all.1

-- if the last history is no longer, each reply is the one at the first
pub served_plain : (h : History) (ms : List Meaning) (rs : List Reply) (last : History) → Served h ms rs last → BeginsWith h last → rs ≡ map (plain_reply h) ms
served_plain h [] [] last s below = refl
served_plain h [] (r ∷ rs) last s below = absurd s
served_plain h (m ∷ ms) [] last s below = absurd s
served_plain h (m ∷ ms) (r ∷ rs) last (points, rise, ends, more) below =
    let up = served_length (last_of h points) ms rs last more in
    let end = begins_length h last below in
    let all = all_one h points rise (omega (arith, up, end)) in
    let same : last_of h points ≡ h = last_is h h points refl all in
    ap₂ (λ a bs. a ∷ bs) (plain_only h m points r all ends) (served_plain h ms rs last (subst (λ k. Served k ms rs last) same more) below)

served_count : (h : History) (ms : List Meaning) (rs : List Reply) (last : History) → Served h ms rs last → length rs ≡ length ms
served_count h [] [] last s = refl
served_count h [] (r ∷ rs) last s = absurd s
served_count h (m ∷ ms) [] last s = absurd s
served_count h (m ∷ ms) (r ∷ rs) last s = ap suc (served_count (last_of h s.0) ms rs last s.3)

-- ---- what was served and gathered is answered

module _ (image : ImageParts) (who : ℕ → ℕ) (workers : ℕ) (h : History) (items : List ItemParts) (lists : List (List Reply)) (outcomes : List Outcome) (now : History) where
  pub served_counts : IsServed image who workers h items lists outcomes now → (w : ℕ) → w < workers → length (at_worker lists w) ≡ count_of who w 0 (length (sends_of image items))
  served_counts served w below =
      let (last, s, b) = served.each w below in
      served_count h (share_of who w 0 (sends_of image items)) (at_worker lists w) last s ∙ share_count who w 0 (sends_of image items)

  pub answered : (old new : List ℕ) → IsServed image who workers h items lists outcomes now → IsGathered image who workers items lists outcomes old new → IsAnswered image who workers h items old new
  answered old new served gathered = record {
    replies = gathered.replies;
    count = gathered.count;
    text = gathered.text ∙ ap (λ os. old ++ text_of image (woven items gathered.replies os)) served.outcomes_are;
    points = λ w below.
        let (last, s, b) = served.each w below in
        (last, subst (λ rs. Served h (share_of who w 0 (sends_of image items)) rs last) (sym (gathered.shares w below)) s, subst (λ k. BeginsWith k last) served.history b);
  }

-- ---- sends alone, or one item of changes

pub sends_stay : (h : History) (items : List ItemParts) → AllSends items → history_of h items ≡ h
sends_stay h [] all = refl
sends_stay h (SendItem r s args ∷ items) all = sends_stay h items all
sends_stay h (changes ∷ items) all = absurd all

sends_serial : (image : ImageParts) (h : History) (items : List ItemParts) (os : List Outcome) → AllSends items → woven items (map (plain_reply h) (sends_of image items)) os ≡ serial_from image h items
sends_serial image h [] os all = refl
sends_serial image h (SendItem r s args ∷ items) os all = ap (λ zs. Replied (plain_reply h (send_of image r s args)) ∷ zs) (sends_serial image h items os all)
sends_serial image h (changes ∷ items) os all = absurd all

change_serial : (image : ImageParts) (h : History) (items : List ItemParts) (replies : List Reply) → IsOneChange items → length replies ≡ length (sends_of image items) → woven items replies (outcomes_of h items) ≡ serial_from image h items
change_serial image h [] replies one count = absurd one
change_serial image h (SendItem r s args ∷ items) replies one count = absurd one
change_serial image h (changes ∷ []) replies one count = refl
change_serial image h (changes ∷ item ∷ items) replies one count = absurd (cc one)

-- the lines of sends that were answered are those of one thread
pub answers_serial : (image : ImageParts) (who : ℕ → ℕ) (workers : ℕ) (h : History) (items : List ItemParts) (old new : List ℕ) → ((i : ℕ) → who i < workers) → AllSends items ⊎ IsOneChange items
    → IsAnswered image who workers h items old new → new ≡ old ++ text_of image (serial_from image h items)
answers_serial image who workers h items old new few (inl all) a =
    let sends = sends_of image items in
    let each : (w : ℕ) → w < workers → share_of who w 0 a.replies ≡ share_of who w 0 (map (plain_reply h) sends) =
    λ w below. let (last, s, b) = a.points w below in
    served_plain h (share_of who w 0 sends) (share_of who w 0 a.replies) last s (subst (λ k. BeginsWith k last) (sends_stay h items all) b) ∙ sym (share_map (plain_reply h) who w 0 sends) in
    let is : a.replies ≡ map (plain_reply h) sends = shares_same who workers few 0 a.replies (map (plain_reply h) sends) (a.count ∙ sym (length-map sends (plain_reply h))) each in
    a.text ∙ ap (λ rs. old ++ text_of image (woven items rs (outcomes_of h items))) is ∙ ap (λ zs. old ++ text_of image zs) (sends_serial image h items (outcomes_of h items) all)
answers_serial image who workers h items old new few (inr one) a =
    a.text ∙ ap (λ zs. old ++ text_of image zs) (change_serial image h items a.replies one a.count)

-- ---- parts one after another

pub serial_split : (image : ImageParts) (h : History) (xs ys : List ItemParts) → serial_from image h (xs ++ ys) ≡ serial_from image h xs ++ serial_from image (history_of h xs) ys
serial_split image h [] ys = refl
serial_split image h (x ∷ xs) ys = ap (λ zs. answer_at image h x ∷ zs) (serial_split image (history_after h x) xs ys)

pub text_split : (image : ImageParts) (xs ys : List Answer) → text_of image (xs ++ ys) ≡ text_of image xs ++ text_of image ys
text_split image [] ys = refl
text_split image (x ∷ xs) ys = ap (λ t. answer_line image x ++ t) (text_split image xs ys) ∙ sym (append_assoc (answer_line image x) (text_of image xs) (text_of image ys))
