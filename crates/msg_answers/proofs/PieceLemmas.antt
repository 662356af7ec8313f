-- The number of pieces, and whose.
use Rattle.std.proofs.Common.{◌≡◌, ◌≢◌, ◌<◌, ◌≤◌, ◌+◌, ◌-◌, ◌/◌, ◌%◌, ◌⊎◌, ℕ, suc, cond, List, [], ◌∷◌, length, min, refl, sym, ap, ap₂, ◌∙◌, subst, arith, inl, inr}
use Rattle.std.specs.Prelude.{◌==◌, count_by}
use Rattle.std.proofs.Math.Nat.{div-eq_of_lt, mod-eq_of_lt, div-eq-sub-div, mod-eq-sub-mod, mul-le-mul_right, div-lt_iff_lt-mul}
use Rattle.std.proofs.lemmas.Bool.{ne_eqb, cases_lt}
use Rattle.std.proofs.lemmas.Grind.{div_ceil_times}
use Rattle.std.proofs.lemmas.List.Recursion.{is_count_by}
use Rattle.msg_image.specs.Items.{ItemParts, SendItem}
use Rattle.msg_image.specs.Parts.{ImageParts}
use Rattle.msg_tables.specs.History.{History, BeginsWith}
use Rattle.msg_tables.specs.declared.change.Change.{Change}
use Rattle.msg_tables.proofs.BeginsLemmas.{begins_refl, begins_next, begins_trans}
use Rattle.msg_answers.specs.Serial.{changes_in, history_after, longer_by, outcome_at}
use Rattle.msg_answers.specs.Serving.{AllSends, IsAnswered, AreAnswered, Served, history_of, is_send, pieces_of, sends_of, share_of, worker_of}
use Rattle.msg_answers.specs.declared.outcome.Outcome.{Outcome}
use Rattle.msg_answers.specs.declared.outcome.Outcome.TheVariants.{Made, Refused, RefusedAt}

-- ---- how many

-- a piece is of `cut` places, or of all that are left
pub pieces_step : (cut n : ℕ) → 0 < cut → 0 < n → pieces_of cut n ≡ 1 + pieces_of cut (n - min n cut)
pieces_step cut n some more = elim (cases_lt n cut) [
  | inl short ↦
      let d : n / cut ≡ 0 = div-eq_of_lt short in
      let m : n % cut ≡ n = mod-eq_of_lt short in
      let left : n - min n cut ≡ 0 = omega (arith, short) in
      let none : pieces_of cut (n - min n cut) ≡ 0 = ap (pieces_of cut) left ∙ ap₂ (λ q r. q + min 1 r) (div-eq_of_lt some) (mod-eq_of_lt some) in
      omega (arith, d, m, none, more)
  | inr long ↦
      let d : n / cut ≡ (n - cut) / cut + 1 = div-eq-sub-div some long in
      let m : n % cut ≡ (n - cut) % cut = mod-eq-sub-mod long in
      let left : n - min n cut ≡ n - cut = omega (arith, long) in
      let rest : pieces_of cut (n - min n cut) ≡ pieces_of cut (n - cut) = ap (pieces_of cut) left in
      ap₂ (λ q r. q + min 1 r) d m ∙ omega (arith, rest)
]

-- ---- how many are sends

pub send_count : (image : ImageParts) (items : List ItemParts) → length (sends_of image items) ≡ count_by is_send items
send_count image items = is_count_by (λ xs. length (sends_of image xs)) is_send refl step items
  where
    step : (x : ItemParts) (xs : List ItemParts) → length (sends_of image (x ∷ xs)) ≡ cond (is_send x) (1 + length (sends_of image xs)) (length (sends_of image xs))
    step (SendItem r s args) xs = omega arith
    step changes xs = refl

sends_length : (image : ImageParts) (items : List ItemParts) → AllSends items → length (sends_of image items) ≡ length items
sends_length image [] all = refl
sends_length image (SendItem r s args ∷ items) all = ap suc (sends_length image items all)
sends_length image (changes ∷ items) all = absurd all

pub all_count : (image : ImageParts) (items : List ItemParts) → AllSends items → count_by is_send items ≡ length items
all_count image items all = sym (send_count image items) ∙ sends_length image items all

-- ---- the history after them

longer_begins : (h : History) (xs : List Change) (o : Outcome) → BeginsWith (longer_by h xs o) h
longer_begins h [] Made = begins_refl h
longer_begins h (x ∷ xs) Made = begins_next h (x ∷ xs)
longer_begins h xs (Refused f) = begins_refl h
longer_begins h xs (RefusedAt r) = begins_refl h

items_begin : (h : History) (items : List ItemParts) → BeginsWith (history_of h items) h
items_begin h [] = begins_refl h
items_begin h (item ∷ items) =
    let now = history_after h item in begins_trans (history_of now items) now h (items_begin now items) (longer_begins h (changes_in item) (outcome_at h item))

-- ---- whose they are

share_alike : {A : Type 0} (who other : ℕ → ℕ) (me i : ℕ) (xs : List A) → ((k : ℕ) → k < i + length xs → who k ≡ other k) → share_of who me i xs ≡ share_of other me i xs
share_alike who other me i [] same = refl
share_alike who other me i (x ∷ xs) same =
    let here : who i ≡ other i = same i (omega arith) in
    ap₂ (λ w ys. cond (w == me) (x ∷ ys) ys) here (share_alike who other me (i + 1) xs (λ k lt. same k (omega (arith, lt))))

share_none : {A : Type 0} (who : ℕ → ℕ) (me i : ℕ) (xs : List A) → ((k : ℕ) → k < i + length xs → who k ≢ me) → share_of who me i xs ≡ []
share_none who me i [] off = refl
share_none who me i (x ∷ xs) off =
    let rest = share_of who me (i + 1) xs in
    ap (λ b. cond b (x ∷ rest) rest) (ne_eqb (who i) me (off i (omega arith))) ∙ share_none who me (i + 1) xs (λ k lt. off k (omega (arith, lt)))

-- if no worker has a second piece, the worker of a place is the number of its piece
own_piece : (cut used workers n k : ℕ) → 0 < cut → used ≤ workers → pieces_of cut n ≤ used → k < n → (worker_of cut used k ≡ k / cut) × (worker_of cut workers k ≡ k / cut) × (k / cut < used)
own_piece cut used workers n k some most few lt =
    let cover = (div_ceil_times n cut some).0 in
    let wide = mul-le-mul_right cut few in
    let inside : k / cut < used = (div-lt_iff_lt-mul {k = cut} {x = k} {y = used} some).1 (omega (arith, cover, wide, lt)) in
    (mod-eq_of_lt inside, mod-eq_of_lt (omega (arith, inside, most)), inside)

module _ (image : ImageParts) (cut used workers : ℕ) (h : History) (items : List ItemParts) (old new : List ℕ) (some : 0 < cut) (most : used ≤ workers) where
  few_answered : pieces_of cut (count_by is_send items) ≤ used → IsAnswered image (worker_of cut used) used h items old new → AreAnswered image workers cut h items old new
  few_answered few a =
      let sends = sends_of image items in
      let count = send_count image items in
      let own : (k : ℕ) → k < length sends → (worker_of cut used k ≡ k / cut) × (worker_of cut workers k ≡ k / cut) × (k / cut < used) =
      λ k lt. own_piece cut used workers (count_by is_send items) k some most few (omega (arith, lt, count)) in
      let same : (k : ℕ) → k < length sends → worker_of cut used k ≡ worker_of cut workers k = λ k lt. let (low, high, _) = own k lt in low ∙ sym high in
      record {
        replies = a.replies;
        count = a.count;
        text = a.text;
        points = λ w below. elim (cases_lt w used) [
          | inl mine ↦
              let (last, s, b) = a.points w mine in
              let of_sends = share_alike (worker_of cut used) (worker_of cut workers) w 0 sends (λ k lt. same k (omega (arith, lt))) in
              let of_replies = share_alike (worker_of cut used) (worker_of cut workers) w 0 a.replies (λ k lt. same k (let c = a.count in omega (arith, lt, c))) in
              (last, subst (λ ms. Served h ms (share_of (worker_of cut workers) w 0 a.replies) last) of_sends (subst (λ rs. Served h (share_of (worker_of cut used) w 0 sends) rs last) of_replies s), b)
          | inr past ↦
              let off : (k : ℕ) → k < length sends → worker_of cut workers k ≢ w = λ k lt is. let (_, high, inside) = own k lt in omega (arith, past, high, inside, is) in
              let no_sends = share_none (worker_of cut workers) w 0 sends (λ k lt. off k (omega (arith, lt))) in
              let no_replies = share_none (worker_of cut workers) w 0 a.replies (λ k lt. off k (let c = a.count in omega (arith, lt, c))) in
              (h, subst (λ ms. Served h ms (share_of (worker_of cut workers) w 0 a.replies) h) (sym no_sends) (subst (λ rs. Served h [] rs h) (sym no_replies) (begins_refl h)), items_begin h items)
        ];
      }

  -- what some of the workers answered, each of whom had one piece, and what all of them did
  pub all_answered : (used ≡ workers) ⊎ (pieces_of cut (count_by is_send items) ≤ used) → IsAnswered image (worker_of cut used) used h items old new → AreAnswered image workers cut h items old new
  all_answered (inl same) a = subst (λ n. IsAnswered image (worker_of cut n) n h items old new) same a
  all_answered (inr few) a = few_answered few a
