-- Taking the workers' replies in the order of the places.
use Rattle.std.proofs.Common.{◌≡◌, ◌≢◌, ◌<◌, ◌+◌, ℕ, zero, suc, Bool, true, false, cond, List, [], ◌∷◌, ◌++◌, map, drop, length, Some, slice_get, refl, sym, ap, ap₂, ◌∙◌, subst, append_assoc, arith, eq-eqb, add-one, length-set}
use Rattle.std.specs.Prelude.{◌==◌, slice_index, slice_set}
use Rattle.std.proofs.lemmas.List.{append-nil, drop_all, get_or-set_same, get_or-set_other}
use Rattle.std.proofs.lemmas.Bool.{eqb-true, eqb-false}
use Rattle.msg_eval.specs.declared.reply.Reply.{Reply}
use Rattle.msg_names.specs.declared.value.Selector.{Selector}
use Rattle.msg_names.specs.declared.value.Value.{Value}
use Rattle.msg_image.specs.declared.change.Item.{Item}
use Rattle.msg_image.specs.Items.{ItemParts, SendItem}
use Rattle.msg_image.specs.Parts.{ImageParts}
use Rattle.msg_image.specs.Plain.{item_parts}
use Rattle.msg_answers.specs.Serial.{Changed, Replied}
use Rattle.msg_answers.specs.Serving.{is_send, share_of, count_of, sends_of, woven, at_worker, IsGathered}
use Rattle.msg_answers.specs.Text.{answer_line, text_of}
use Rattle.msg_answers.specs.declared.outcome.Outcome.{Outcome}

drop_get : (xs : List Reply) (t : ℕ) (x : Reply) → slice_get xs t ≡ Some x → drop t xs ≡ x ∷ drop (suc t) xs
drop_get [] t x e = absurd (cc)
drop_get (y ∷ ys) zero x e = let same : y ≡ x = cc in ap (λ z. z ∷ ys) same
drop_get (y ∷ ys) (suc t) x e = drop_get ys t x e

module _ (who : ℕ → ℕ) (workers : ℕ) (lists : ℕ → List Reply) where
  -- each worker has as many replies left as sends
  abbrev pub Counted : (ℕ → ℕ) → ℕ → ℕ → Type 0
  Counted taken place n = (w : ℕ) → w < workers → length (lists w) ≡ taken w + count_of who w place n

  -- the replies left are the shares of these
  abbrev pub Left : (ℕ → ℕ) → ℕ → List Reply → Type 0
  Left taken place later = (w : ℕ) → w < workers → share_of who w place later ≡ drop (taken w) (lists w)

  pub room : (taken : ℕ → ℕ) (place n : ℕ) → Counted taken place (suc n) → who place < workers → taken (who place) < length (lists (who place))
  room taken place n counted below = at_test (who place == who place) (eq-eqb (who place) (who place) refl) (counted (who place) below)
    where
      at_test : (b : Bool) → b ≡ true → length (lists (who place)) ≡ taken (who place) + cond b (suc (count_of who (who place) (place + 1) n)) (count_of who (who place) (place + 1) n) → taken (who place) < length (lists (who place))
      at_test true is e = omega arith
      at_test false is e = absurd (cc)

  module _ (taken after : ℕ → ℕ) (place : ℕ) (one : after (who place) ≡ suc (taken (who place))) (others : (w : ℕ) → w ≢ who place → after w ≡ taken w) where
    pub counted_next : (n : ℕ) → Counted taken place (suc n) → Counted after (place + 1) n
    counted_next n counted w below = at_test (who place == w) refl (counted w below)
      where
        at_test : (b : Bool) → (who place == w) ≡ b → length (lists w) ≡ taken w + cond b (suc (count_of who w (place + 1) n)) (count_of who w (place + 1) n) → length (lists w) ≡ after w + count_of who w (place + 1) n
        at_test true is e =
            let same : who place ≡ w = eqb-true (who place) w is in
            let now : after w ≡ suc (taken w) = subst (λ k. after k ≡ suc (taken k)) same one in omega (arith, now, e)
        at_test false is e = let now = others w (λ h. eqb-false (who place) w is (sym h)) in omega (arith, now, e)

    pub left_before : (r : Reply) (later : List Reply) → slice_get (lists (who place)) (taken (who place)) ≡ Some r → Left after (place + 1) later → Left taken place (r ∷ later)
    left_before r later got left w below = at_test (who place == w) refl (left w below)
      where
        at_test : (b : Bool) → (who place == w) ≡ b → share_of who w (place + 1) later ≡ drop (after w) (lists w) → cond b (r ∷ share_of who w (place + 1) later) (share_of who w (place + 1) later) ≡ drop (taken w) (lists w)
        at_test true is e =
            let same : who place ≡ w = eqb-true (who place) w is in
            let now : after w ≡ suc (taken w) = subst (λ k. after k ≡ suc (taken k)) same one in
            let here : drop (taken w) (lists w) ≡ r ∷ drop (suc (taken w)) (lists w) = subst (λ k. drop (taken k) (lists k) ≡ r ∷ drop (suc (taken k)) (lists k)) same (drop_get (lists (who place)) (taken (who place)) r got) in
            ap (λ z. r ∷ z) (e ∙ ap (λ k. drop k (lists w)) now) ∙ sym here
        at_test false is e = let now = others w (λ h. eqb-false (who place) w is (sym h)) in e ∙ ap (λ k. drop k (lists w)) now

  pub left_at_end : (taken : ℕ → ℕ) (place : ℕ) → Counted taken place 0 → Left taken place []
  left_at_end taken place counted w below = sym (drop_all (taken w) (lists w) (let e = counted w below in omega (arith, e)))

module _ {A : Type 0} (who : ℕ → ℕ) where
  -- the shares determine the list
  pub shares_same : (workers : ℕ) → ((i : ℕ) → who i < workers) → (i : ℕ) (xs ys : List A) → length xs ≡ length ys → ((w : ℕ) → w < workers → share_of who w i xs ≡ share_of who w i ys) → xs ≡ ys
  shares_same workers few i [] [] e same = refl
  shares_same workers few i [] (y ∷ ys) e same = absurd (omega (arith, e))
  shares_same workers few i (x ∷ xs) [] e same = absurd (omega (arith, e))
  shares_same workers few i (x ∷ xs) (y ∷ ys) e same =
      let head : x ≡ y = first (who i == who i) (eq-eqb (who i) (who i) refl) (same (who i) (few i)) in
      ap₂ (λ a more. a ∷ more) head (shares_same workers few (i + 1) xs ys (omega (arith, e)) (λ w below. rest w (who i == w) (same w below)))
    where
      first : (b : Bool) → b ≡ true → cond b (x ∷ share_of who (who i) (i + 1) xs) (share_of who (who i) (i + 1) xs) ≡ cond b (y ∷ share_of who (who i) (i + 1) ys) (share_of who (who i) (i + 1) ys) → x ≡ y
      first true is h = cc
      first false is h = absurd (cc)

      rest : (w : ℕ) (b : Bool) → cond b (x ∷ share_of who w (i + 1) xs) (share_of who w (i + 1) xs) ≡ cond b (y ∷ share_of who w (i + 1) ys) (share_of who w (i + 1) ys) → share_of who w (i + 1) xs ≡ share_of who w (i + 1) ys
      rest w true h = cc
      rest w false h = h

  -- how many a share has
  pub share_count : (w i : ℕ) (xs : List A) → length (share_of who w i xs) ≡ count_of who w i (length xs)
  share_count w i [] = refl
  share_count w i (x ∷ xs) = at_test (who i == w) (share_count w (i + 1) xs)
    where
      at_test : (b : Bool) → length (share_of who w (i + 1) xs) ≡ count_of who w (i + 1) (length xs)
          → length (cond b (x ∷ share_of who w (i + 1) xs) (share_of who w (i + 1) xs)) ≡ cond b (suc (count_of who w (i + 1) (length xs))) (count_of who w (i + 1) (length xs))
      at_test true e = ap suc e
      at_test false e = e

-- a share of the answers is the answers to the share
pub share_map : {A B : Type 0} (f : A → B) (who : ℕ → ℕ) (w i : ℕ) (xs : List A) → share_of who w i (map f xs) ≡ map f (share_of who w i xs)
share_map f who w i [] = refl
share_map f who w i (x ∷ xs) = at_test (who i == w) (share_map f who w (i + 1) xs)
  where
    at_test : (b : Bool) → share_of who w (i + 1) (map f xs) ≡ map f (share_of who w (i + 1) xs)
        → cond b (f x ∷ share_of who w (i + 1) (map f xs)) (share_of who w (i + 1) (map f xs)) ≡ map f (cond b (x ∷ share_of who w (i + 1) xs) (share_of who w (i + 1) xs))
    at_test true e = ap (λ z. f x ∷ z) e
    at_test false e = e

-- the lines so far, and those of the items left
pub record IsGathering (image : ImageParts) (who : ℕ → ℕ) (workers : ℕ) (all : List ItemParts) (lists : List (List Reply)) (outcomes : List Outcome) (old : List ℕ) (taken : List ℕ) (place : ℕ) (rest : List ItemParts) (left : List Outcome) (text : List ℕ) : Type 0 where
  pub cursors : length taken ≡ workers
  pub counted : Counted who workers (at_worker lists) (slice_index taken) place (length (sends_of image rest))
  pub goes_on : (later : List Reply) → length later ≡ length (sends_of image rest) → Left who workers (at_worker lists) (slice_index taken) place later
      → (whole : List Reply) × (length whole ≡ length (sends_of image all)) × Left who workers (at_worker lists) (λ _. 0) 0 whole × (old ++ text_of image (woven all whole outcomes) ≡ text ++ text_of image (woven rest later left))

module _ (image : ImageParts) (who : ℕ → ℕ) (workers : ℕ) (all : List ItemParts) (lists : List (List Reply)) (outcomes : List Outcome) (old : List ℕ) where
  pub gathering_start : (taken : List ℕ) → length taken ≡ workers → ((w : ℕ) → slice_index taken w ≡ 0)
      → ((w : ℕ) → w < workers → length (at_worker lists w) ≡ count_of who w 0 (length (sends_of image all)))
      → IsGathering image who workers all lists outcomes old taken 0 all outcomes old
  gathering_start taken cursors nothing counts = record {
    cursors = cursors;
    counted = λ w below. let c = counts w below in let z = nothing w in omega (arith, c, z);
    goes_on = λ later len left. (later, len, (λ w below. left w below ∙ ap (λ n. drop n (at_worker lists w)) (nothing w)), refl);
  }

  -- there is a reply for the send at a place
  pub gathering_room : (taken : List ℕ) (place : ℕ) (r : Value) (s : Selector) (args : List Value) (rest : List ItemParts) (left : List Outcome) (text : List ℕ) (v at : ℕ)
      → IsGathering image who workers all lists outcomes old taken place (SendItem r s args ∷ rest) left text → v ≡ who place → at ≡ slice_index taken v → v < workers → at < length (at_worker lists v)
  gathering_room taken place r s args rest left text v at so_far is at_is below =
      let here = room who workers (at_worker lists) (slice_index taken) place (length (sends_of image rest)) so_far.counted (subst (λ k. k < workers) is below) in
      subst (λ k. k < length (at_worker lists v)) (sym at_is) (subst (λ k. slice_index taken k < length (at_worker lists k)) (sym is) here)

  pub gathering_send : (taken : List ℕ) (place : ℕ) (r : Value) (s : Selector) (args : List Value) (rest : List ItemParts) (left : List Outcome) (text more : List ℕ) (v at : ℕ) (reply : Reply)
      → IsGathering image who workers all lists outcomes old taken place (SendItem r s args ∷ rest) left text → v ≡ who place → at ≡ slice_index taken v → v < workers
      → slice_get (at_worker lists v) at ≡ Some reply → more ≡ text ++ answer_line image (Replied reply)
      → IsGathering image who workers all lists outcomes old (slice_set taken v (at + 1)) (place + 1) rest left more
  gathering_send taken place r s args rest left text more v at reply so_far is at_is below got grown =
      let after : List ℕ = slice_set taken v (at + 1) in
      let inside : v < length taken = let c = so_far.cursors in omega (arith, c, below) in
      let one_here : slice_index after v ≡ suc (slice_index taken v) = get_or-set_same taken v (at + 1) 0 inside ∙ add-one at ∙ ap suc at_is in
      let one : slice_index after (who place) ≡ suc (slice_index taken (who place)) = subst (λ k. slice_index after k ≡ suc (slice_index taken k)) is one_here in
      let others : (w : ℕ) → w ≢ who place → slice_index after w ≡ slice_index taken w = λ w ne. get_or-set_other taken v w (at + 1) 0 (λ e. ne (e ∙ is)) in
      let got_here : slice_get (at_worker lists (who place)) (slice_index taken (who place)) ≡ Some reply = subst (λ k. slice_get (at_worker lists k) (slice_index taken k) ≡ Some reply) is (ap (λ k. slice_get (at_worker lists v) k) (sym at_is) ∙ got) in record {
        cursors = length-set taken v (at + 1) ∙ so_far.cursors;
        counted = counted_next who workers (at_worker lists) (slice_index taken) (slice_index after) place one others (length (sends_of image rest)) so_far.counted;
        goes_on = λ later len lft.
            let (whole, count, shares, same) = so_far.goes_on (reply ∷ later) (ap suc len) (left_before who workers (at_worker lists) (slice_index taken) (slice_index after) place one others reply later got_here lft) in
            (whole, count, shares, same ∙ sym (append_assoc text (answer_line image (Replied reply)) (text_of image (woven rest later left))) ∙ ap (λ t. t ++ text_of image (woven rest later left)) (sym grown));
      }

  pub gathering_changes : (taken : List ℕ) (place : ℕ) (p : ItemParts) (rest : List ItemParts) (o : Outcome) (left : List Outcome) (text more : List ℕ)
      → IsGathering image who workers all lists outcomes old taken place (p ∷ rest) (o ∷ left) text → is_send p ≡ false → more ≡ text ++ answer_line image (Changed o)
      → IsGathering image who workers all lists outcomes old taken place rest left more
  gathering_changes taken place (SendItem r s args) rest o left text more so_far not_send grown = absurd (cc not_send)
  gathering_changes taken place changes rest o left text more so_far not_send grown = record {
    cursors = so_far.cursors;
    counted = so_far.counted;
    goes_on = λ later len lft.
        let (whole, count, shares, same) = so_far.goes_on later len lft in
        (whole, count, shares, same ∙ sym (append_assoc text (answer_line image (Changed o)) (text_of image (woven rest later left))) ∙ ap (λ t. t ++ text_of image (woven rest later left)) (sym grown));
  }

  pub gathering_none : (taken : List ℕ) (place : ℕ) (p : ItemParts) (rest : List ItemParts) (text : List ℕ)
      → IsGathering image who workers all lists outcomes old taken place (p ∷ rest) [] text → is_send p ≡ false → IsGathering image who workers all lists outcomes old taken place rest [] text
  gathering_none taken place (SendItem r s args) rest text so_far not_send = absurd (cc not_send)
  gathering_none taken place changes rest text so_far not_send = record { cursors = so_far.cursors; counted = so_far.counted; goes_on = so_far.goes_on }

  pub gathering_end : (taken : List ℕ) (place : ℕ) (left : List Outcome) (text : List ℕ) → IsGathering image who workers all lists outcomes old taken place [] left text
      → IsGathered image who workers all lists outcomes old text
  gathering_end taken place left text so_far =
      let (whole, count, shares, same) = so_far.goes_on [] refl (left_at_end who workers (at_worker lists) (slice_index taken) place so_far.counted) in
      record { replies = whole; count = count; shares = shares; text = sym (append-nil text) ∙ sym same }

  -- the same under the names that the code has
  pub gathering_here : (taken : List ℕ) (place : ℕ) (rest : List Item) (left : List Outcome) (text : List ℕ) (item : Item) (x : ItemParts) (later : List Item)
      → IsGathering image who workers all lists outcomes old taken place (map item_parts rest) left text → rest ≡ item ∷ later → item_parts item ≡ x → IsGathering image who workers all lists outcomes old taken place (x ∷ map item_parts later) left text
  gathering_here taken place rest left text item x later so_far is item_is = subst (λ xs. IsGathering image who workers all lists outcomes old taken place xs left text) (ap (map item_parts) is ∙ ap (λ y. y ∷ map item_parts later) item_is) so_far
