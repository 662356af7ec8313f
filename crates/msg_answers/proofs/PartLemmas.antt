-- Parts of a document, one after another.
use Rattle.std.proofs.Common.{◌≡◌, ◌<◌, ◌+◌, ◌⊎◌, ℕ, zero, suc, true, Result, Ok, Err, List, [], ◌∷◌, ◌++◌, map, take, drop, length, get_or, refl, sym, ap, ◌∙◌, subst, append_assoc, arith, add-one, mod-lt, ◌/◌}
use Rattle.std.specs.Prelude.{All, OnOk}
use Rattle.msg_image.specs.Items.{ItemParts, SendItem}
use Rattle.msg_image.specs.Parts.{ImageParts}
use Rattle.msg_image.specs.Plain.{item_parts}
use Rattle.msg_image.specs.declared.change.Item.{Item}
use Rattle.msg_tables.specs.History.{History}
use Rattle.msg_answers.specs.Serial.{history_after, serial_from}
use Rattle.msg_answers.specs.Serving.{AllSends, IsOneChange, AreAnswered, worker_of, history_of, is_send}
use Rattle.msg_answers.specs.Text.{text_of}
use Rattle.msg_answers.proofs.AnsweredLemmas.{answers_serial, serial_split, text_split}
use Rattle.msg_answers.proofs.SerialLemmas.{origin_after}

more_sends : (p : ItemParts) (rest more : List ItemParts) → AllSends (p ∷ rest) → (AllSends rest → AllSends more) → AllSends (p ∷ more)
more_sends (SendItem r s args) rest more all step = step all
more_sends changes rest more all step = absurd all

one_send : (p : ItemParts) → is_send p ≡ true → AllSends (p ∷ [])
one_send (SendItem r s args) is = tt
one_send changes is = absurd (cc is)

sends_next : (items : List Item) (n : ℕ) (x : Item) → n < length items → x ≡ get_or items n x → is_send (item_parts x) ≡ true
    → AllSends (map item_parts (take n items)) → AllSends (map item_parts (take (suc n) items))
sends_next [] n x lt at is all = absurd (omega (arith, lt))
sends_next (y ∷ ys) zero x lt at is all = subst (λ (p : ItemParts). AllSends (p ∷ [])) (ap item_parts at) (one_send (item_parts x) is)
sends_next (y ∷ ys) (suc n) x lt at is all =
    more_sends (item_parts y) (map item_parts (take n ys)) (map item_parts (take (suc n) ys)) all (sends_next ys n x (omega (arith, lt)) at is)

pub one_more_send : (items : List Item) (n : ℕ) (x : Item) → n < length items → x ≡ get_or items n x → is_send (item_parts x) ≡ true
    → AllSends (map item_parts (take n items)) → AllSends (map item_parts (take (n + 1) items))
one_more_send items n x lt at is all = rw add-one (sends_next items n x lt at is all)

first_send : (p : ItemParts) (rest : List ItemParts) → AllSends (p ∷ rest) → is_send p ≡ true
first_send (SendItem r s args) rest all = refl
first_send changes rest all = absurd all

sends_behind : (p : ItemParts) (rest : List ItemParts) → AllSends (p ∷ rest) → AllSends rest
sends_behind (SendItem r s args) rest all = all
sends_behind changes rest all = absurd all

-- of sends alone each is a send
pub each_is_send : (items : List Item) (n m : ℕ) (x : Item) → n < length items → n < m → x ≡ get_or items n x
    → AllSends (map item_parts (take m items)) → is_send (item_parts x) ≡ true
each_is_send [] n m x lt less at all = absurd (omega (arith, lt))
each_is_send (y ∷ ys) n zero x lt less at all = absurd (omega (arith, less))
each_is_send (y ∷ ys) zero (suc m) x lt less at all = ap (λ z. is_send (item_parts z)) at ∙ first_send (item_parts y) (map item_parts (take m ys)) all
each_is_send (y ∷ ys) (suc n) (suc m) x lt less at all =
    each_is_send ys n m x (omega (arith, lt)) (omega (arith, less)) at (sends_behind (item_parts y) (map item_parts (take m ys)) all)

pub map_split : (items : List Item) (n : ℕ) → map item_parts items ≡ map item_parts (take n items) ++ map item_parts (drop n items)
map_split [] zero = refl
map_split [] (suc n) = refl
map_split (x ∷ xs) zero = refl
map_split (x ∷ xs) (suc n) = ap (λ z. item_parts x ∷ z) (map_split xs n)

pub all_left : (P : ItemParts → Type 0) (xs ys : List ItemParts) → All P (xs ++ ys) → All P xs
all_left P [] ys all = λ i y lt. absurd (omega (arith, lt))
all_left P (x ∷ xs) ys all = each (all_left P xs ys (λ j z l. all (suc j) z (omega (arith, l))))
  where
    each : All P xs → All P (x ∷ xs)
    each rest zero y lt = all zero y (omega arith)
    each rest (suc i) y lt = rest i y (omega (arith, lt))

pub all_right : (P : ItemParts → Type 0) (xs ys : List ItemParts) → All P (xs ++ ys) → All P ys
all_right P [] ys all = all
all_right P (x ∷ xs) ys all = all_right P xs ys (λ j z l. all (suc j) z (omega (arith, l)))

pub origin_stays : (h : History) (items : List ItemParts) → (history_of h items).origin ≡ h.origin
origin_stays h [] = refl
origin_stays h (x ∷ xs) = origin_stays (history_after h x) xs ∙ origin_after h x

-- the lines of a part that was answered are those of one thread
pub answered_serial : (image : ImageParts) (workers cut : ℕ) (h : History) (part : List ItemParts) (old new : List ℕ) → 0 < workers → AllSends part ⊎ IsOneChange part
    → AreAnswered image workers cut h part old new → new ≡ old ++ text_of image (serial_from image h part)
answered_serial image workers cut h part old new some kind answered = answers_serial image (worker_of cut workers) workers h part old new (λ i. mod-lt (i / cut) some) kind answered

-- the lines so far and those of the parts left are the whole
pub part_step : (image : ImageParts) (h : History) (part later : List ItemParts) (old new whole : List ℕ) → new ≡ old ++ text_of image (serial_from image h part)
    → old ++ text_of image (serial_from image h (part ++ later)) ≡ whole → new ++ text_of image (serial_from image (history_of h part) later) ≡ whole
part_step image h part later old new whole here so_far =
    let rest = text_of image (serial_from image (history_of h part) later) in
    ap (λ t. t ++ rest) here ∙ append_assoc old (text_of image (serial_from image h part)) rest
    ∙ ap (λ t. old ++ t) (sym (text_split image (serial_from image h part) (serial_from image (history_of h part) later))) ∙ ap (λ zs. old ++ text_of image zs) (sym (serial_split image h part later)) ∙ so_far

pub split_named : (rest part later : List Item) (n : ℕ) → part ≡ take n rest → later ≡ drop n rest → map item_parts rest ≡ map item_parts part ++ map item_parts later
split_named rest part later n front back = map_split rest n ∙ ap (λ xs. map item_parts xs ++ map item_parts (drop n rest)) (sym front) ∙ ap (λ xs. map item_parts part ++ map item_parts xs) (sym back)

pub where_ok : {A E P Q : Type 0} (r : Result A E) → (P → Q) → OnOk r P → OnOk r Q
where_ok (Ok x) f p = f p
where_ok (Err e) f p = p
