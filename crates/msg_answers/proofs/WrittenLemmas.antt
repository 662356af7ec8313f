-- Lines that were written one after another.
use Rattle.std.proofs.Common.{◌≡◌, ℕ, false, List, [], ◌∷◌, ◌++◌, map, refl, sym, ap, ◌∙◌, subst, append_assoc}
use Rattle.std.specs.Prelude.{All}
use Rattle.std.proofs.lemmas.List.{append-nil}
use Rattle.msg_names.specs.declared.value.Selector.{Selector}
use Rattle.msg_names.specs.declared.value.Value.{Value}
use Rattle.msg_image.specs.Items.{ItemParts, SendItem}
use Rattle.msg_image.specs.Opened.{origin_of}
use Rattle.msg_image.specs.Parts.{ImageParts}
use Rattle.msg_image.specs.Plain.{item_parts}
use Rattle.msg_image.specs.Sound.{IsSoundItem}
use Rattle.msg_image.specs.declared.change.Item.{Item}
use Rattle.msg_tables.specs.History.{History, BeginsWith}
use Rattle.msg_eval.specs.declared.reply.Reply.{Reply}
use Rattle.msg_eval.specs.Evaluation.{send_of}
use Rattle.msg_eval.specs.Meaning.{Meaning}
use Rattle.msg_eval.specs.Points.{Rise, EndsAfter, last_of, plain_reply}
use Rattle.msg_answers.specs.Serial.{Replied, serial_from}
use Rattle.msg_answers.specs.Serving.{AllSends, Served, is_send, sends_of}
use Rattle.msg_answers.specs.Text.{text_of, answer_line}
use Rattle.msg_answers.specs.Written.{AreWritten}
use Rattle.msg_answers.proofs.AnsweredLemmas.{served_plain, text_split}
use Rattle.msg_answers.proofs.PartLemmas.{all_right}
use Rattle.msg_answers.proofs.ServingLemmas.{all_tail, served_from}
use Rattle.msg_tables.proofs.BeginsLemmas.{begins_refl, begins_trans}

-- whatever is written of the rest, the whole is written
abbrev pub GoesOn : ImageParts → History → List Meaning → List ℕ → History → List Meaning → List ℕ → Type 0
GoesOn image h0 all old h left now = (last : History) (new : List ℕ) → AreWritten image h left last now new → AreWritten image h0 all last old new

pub nothing_written : (image : ImageParts) (h : History) (text : List ℕ) → AreWritten image h [] h text text
nothing_written image h text = record { replies = []; served = begins_refl h; text = sym (append-nil text) }

pub one_written : (image : ImageParts) (h now : History) (m : Meaning) (left : List Meaning) (r : Reply) (points : List History) (last : History) (old text new : List ℕ)
    → Rise h points → EndsAfter m points r → now ≡ last_of h points → text ≡ old ++ answer_line image (Replied r)
    → AreWritten image now left last text new → AreWritten image h (m ∷ left) last old new
one_written image h now m left r points last old text new rise ends is grown later = record {
  replies = r ∷ later.replies;
  served = (points, rise, ends, subst (λ g. Served g left later.replies last) is later.served);
  text = later.text ∙ ap (λ t. t ++ text_of image (map Replied later.replies)) grown ∙ append_assoc old (answer_line image (Replied r)) (text_of image (map Replied later.replies));
}

served_append : (h mid last : History) (ms ns : List Meaning) (rs ss : List Reply) → Served h ms rs mid → Served mid ns ss last → Served h (ms ++ ns) (rs ++ ss) last
served_append h mid last [] ns [] ss a b = served_from h mid ns ss last a b
served_append h mid last [] ns (r ∷ rs) ss a b = absurd a
served_append h mid last (m ∷ ms) ns [] ss a b = absurd a
served_append h mid last (m ∷ ms) ns (r ∷ rs) ss (points, rise, ends, more) b = (points, rise, ends, served_append (last_of h points) mid last ms ns rs ss more b)

replied_append : (rs ss : List Reply) → map Replied (rs ++ ss) ≡ map Replied rs ++ map Replied ss
replied_append [] ss = refl
replied_append (r ∷ rs) ss = ap (λ z. Replied r ∷ z) (replied_append rs ss)

pub both_written : (image : ImageParts) (h mid last : History) (ms ns : List Meaning) (old text new : List ℕ)
    → AreWritten image h ms mid old text → AreWritten image mid ns last text new → AreWritten image h (ms ++ ns) last old new
both_written image h mid last ms ns old text new a b =
    let front = text_of image (map Replied a.replies) in
    let back = text_of image (map Replied b.replies) in
    record {
      replies = a.replies ++ b.replies;
      served = served_append h mid last ms ns a.replies b.replies a.served b.served;
      text = b.text ∙ ap (λ t. t ++ back) a.text ∙ append_assoc old front back
          ∙ ap (λ t. old ++ t) (sym (text_split image (map Replied a.replies) (map Replied b.replies)) ∙ ap (text_of image) (sym (replied_append a.replies b.replies)));
    }

-- what is written before these items, with what will be written of them, is the whole
pub record IsWriting (image : ImageParts) (h0 : History) (all : List Meaning) (old : List ℕ) (h : History) (rest : List ItemParts) (text : List ℕ) : Type 0 where
  pub same : h.origin ≡ origin_of image
  pub sound : All (IsSoundItem image) rest
  pub goes_on : GoesOn image h0 all old h (sends_of image rest) text

pub writing_start : (image : ImageParts) (h : History) (items : List ItemParts) (text : List ℕ) → h.origin ≡ origin_of image → All (IsSoundItem image) items
    → IsWriting image h (sends_of image items) text h items text
writing_start image h items text same sound = record { same = same; sound = sound; goes_on = λ last new w. w }

pub sends_split : (image : ImageParts) (xs ys : List ItemParts) → sends_of image (xs ++ ys) ≡ sends_of image xs ++ sends_of image ys
sends_split image [] ys = refl
sends_split image (SendItem r s args ∷ xs) ys = ap (λ z. send_of image r s args ∷ z) (sends_split image xs ys)
sends_split image (changes ∷ xs) ys = sends_split image xs ys

plain_serial : (image : ImageParts) (h : History) (items : List ItemParts) → AllSends items → map Replied (map (plain_reply h) (sends_of image items)) ≡ serial_from image h items
plain_serial image h [] all = refl
plain_serial image h (SendItem r s args ∷ items) all = ap (λ zs. Replied (plain_reply h (send_of image r s args)) ∷ zs) (plain_serial image h items all)
plain_serial image h (changes ∷ items) all = absurd all

-- if the last history is no longer, the lines are those of one thread
pub written_serial : (image : ImageParts) (h last : History) (items : List ItemParts) (old new : List ℕ) → AllSends items → BeginsWith h last
    → AreWritten image h (sends_of image items) last old new → new ≡ old ++ text_of image (serial_from image h items)
written_serial image h last items old new all below w =
    let plain : w.replies ≡ map (plain_reply h) (sends_of image items) = served_plain h (sends_of image items) w.replies last w.served below in
    w.text ∙ ap (λ rs. old ++ text_of image (map Replied rs)) plain ∙ ap (λ zs. old ++ text_of image zs) (plain_serial image h items all)

rise_begins : (h : History) (points : List History) → Rise h points → BeginsWith (last_of h points) h
rise_begins h [] rise = begins_refl h
rise_begins h (p ∷ ps) rise = begins_trans (last_of p ps) p h (rise_begins p ps rise.1) rise.0

served_begins : (h : History) (ms : List Meaning) (rs : List Reply) (last : History) → Served h ms rs last → BeginsWith last h
served_begins h [] [] last s = s
served_begins h [] (r ∷ rs) last s = absurd s
served_begins h (m ∷ ms) [] last s = absurd s
served_begins h (m ∷ ms) (r ∷ rs) last (points, rise, ends, more) =
    begins_trans last (last_of h points) h (served_begins (last_of h points) ms rs last more) (rise_begins h points rise)

-- what was written ends at a point that begins with the first
pub written_begins : (image : ImageParts) (h last : History) (sends : List Meaning) (old new : List ℕ) → AreWritten image h sends last old new → BeginsWith last h
written_begins image h last sends old new w = served_begins h sends w.replies last w.served

module _ (image : ImageParts) (h0 : History) (all : List Meaning) (old : List ℕ) where
  pub writing_here : (h : History) (rest : List Item) (text : List ℕ) (item : Item) (x : ItemParts) (later : List Item) → IsWriting image h0 all old h (map item_parts rest) text → rest ≡ item ∷ later → item_parts item ≡ x
      → IsWriting image h0 all old h (x ∷ map item_parts later) text
  writing_here h rest text item x later so_far is item_is = subst (λ xs. IsWriting image h0 all old h xs text) (ap (map item_parts) is ∙ ap (λ y. y ∷ map item_parts later) item_is) so_far

  pub writing_send : (h now : History) (text more : List ℕ) (r : Value) (s : Selector) (args : List Value) (later : List ItemParts) (points : List History) (reply : Reply)
      → IsWriting image h0 all old h (SendItem r s args ∷ later) text → now.origin ≡ origin_of image → Rise h points → EndsAfter (send_of image r s args) points reply → now ≡ last_of h points
      → more ≡ text ++ answer_line image (Replied reply) → IsWriting image h0 all old now later more
  writing_send h now text more r s args later points reply so_far same rise ends is grown = record {
    same = same;
    sound = all_tail (IsSoundItem image) (SendItem r s args) later so_far.sound;
    goes_on = λ last new w. so_far.goes_on last new (one_written image h now (send_of image r s args) (sends_of image later) reply points last text more new rise ends is grown w);
  }

  pub writing_changes : (h : History) (text : List ℕ) (p : ItemParts) (later : List ItemParts) → is_send p ≡ false → IsWriting image h0 all old h (p ∷ later) text → IsWriting image h0 all old h later text
  writing_changes h text (SendItem r s args) later not_send so_far = absurd (cc not_send)
  writing_changes h text changes later not_send so_far = record { same = so_far.same; sound = all_tail (IsSoundItem image) changes later so_far.sound; goes_on = so_far.goes_on }

  pub writing_part : (h now : History) (text more : List ℕ) (rest xs ys : List ItemParts) → IsWriting image h0 all old h rest text → rest ≡ xs ++ ys → now.origin ≡ origin_of image
      → AreWritten image h (sends_of image xs) now text more → IsWriting image h0 all old now ys more
  writing_part h now text more rest xs ys so_far is same w =
      let here : IsWriting image h0 all old h (xs ++ ys) text = subst (λ zs. IsWriting image h0 all old h zs text) is so_far in
      record {
        same = same;
        sound = all_right (IsSoundItem image) xs ys here.sound;
        goes_on = λ last new later. here.goes_on last new (subst (λ ms. AreWritten image h ms last text new) (sym (sends_split image xs ys))
            (both_written image h now last (sends_of image xs) (sends_of image ys) text more new w later));
      }

  pub writing_end : (h : History) (rest : List Item) (text : List ℕ) → IsWriting image h0 all old h (map item_parts rest) text → rest ≡ [] → AreWritten image h0 all h old text
  writing_end h rest text so_far none =
      let ended = subst (λ xs. IsWriting image h0 all old h (map item_parts xs) text) none so_far in
      ended.goes_on h text (nothing_written image h text)
