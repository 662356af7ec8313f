-- Items that are explained, one after another.
use Rattle.std.proofs.Common.{◌≡◌, ◌≤◌, ◌<◌, ◌+◌, ℕ, suc, List, [], ◌∷◌, ◌++◌, All, append_assoc, drop, drop-cons, add-one, get_or, map, length, sym, ap, ap₂, subst, ◌∙◌}
use Rattle.std.specs.List.{flat_map}
use Rattle.std.proofs.lemmas.List.{drop_all, append-nil}
use Rattle.std.proofs.lemmas.List.Elements.{All-head, All-tail}
use Rattle.msg_names.specs.declared.value.Selector.{Selector}
use Rattle.msg_names.specs.declared.value.Value.{Value}
use Rattle.msg_image.specs.Items.{ItemParts, SendItem, DocumentParts}
use Rattle.msg_image.specs.Opened.{origin_of}
use Rattle.msg_image.specs.Parts.{ImageParts}
use Rattle.msg_image.specs.Plain.{item_parts}
use Rattle.msg_image.specs.Sound.{IsSoundItem}
use Rattle.msg_image.specs.declared.change.Item.{Item}
use Rattle.msg_tables.specs.History.{History, empty, log}
use Rattle.msg_tables.specs.Origin.{last_imp}
use Rattle.msg_tables.specs.Stands.{StandsAt}
use Rattle.msg_tables.specs.View.{TablesView}
use Rattle.msg_eval.specs.declared.reply.Reply.{Reply}
use Rattle.msg_eval.specs.Evaluation.{send_of}
use Rattle.msg_eval.specs.Points.{plain_reply}
use Rattle.msg_eval.specs.Finder.{Sizes, sizes_of, table_sizes}
use Rattle.msg_answers.specs.Serial.{history_after}
use Rattle.msg_answers.specs.Text.{line_of, reply_text}
use Rattle.msg_reasons.specs.Changing.{KeepsSizes}
use Rattle.msg_reasons.specs.Lookups.{Looked, lookups_of}
use Rattle.msg_reasons.specs.Noted.{IsExplained, NotingView}
use Rattle.msg_reasons.specs.Explanation.{reason_at, reasons_from}
use Rattle.msg_reasons.specs.Items.{ExplainsItem}
use Rattle.msg_reasons.specs.Text.{explanation_text, lookups_text, reason_lines}

-- the tables are at the history after the items before, and the text with the lines of those left
-- is the whole
pub record IsSoFar (d : DocumentParts) (tables : TablesView) (text : List ℕ) (left : List ItemParts) : Type 0 where
  pub history : History
  pub stands : StandsAt tables (log history)
  pub whole : text ++ flat_map (reason_lines d.image) (reasons_from d.image history left) ≡ explanation_text d

pub at_start : (d : DocumentParts) (tables : TablesView) (text : List ℕ) → text ≡ [] → StandsAt tables (log (empty (origin_of d.image))) → IsSoFar d tables text d.items
unfolding explanation_text
at_start d tables text none stands = record {
  history = empty (origin_of d.image);
  stands = stands;
  whole = ap (λ t. t ++ flat_map (reason_lines d.image) (reasons_from d.image (empty (origin_of d.image)) d.items)) none;
}

step : (d : DocumentParts) (old new : TablesView) (text more : List ℕ) (item : ItemParts) (left : List ItemParts) → IsSoFar d old text (item ∷ left) → ExplainsItem d.image item old new text more → IsSoFar d new more left
step d old new text more item left so_far explains =
    let (added, stands) = explains so_far.history so_far.stands in
    let line = reason_lines d.image (reason_at d.image so_far.history item) in
    let rest = flat_map (reason_lines d.image) (reasons_from d.image (history_after so_far.history item) left) in
    record {
      history = history_after so_far.history item;
      stands = stands;
      whole = ap (λ t. t ++ rest) added ∙ append_assoc text line rest ∙ so_far.whole;
    }

-- the items from one on
pub drop-next : (items : List Item) (i : ℕ) (x : Item) → i < length items → x ≡ get_or items i x → drop i items ≡ x ∷ drop (i + 1) items
drop-next items i x lt is =
    drop-cons items i x lt ∙ ap (λ (y : Item). y ∷ drop (suc i) items) (sym is) ∙ ap (λ n. x ∷ drop n items) (sym (add-one i))

pub sound-here : (image : ImageParts) (items : List Item) (i : ℕ) (x : Item) → i < length items → x ≡ get_or items i x → All (IsSoundItem image) (map item_parts (drop i items)) → IsSoundItem image (item_parts x)
sound-here image items i x lt is all =
    All-head (IsSoundItem image) (item_parts x) (map item_parts (drop (i + 1) items)) (subst (λ (ys : List Item). All (IsSoundItem image) (map item_parts ys)) (drop-next items i x lt is) all)

pub sound-next : (image : ImageParts) (items : List Item) (i : ℕ) (x : Item) → i < length items → x ≡ get_or items i x → All (IsSoundItem image) (map item_parts (drop i items)) → All (IsSoundItem image) (map item_parts (drop (i + 1) items))
sound-next image items i x lt is all =
    All-tail (IsSoundItem image) (item_parts x) (map item_parts (drop (i + 1) items)) (subst (λ (ys : List Item). All (IsSoundItem image) (map item_parts ys)) (drop-next items i x lt is) all)

pub next : (d : DocumentParts) (old new : TablesView) (text more : List ℕ) (items : List Item) (i : ℕ) (x : Item) → i < length items → x ≡ get_or items i x
    → IsSoFar d old text (map item_parts (drop i items)) → ExplainsItem d.image (item_parts x) old new text more → IsSoFar d new more (map item_parts (drop (i + 1) items))
next d old new text more items i x lt is so_far explains =
    step d old new text more (item_parts x) (map item_parts (drop (i + 1) items)) (subst (λ (ys : List Item). IsSoFar d old text (map item_parts ys)) (drop-next items i x lt is) so_far) explains

pub at_end : (d : DocumentParts) (tables : TablesView) (text : List ℕ) (items : List Item) (i : ℕ) → length items ≤ i → IsSoFar d tables text (map item_parts (drop i items)) → text ≡ explanation_text d
at_end d tables text items i past so_far =
    sym (append-nil text) ∙ ap (λ rest. text ++ flat_map (reason_lines d.image) (reasons_from d.image so_far.history (map item_parts rest))) (sym (drop_all i items past)) ∙ so_far.whole

-- ---- sizes

sizes-are : (a b c d : ℕ) → a ≡ c → b ≡ d → (let s : Sizes = record { classes = a; imps = b } in s) ≡ record { classes = c; imps = d }
sizes-are a b c d e f = ap₂ (λ x y. (let s : Sizes = record { classes = x; imps = y } in s)) e f

-- tables keep the sizes of the image of which they were opened
pub sizes-kept : (image : ImageParts) (old new : TablesView) → KeepsSizes old new → table_sizes old ≡ sizes_of image → table_sizes new ≡ sizes_of image
sizes-kept image old new kept sizes =
    sizes-are (length new.supers) (last_imp new.counts) (length old.supers) (last_imp old.counts) kept.0 (ap last_imp kept.1) ∙ sizes

-- ---- one item

pub sent-explained : (image : ImageParts) (receiver : Value) (s : Selector) (xs : List Value) (n : NotingView) (text mid more : List ℕ) (reply : Reply)
    → IsExplained n (send_of image receiver s xs) reply → mid ≡ text ++ line_of (reply_text image reply) → more ≡ mid ++ lookups_text image n.lookups n.tables.change_count
    → ExplainsItem image (SendItem receiver s xs) n.tables n.tables text more
sent-explained image receiver s xs n text mid more reply explained first second = λ h st.
    let (lookups, replied) = explained h st in (
      second ∙ ap (λ t. t ++ lookups_text image n.lookups n.tables.change_count) first
          ∙ append_assoc text (line_of (reply_text image reply)) (lookups_text image n.lookups n.tables.change_count)
          ∙ ap₂ (λ (r : Reply) (seen : List Looked). text ++ (line_of (reply_text image r) ++ lookups_text image seen n.tables.change_count)) replied lookups
          ∙ ap (λ n. text ++ (line_of (reply_text image (plain_reply h (send_of image receiver s xs))) ++ lookups_text image (lookups_of h (send_of image receiver s xs)) n)) st.changes,
      st,
    )
