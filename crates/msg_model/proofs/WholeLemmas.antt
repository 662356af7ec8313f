-- What the lists of a whole machine give.
use Rattle.std.proofs.Common.{◌≡◌, ◌<◌, ℕ, List, length, map, Option, Some, None, sym, subst, ap, ◌∙◌, [], ◌∷◌, ◌++◌, refl}
use Rattle.std.specs.Prelude.{IfSome, slice_index_or, slice_index}
use Rattle.std.proofs.lemmas.List.{length-map, get_or_default, get_or-map}
use Rattle.msg_names.specs.ClassRef.{slot_of}
use Rattle.msg_names.proofs.ClassRefLemmas.{slot_of-inside}
use Rattle.msg_names.specs.declared.value.ClassRef.{ClassRef}
use Rattle.msg_tables.specs.Origin.{class_total}
use Rattle.msg_tables.specs.Log as logs
use Rattle.msg_tables.specs.Log.{Log}
use Rattle.msg_tables.specs.declared.change.Change.{Change}
use Rattle.msg_tables.specs.History.{History, and_then, log}
use Rattle.msg_tables.specs.Origin.{OriginView}
use Rattle.msg_tables.specs.Refusal.{refusal}
use Rattle.msg_tables.specs.Several.{refusal_of_all}
use Rattle.msg_tables.proofs.HistoryLemmas.{log-one}
use Rattle.msg_tables.proofs.SeveralLemmas.{refused-one}
use Rattle.msg_tables.specs.Stands.{StandsAt}
use Rattle.msg_tables.specs.View.{TablesView}
use Rattle.msg_tables.proofs.StandsLemmas.{class_count}
use Rattle.msg_model.specs.declared.state.Standing.{Standing}
use Rattle.msg_model.specs.declared.state.Standing.TheVariants.{Free, Live, Retired}
use Rattle.msg_model.specs.declared.state.Whereabouts.{Whereabouts}
use Rattle.msg_model.specs.declared.state.Whereabouts.TheVariants.{Out, In, Holding}
use Rattle.msg_model.specs.Steps.{is_spoiled}
use Rattle.msg_model.specs.View.{MachineView, IsWhole, live_at, word_at, sender_at, standing_at, IfHolding, IfLive}

pub if_some : {A : Type 0} (P : A → Type 0) (o : Option A) → ((x : A) → o ≡ Some x → P x) → IfSome o P
if_some P None f = tt
if_some P (Some x) f = f x (λ i. Some x)

pub array_count : (arrays : List (List ℕ)) → length (map length arrays) ≡ length arrays
array_count arrays = length-map arrays length

pub listed : (v : MachineView) → IsWhole v → (c : ClassRef) (o : Option ℕ) → o ≡ live_at v.live c → IfSome o (λ a. a < length (map length v.arrays))
listed v whole c o is = if_some _ o (λ a e. subst (λ n. a < n) (sym (array_count v.arrays)) (whole.live_arrays c a (sym is ∙ e)))

-- a header word that was read at the place of its class reference
pub header_read : (v : MachineView) → IsWhole v → (c : ClassRef) (k : ℕ) (o : Option ℕ) → c.class < class_total v.history.origin → k ≡ slot_of c → o ≡ slice_index_or v.live k o → o ≡ live_at v.live c
header_read v whole c k o inside at read = read ∙ ap (λ n. slice_index_or v.live n o) at ∙ get_or_default v.live (slot_of c) o None (slot_of-inside c (class_total v.history.origin) (length v.live) whole.headers inside)

pub if_holding : (P : ℕ → Type 0) (p : Whereabouts) → ((c : ClassRef) (a : ℕ) → p ≡ Holding c a → P a) → IfHolding p P
if_holding P Out f = tt
if_holding P In f = tt
if_holding P (Holding c a) f = f c a (λ i. Holding c a)

pub if_live : (P : ClassRef → Type 0) (s : Standing) → ((c : ClassRef) → s ≡ Live c → P c) → IfLive s P
if_live P Free f = tt
if_live P (Live c) f = f c (λ i. Live c)
if_live P (Retired c r awaited) f = tt

-- a sender holds one of the arrays
pub held_listed : (v : MachineView) → IsWhole v → (n : ℕ) (p : Whereabouts) → p ≡ sender_at v.whereabouts n → IfHolding p (λ a. a < length (map length v.arrays))
held_listed v whole n p is = if_holding _ p (λ c a e. subst (λ k. a < k) (sym (array_count v.arrays)) (whole.held_arrays n c a (sym is ∙ e)))

-- an array is live for one of the classes
pub live_listed : (v : MachineView) → IsWhole v → (a : ℕ) (s : Standing) → s ≡ standing_at v.standings a → IfLive s (λ c. c.class < class_total v.history.origin)
live_listed v whole a s is = if_live _ s (λ c e. whole.live_classes a c (sym is ∙ e))

-- a class of the origin is one of the tables
pub class_listed : (t : TablesView) (h : Log) → StandsAt t h → (k : ℕ) → k < class_total h.origin → k < length t.supers
class_listed t h stands k inside = subst (λ n. k < n) (sym (class_count t h stands)) inside

-- a sender's place that was read
pub sender_read : (whereabouts : List Whereabouts) (n : ℕ) (p : Whereabouts) → n < length whereabouts → p ≡ slice_index_or whereabouts n p → p ≡ sender_at whereabouts n
sender_read whereabouts n p inside read = read ∙ get_or_default whereabouts n p Out inside

-- an array's standing that was read
pub standing_read : (v : MachineView) → IsWhole v → (a : ℕ) (s : Standing) → a < length (map length v.arrays) → s ≡ slice_index_or v.standings a s → s ≡ standing_at v.standings a
standing_read v whole a s inside read = read ∙ get_or_default v.standings a s Free (subst (λ n. a < n) (array_count v.arrays ∙ sym whole.standings) inside)

-- the words of an array that was read, and their number
pub words_read : (arrays : List (List ℕ)) (a : ℕ) (words : List ℕ) → a < length (map length arrays) → words ≡ slice_index_or arrays a words → words ≡ slice_index_or arrays a []
words_read arrays a words inside read = read ∙ get_or_default arrays a words [] (subst (λ n. a < n) (array_count arrays) inside)

pub capacity_is : (arrays : List (List ℕ)) (a : ℕ) → a < length (map length arrays) → slice_index (map length arrays) a ≡ length (slice_index_or arrays a [])
capacity_is arrays a inside = get_or-map length arrays a [] 0 (subst (λ n. a < n) (array_count arrays) inside)

pub spoiled_as : (look : ClassRef → ℕ → ℕ) (arrays : List (List ℕ)) (a : ℕ) (words : List ℕ) (s : Standing) → a < length (map length arrays) → words ≡ slice_index_or arrays a words
    → is_spoiled look (length words) (slice_index words) s ≡ is_spoiled look (slice_index (map length arrays) a) (word_at arrays a) s
spoiled_as look arrays a words s inside read =
    let is = words_read arrays a words inside read in
    ap (λ ws. is_spoiled look (length ws) (slice_index ws) s) is ∙ ap (λ n. is_spoiled look n (word_at arrays a) s) (sym (capacity_is arrays a inside))

-- a change that is made on its own is refused as it is
pub refused_alone : (g : Log) (x : Change) → refusal_of_all g (x ∷ []) ≡ refusal g x
refused_alone g x = refused-one g x

-- the history of changes each of which was made on its own
abbrev pub alone : OriginView → List Change → History
alone o xs = record { origin = o; changes = map (λ x. x ∷ []) xs }

alone-push : (o : OriginView) (xs : List Change) (x : Change) → alone o (xs ++ x ∷ []) ≡ and_then (alone o xs) (x ∷ [])
alone-push o xs x = ap (λ cs. (let h : History = record { origin = o; changes = cs } in h)) (push xs)
  where
    push : (ys : List Change) → map (λ (y : Change). y ∷ []) (ys ++ x ∷ []) ≡ map (λ (y : Change). y ∷ []) ys ++ (x ∷ []) ∷ []
    push [] = refl
    push (y ∷ ys) = ap (λ cs. (y ∷ []) ∷ cs) (push ys)

-- tables that are at a history, and then at it with one more change
pub stands_longer : (t : TablesView) (o : OriginView) (xs : List Change) (x : Change) → StandsAt t (logs.and_then (log (alone o xs)) x) → StandsAt t (log (alone o (xs ++ x ∷ [])))
stands_longer t o xs x stands = subst (λ g. StandsAt t g) (sym (log-one (alone o xs) x) ∙ ap log (sym (alone-push o xs x))) stands
