-- Several lookups that are answered as one.
use Rattle.std.proofs.Common.{◌≡◌, ◌<◌, ◌≤◌, ◌+◌, ℕ, suc, false, List, [], ◌∷◌, ◌++◌, length, map, take, Some, None, inl, inr, sym, subst, ap, ap₂, ◌∙◌, arith, append_assoc}
use Rattle.std.specs.Prelude.{◌⊎◌, ◌≢◌, ◌^◌, if◌then◌else◌, nat_lt, Option, option_and_then, unwrap_or, IsSome, is_some, slice_get, slice_set}
use Rattle.std.specs.Option.{option_or}
use Rattle.std.proofs.Math.Nat.{eq-or-lt_of_le}
use Rattle.std.proofs.Math.Seq.{take-suc}
use Rattle.std.proofs.lemmas.List.{get_or-set_other, get_or-set_same, length-set, length-take-le, map-append, take_all, take_more_set}
use Rattle.std.proofs.lemmas.Option.{get_or_from_slice_get, slice_get-get_or, slice_get_within}
use Rattle.msg_names.specs.ClassRef.{slot_of}
use Rattle.msg_names.specs.Number.{selector_number}
use Rattle.msg_names.specs.declared.value.ClassRef.{ClassRef}
use Rattle.msg_names.specs.declared.value.ImpRef.{ImpRef}
use Rattle.msg_tables.specs.History.{History, BeginsWith}
use Rattle.msg_tables.proofs.BeginsLemmas.{begins_same}
use Rattle.msg_model.specs.State.{first}
use Rattle.msg_cache.proofs.PastLemmas.{begins_first, first_begins}
use Rattle.msg_cache.specs.declared.view.SenderView.{SenderView}
use Rattle.msg_reader.specs.Kept.{LoadsMore, StayAt}
use Rattle.msg_reader.specs.Notes.{found_by, recalled_of}
use Rattle.msg_reader.specs.Several.{AreFoundAfter, AreFoundAt, AreFoundTogether, IsAmong, IsNotedAmong, IsNotedOrAt, IsOfLast, LackOne, LacksIt, LoadsAmong, found_of, lies_at}
use Rattle.msg_reader.specs.declared.lookup.Lookup.{Lookup}
use Rattle.msg_reader.specs.declared.note.Note.{Note}
use Rattle.msg_reader.specs.declared.notes.Notes.{Notes}
use Rattle.msg_reader.proofs.ReaderLemmas.{as_long}

-- the first changes of a longer history are those of one that has so many
pub first_is : (p h : History) (n : ℕ) → BeginsWith p h → n ≡ length h.changes → first n p ≡ h
first_is p h n b is =
    let some : n ≤ length p.changes = omega (arith, as_long p h b, is) in
    begins_same (first n p) h (begins_first p h n b (omega (arith, is))) (length-take-le n p.changes some ∙ is)

-- ---- what is found

take_one : (ks : List Lookup) (place : ℕ) (k : Lookup) → slice_get ks place ≡ Some k → take (place + 1) ks ≡ take place ks ++ k ∷ []
take_one ks place k is =
    let more : place + 1 ≡ suc place = omega arith in
    ap (λ n. take n ks) more ∙ take-suc ks place k (slice_get_within ks place k is) ∙ ap (λ x. take place ks ++ x ∷ []) (get_or_from_slice_get ks place k k is)

-- one answer more
pub found_next : (h : History) (ks : List Lookup) (imps : List ℕ) (place : ℕ) (k : Lookup) (i : ℕ) → place < length imps → slice_get ks place ≡ Some k → i ≡ found_of h k
    → AreFoundAt h (take place ks) (take place imps) → AreFoundAt h (take (place + 1) ks) (take (place + 1) (slice_set imps place i))
found_next h ks imps place k i inside at is so =
    take_more_set imps place i inside
    ∙ ap₂ (λ a b. a ++ b ∷ []) so is
    ∙ sym (map-append (found_of h) (take place ks) (k ∷ []))
    ∙ sym (ap (map (found_of h)) (take_one ks place k at))

-- all of them
pub found_whole : (h : History) (ks : List Lookup) (imps : List ℕ) (place : ℕ) → length imps ≡ length ks → length ks ≤ place → AreFoundAt h (take place ks) (take place imps) → AreFoundAt h ks imps
found_whole h ks imps place same all so =
    sym (take_all place imps (omega (arith, same, all))) ∙ so ∙ ap (map (found_of h)) (take_all place ks all)

-- after this number of changes that are seen then is at one history
pub found_together : (v w : SenderView) (ks : List Lookup) (imps : List ℕ) (n : ℕ) → BeginsWith w.front v.front → AreFoundAfter v w ks imps n → AreFoundTogether v w ks imps
found_together v w ks imps n b are = (first n w.front, begins_first w.front v.front n b are.since, first_begins n w.front, are.found)

-- ---- what isn't

-- a stamp that was loaded later, or with others after it
pub among_later : (c : ClassRef) (n : ℕ) (v u w : SenderView) → LoadsMore v u → LoadsAmong c n u w → LoadsAmong c n v w
among_later c n v u w (start, from) (more, before, is) =
    let grouped : before ++ u.stamps ≡ (before ++ start) ++ v.stamps = ap (λ (l : List (ClassRef × ℕ)). before ++ l) from ∙ sym (append_assoc before start v.stamps) in
    (more, before ++ start, is ∙ ap (λ (l : List (ClassRef × ℕ)). more ++ ((c, n) ∷ l)) grouped)

pub among_before : (c : ClassRef) (n : ℕ) (v u w : SenderView) → LoadsAmong c n v u → LoadsMore u w → LoadsAmong c n v w
among_before c n v u w (more, before, is) (last, from) =
    (last ++ more, before, from ∙ ap (λ (l : List (ClassRef × ℕ)). last ++ l) is ∙ sym (append_assoc last more ((c, n) ∷ (before ++ v.stamps))))

pub more_more : (v u w : SenderView) → LoadsMore v u → LoadsMore u w → LoadsMore v w
more_more v u w (start, from) (last, to) = (last ++ start, to ∙ ap (λ (l : List (ClassRef × ℕ)). last ++ l) from ∙ sym (append_assoc last start v.stamps))

-- the notes stay as long as they have each lookup
abbrev pub StayUnlessLacking : Notes → List Lookup → SenderView → SenderView → Notes → Type 0
StayUnlessLacking n ks v w m = (m ≡ n) ⊎ LackOne n ks v w

module _ (n : Notes) (ks : List Lookup) (k : Lookup) (count : ℕ) (v u w : SenderView) (some : length v.front.changes ≤ count) (among : IsAmong ks k) (start : LoadsMore v u) (next : LoadsMore u w) where
  lack_later : (m : Notes) → m ≡ n → LacksIt m count k u w → LackOne n ks v w
  lack_later m same (since, loaded, inl above) = (k, among, (since, among_later k.class since v u w start loaded, inl (omega (arith, some, above))))
  lack_later m same (since, loaded, inr none) = (k, among, (since, among_later k.class since v u w start loaded, inr (ap (λ (q : Notes). recalled_of q since k.class k.sel) (sym same) ∙ none)))

  lack_before : LackOne n ks v u → LackOne n ks v w
  lack_before (j, is, (since, loaded, why)) = (j, is, (since, among_before j.class since v u w loaded next, why))

  -- one more lookup, which finds something or nothing
  pub stay_next : (m m' : Notes) (found : Option ImpRef) → StayUnlessLacking n ks v u m → (IsSome found × (m' ≡ m)) ⊎ LacksIt m count k u w → StayUnlessLacking n ks v w m'
  stay_next m m' found (inl same) (inl (is, kept)) = inl (kept ∙ same)
  stay_next m m' found (inl same) (inr lacks) = inr (lack_later m same lacks)
  stay_next m m' found (inr lacked) step = inr (lack_before lacked)

  pub lack_next : (m m' : Notes) (found : Option ImpRef) → found ≡ None → StayUnlessLacking n ks v u m → (IsSome found × (m' ≡ m)) ⊎ LacksIt m count k u w → LackOne n ks v w
  lack_next m m' found none (inl same) (inl (is, kept)) =
      let off : is_some found ≡ false = ap is_some none in
      absurd (cc)
  lack_next m m' found none (inl same) (inr lacks) = lack_later m same lacks
  lack_next m m' found none (inr lacked) step = lack_before lacked

-- ---- behind the lock

-- histories that begin with one another are one
pub same_both : (p h : History) → BeginsWith p h → BeginsWith h p → p ≡ h
same_both p h b d = begins_same p h b (omega (arith, as_long p h b, as_long h p d))

-- ---- what is noted

-- the two notes at its place are all that notes have of a lookup
pub recalled_there : (m n : Notes) (since : ℕ) (k : Lookup) → StayAt (lies_at k) m n → recalled_of n since k.class k.sel ≡ recalled_of m since k.class k.sel
recalled_there m n since k stay =
    let found = λ (o : Option Note). option_and_then (λ d. found_by d since (slot_of k.class) (selector_number k.sel)) o in
    ap₂ (λ (o p : Option Note). if nat_lt (slot_of k.class) (2 ^ 26) then option_or (found o) (found p) else None) stay.0 stay.1

-- what stays, stays on
pub stay_on : (m n o : Notes) (place : ℕ) → StayAt place m n → StayAt place n o → StayAt place m o
stay_on m n o place before after = (after.0 ∙ before.0, after.1 ∙ before.1)

-- one answer is put at its place, and the others stay
put_there : (imps : List ℕ) (place i j : ℕ) → slice_get (slice_set imps place i) place ≡ Some j → i ≡ j
put_there imps place i j is =
    let within : place < length imps = omega (arith, length-set imps place i, slice_get_within (slice_set imps place i) place j is) in
    sym (get_or-set_same imps place i 0 within) ∙ get_or_from_slice_get (slice_set imps place i) place j 0 is

put_elsewhere : (imps : List ℕ) (place other i j : ℕ) → other ≢ place → slice_get (slice_set imps place i) other ≡ Some j → slice_get imps other ≡ Some j
put_elsewhere imps place other i j apart is =
    let within : other < length imps = omega (arith, length-set imps place i, slice_get_within (slice_set imps place i) other j is) in
    slice_get-get_or imps other 0 within
    ∙ ap (λ (n : ℕ). Some n) (sym (get_or-set_other imps place other i 0 apart) ∙ get_or_from_slice_get (slice_set imps place i) other j 0 is)

-- one more lookup is noted
pub noted_next : (was is : Lookup → ℕ → Type 0) (ks : List Lookup) (imps : List ℕ) (place : ℕ) (k : Lookup) (i : ℕ) → slice_get ks place ≡ Some k → is k i
    → ((j : Lookup) (x : ℕ) → lies_at j ≢ lies_at k → was j x → is j x) → IsOfLast place was ks imps → IsOfLast (place + 1) is ks (slice_set imps place i)
noted_next was is ks imps place k i at one on all p j x lt here has last = split (eq-or-lt_of_le (omega (arith, lt)))
  where
    split : (p ≡ place) ⊎ (p < place) → is j x
    split (inl same) =
        let some : Some k ≡ Some j = sym at ∙ sym (ap (slice_get ks) same) ∙ here in
        let lookup-is : k ≡ j = ap (λ (o : Option Lookup). unwrap_or o k) some in
        let number : i ≡ x = put_there imps place i x (sym (ap (slice_get (slice_set imps place i)) same) ∙ has) in
        subst (λ (t : Lookup × ℕ). is t.0 t.1) (λ z. (lookup-is z, number z)) one
    split (inr less) =
        let was-so = all p j x less here (put_elsewhere imps place p i x (λ e. omega (arith, e, less)) has) (λ later q above below. last later q above (omega (arith, below))) in
        on j x (last place k less (omega arith) at) was-so

-- what was noted is, where the note of the next lookup lies elsewhere
pub noted_on : (m n : Notes) (u v w : SenderView) (k j : Lookup) (x : ℕ) → ((other : ℕ) → other ≢ lies_at k → StayAt other m n) → LoadsMore v w → lies_at j ≢ lies_at k
    → IsNotedAmong m u v j x → IsNotedAmong n u w j x
noted_on m n u v w k j x others after apart (since, loaded, kept) =
    (since, among_before j.class since u v w loaded after, λ low. recalled_there m n since j (others (lies_at j) apart) ∙ kept low)

-- the next one is
pub noted_one : (n : Notes) (u v w : SenderView) (k : Lookup) (i : ℕ) → LoadsMore u v → IsNotedAmong n v w k i → IsNotedAmong n u w k i
noted_one n u v w k i before (since, loaded, kept) = (since, among_later k.class since u v w before loaded, kept)

-- so it is behind the lock
module _ (h : History) (m n : Notes) (u v w : SenderView) where
  pub noted_or_on : (k j : Lookup) (x : ℕ) → ((other : ℕ) → other ≢ lies_at k → StayAt other m n) → LoadsMore v w → lies_at j ≢ lies_at k
      → IsNotedOrAt h m u v j x → IsNotedOrAt h n u w j x
  noted_or_on k j x others after apart (inl noted) = inl (noted_on m n u v w k j x others after apart noted)
  noted_or_on k j x others after apart (inr noted) = inr (λ low. recalled_there m n (length h.changes) j (others (lies_at j) apart) ∙ noted low)

  pub noted_or_one : (k : Lookup) (i : ℕ) → LoadsMore u v → IsNotedOrAt h n v w k i → IsNotedOrAt h n u w k i
  noted_or_one k i before (inl noted) = inl (noted_one n u v w k i before noted)
  noted_or_one k i before (inr noted) = inr noted

  pub noted_or_later : (k : Lookup) (i : ℕ) → LoadsMore v w → IsNotedOrAt h n u v k i → IsNotedOrAt h n u w k i
  noted_or_later k i after (inl (since, loaded, kept)) = inl (since, among_before k.class since u v w loaded after, kept)
  noted_or_later k i after (inr noted) = inr noted

-- all are noted
pub noted_whole : (is : Lookup → ℕ → Type 0) (ks : List Lookup) (imps : List ℕ) (m : ℕ) → length ks ≤ m → IsOfLast m is ks imps → IsOfLast (length ks) is ks imps
noted_whole is ks imps m all noted place k i lt here has last =
    noted place k i (omega (arith, lt, all)) here has (λ later j above below at. last later j above (slice_get_within ks later j at) at)
