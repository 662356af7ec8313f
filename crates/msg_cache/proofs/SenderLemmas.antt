-- The steps of a sender: each keeps the rule, and is its event on the state that is shown.
use Rattle.std.proofs.Common.{◌≡◌, ◌≢◌, ℕ, zero, suc, ◌+◌, ◌<◌, ◌≤◌, List, length, Bool, refl, sym, ap, ◌∙◌, subst, inl, inr, ⊎_elim, arith}
use Rattle.std.specs.Prelude.{slice_index, slice_set}
use Rattle.std.proofs.lemmas.List.{get_or-set_other, get_or-set_same, set-get_or, length-take}
use Rattle.std.proofs.Math.ListN.{length-set}
use mathlib.Core.Option.{some}
use lib.ListN.{get_elem?}
use Rattle.msg_names.specs.declared.value.ClassRef.{ClassRef}
use Rattle.msg_buckets.specs.Word.{sel_of, imp_of}
use Rattle.msg_tables.specs.Origin.{OriginView}
use Rattle.msg_tables.specs.History.{History, BeginsWith}
use Rattle.msg_model.specs.Event.{Enter, Header, Read, Leave}
use Rattle.msg_model.specs.declared.state.Standing.TheVariants.{Live, Retired}
use Rattle.msg_model.specs.declared.state.Whereabouts.{Whereabouts}
use Rattle.msg_model.specs.declared.state.Whereabouts.TheVariants.{Out, In, Holding}
use Rattle.msg_model.specs.State.{Layout, capacity, size, first, Agrees, KeepsFor, Sound}
use Rattle.msg_model.specs.Steps.{at, seeing, held_word}
use Rattle.msg_model.specs.View.{standing_at}
use Rattle.msg_model.proofs.PointLemmas.{number_or, at_same, at_other}
use Rattle.msg_model.proofs.RunLemmas.{sound_after, holds_seen}
use Rattle.msg_cache.specs.declared.view.SenderView.{SenderView}
use Rattle.msg_cache.specs.declared.view.View.{View}
use Rattle.msg_cache.specs.declared.view.View.TheVariants.{Sender}
use Rattle.msg_cache.specs.Layout.{header_at, base, stamp_at, probe_at}
use Rattle.msg_model.specs.Stamps.{last_affected}
use Rattle.msg_cache.specs.Rule.{named, word_in, in_word, shown, FitsSender, IsCopied, Ruled, shown_by, GoesBy, Stays}
use Rattle.msg_cache.specs.Plays.{headed, read_on, gone_to, told_to, stamped_to}
use Rattle.msg_cache.proofs.LayoutLemmas.{inside, header_inside, stamp_inside}
use Rattle.msg_model.proofs.LegalSteps.{may_enter, may_load, may_read, may_leave}
use Rattle.msg_tables.proofs.BeginsLemmas.{begins_refl, begins_length}
use Rattle.msg_cache.proofs.PastLemmas.{first_begins, begins_first}
use Rattle.msg_cache.proofs.SeatLemmas.{number_below, sender_goes}
use Rattle.msg_cache.proofs.ShownLemmas.{live_is, word_is}

-- a load leaves the words, and they show a sender that is in as it was
copies_load : (look : History → ClassRef → ℕ → ℕ) (z : Layout) (origin : OriginView) (words : List ℕ) (views : List View) (r : Ruled look z origin words views) (i n num : ℕ) (whereabouts' : ℕ → Whereabouts)
    → n ≡ slice_index words i → in_word (whereabouts' num) ≡ in_word (r.whereabouts num) → ((m : ℕ) → m ≢ num → whereabouts' m ≡ r.whereabouts m) → IsCopied z r.keeper whereabouts' (slice_set words i n)
copies_load look z origin words views r i n num whereabouts' found same away =
    let back : slice_set words i n ≡ words = ap (slice_set words i) found ∙ set-get_or words i 0 in
    subst (IsCopied z r.keeper whereabouts') (sym back) (record {
      copied = r.copies.copied;
      probed = λ m lt. r.copies.probed m lt ∙ ⊎_elim
          (λ (eq : m ≡ num). ap (λ x. in_word (r.whereabouts x)) eq ∙ sym same ∙ ap (λ x. in_word (whereabouts' x)) (sym eq))
          (λ (ne : m ≢ num). ap in_word (sym (away m ne)))
          (number_or m num);
      count = r.copies.count;
    })

module _ (look : History → ClassRef → ℕ → ℕ) (z : Layout) (origin : OriginView) (words : List ℕ) (views : List View) (r : Ruled look z origin words views) (id : ℕ) (v : SenderView) (at_id : get_elem? views id ≡ some (Sender v)) where
  mine : FitsSender r.keeper r.seat r.whereabouts id v
  mine = r.views_fit id (Sender v) at_id

  below : v.number < z.senders
  below = number_below look z origin words words views r id v at_id

  -- a store of the sender's own probe word
  copies_probe : (n : ℕ) (p : Whereabouts) → n ≡ in_word p → IsCopied z r.keeper (at r.whereabouts v.number p) (slice_set words (probe_at z v.number) n)
  copies_probe n p is =
      let lt = below in let len = r.copies.count in record {
        copied = λ i il. get_or-set_other words (probe_at z v.number) i n 0 (λ e. absurd (omega arith)) ∙ r.copies.copied i il;
        probed = λ m ml. ⊎_elim
            (λ (eq : m ≡ v.number). ap (λ x. slice_index (slice_set words (probe_at z v.number) n) (probe_at z x)) eq ∙ get_or-set_same words (probe_at z v.number) n 0 (omega arith) ∙ is
            ∙ ap in_word (sym (at_same r.whereabouts v.number p)) ∙ ap (λ x. in_word (at r.whereabouts v.number p x)) (sym eq))
            (λ (ne : m ≢ v.number). get_or-set_other words (probe_at z v.number) (probe_at z m) n 0 (λ e. ne (omega arith)) ∙ r.copies.probed m ml ∙ ap in_word (sym (at_other r.whereabouts v.number p m ne)))
            (number_or m v.number);
        count = length-set words (probe_at z v.number) n ∙ len;
      }

  pub enter_step : v.whereabouts ≡ Out → GoesBy look z origin r (Enter v.number) (slice_set words (probe_at z v.number) 1) (slice_set views id (Sender (gone_to v v.front In)))
  enter_step out =
      let legal = may_enter look z (shown_by look z origin r) v.number below (mine.placed ∙ out) in (
        legal,
        sender_goes look z origin words (slice_set words (probe_at z v.number) 1) views r id v (gone_to v v.front In) (at r.whereabouts v.number In) at_id refl (at_same r.whereabouts v.number In) (at_other r.whereabouts v.number In)
            mine.begins (omega arith) (λ c a m aw e. absurd (cc)) (copies_probe 1 In refl) (sound_after look z r.kept.some_sender (shown_by look z origin r) (Enter v.number) r.sound legal),
      )

  pub leave_step : v.whereabouts ≢ Out → GoesBy look z origin r (Leave v.number) (slice_set words (probe_at z v.number) 0) (slice_set views id (Sender (gone_to v v.front Out)))
  leave_step in_it =
      let legal = may_leave look z (shown_by look z origin r) v.number below (λ e. in_it (sym mine.placed ∙ e)) in (
        legal,
        sender_goes look z origin words (slice_set words (probe_at z v.number) 0) views r id v (gone_to v v.front Out) (at r.whereabouts v.number Out) at_id refl (at_same r.whereabouts v.number Out) (at_other r.whereabouts v.number Out)
            mine.begins (omega arith) (λ c a m aw e. absurd (cc)) (copies_probe 0 Out refl) (sound_after look z r.kept.some_sender (shown_by look z origin r) (Leave v.number) r.sound legal),
      )

  -- the live array that a header load sees, and the word that a read sees, are the shown ones
  pub header_seen : (c : ClassRef) (n : ℕ) → c.class < z.classes → n ≡ slice_index words (header_at c) → (shown_by look z origin r).live c ≡ named n
  header_seen c n lt found = live_is z r.keeper.words c lt ∙ ap named (sym (found ∙ r.copies.copied (header_at c) (header_inside z c lt)))

  pub bucket_seen : (c : ClassRef) (a p n : ℕ) → v.whereabouts ≡ Holding c a → p < capacity z a → n ≡ slice_index words (base z a + p)
      → n ≡ held_word (shown_by look z origin r).word ((shown_by look z origin r).whereabouts v.number) p
  bucket_seen c a p n holds lt found =
      found ∙ r.copies.copied (base z a + p) (inside z a p lt) ∙ sym (word_is z r.keeper.words a p lt) ∙ sym (ap (λ w. held_word (word_in z r.keeper.words) w p) (mine.placed ∙ holds))

  -- the front afterwards is the history now
  pub header_step : (c : ClassRef) (s n : ℕ) → v.whereabouts ≡ In → c.class < z.classes → n ≡ slice_index words (header_at c)
      → GoesBy look z origin r (Header v.number c) (slice_set words (header_at c) n) (slice_set views id (Sender (headed c s r.keeper.history v n))) × (n ≤ length z.capacities)
  header_step c s n is_in lt found =
      let k = r.keeper in
      let m = shown_by look z origin r in
      let legal = may_load look z m v.number c below lt (mine.placed ∙ is_in) in
      let is : m.live c ≡ named n = header_seen c n lt found in
      let goes : at r.whereabouts v.number (seeing c (m.live c)) ≡ at r.whereabouts v.number (seeing c (named n)) = ap (λ o. at r.whereabouts v.number (seeing c o)) is in
      let next = sender_goes look z origin words (slice_set words (header_at c) n) views r id v (headed c s k.history v n) (at r.whereabouts v.number (seeing c (named n))) at_id refl (at_same r.whereabouts v.number (seeing c (named n)))
      (at_other r.whereabouts v.number (seeing c (named n))) (begins_refl k.history) (begins_length k.history v.front mine.begins)
      (λ d a y aw e gone. let lives = (holds_seen look z r.kept.some_sender m c (named n) r.sound lt is d a e).0 in let u : Live d ≡ Retired d y aw = sym lives ∙ gone in absurd (cc))
      (copies_load look z origin words views r (header_at c) n v.number (at r.whereabouts v.number (seeing c (named n))) found
      (ap in_word (at_same r.whereabouts v.number (seeing c (named n))) ∙ in_is n ∙ sym (ap in_word (mine.placed ∙ is_in))) (at_other r.whereabouts v.number (seeing c (named n))))
      (subst (λ f. Sound look z (shown z k f)) goes (sound_after look z r.kept.some_sender m (Header v.number c) r.sound legal)) in
      ((legal, (next.0, next.1 ∙ sym (ap (λ f. shown z k f) goes))), among n is)
    where
      in_is : (n : ℕ) → in_word (seeing c (named n)) ≡ 1
      in_is zero = refl
      in_is (suc n) = refl

      among : (n : ℕ) → (shown_by look z origin r).live c ≡ named n → n ≤ length z.capacities
      among zero e = omega arith
      among (suc a) e = let t = r.sound.in_range.live_array c a (r.sound.lawful.live_stands c a lt e) in omega arith

  -- The front is raised if the word has the selector that is looked for: to the history now if the
  -- array is live, and otherwise to what it was when the array was retired.
  pub bucket_step : (a p n : ℕ) → v.whereabouts ≡ Holding v.last.class a → p < capacity z a → 0 < v.last.sel → n ≡ slice_index words (base z a + p)
      → (g : History) × GoesBy look z origin r (Read v.number p) (slice_set words (base z a + p) n) (slice_set views id (Sender (read_on g v (base z a + p) n))) × BeginsWith g v.front
      × (sel_of n ≡ v.last.sel → imp_of n ≡ look g v.last.class v.last.sel) × (sel_of n ≢ v.last.sel → g ≡ v.front)
  bucket_step a p n holds lt sought found =
      ⊎_elim (λ (eq : sel_of n ≡ v.last.sel). hit eq (r.sound.lawful.held v.number v.last.class a (mine.placed ∙ holds))) miss (number_or (sel_of n) v.last.sel)
    where
      i : ℕ
      i = base z a + p

      copy : n ≡ word_in z r.keeper.words a p
      copy = found ∙ r.copies.copied i (inside z a p lt) ∙ sym (word_is z r.keeper.words a p lt)

      Goal : Type 0
      Goal = (g : History) × GoesBy look z origin r (Read v.number p) (slice_set words i n) (slice_set views id (Sender (read_on g v i n))) × BeginsWith g v.front
          × (sel_of n ≡ v.last.sel → imp_of n ≡ look g v.last.class v.last.sel) × (sel_of n ≢ v.last.sel → g ≡ v.front)

      goes : (g : History) → BeginsWith r.keeper.history g → size v.front ≤ size g → ((c : ClassRef) (b m : ℕ) (aw : List Bool) → v.whereabouts ≡ Holding c b → standing_at r.keeper.standings b ≡ Retired c m aw → size g ≤ m)
          → GoesBy look z origin r (Read v.number p) (slice_set words i n) (slice_set views id (Sender (read_on g v i n)))
      goes g begins longer behind = (
        may_read look z (shown_by look z origin r) v.number p v.last.class a below (mine.placed ∙ holds) lt,
        sender_goes look z origin words (slice_set words i n) views r id v (read_on g v i n) r.whereabouts at_id refl mine.placed (λ m ne. refl) begins longer behind
            (copies_load look z origin words views r i n v.number r.whereabouts found refl (λ m ne. refl)) r.sound,
      )

      good : (there : ClassRef → ℕ → ℕ) → sel_of n ≡ v.last.sel → Agrees there v.last.class (word_in z r.keeper.words a p) → imp_of n ≡ there v.last.class v.last.sel
      good there eq agrees =
          let entry : word_in z r.keeper.words a p ≢ 0 = λ e. let u : sel_of n ≡ 0 = ap sel_of (copy ∙ e) in absurd (omega arith) in
          ap imp_of copy ∙ (agrees entry).1 ∙ ap (there v.last.class) (ap sel_of (sym copy) ∙ eq)

      same_array : (c : ClassRef) (b : ℕ) → v.whereabouts ≡ Holding c b → a ≡ b
      same_array c b e = let u : Holding v.last.class a ≡ Holding c b = sym holds ∙ e in cc

      hit : sel_of n ≡ v.last.sel → KeepsFor (standing_at r.keeper.standings a) v.last.class v.number → Goal
      hit eq (inl live) = (
        r.keeper.history,
        goes r.keeper.history (begins_refl r.keeper.history) (begins_length r.keeper.history v.front mine.begins)
            (λ c b m aw e gone. let u : Live v.last.class ≡ Retired c m aw = sym live ∙ ap (standing_at r.keeper.standings) (same_array c b e) ∙ gone in absurd (cc)),
        mine.begins,
        (λ _. good (look r.keeper.history) eq (r.sound.lawful.live_words v.last.class a p live lt)),
        (λ ne. absurd (ne eq)),
      )
      hit eq (inr (m, aw, gone, waits)) = (
        first m r.keeper.history,
        goes (first m r.keeper.history) (first_begins m r.keeper.history) (begins_length (first m r.keeper.history) v.front (begins_first r.keeper.history v.front m mine.begins (mine.behind v.last.class a m aw holds gone)))
            (λ c b m' aw' e gone'.
            let u : Retired v.last.class m aw ≡ Retired c m' aw' = sym gone ∙ ap (standing_at r.keeper.standings) (same_array c b e) ∙ gone' in
            let mm : m ≡ m' = cc in omega (arith, length-take m r.keeper.history.changes)),
        begins_first r.keeper.history v.front m mine.begins (mine.behind v.last.class a m aw holds gone),
        (λ _. good (look (first m r.keeper.history)) eq (r.sound.lawful.retired_words v.last.class m a p aw gone lt)),
        (λ ne. absurd (ne eq)),
      )

      miss : sel_of n ≢ v.last.sel → Goal
      miss ne = (v.front, goes v.front mine.begins (omega arith) mine.behind, record { same = refl; rest = (begins_refl v.front).rest }, (λ eq. absurd (ne eq)), (λ _. refl))

  pub version_step : (n : ℕ) → ((c : ClassRef) (a : ℕ) → v.whereabouts ≢ Holding c a) → n ≡ slice_index words 0
      → Stays look z origin r (slice_set words 0 n) (slice_set views id (Sender (told_to v r.keeper.history))) × BeginsWith r.keeper.history v.front × (size r.keeper.history ≡ n)
  version_step n free found = (
    sender_goes look z origin words (slice_set words 0 n) views r id v (told_to v r.keeper.history) r.whereabouts at_id refl mine.placed (λ m ne. refl) (begins_refl r.keeper.history) (begins_length r.keeper.history v.front mine.begins)
        (λ c a m aw e. absurd (free c a e)) (copies_load look z origin words views r 0 n v.number r.whereabouts found refl (λ m ne. refl)) r.sound,
    mine.begins,
    sym (found ∙ r.copies.copied 0 (omega arith) ∙ r.kept.version),
  )

  -- by the load of a stamp the front is the history now too
  pub stamp_step : (c : ClassRef) (n : ℕ) → c.class < z.classes → ((d : ClassRef) (a : ℕ) → v.whereabouts ≢ Holding d a) → n ≡ slice_index words (stamp_at z c)
      → Stays look z origin r (slice_set words (stamp_at z c) n) (slice_set views id (Sender (stamped_to v r.keeper.history c n))) × BeginsWith r.keeper.history v.front × (last_affected r.keeper.history c ≤ n)
  stamp_step c n lt free found = (
    sender_goes look z origin words (slice_set words (stamp_at z c) n) views r id v (stamped_to v r.keeper.history c n) r.whereabouts at_id refl mine.placed (λ m ne. refl) (begins_refl r.keeper.history) (begins_length r.keeper.history v.front mine.begins)
        (λ d a m aw e. absurd (free d a e)) (copies_load look z origin words views r (stamp_at z c) n v.number r.whereabouts found refl (λ m ne. refl)) r.sound,
    mine.begins,
    (let e = found ∙ r.copies.copied (stamp_at z c) (stamp_inside z c lt) in let t = r.kept.stamps c lt in omega arith),
  )
