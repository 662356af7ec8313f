-- The keeper's steps on words: each keeps the rule, and is its event on the state that is shown.
use Rattle.std.proofs.Common.{◌≡◌, ◌≢◌, ℕ, zero, suc, ◌+◌, ◌<◌, ◌≤◌, ◌⊎◌, List, [], ◌∷◌, map, length, Bool, true, false, Option, Some, None, refl, sym, ap, ◌∙◌, subst, inl, inr, ⊎_elim, arith, length-append, eq-eqb, ne_eqb}
use Rattle.std.specs.Prelude.{◌==◌, slice_index, slice_set, if◌then◌else◌}
use Rattle.std.proofs.lemmas.List.{get_or-set_other, get_or-set_same, set-get_or, length-map}
use Rattle.std.proofs.Math.ListN.{length-set}
use mathlib.Core.Option.{some}
use lib.ListN.{get_elem?}
use Rattle.msg_names.specs.declared.value.ClassRef.{ClassRef}
use Rattle.msg_buckets.specs.Word.{sel_of, imp_of}
use Rattle.msg_tables.specs.Origin.{OriginView}
use Rattle.msg_tables.specs.declared.change.Change.{Change}
use Rattle.msg_tables.specs.History.{History, BeginsWith, and_then, empty, log}
use Rattle.msg_tables.proofs.SeveralLemmas.{accepted-all}
use Rattle.msg_tables.specs.Several.{is_affected_by_all}
use Rattle.msg_model.specs.Event.{Event, Fill, Install, Flush, Look, Clear, Commit}
use Rattle.msg_model.specs.declared.state.Standing.{Standing}
use Rattle.msg_model.specs.declared.state.Standing.TheVariants.{Free, Live, Retired}
use Rattle.msg_model.specs.declared.state.Whereabouts.{Whereabouts}
use Rattle.msg_model.specs.declared.state.Whereabouts.TheVariants.{Out, In, Holding}
use Rattle.msg_model.specs.State.{Layout, State, capacity, size, awaits, state_from, Sound}
use Rattle.msg_model.specs.Steps.{at, stored as stored_at, retired, everyone, seen_out, is_out, after, Legal}
use Rattle.msg_model.specs.View.{standing_at}
use Rattle.msg_model.proofs.KeepLemmas.{looked_retired}
use Rattle.msg_model.proofs.PointLemmas.{number_or, class_or, at_same, at_other}
use Rattle.msg_model.proofs.RunLemmas.{sound_after}
use Rattle.msg_model.proofs.LegalLemmas.{legal_commit}
use Rattle.msg_cache.specs.declared.view.TurnAt.TheVariants.{Away, Home}
use Rattle.msg_cache.specs.declared.view.KeeperView.{KeeperView}
use Rattle.msg_cache.specs.declared.view.View.{View}
use Rattle.msg_cache.specs.declared.view.View.TheVariants.{Keeper}
use Rattle.msg_cache.specs.Layout.{header_at, base, stamp_at, probes, probe_at}
use Rattle.msg_model.specs.Stamps.{last_affected}
use Rattle.msg_cache.specs.Rule.{HasNoEntry, named, live_in, word_in, in_word, shown, IsCopied, IsKept, Ruled, shown_by, GoesBy, Stays}
use Rattle.msg_cache.specs.Plays.{stored, retire, flushed, installed, committed, looked}
use Rattle.msg_cache.proofs.LayoutLemmas.{inside, header_inside, stamp_inside, stamp_same, stamp_no_header, stamp_no_bucket, stamp_no_count}
use Rattle.msg_model.proofs.StampLemmas.{last-next}
use Rattle.msg_model.proofs.LegalSteps.{may_fill, may_install, may_flush, may_look, may_clear}
use Rattle.msg_tables.proofs.BeginsLemmas.{begins_refl, begins_trans, begins_next}
use Rattle.msg_cache.proofs.PastLemmas.{accepted_next}
use Rattle.msg_cache.proofs.SeatLemmas.{keeper_goes}
use Rattle.msg_cache.proofs.ShownLemmas.{live_is, word_is, live_set, word_set, word_header, live_bucket, live_version, word_version, live_stamp, word_stamp, set_as_at, standings_looked}

-- a number that is below an entry of a list: there is that entry
below_entry : (l : List ℕ) (a p : ℕ) → p < slice_index l a → a < length l
below_entry [] a p lt = absurd (omega arith)
below_entry (x ∷ xs) zero p lt = omega arith
below_entry (x ∷ xs) (suc a) p lt = let t = below_entry xs a p lt in omega arith

-- the copy follows a store
copies_store : (z : Layout) (k k' : KeeperView) (whereabouts : ℕ → Whereabouts) (words : List ℕ) (i w : ℕ) → i < probes z → length k.words ≡ probes z → k'.words ≡ slice_set k.words i w → IsCopied z k whereabouts words
    → IsCopied z k' whereabouts (slice_set words i w)
copies_store z k k' whereabouts words i w lt len is s = record {
  copied = λ j jl. ⊎_elim
      (λ (eq : j ≡ i). ap (slice_index (slice_set words i w)) eq ∙ get_or-set_same words i w 0 (let t = s.count in omega arith)
      ∙ sym (get_or-set_same k.words i w 0 (omega arith)) ∙ ap (slice_index (slice_set k.words i w)) (sym eq) ∙ ap (λ l. slice_index l j) (sym is))
      (λ (ne : j ≢ i). get_or-set_other words i j w 0 ne ∙ s.copied j jl ∙ sym (get_or-set_other k.words i j w 0 ne) ∙ ap (λ l. slice_index l j) (sym is))
      (number_or j i);
  probed = λ n nl. get_or-set_other words i (probe_at z n) w 0 (λ e. omega arith) ∙ s.probed n nl;
  count = length-set words i w ∙ s.count;
}

-- a load leaves the words
copies_same : (z : Layout) (k : KeeperView) (whereabouts : ℕ → Whereabouts) (words : List ℕ) (i : ℕ) → IsCopied z k whereabouts words → IsCopied z k whereabouts (slice_set words i (slice_index words i))
copies_same z k whereabouts words i s = subst (IsCopied z k whereabouts) (sym (set-get_or words i 0)) s

-- the keeper's view, with words and standings of the same number, and other stores
kept_as : (z : Layout) (origin : OriginView) (k : KeeperView) (words : List ℕ) (standings : List Standing) (stores : List (ℕ × ℕ)) → IsKept z origin k → length words ≡ length k.words → length standings ≡ length k.standings
    → slice_index words 0 ≡ slice_index k.words 0 → ((c : ClassRef) → c.class < z.classes → last_affected k.history c ≤ slice_index words (stamp_at z c)) → IsKept z origin (record k { words = words; standings = standings; stores = stores })
kept_as z origin k words standings stores s count same version stamps = record {
  words = count ∙ s.words;
  standings = same ∙ s.standings;
  given = s.given;
  version = version ∙ s.version;
  stamps = stamps;
  begins = s.begins;
  accepted = s.accepted;
  told = s.told;
  home = s.home;
  never = s.never;
  some_sender = s.some_sender;
}

-- stamps stay where another word is stored
stamps_else : (z : Layout) (h : History) (words : List ℕ) (i w : ℕ) → ((c : ClassRef) → c.class < z.classes → last_affected h c ≤ slice_index words (stamp_at z c)) → ((c : ClassRef) → c.class < z.classes → stamp_at z c ≢ i)
    → (c : ClassRef) → c.class < z.classes → last_affected h c ≤ slice_index (slice_set words i w) (stamp_at z c)
stamps_else z h words i w stamps apart c lt = let e = get_or-set_other words i (stamp_at z c) w 0 (apart c lt) in let t = stamps c lt in omega arith

-- and once a sender number was looked at
kept_looked : (z : Layout) (origin : OriginView) (k : KeeperView) (n : ℕ) (out : Bool) → IsKept z origin k → IsKept z origin (looked n out k)
kept_looked z origin k n out s = record {
  words = s.words;
  standings = as_many out ∙ s.standings;
  given = s.given;
  version = s.version;
  stamps = s.stamps;
  begins = s.begins;
  accepted = s.accepted;
  told = s.told;
  home = s.home;
  never = s.never;
  some_sender = s.some_sender;
}
  where
    as_many : (b : Bool) → length (if b then map (seen_out n) k.standings else k.standings) ≡ length k.standings
    as_many true = length-map k.standings (seen_out n)
    as_many false = refl

module _ (z : Layout) (k : KeeperView) (whereabouts : ℕ → Whereabouts) where
  retire_length : (c : ClassRef) (o : Option ℕ) → length (retire c o k) ≡ length k.standings
  retire_length c None = refl
  retire_length c (Some a) = length-set k.standings a (Retired c (size k.history) (everyone (length k.given)))

  -- the standings once the live array of a class reference is retired
  retire_is : (c : ClassRef) (o : Option ℕ) → length k.given ≡ z.senders → ((a : ℕ) → o ≡ Some a → a < length k.standings) → standing_at (retire c o k) ≡ retired z (shown z k whereabouts) c o
  retire_is c None given there = refl
  retire_is c (Some a) given there =
      set_as_at k.standings a (Retired c (size k.history) (everyone (length k.given))) Free (there a refl)
      ∙ ap (λ (n : ℕ). at (standing_at k.standings) a (Retired c (size k.history) (everyone n))) given

  -- what is retired then was retired before, or is now
  retired_or : (c : ClassRef) (o : Option ℕ) (b : ℕ) (d : ClassRef) (m : ℕ) (aw : List Bool) → retired z (shown z k whereabouts) c o b ≡ Retired d m aw
      → ((old : List Bool) × (standing_at k.standings b ≡ Retired d m old)) ⊎ (size k.history ≤ m)
  retired_or c None b d m aw e = inl (aw, e)
  retired_or c (Some a) b d m aw e = ⊎_elim
      (λ (is : b ≡ a).
      let u : Retired c (size k.history) (everyone z.senders) ≡ Retired d m aw = sym (ap (retired z (shown z k whereabouts) c (Some a)) is ∙ at_same (standing_at k.standings) a (Retired c (size k.history) (everyone z.senders))) ∙ e in
      let same : size k.history ≡ m = cc in inr (omega arith))
      (λ (ne : b ≢ a). inl (aw, sym (at_other (standing_at k.standings) a (Retired c (size k.history) (everyone z.senders)) b ne) ∙ e))
      (number_or b a)

module _ (look : History → ClassRef → ℕ → ℕ) (z : Layout) (origin : OriginView) (words : List ℕ) (views : List View) (r : Ruled look z origin words views) (id : ℕ) (at_id : get_elem? views id ≡ some (Keeper r.keeper)) where
  now : State
  now = shown_by look z origin r

  -- a step of the keeper that is an event
  by_event : (words' : List ℕ) (k' : KeeperView) (e : Event) → IsKept z origin k' → IsCopied z k' r.whereabouts words' → Legal look z (shown_by look z origin r) e → shown z k' r.whereabouts ≡ after z (shown_by look z origin r) e
      → k'.given ≡ r.keeper.given → k'.since ≡ r.keeper.since → BeginsWith k'.history r.keeper.history
      → ((c : ClassRef) (a m : ℕ) (aw : List Bool) → standing_at k'.standings a ≡ Retired c m aw
      → ((old : List Bool) × (standing_at r.keeper.standings a ≡ Retired c m old)) ⊎ (size r.keeper.history ≤ m))
      → ((k'.turn ≡ r.keeper.turn) × (k'.history ≡ r.keeper.history)) ⊎ (r.keeper.turn ≢ Away)
      → GoesBy look z origin r e words' (slice_set views id (Keeper k'))
  by_event words' k' e kept copies legal is given since grows behind turn =
      let next = keeper_goes look z origin words words' views r id k' at_id kept copies
      (subst (Sound look z) (sym is) (sound_after look z r.kept.some_sender (shown_by look z origin r) e r.sound legal)) given since grows behind turn in
      (legal, (next.0, next.1 ∙ is))

  -- an entry is stored in an empty bucket of an array that is live for c
  pub fill_step : (c : ClassRef) (a p w : ℕ) → standing_at r.keeper.standings a ≡ Live c → p < capacity z a → slice_index r.keeper.words (base z a + p) ≡ 0 → 0 < sel_of w → imp_of w ≡ look r.keeper.history c (sel_of w)
      → GoesBy look z origin r (Fill c p w) (slice_set words (base z a + p) w) (slice_set views id (Keeper (stored (base z a + p) w r.keeper)))
  fill_step c a p w lives lt clear sel imp =
      let k = r.keeper in
      let i : ℕ = base z a + p in
      let il : i < probes z = inside z a p lt in
      let m = shown_by look z origin r in
      let live : m.live c ≡ Some a = r.sound.lawful.stands_live c a lives in
      let words_are = word_set z k.words a p w lt r.kept.words ∙ sym (ap (λ o. stored_at m.word o p w) live) in
      by_event (slice_set words i w) (stored i w k) (Fill c p w)
      (kept_as z origin k (slice_set k.words i w) k.standings (stored i w k).stores r.kept (length-set k.words i w) refl (get_or-set_other k.words i 0 w 0 (λ e. omega arith)) (stamps_else z k.history k.words i w r.kept.stamps (λ d dl. stamp_no_bucket z d a p lt)))
      (copies_store z k (stored i w k) r.whereabouts words i w il r.kept.words refl r.copies)
      (may_fill look z m c a p w (r.sound.in_range.live_class c a lives) live lt (word_is z k.words a p lt ∙ clear) sel imp)
      (λ j. state_from k.history (live_bucket z k.words a p w j) (words_are j) (standing_at k.standings) r.whereabouts)
      refl refl (begins_refl k.history) (λ d b n aw e. inl (aw, e)) (inl (refl, refl))

  -- a word of a free array is cleared
  pub clear_step : (a p : ℕ) → standing_at r.keeper.standings a ≡ Free → p < capacity z a
      → GoesBy look z origin r (Clear a p) (slice_set words (base z a + p) 0) (slice_set views id (Keeper (stored (base z a + p) 0 r.keeper)))
  clear_step a p free lt =
      let k = r.keeper in
      let i : ℕ = base z a + p in
      by_event (slice_set words i 0) (stored i 0 k) (Clear a p)
      (kept_as z origin k (slice_set k.words i 0) k.standings (stored i 0 k).stores r.kept (length-set k.words i 0) refl (get_or-set_other k.words i 0 0 0 (λ e. omega arith)) (stamps_else z k.history k.words i 0 r.kept.stamps (λ d dl. stamp_no_bucket z d a p lt)))
      (copies_store z k (stored i 0 k) r.whereabouts words i 0 (inside z a p lt) r.kept.words refl r.copies)
      (may_clear look z (shown_by look z origin r) a p (below_entry z.capacities a p lt) lt free)
      (λ j. state_from k.history (live_bucket z k.words a p 0 j) (word_set z k.words a p 0 lt r.kept.words j) (standing_at k.standings) r.whereabouts)
      refl refl (begins_refl k.history) (λ d b n aw e. inl (aw, e)) (inl (refl, refl))

  -- the version word is stored, with the turn at home
  pub commit_step : (x : List Change) (g : History) → 0 < length x → r.keeper.turn ≡ Home g
      → ((c : ClassRef) → c.class < z.classes → is_affected_by_all (log r.keeper.history) x c ≡ true → size r.keeper.history < slice_index r.keeper.words (stamp_at z c))
      → Legal look z (shown_by look z origin r) (Commit x)
      → GoesBy look z origin r (Commit x) (slice_set words 0 (size r.keeper.history + 1)) (slice_set views id (Keeper (committed x r.keeper)))
  commit_step x g filled home closed legal =
      let k = r.keeper in
      let w : ℕ = size k.history + 1 in
      let k' = committed x k in
      let more = begins_next k.history x in
      by_event (slice_set words 0 w) k' (Commit x)
      (record {
        words = length-set k.words 0 w ∙ r.kept.words;
        standings = r.kept.standings;
        given = r.kept.given;
        version = get_or-set_same k.words 0 w 0 (let t = r.kept.words in omega arith) ∙ sym (length-append k.history.changes (x ∷ []));
        stamps = stamps_else z k'.history k.words 0 w (λ c lt. stamps_after c lt (is_affected_by_all (log k.history) x c) refl) (λ c lt. stamp_no_count z c);
        begins = begins_trans k'.history k.history (empty origin) more r.kept.begins;
        accepted = accepted_next k.history x r.kept.accepted filled (accepted-all (log k.history) x (legal_commit look z (shown_by look z origin r) x legal).0);
        told = begins_trans k'.history k.history k.told more r.kept.told;
        home = λ g' e. home_is g' k'.history e;
        never = λ e. absurd (cc);
        some_sender = r.kept.some_sender;
      })
      (copies_store z k k' r.whereabouts words 0 w (omega arith) r.kept.words refl r.copies) legal
      (λ j. state_from (and_then k.history x) (live_version z k.words w j) (word_version z k.words w j) (standing_at k.standings) r.whereabouts)
      refl refl more (λ d b n aw e. inl (aw, e)) (inr (λ e. not_both g (sym home ∙ e)))
    where
      home_is : (g' g : History) → Home g ≡ Home g' → g' ≡ g
      home_is g' g e = cc

      stamps_after : (c : ClassRef) → c.class < z.classes → (b : Bool) → is_affected_by_all (log r.keeper.history) x c ≡ b → last_affected (and_then r.keeper.history x) c ≤ slice_index r.keeper.words (stamp_at z c)
      stamps_after c lt true is =
          let n : last_affected (and_then r.keeper.history x) c ≡ suc (size r.keeper.history) = last-next r.keeper.history x c ∙ ap (λ b. if b then suc (size r.keeper.history) else last_affected r.keeper.history c) is in
          omega (arith, n, closed c lt is)
      stamps_after c lt false is =
          let n : last_affected (and_then r.keeper.history x) c ≡ last_affected r.keeper.history c = last-next r.keeper.history x c ∙ ap (λ b. if b then suc (size r.keeper.history) else last_affected r.keeper.history c) is in
          omega (arith, n, r.kept.stamps c lt)

      not_both : (g : History) → Home g ≡ Away → ⊥
      not_both g e = cc

  -- the array that a header word names has a standing
  listed : (c : ClassRef) → c.class < z.classes → (a : ℕ) → named (slice_index r.keeper.words (header_at c)) ≡ Some a → a < length r.keeper.standings
  listed c lt a e =
      let t = r.sound.in_range.live_array c a (r.sound.lawful.live_stands c a lt (live_is z r.keeper.words c lt ∙ e)) in let s = r.kept.standings in omega arith

  -- the live array of a class reference is retired
  pub flush_step : (c : ClassRef) (a : ℕ) → c.class < z.classes → slice_index r.keeper.words (header_at c) ≡ suc a
      → GoesBy look z origin r (Flush c) (slice_set words (header_at c) 0) (slice_set views id (Keeper (flushed c r.keeper)))
  flush_step c a lt here =
      let k = r.keeper in
      let m = shown_by look z origin r in
      let i : ℕ = header_at c in
      let o = named (slice_index k.words (header_at c)) in
      let is : m.live c ≡ o = live_is z k.words c lt in
      let stands = retire_is z k r.whereabouts c o r.kept.given (listed c lt) ∙ sym (ap (retired z m c) is) in
      by_event (slice_set words i 0) (flushed c k) (Flush c)
      (kept_as z origin k (slice_set k.words i 0) (retire c o k) (flushed c k).stores r.kept (length-set k.words i 0) (retire_length z k r.whereabouts c o) (get_or-set_other k.words i 0 0 0 (λ e. omega arith)) (stamps_else z k.history k.words i 0 r.kept.stamps (λ d dl. stamp_no_header z d c lt)))
      (copies_store z k (flushed c k) r.whereabouts words i 0 (header_inside z c lt) r.kept.words refl r.copies)
      (may_flush look z m c a lt (is ∙ ap named here))
      (λ j. state_from k.history (live_set z k.words c 0 lt r.kept.words j) (word_header z k.words c 0 lt j) (stands j) r.whereabouts)
      refl refl (begins_refl k.history) (λ d b n aw e. retired_or z k r.whereabouts c (m.live c) b d n aw (sym (ap (λ f. f b) stands) ∙ e)) (inl (refl, refl))

  -- an empty array that is free becomes the live one of a class reference; the one before is
  -- retired
  pub install_step : (c : ClassRef) (a : ℕ) → c.class < z.classes → a < length z.capacities → standing_at r.keeper.standings a ≡ Free → HasNoEntry z r.keeper a
      → GoesBy look z origin r (Install c a) (slice_set words (header_at c) (suc a)) (slice_set views id (Keeper (installed c a r.keeper)))
  install_step c a lt there free clear =
      let k = r.keeper in
      let m = shown_by look z origin r in
      let i : ℕ = header_at c in
      let o = named (slice_index k.words (header_at c)) in
      let is : m.live c ≡ o = live_is z k.words c lt in
      let stands = set_as_at (retire c o k) a (Live c) Free (let s = retire_length z k r.whereabouts c o in let t = r.kept.standings in omega arith)
      ∙ ap (λ f. at f a (Live c)) (retire_is z k r.whereabouts c o r.kept.given (listed c lt) ∙ sym (ap (retired z m c) is)) in
      by_event (slice_set words i (suc a)) (installed c a k) (Install c a)
      (kept_as z origin k (slice_set k.words i (suc a)) (slice_set (retire c o k) a (Live c)) (installed c a k).stores r.kept (length-set k.words i (suc a)) (length-set (retire c o k) a (Live c) ∙ retire_length z k r.whereabouts c o)
      (get_or-set_other k.words i 0 (suc a) 0 (λ e. omega arith)) (stamps_else z k.history k.words i (suc a) r.kept.stamps (λ d dl. stamp_no_header z d c lt)))
      (copies_store z k (installed c a k) r.whereabouts words i (suc a) (header_inside z c lt) r.kept.words refl r.copies)
      (may_install look z m c a lt there free (λ q ql. word_is z k.words a q ql ∙ clear q ql))
      (λ j. state_from k.history (live_set z k.words c (suc a) lt r.kept.words j) (word_header z k.words c (suc a) lt j) (stands j) r.whereabouts)
      refl refl (begins_refl k.history)
      (λ d b n aw e. ⊎_elim
      (λ (eq : b ≡ a). let u : Live c ≡ Retired d n aw = sym (ap (at (retired z m c (m.live c)) a (Live c)) eq ∙ at_same (retired z m c (m.live c)) a (Live c)) ∙ sym (ap (λ f. f b) stands) ∙ e in absurd (cc))
      (λ (ne : b ≢ a). retired_or z k r.whereabouts c (m.live c) b d n aw (sym (at_other (retired z m c (m.live c)) a (Live c) b ne) ∙ sym (ap (λ f. f b) stands) ∙ e))
      (number_or b a))
      (inl (refl, refl))

  -- a probe word is loaded: where it is 0, its sender is out, and no longer awaited
  pub look_step : (n : ℕ) → n < z.senders
      → GoesBy look z origin r (Look n) (slice_set words (probe_at z n) (slice_index words (probe_at z n))) (slice_set views id (Keeper (looked n (slice_index words (probe_at z n) == 0) r.keeper)))
  look_step n lt = by_place (r.whereabouts n) refl
    where
      k : KeeperView
      k = r.keeper

      i : ℕ
      i = probe_at z n

      Goal : Bool → Type 0
      Goal b = GoesBy look z origin r (Look n) (slice_set words i (slice_index words i)) (slice_set views id (Keeper (looked n b r.keeper)))

      still : (p : Whereabouts) → is_out p ≡ false → shown z r.keeper r.whereabouts ≡ record (shown z r.keeper r.whereabouts) { standing = if is_out p then (λ a. seen_out n (standing_at r.keeper.standings a)) else standing_at r.keeper.standings }
      still p e j = state_from r.keeper.history (live_in z r.keeper.words) (word_in z r.keeper.words) (ap (λ b. if b then (λ a. seen_out n (standing_at r.keeper.standings a)) else standing_at r.keeper.standings) (sym e) j) r.whereabouts

      inside_it : (p : Whereabouts) → r.whereabouts n ≡ p → is_out p ≡ false → in_word p ≢ 0 → Goal (slice_index words i == 0)
      inside_it p e isnt set_ =
          let apart : slice_index words i ≢ 0 = λ h. set_ (sym (r.copies.probed n lt ∙ ap in_word e) ∙ h) in
          subst Goal (sym (ne_eqb (slice_index words i) 0 apart))
          (by_event (slice_set words i (slice_index words i)) (looked n false r.keeper) (Look n) (kept_looked z origin r.keeper n false r.kept)
          (let s = copies_same z r.keeper r.whereabouts words i r.copies in record { copied = s.copied; probed = s.probed; count = s.count }) (may_look look z (shown_by look z origin r) n lt) (still (r.whereabouts n) (ap is_out e ∙ isnt))
          refl refl (begins_refl r.keeper.history) (λ d b m aw h. inl (aw, h)) (inl (refl, refl)))

      by_place : (p : Whereabouts) → r.whereabouts n ≡ p → Goal (slice_index words i == 0)
      by_place Out e =
          let found : slice_index words i ≡ 0 = r.copies.probed n lt ∙ ap in_word e in
          let seen : standing_at (map (seen_out n) r.keeper.standings) ≡ (if is_out (r.whereabouts n) then (λ a. seen_out n (standing_at r.keeper.standings a)) else standing_at r.keeper.standings) =
          standings_looked n r.keeper.standings ∙ sym (ap (λ p. if is_out p then (λ a. seen_out n (standing_at r.keeper.standings a)) else standing_at r.keeper.standings) e) in
          subst Goal (sym (eq-eqb (slice_index words i) 0 found))
          (by_event (slice_set words i (slice_index words i)) (looked n true r.keeper) (Look n) (kept_looked z origin r.keeper n true r.kept)
          (let s = copies_same z r.keeper r.whereabouts words i r.copies in record { copied = s.copied; probed = s.probed; count = s.count })
          (may_look look z (shown_by look z origin r) n lt)
          (λ j. state_from r.keeper.history (live_in z r.keeper.words) (word_in z r.keeper.words) (seen j) r.whereabouts)
          refl refl (begins_refl r.keeper.history)
          (λ d b m aw h. let t = looked_retired n d m aw (standing_at r.keeper.standings b) (sym (ap (λ f. f b) (standings_looked n r.keeper.standings)) ∙ h) in inl (t.0, t.1)) (inl (refl, refl)))
      by_place In e = inside_it In e refl (λ h. cc)
      by_place (Holding c a) e = inside_it (Holding c a) e refl (λ h. cc)

  -- nobody has a sender number: it is out, and no longer awaited
  pub out_step : (n : ℕ) → n < z.senders → awaits r.keeper.given n ≡ false → GoesBy look z origin r (Look n) words (slice_set views id (Keeper (looked n true r.keeper)))
  out_step n lt nobody =
      let k = r.keeper in
      let gone : r.whereabouts n ≡ Out = r.outside n nobody in
      let seen : standing_at (map (seen_out n) k.standings) ≡ (if is_out (r.whereabouts n) then (λ a. seen_out n (standing_at k.standings a)) else standing_at k.standings) =
      standings_looked n k.standings ∙ sym (ap (λ p. if is_out p then (λ a. seen_out n (standing_at k.standings a)) else standing_at k.standings) gone) in
      by_event words (looked n true k) (Look n) (kept_looked z origin k n true r.kept)
      (record { copied = r.copies.copied; probed = r.copies.probed; count = r.copies.count })
      (may_look look z (shown_by look z origin r) n lt)
      (λ j. state_from k.history (live_in z k.words) (word_in z k.words) (seen j) r.whereabouts)
      refl refl (begins_refl k.history)
      (λ d b m aw h. let t = looked_retired n d m aw (standing_at k.standings b) (sym (ap (λ f. f b) (standings_looked n k.standings)) ∙ h) in inl (t.0, t.1)) (inl (refl, refl))

  -- a load that changes no view
  pub idle_step : (i : ℕ) → Stays look z origin r (slice_set words i (slice_index words i)) (slice_set views id (Keeper r.keeper))
  idle_step i = keeper_goes look z origin words (slice_set words i (slice_index words i)) views r id r.keeper at_id r.kept (copies_same z r.keeper r.whereabouts words i r.copies) r.sound
      refl refl (begins_refl r.keeper.history) (λ d b m aw e. inl (aw, e)) (inl (refl, refl))

  -- a stamp is stored, of at least the number of the last change that affects its class reference
  pub stamp_step : (c : ClassRef) (w : ℕ) → c.class < z.classes → last_affected r.keeper.history c ≤ w
      → Stays look z origin r (slice_set words (stamp_at z c) w) (slice_set views id (Keeper (stored (stamp_at z c) w r.keeper)))
  stamp_step c w lt le =
      let k = r.keeper in
      let i : ℕ = stamp_at z c in
      let il = stamp_inside z c lt in
      let there : i < length k.words = let s = r.kept.words in omega arith in
      let same : shown z (stored i w k) r.whereabouts ≡ shown z k r.whereabouts = λ j. state_from k.history (live_stamp z k.words c w j) (word_stamp z k.words c w j) (standing_at k.standings) r.whereabouts in
      let next = keeper_goes look z origin words (slice_set words i w) views r id (stored i w k) at_id
      (kept_as z origin k (slice_set k.words i w) k.standings (stored i w k).stores r.kept (length-set k.words i w) refl (get_or-set_other k.words i 0 w 0 (λ e. omega arith))
      (λ d dl. ⊎_elim
      (λ (eq : d ≡ c). subst (λ (x : ClassRef). last_affected k.history x ≤ slice_index (slice_set k.words i w) (stamp_at z x)) (sym eq) (let g = get_or-set_same k.words i w 0 there in omega arith))
      (λ (ne : d ≢ c). let g = get_or-set_other k.words i (stamp_at z d) w 0 (λ e. ne (stamp_same z d c e)) in let t = r.kept.stamps d dl in omega arith)
      (class_or d c)))
      (copies_store z k (stored i w k) r.whereabouts words i w il r.kept.words refl r.copies)
      (subst (Sound look z) (sym same) r.sound) refl refl (begins_refl k.history) (λ d b m aw e. inl (aw, e)) (inl (refl, refl)) in
      (next.0, next.1 ∙ same)
