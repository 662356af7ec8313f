-- A sender's steps are allowed by the rule, in the form that the table asks for.
use Rattle.std.proofs.Common.{◌≡◌, ◌≢◌, ℕ, ◌+◌, ◌<◌, List, length, refl, ap, ◌∙◌}
use Rattle.msg_tables.specs.Origin.{class_total}
use Rattle.std.specs.Prelude.{slice_index, slice_set}
use mathlib.Core.Option.{some, none}
use lib.ListN.{get_elem?}
use Rattle.atomic_table.specs.Table.{step, keeps, Allows}
use Rattle.msg_names.specs.declared.value.ClassRef.{ClassRef}
use Rattle.msg_tables.specs.History.{History}
use Rattle.atomic_table.proofs.Lists.{set_here}
use Rattle.msg_model.specs.declared.state.Whereabouts.TheVariants.{Out, In, Holding}
use Rattle.msg_model.specs.State.{capacity}
use Rattle.msg_cache.specs.declared.view.SenderView.{SenderView}
use Rattle.msg_cache.specs.declared.view.View.{View}
use Rattle.msg_cache.specs.declared.view.View.TheVariants.{Sender}
use Rattle.msg_cache.specs.Layout.{SettingView, layout_of, header_at, base, stamp_at, probe_at}
use Rattle.msg_cache.specs.Rule.{IsAccepted, Ruled, holds}
use Rattle.msg_cache.specs.Plays.{Sat, seated, sender_of, headed, read_on, gone_to, told_to, stamped_to, Headed, Reads, Published, Stamped, Goes}
use Rattle.msg_cache.proofs.PastLemmas.{accepted_before}
use Rattle.msg_cache.proofs.SeatLemmas.{at_below}
use Rattle.msg_cache.proofs.SenderLemmas.{header_step, bucket_step, version_step, stamp_step, enter_step, leave_step}

module _ (look : History → ClassRef → ℕ → ℕ) (key : SettingView) (slots id : ℕ) (m : Sat) (is : m ≡ seated (sender_of m.0)) where
  seen : (views : List View) → get_elem? views id ≡ some m.0 → get_elem? views id ≡ some (Sender (sender_of m.0))
  seen views at = at ∙ ap (λ (x : Sat). some x.0) is

  -- the seat carries nothing
  sat_is : (v : SenderView) → (Sender v, m.1) ≡ seated v
  sat_is v = λ i. (Sender v, (is i).1)

  -- a sender's front is a history that was accepted
  front_accepted : (words : List ℕ) (views : List View) (w : SenderView) (r : Ruled look (layout_of key) key.origin words (slice_set views id (Sender w))) → get_elem? views id ≡ some m.0 → IsAccepted w.front
  front_accepted words views w r at =
      let f = r.views_fit id (Sender w) (set_here views id (Sender w) (at_below views id m.0 at)) in accepted_before r.keeper.history w.front f.begins r.kept.accepted

  pub header_allowed : (c : ClassRef) (s : ℕ) → (sender_of m.0).whereabouts ≡ In → c.class < class_total key.origin
      → Allows (holds look key) slots id m (header_at c) (λ n. n) (Headed (length key.capacities) c s (step slots (header_at c) 0 0 none) m)
  header_allowed c s inside lt st r homes at bound =
      let v = sender_of m.0 in
      let n : ℕ = slice_index st.words (header_at c) in
      let t = header_step look (layout_of key) key.origin st.words st.views r id v (seen st.views at) c s n inside lt refl in (
        Sender (headed c s r.keeper.history v n),
        keeps,
        tt,
        t.0.1.0,
        record { front = r.keeper.history; seat = sat_is (headed c s r.keeper.history v n); begins = (r.views_fit id (Sender v) (seen st.views at)).begins; accepted = r.kept.accepted; among = t.1 },
      )

  pub bucket_allowed : (a p : ℕ) → (sender_of m.0).whereabouts ≡ Holding (sender_of m.0).last.class a → p < capacity (layout_of key) a → 0 < (sender_of m.0).last.sel
      → Allows (holds look key) slots id m (base (layout_of key) a + p) (λ n. n) (Reads look (step slots (base (layout_of key) a + p) 0 0 none) m)
  bucket_allowed a p holding lt sought st r homes at bound =
      let v = sender_of m.0 in
      let i : ℕ = base (layout_of key) a + p in
      let n : ℕ = slice_index st.words i in
      let t = bucket_step look (layout_of key) key.origin st.words st.views r id v (seen st.views at) a p n holding lt sought refl in
      (Sender (read_on t.0 v i n), keeps, tt, t.1.1.0, record { front = t.0; seat = sat_is (read_on t.0 v i n); begins = t.2; accepted = front_accepted (slice_set st.words i n) st.views (read_on t.0 v i n) t.1.1.0 at; hit = t.3; miss = t.4 })

  pub version_allowed : ((c : ClassRef) (a : ℕ) → (sender_of m.0).whereabouts ≢ Holding c a)
      → Allows (holds look key) slots id m 0 (λ n. n) (Published (step slots 0 0 0 none) m)
  version_allowed free st r homes at bound =
      let v = sender_of m.0 in
      let n : ℕ = slice_index st.words 0 in
      let t = version_step look (layout_of key) key.origin st.words st.views r id v (seen st.views at) n free refl in
      (Sender (told_to v r.keeper.history), keeps, tt, t.0.0, record { front = r.keeper.history; seat = sat_is (told_to v r.keeper.history); begins = t.1; accepted = r.kept.accepted; length_is = t.2 })

  pub stamp_allowed : (c : ClassRef) → c.class < class_total key.origin → ((d : ClassRef) (a : ℕ) → (sender_of m.0).whereabouts ≢ Holding d a)
      → Allows (holds look key) slots id m (stamp_at (layout_of key) c) (λ n. n) (Stamped c (step slots (stamp_at (layout_of key) c) 0 0 none) m)
  stamp_allowed c lt free st r homes at bound =
      let v = sender_of m.0 in
      let n : ℕ = slice_index st.words (stamp_at (layout_of key) c) in
      let t = stamp_step look (layout_of key) key.origin st.words st.views r id v (seen st.views at) c n lt free refl in
      (Sender (stamped_to v r.keeper.history c n), keeps, tt, t.0.0, record { front = r.keeper.history; seat = sat_is (stamped_to v r.keeper.history c n); begins = t.1; accepted = r.kept.accepted; since = t.2 })

  pub enter_allowed : (sender_of m.0).whereabouts ≡ Out
      → Allows (holds look key) slots id m (probe_at (layout_of key) (sender_of m.0).number) (λ _. 1) (λ _. Goes In (step slots (probe_at (layout_of key) (sender_of m.0).number) 1 0 none) m 1)
  enter_allowed out st r homes at bound =
      let v = sender_of m.0 in
      let t = enter_step look (layout_of key) key.origin st.words st.views r id v (seen st.views at) out in
      (Sender (gone_to v v.front In), keeps, tt, t.1.0, sat_is (gone_to v v.front In))

  pub leave_allowed : (sender_of m.0).whereabouts ≢ Out
      → Allows (holds look key) slots id m (probe_at (layout_of key) (sender_of m.0).number) (λ _. 0) (λ _. Goes Out (step slots (probe_at (layout_of key) (sender_of m.0).number) 0 0 none) m 0)
  leave_allowed in_it st r homes at bound =
      let v = sender_of m.0 in
      let t = leave_step look (layout_of key) key.origin st.words st.views r id v (seen st.views at) in_it in
      (Sender (gone_to v v.front Out), keeps, tt, t.1.0, sat_is (gone_to v v.front Out))
