-- One state is shown, and each step is its event.
use Rattle.std.proofs.Common.{◌≡◌, ℕ, suc, ◌+◌, ◌-◌, ◌<◌, ◌≤◌, List, Bool, true, false, refl, sym, ap, ◌∙◌, subst, arith}
use Rattle.std.specs.Prelude.{◌==◌, slice_index}
use mathlib.Core.Option.{some}
use lib.ListN.{get_elem?}
use Rattle.atomic_table.specs.Table.{State as Table}
use Rattle.msg_names.specs.declared.value.ClassRef.{ClassRef}
use Rattle.msg_tables.specs.Origin.{OriginView}
use Rattle.msg_tables.specs.History.{History, lookup}
use Rattle.msg_model.specs.Event.{Event, Header, Read, Look}
use Rattle.msg_model.specs.declared.event.Seen.TheVariants.{Array, Word, Out as SeenOut}
use Rattle.msg_model.specs.declared.state.Whereabouts.{Whereabouts}
use Rattle.msg_model.specs.declared.state.Whereabouts.TheVariants.{Out, In, Holding}
use Rattle.msg_model.specs.Steps.{is_out, shows as shown_to}
use Rattle.msg_model.specs.State.{Layout, awaits, size}
use Rattle.msg_cache.specs.declared.view.KeeperView.{KeeperView}
use Rattle.msg_cache.specs.declared.view.View.{View}
use Rattle.msg_cache.specs.declared.view.View.TheVariants.{Sender, Keeper}
use Rattle.msg_cache.specs.Laws.{KeeperFills, KeeperInstalls, KeeperFlushes, KeeperLooks, KeeperRestLooks, KeeperClears, KeeperCommits, KeeperWitnesses, KeeperSplits, KeeperJoins, KeeperSplitsTurn, KeeperJoinsTurn, IsEvent, IsNone, seen_in, shown_at, OneIsShown, SendersHaveSeen, ShownIsLawful, ShownIsSound, OpeningIsShown, EnterIsEnter, LeaveIsLeave, HeaderIsHeader, BucketIsRead, VersionIsNone, StoreIsFill, StoreIsInstall, StoreIsFlush, LoadIsLook, LoadIsRest, StoreIsClear, StoreIsCommit, WitnessIsNone, SplitIsNone, JoinIsNone, SplitTurnIsNone, JoinTurnIsNone, StampLoadIsNone, StampStoreIsNone, KeeperStamps}
use Rattle.msg_cache.specs.Layout.{SettingView, layout_of, header_at, base, probe_at, word_count}
use Rattle.msg_cache.specs.Rule.{in_word, shown, since_of, Ruled, shown_by, holds, GoesBy, Stays}
use Rattle.msg_cache.proofs.KeeperLemmas.{fill_step, clear_step, stamp_step, commit_step, flush_step, install_step, look_step, idle_step}
use Rattle.msg_cache.proofs.NobodyLemmas.{rest_step}
use Rattle.msg_cache.proofs.OpeningLemmas.{opens}
use Rattle.msg_cache.proofs.SenderLemmas.{header_seen, header_step, bucket_seen, bucket_step, version_step, enter_step, leave_step, stamp_step as sender_stamp_step}
use Rattle.msg_cache.proofs.TokenLemmas.{give_step, take_step, lend_step, home_step}

module _ (look : History → ClassRef → ℕ → ℕ) (z : Layout) (origin : OriginView) (words : List ℕ) (views : List View) (r r' : Ruled look z origin words views) where
  one_keeper : r.keeper ≡ r'.keeper
  one_keeper = sym (r'.views_fit r.chair (Keeper r.keeper) r.chair_is).1

  one_place : (n : ℕ) → r.whereabouts n ≡ r'.whereabouts n
  one_place n = step (awaits r.keeper.given n) refl
    where
      step : (b : Bool) → awaits r.keeper.given n ≡ b → r.whereabouts n ≡ r'.whereabouts n
      step true e =
          let t = r.sits n e in
          ap r.whereabouts (sym t.2) ∙ (r.views_fit (r.seat n) (Sender t.0) t.1).placed ∙ sym (r'.views_fit (r.seat n) (Sender t.0) t.1).placed ∙ ap r'.whereabouts t.2
      step false e = r.outside n e ∙ sym (r'.outside n (ap (λ (k : KeeperView). awaits k.given n) (sym one_keeper) ∙ e))

  pub one_shown : shown_by look z origin r ≡ shown_by look z origin r'
  one_shown = λ i. shown z (one_keeper i) (λ n. one_place n i)

event : (key : SettingView) (s s' : Table ℕ View) (r : holds lookup key s) (e : Event) (word : ℕ) → seen_in e word ≡ shown_to (shown_at key s r) e → GoesBy lookup (layout_of key) key.origin r e s'.words s'.views
    → IsEvent key s r e word s'
event key s s' r e word sees t = record { legal = t.0; sees = sees; keeps_rule = t.1.0; shows = λ r'. one_shown lookup (layout_of key) key.origin s'.words s'.views r' t.1.0 ∙ t.1.1 }

none : (key : SettingView) (s s' : Table ℕ View) (r : holds lookup key s) → Stays lookup (layout_of key) key.origin r s'.words s'.views → IsNone key s r s'
none key s s' r t = record { keeps_rule = t.0; shows = λ r'. one_shown lookup (layout_of key) key.origin s'.words s'.views r' t.0 ∙ t.1 }

-- what holds of the rule's keeper holds of the view that the seat has
of_keeper : (key : SettingView) (s : Table ℕ View) (r : holds lookup key s) (id : ℕ) (P : KeeperView → Type 0) → (get_elem? s.views id ≡ some (Keeper r.keeper) → P r.keeper) → (k : KeeperView) → get_elem? s.views id ≡ some (Keeper k) → P k
of_keeper key s r id P f k at = let is = (r.views_fit id (Keeper k) at).1 in subst P is (f (at ∙ ap (λ (x : KeeperView). some (Keeper x)) (sym is)))

pub senders_have_seen : SendersHaveSeen
senders_have_seen key s r chair k at id v at' =
    let f = r.views_fit id (Sender v) at' in
    subst (λ (x : KeeperView). (awaits x.given v.number ≡ true) × (since_of x.since v.number ≤ size v.front)) (r.views_fit chair (Keeper k) at).1 (f.given, f.since)

pub one_is_shown : OneIsShown
one_is_shown key s r r' = one_shown lookup (layout_of key) key.origin s.words s.views r r'

pub shown_is_lawful : ShownIsLawful
shown_is_lawful key s r = r.sound.lawful

pub shown_is_sound : ShownIsSound
shown_is_sound key s r = r.sound

pub opening_is_shown : OpeningIsShown
opening_is_shown key sound_image some_sender =
    let t = opens lookup key (word_count (layout_of key)) sound_image some_sender refl in
    (t.0, λ r. one_shown lookup (layout_of key) key.origin _ _ r t.0 ∙ t.1)

pub enter_is_enter : EnterIsEnter
enter_is_enter key s r id v at out = event key s _ r _ 1 refl (enter_step lookup (layout_of key) key.origin s.words s.views r id v at out)

pub leave_is_leave : LeaveIsLeave
leave_is_leave key s r id v at in_it = event key s _ r _ 0 refl (leave_step lookup (layout_of key) key.origin s.words s.views r id v at in_it)

pub header_is_header : HeaderIsHeader
header_is_header key s r id v at c sel is_in lt =
    let z = layout_of key in
    let n : ℕ = slice_index s.words (header_at c) in
    event key s _ r (Header v.number c) n (ap Array (sym (header_seen lookup z key.origin s.words s.views r id v at c n lt refl))) (header_step lookup z key.origin s.words s.views r id v at c sel n is_in lt refl).0

pub bucket_is_read : BucketIsRead
bucket_is_read key s r id v at a p holds lt sought =
    let z = layout_of key in
    let n : ℕ = slice_index s.words (base z a + p) in
    let t = bucket_step lookup z key.origin s.words s.views r id v at a p n holds lt sought refl in
    (t.0, event key s _ r (Read v.number p) n (ap Word (bucket_seen lookup z key.origin s.words s.views r id v at v.last.class a p n holds lt refl)) t.1)

pub version_is_none : VersionIsNone
version_is_none key s r id v at free = none key s _ r (version_step lookup (layout_of key) key.origin s.words s.views r id v at _ free refl).0

pub stamp_load_is_none : StampLoadIsNone
stamp_load_is_none key s r id v at c lt free =
    let t = sender_stamp_step lookup (layout_of key) key.origin s.words s.views r id v at c _ lt free refl in
    (none key s _ r t.0, t.2)

pub stamp_store_is_none : StampStoreIsNone
stamp_store_is_none key s r id k at = of_keeper key s r id (KeeperStamps key s r id) (λ own c w lt le. none key s _ r (stamp_step lookup (layout_of key) key.origin s.words s.views r id own c w lt le)) k at

pub store_is_fill : StoreIsFill
store_is_fill key s r id k at = of_keeper key s r id (KeeperFills key s r id) (λ own c a p w live lt clear sel imp. event key s _ r _ w refl (fill_step lookup (layout_of key) key.origin s.words s.views r id own c a p w live lt clear sel imp)) k at

pub store_is_install : StoreIsInstall
store_is_install key s r id k at = of_keeper key s r id (KeeperInstalls key s r id) (λ own c a lt there free clear. event key s _ r _ (suc a) refl (install_step lookup (layout_of key) key.origin s.words s.views r id own c a lt there free clear)) k at

pub store_is_flush : StoreIsFlush
store_is_flush key s r id k at = of_keeper key s r id (KeeperFlushes key s r id) (λ own c a lt here. event key s _ r _ 0 refl (flush_step lookup (layout_of key) key.origin s.words s.views r id own c a lt here)) k at

-- a probe word that is 0 shows a sender that is out
out_seen : (p : Whereabouts) → (in_word p == 0) ≡ is_out p
out_seen Out = refl
out_seen In = refl
out_seen (Holding c a) = refl

look_seen : (key : SettingView) (s : Table ℕ View) (r : holds lookup key s) (n : ℕ) → n < key.senders
    → seen_in (Look n) (slice_index s.words (probe_at (layout_of key) n)) ≡ shown_to (shown_at key s r) (Look n)
look_seen key s r n lt = ap (λ w. SeenOut (w == 0)) (r.copies.probed n lt) ∙ ap SeenOut (out_seen (r.whereabouts n))

pub load_is_look : LoadIsLook
load_is_look key s r id k at = of_keeper key s r id (KeeperLooks key s r id) (λ own n lt. event key s _ r (Look n) (slice_index s.words (probe_at (layout_of key) n)) (look_seen key s r n lt) (look_step lookup (layout_of key) key.origin s.words s.views r id own n lt)) k at

pub load_is_rest : LoadIsRest
load_is_rest key s r id k at = of_keeper key s r id (KeeperRestLooks key s r id) (λ own n le nobody.
    let z = layout_of key in
    let t = rest_step lookup z key.origin s.words s.views r id own n (key.senders - n) (omega arith) nobody in record {
      legal = t.legal;
      sees = t.sees;
      keeps_rule = t.ruled;
      shows = λ r'. one_shown lookup z key.origin _ _ r' t.ruled ∙ t.shows;
    }) k at

pub store_is_clear : StoreIsClear
store_is_clear key s r id k at = of_keeper key s r id (KeeperClears key s r id) (λ own a p free lt. event key s _ r _ 0 refl (clear_step lookup (layout_of key) key.origin s.words s.views r id own a p free lt)) k at

pub store_is_commit : StoreIsCommit
store_is_commit key s r id k at = of_keeper key s r id (KeeperCommits key s r id) (λ own x g filled home closed legal. event key s _ r _ (size r.keeper.history + 1) refl (commit_step lookup (layout_of key) key.origin s.words s.views r id own x g filled home closed legal)) k at

pub witness_is_none : WitnessIsNone
witness_is_none key s r id k at = of_keeper key s r id (KeeperWitnesses key s r id) (λ own. none key s _ r (idle_step lookup (layout_of key) key.origin s.words s.views r id own 0)) k at

pub split_is_none : SplitIsNone
split_is_none key s r id k at = of_keeper key s r id (KeeperSplits key s r id) (λ own n stamps lt free. none key s _ r (give_step lookup (layout_of key) key.origin s.words s.views r id own n stamps lt free)) k at

pub join_is_none : JoinIsNone
join_is_none key s r id k at = of_keeper key s r id (KeeperJoins key s r id) (λ own other v apart out e. none key s _ r (take_step lookup (layout_of key) key.origin s.words s.views r id own other v apart out e)) k at

pub split_turn_is_none : SplitTurnIsNone
split_turn_is_none key s r id k at = of_keeper key s r id (KeeperSplitsTurn key s r id) (λ own home. none key s _ r (lend_step lookup (layout_of key) key.origin s.words s.views r id own home)) k at

pub join_turn_is_none : JoinTurnIsNone
join_turn_is_none key s r id k at = of_keeper key s r id (KeeperJoinsTurn key s r id) (λ own other g apart e. none key s _ r (home_step lookup (layout_of key) key.origin s.words s.views r id own other g apart e)) k at
