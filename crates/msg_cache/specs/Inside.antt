-- The contracts' view of an arena, of a sender and of the turn, and what holds of their fields.
use Rattle.std.specs.Prelude.{◌≡◌, ℕ, ◌^◌, ◌<◌, ◌≤◌, [], ◌∷◌, All, length, slice_index, slice_index_or}
use Rattle.msg_buckets.specs.Capacity.{IsCapacity}
use Rattle.msg_tables.specs.declared.limits.TheConstants.{MOST_SENDERS}
use Rattle.msg_model.specs.declared.state.Whereabouts.TheVariants.{Out}
use Rattle.msg_cache.specs.declared.arena.Span.{Span}
use Rattle.msg_cache.specs.declared.arena.Arena.TheInside.{Inside as ArenaInside}
use Rattle.msg_cache.specs.declared.prober.Prober.TheInside.{Inside as ProberInside}
use Rattle.msg_cache.specs.declared.keeper.Turn.TheInside.{Inside as TurnInside}
use Rattle.msg_cache.specs.Layout.{layout_of, base, stamps, probes, word_count}
use Rattle.msg_cache.specs.Keeping.{AreGroups}
use Rattle.msg_cache.specs.Plays.{sender_in, sender_view, turn_in, turn_view}
use Rattle.msg_cache.specs.Views.{ArenaView, ProberView, TurnView}

-- an arena is its table, and what that was made for
abbrev pub arena_view : ArenaInside → ArenaView
arena_view a = record { table = a.table.shared.table_id; key = a.table.shared.key }

-- the fields say what the table was made for
pub record IsArena (a : ArenaInside) : Type 0 where
  pub are_capacities : All IsCapacity a.table.shared.key.capacities
  pub spans : (i : ℕ) → i < length a.table.shared.key.capacities → (d : Span) → slice_index_or a.spans.items i d ≡ record { base = base (layout_of a.table.shared.key) i; capacity = slice_index a.table.shared.key.capacities i }
  pub spans_count : length a.spans.items ≡ length a.table.shared.key.capacities
  pub firsts : AreGroups a.table.shared.key.capacities a.firsts
  pub senders : a.senders ≡ a.table.shared.key.senders
  pub few_senders : a.senders ≤ MOST_SENDERS
  pub stamps : a.stamps ≡ stamps (layout_of a.table.shared.key)
  pub probes : a.probes ≡ probes (layout_of a.table.shared.key)
  pub words : a.table.shared.table_id.words ≡ word_count (layout_of a.table.shared.key)
  pub few_words : a.table.shared.table_id.words < 2 ^ 32

-- a sender is what its seat knows, on its table
abbrev pub prober_view : ProberInside → ProberView
prober_view p = record { table = p.badge.table_id; place = p.place; sender = sender_in p.badge.views }

-- the badge is that of one sender's seat, which is out, and the fields say its number and how many
-- words its last probe loaded
pub record IsProber (p : ProberInside) : Type 0 where
  pub views : p.badge.views ≡ sender_view (sender_in p.badge.views) ∷ []
  pub number : (sender_in p.badge.views).number ≡ p.number
  pub out : (sender_in p.badge.views).whereabouts ≡ Out
  pub loads : p.loads ≡ length (sender_in p.badge.views).last.reads

-- a turn is the history that its seat knows, on its table
abbrev pub turn_of_badge : TurnInside → TurnView
turn_of_badge t = record { table = t.badge.table_id; history = turn_in t.badge.views }

-- the badge is that of the turn's seat
abbrev pub IsTurn : TurnInside → Type 0
IsTurn t = t.badge.views ≡ turn_view (turn_in t.badge.views) ∷ []
