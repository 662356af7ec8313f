use Rattle.std.proofs.Common.{◌≡◌, ℕ, ◌<◌, ◌≤◌, true, false, length, ap, ◌∙◌, sym, arith}
use Rattle.std.specs.Prelude.{Option, Some, None, IfNone}
use Rattle.std.proofs.lemmas.List.{get_or_default}
use Rattle.std.proofs.lemmas.Option.{IfSome_then}
use Rattle.msg_cache.specs.Uses.{StandingsView, use_at, is_free_use}
use Rattle.msg_cache.specs.Standings.{use_for}
use Rattle.msg_cache.proofs.UseLemmas.{uses_length, uses_at, marked, unmarked_busy, none_ready}
use Rattle.msg_cache.proofs.standings.Standings.first_free.Goals as goal

if_none : (o : Option ℕ) (P Q : Type 0) → (P → Q) → IfNone o P → IfNone o Q
if_none None P Q f h = f h
if_none (Some x) P Q f h = h

pub first-requires : goal.first-requires
first-requires c =
    let s = c.self.inside in
    omega (arith, c.requires.until, uses_length s.free s.queue.items s.ready s.senders s.cursors, ap (λ (v : StandingsView). length v.uses) c.self.view_is)

pub returns-clause-none : goal.returns-clause-none
returns-clause-none c = if_none c.first.result _ _ (λ none a low high.
    let s = c.self.inside in
    let zero_ready : s.ready ≡ 0 = none_ready s.ready s.queue.items (ap (λ (v : StandingsView). v.ready) c.self.view_is ∙ c.requires.ready) c.self.invariant.ends in
    let lt : a < length s.free = omega (arith, c.requires.until, uses_length s.free s.queue.items s.ready s.senders s.cursors, ap (λ (v : StandingsView). length v.uses) c.self.view_is) in
    ap (λ (v : StandingsView). is_free_use (use_at v.uses a)) (sym c.self.view_is) ∙ ap is_free_use (uses_at s.free s.queue.items s.ready s.senders s.cursors a) ∙ ap (λ (p : ℕ). is_free_use (use_for s.free s.queue.items p s.senders s.cursors a)) zero_ready
    ∙ unmarked_busy s.free s.queue.items s.senders s.cursors a (get_or_default s.free a true false lt ∙ none a low high)) c.first.ensures.none

pub returns-clause-some : goal.returns-clause-some
returns-clause-some c = IfSome_then c.first.result c.first.ensures.some (λ found is.
    let s = c.self.inside in
    let zero_ready : s.ready ≡ 0 = none_ready s.ready s.queue.items (ap (λ (v : StandingsView). v.ready) c.self.view_is ∙ c.requires.ready) c.self.invariant.ends in
    let long : c.args.until ≤ length s.free = omega (arith, c.requires.until, uses_length s.free s.queue.items s.ready s.senders s.cursors, ap (λ (v : StandingsView). length v.uses) c.self.view_is) in (
      is.1.low,
      is.0,
      ap (λ (v : StandingsView). is_free_use (use_at v.uses found)) (sym c.self.view_is)
          ∙ ap is_free_use (uses_at s.free s.queue.items s.ready s.senders s.cursors found ∙ marked s.free s.queue.items s.ready s.senders s.cursors found (get_or_default s.free found true false (omega (arith, is.0)) ∙ is.1.is)),
      λ a low high. ap (λ (v : StandingsView). is_free_use (use_at v.uses a)) (sym c.self.view_is) ∙ ap is_free_use (uses_at s.free s.queue.items s.ready s.senders s.cursors a) ∙ ap (λ (p : ℕ). is_free_use (use_for s.free s.queue.items p s.senders s.cursors a)) zero_ready
          ∙ unmarked_busy s.free s.queue.items s.senders s.cursors a (get_or_default s.free a true false (omega (arith, is.0)) ∙ is.1.none a low high),
    ))
