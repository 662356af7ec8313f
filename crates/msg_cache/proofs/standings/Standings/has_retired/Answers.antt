use Rattle.std.proofs.Common.{◌≡◌, ℕ, length, not, ◌==◌, ap, ◌∙◌, sym, arith}
use Rattle.std.specs.List.{list_any}
use Rattle.std.specs.VecDeque.{deque_len}
use Rattle.msg_cache.specs.Uses.{StandingsView, is_waiting}
use Rattle.msg_cache.specs.Standings.{uses}
use Rattle.msg_cache.proofs.UseLemmas.{some_waits, none_ready}
use Rattle.msg_cache.proofs.standings.Standings.has_retired.Goals as goal

pub returns : goal.returns
returns c =
    let s = c.self.inside in
    let v = c.self.invariant in
    let none : s.ready ≡ 0 = none_ready s.ready s.queue.items (ap (λ (v : StandingsView). v.ready) c.self.view_is ∙ c.requires.ready) v.ends in
    let long : deque_len s.queue ≡ length s.queue.items = omega (arith, s.queue.ok.0) in
    ap not (c.is_empty.ensures ∙ ap (λ (n : ℕ). n == 0) long)
    ∙ sym (some_waits s.free s.queue.items s.senders s.cursors v.unmarked v.distinct)
    ∙ ap (λ (p : ℕ). list_any is_waiting (uses s.free s.queue.items p s.senders s.cursors)) (sym none)
    ∙ ap (λ (v : StandingsView). list_any is_waiting v.uses) c.self.view_is
