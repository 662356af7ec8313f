use Rattle.std.proofs.Common.{ℕ, ◌<◌, ◌≤◌, List, length, ap, ⊎_elim, arith}
use Rattle.std.specs.Prelude.{slice_index}
use Rattle.std.proofs.lemmas.Bool.{cases_lt}
use Rattle.msg_cache.proofs.EveryCursor.{cursors_length, cursor_own, cursor_rest}
use Rattle.msg_cache.proofs.cursors.Cursors.cut.Goals as goal

pub cut-requires-clause-all : goal.cut-requires-clause-all
cut-requires-clause-all c = λ n lt.
    let s = c.self.inside in
    let long = cursors_length s.own.items s.known s.rest in
    let size = ap (λ (l : List ℕ). length l) c.self.view_is in
    let inside : n < length s.own.items = omega (arith, c.self.invariant.known) in
    omega (arith, c.requires.all n (omega arith), cursor_own s.own.items s.known s.rest n inside lt, ap (λ (l : List ℕ). slice_index l n) c.self.view_is)

pub returns-clause-moved : goal.returns-clause-moved
returns-clause-moved c = λ n lt.
    let s = c.self.inside in
    let own = c.cut.new.cursors.items in
    let rest = c.saturating_sub-self-inside.result in
    let long = cursors_length s.own.items s.known s.rest in
    let size = ap (λ (l : List ℕ). length l) c.self.view_is in
    let was = ap (λ (l : List ℕ). slice_index l n) c.self.view_is in
    let inside : n < length own = omega (arith, c.cut.ensures.length) in ⊎_elim
    (λ (l : n < s.known). omega (arith, cursor_own own s.known rest n inside l, c.cut.ensures.moved n l, cursor_own s.own.items s.known s.rest n (omega arith) l, was))
    (λ (l : s.known ≤ n). omega (arith, cursor_rest own s.known rest n inside l, c.saturating_sub-self-inside.ensures, c.requires.all n lt, cursor_rest s.own.items s.known s.rest n (omega arith) l, was))
    (cases_lt n s.known)
