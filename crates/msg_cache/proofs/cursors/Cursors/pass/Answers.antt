use Rattle.std.proofs.Common.{◌≡◌, ℕ, ◌<◌, ◌≤◌, List, Bool, false, length, sym, ap, ◌∙◌, ⊎_elim, arith}
use Rattle.std.specs.Prelude.{slice_index, slice_index_or, if◌then◌else◌}
use Rattle.std.proofs.lemmas.Bool.{cases_lt}
use Rattle.msg_cache.proofs.EveryCursor.{cursors_length, cursor_own, cursor_rest}
use Rattle.msg_cache.proofs.cursors.Cursors.pass.Goals as goal

pub part-requires : goal.part-requires
part-requires c =
    let s = c.self.inside in
    let long = cursors_length s.own.items s.known s.rest in
    record { until = omega (arith, c.max-known.ensures, c.requires.known, c.self.invariant.known, long, ap (λ (l : List ℕ). length l) c.self.view_is) }

pub pass-requires-clause-senders : goal.pass-requires-clause-senders
pass-requires-clause-senders c =
    let s = c.self.inside in
    let long = cursors_length s.own.items s.known s.rest in
    let size = ap (λ (l : List ℕ). length l) c.self.view_is in (
      omega (arith, c.max-known.ensures, c.requires.known, c.self.invariant.known, long, size, c.part.ensures.length),
      omega (arith, c.max-known.ensures, c.requires.known, c.self.invariant.known, long, size, c.requires.outs),
    )

pub pass-requires-clause-within : goal.pass-requires-clause-within
pass-requires-clause-within c = λ n lt.
    let s = c.self.inside in
    let long = cursors_length s.own.items s.known s.rest in
    let size = ap (λ (l : List ℕ). length l) c.self.view_is in
    let inside : n < length c.args.self.now = omega (arith, c.max-known.ensures, c.requires.known, c.self.invariant.known) in
    let at = c.requires.within n inside in
    let was = ap (λ (l : List ℕ). slice_index l n) c.self.view_is in ⊎_elim
    (λ (l : n < s.known). omega (arith, c.part.ensures.before n l, cursor_own s.own.items s.known s.rest n (omega arith) l, was, at))
    (λ (l : s.known ≤ n). omega (arith, c.part.ensures.parted n l lt, cursor_rest s.own.items s.known s.rest n (omega arith) l, was, at))
    (cases_lt n s.known)

pub invariant_of-self : goal.invariant_of-self
invariant_of-self c =
    let s = c.self.inside in
    let long = cursors_length s.own.items s.known s.rest in
    let size = ap (λ (l : List ℕ). length l) c.self.view_is in
    record { known = omega (arith, c.max-known.ensures, c.requires.known, c.self.invariant.known, long, size, c.part.ensures.length, c.pass.ensures.length) }

pub returns-clause-moved : goal.returns-clause-moved
returns-clause-moved c = λ n lt.
    let s = c.self.inside in
    let known = c.max-known.result in
    let own = c.pass.new.cursors.items in
    let long = cursors_length s.own.items s.known s.rest in
    let size = ap (λ (l : List ℕ). length l) c.self.view_is in
    let inside : n < length own = omega (arith, c.part.ensures.length, c.pass.ensures.length) in
    let was = ap (λ (l : List ℕ). slice_index l n) c.self.view_is in
    let if_out = λ (m : ℕ). if slice_index_or c.args.outs.now.items n false then c.args.end else m in ⊎_elim
    (λ (l : n < known). cursor_own own known c.args.end n inside l ∙ c.pass.ensures.moved n l ∙ ap if_out (⊎_elim
    (λ (k : n < s.known). c.part.ensures.before n k ∙ sym (cursor_own s.own.items s.known s.rest n (omega arith) k) ∙ was)
    (λ (k : s.known ≤ n). c.part.ensures.parted n k l ∙ sym (cursor_rest s.own.items s.known s.rest n (omega arith) k) ∙ was)
    (cases_lt n s.known)))
    (λ (l : known ≤ n). cursor_rest own known c.args.end n inside l
    ∙ sym (ap (λ (b : Bool). if b then c.args.end else slice_index c.args.self.now n) (c.requires.others n (omega (arith, c.max-known.ensures)) lt)))
    (cases_lt n known)

pub returns-clause-all : goal.returns-clause-all
returns-clause-all c = λ n lt.
    let s = c.self.inside in
    let known = c.max-known.result in
    let own = c.pass.new.cursors.items in
    let long = cursors_length s.own.items s.known s.rest in
    let size = ap (λ (l : List ℕ). length l) c.self.view_is in
    let inside : n < length own = omega (arith, c.part.ensures.length, c.pass.ensures.length) in ⊎_elim
    (λ (l : n < known). omega (arith, cursor_own own known c.args.end n inside l, c.pass.ensures.all n l))
    (λ (l : known ≤ n). omega (arith, cursor_rest own known c.args.end n inside l, c.pass.ensures.end))
    (cases_lt n known)

pub returns-clause-some : goal.returns-clause-some
returns-clause-some c = λ lt.
    let s = c.self.inside in
    let known = c.max-known.result in
    let own = c.pass.new.cursors.items in
    let long = cursors_length s.own.items s.known s.rest in
    let size = ap (λ (l : List ℕ). length l) c.self.view_is in
    let same : length own ≡ length c.args.self.now = omega (arith, c.part.ensures.length, c.pass.ensures.length) in ⊎_elim
    (λ (some : 0 < known). let one = c.pass.ensures.some some in (one.0, omega (arith, one.1, c.max-known.ensures, c.requires.known, c.self.invariant.known), cursor_own own known c.args.end one.0 (omega (arith, one.1, c.max-known.ensures, c.requires.known, c.self.invariant.known)) one.1 ∙ one.2))
    (λ (none : known ≤ 0). (0, lt, cursor_rest own known c.args.end 0 (omega arith) none ∙ sym (c.pass.ensures.none none)))
    (cases_lt 0 known)
