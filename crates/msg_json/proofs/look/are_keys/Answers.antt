use Rattle.std.proofs.Common.{◌≡◌, ℕ, ◌==◌, ◌+◌, ◌≤◌, false, drop, take, arith, sym, ap, ◌∙◌, refl}
use Rattle.serde_json.specs.Data.{no_members, put}
use Rattle.serde_json.specs.Events.{members_len}
use Rattle.msg_json.specs.View.{view, entries}
use Rattle.msg_json.proofs.KeyLemmas.{among, put_old, put_new, too_many, turn}
use Rattle.msg_json.proofs.look.are_keys.Goals as goal
use Rattle.msg_json.proofs.look.are_keys.Goals.{then-not-is_among+else-keys-count, else-not-is_among}

pub loop-index-init : goal.loop-index-init
loop-index-init c = (no_members, (tt, refl, λ k. refl), omega arith, refl)

pub returns-then-keys-count : goal.returns-then-keys-count
returns-then-keys-count c =
    let members = c.args.members.now in
    let i = c.loop-index.index in
    let member = c.index-members-index.result in
    let so_far = c.loop-index.invariant in
    let after = entries (drop (i + 1) members) in
    let rest = turn members i member so_far.0 _ c.loop-index-test.true c.index-members-index.is so_far.3 in
    let new : among member.0.now (take i members) ≡ false = sym c.is_among.ensures ∙ c.if-not-is_among.true in
    let more = put_new members i member c.loop-index.keys so_far.0 c.loop-index-test.true c.index-members-index.is so_far.1 new in
    sym (ap (λ ms. members_len ms == c.args.count) (sym rest) ∙ too_many after c.args.count _ more.0 (more.1 ∙ ap (λ n. n + 1) c.if-keys-count.true))

below : {m n : ℕ} → m ≤ n → (m ≡ n → ⊥) → m + 1 ≤ n
below le other = omega (arith, le, other)

pub overflow_add-keys : goal.overflow_add-keys
overflow_add-keys c =
    let more = below c.loop-index.invariant.2 c.if-keys-count.false in
    omega (arith, more, c.ranges.count.fits)

pub loop-index-preserved : goal.loop-index-preserved
loop-index-preserved c =
    let members = c.args.members.now in
    let i = c.loop-index.index in
    let member = c.index-members-index.result in
    let so_far = c.loop-index.invariant in
    let found = put member.0.now (view member.1) so_far.0 in
    let rest = turn members i member so_far.0 _ c.loop-index-test.true c.index-members-index.is so_far.3 in
    elim c.if-not-is_among.branch [
      | then-not-is_among+else-keys-count w ↦
          let new = sym c.is_among.ensures ∙ w.if-not-is_among.true in
          (found, rw w.keys-is (put_new members i member c.loop-index.keys so_far.0 c.loop-index-test.true c.index-members-index.is so_far.1 new), rw w.keys-is (below so_far.2 w.if-keys-count.false), rest)
      | else-not-is_among w ↦
          let old = sym c.is_among.ensures ∙ w.if-not-is_among.false in
          (found, rw w.keys-is (put_old members i member c.loop-index.keys so_far.0 c.loop-index-test.true c.index-members-index.is so_far.1 old), rw w.keys-is so_far.2, rest)
    ]
