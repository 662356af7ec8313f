-- What is noted of rests is right at first, and stays so where changes are made.
use Rattle.std.proofs.Common.{◌≡◌, ℕ, ◌≤◌, Bool, true, List, length, sym, ap, subst, ◌∙◌, arith}
use Rattle.std.specs.Prelude.{replicate, slice_index}
use Rattle.std.proofs.lemmas.List.{length-replicate}
use Rattle.msg_model.specs.State.{awaits, size}
use Rattle.msg_cache.specs.declared.view.KeeperView.{KeeperView}
use Rattle.msg_cache.specs.Rule.{since_of}
use Rattle.msg_cache.proofs.OrderLemmas.{same_everywhere}
use Rattle.msg_runtime.specs.Parts.{AreOut}
use Rattle.msg_runtime.specs.Resting.{AreRested}

-- before anybody rests
pub rests_first : (k : KeeperView) (senders : ℕ) (rested : List ℕ) → rested ≡ replicate senders 0 → length k.given ≡ senders → AreRested k rested
rests_first k senders rested e given = record {
  count = ap length e ∙ length-replicate senders 0 ∙ sym given;
  since = λ n out. let t = zeros n in omega (arith, t);
  within = λ n. let t = zeros n in omega (arith, t);
}
  where
    zeros : (n : ℕ) → slice_index rested n ≡ 0
    zeros n = ap (λ xs. slice_index xs n) e ∙ same_everywhere senders n 0

-- if no seat changes hands, and no change is lost
pub rests_on : (k k' : KeeperView) (rested : List ℕ) → k'.given ≡ k.given → k'.since ≡ k.since → size k.history ≤ size k'.history → AreRested k rested → AreRested k' rested
rests_on k k' rested given since longer r = record {
  count = r.count ∙ ap length (sym given);
  since = λ n out. let t = r.since n (ap (λ g. awaits g n) (sym given) ∙ out) in omega (arith, t, ap (λ g. since_of g n) since);
  within = λ n. let t = r.within n in omega (arith, t, longer);
}

-- numbers that are out stay so
pub full_on : (k k' : KeeperView) (n : ℕ) → k'.given ≡ k.given → AreOut n k → AreOut n k'
full_on k k' n given out = λ m below. subst (λ (g : List Bool). awaits g m ≡ true) (sym given) (out m below)
