use Rattle.std.proofs.Common.{List, Bool, true, replicate, sym, subst}
use Rattle.msg_cache.specs.LayeredSet.{IsSummary}
use Rattle.msg_cache.proofs.LayeredLemmas.{summary_all}
use Rattle.msg_cache.proofs.layered_set.LayeredSet.all.Goals as goal

pub invariant_of-result : goal.invariant_of-result
invariant_of-result c =
    let n = c.args.limit in
    let m = c.words_of-words.result in
    let k = c.words_of.result in
    let numbers = c.in_ok-all.field-0 in
    let words = c.in_ok-all-2.field-0 in
    let blocks = c.in_ok-all-3.field-0 in record {
      words = subst (λ (l : List Bool). IsSummary l words) (sym c.in_ok-all.ensures) (subst (λ (l : List Bool). IsSummary (replicate n true) l) (sym c.in_ok-all-2.ensures) (summary_all n m c.words_of-words.ensures.0 c.words_of-words.ensures.1));
      blocks = subst (λ (l : List Bool). IsSummary l blocks) (sym c.in_ok-all-2.ensures) (subst (λ (l : List Bool). IsSummary (replicate m true) l) (sym c.in_ok-all-3.ensures) (summary_all m k c.words_of.ensures.0 c.words_of.ensures.1));
    }
