use Rattle.std.proofs.Common.{◌≡◌, ◌<◌, ◌++◌, ◌∷◌, [], length, length-append, ap, ◌∙◌, arith}
use Rattle.std.specs.Option.{option_to_list}
use Rattle.std.proofs.lemmas.List.{length-set}
use Rattle.msg_names.specs.declared.value.ImpRef.{ImpRef}
use Rattle.msg_names.specs.declared.value.Selector.{Selector}
use Rattle.msg_names.specs.Number.{selector_number}
use Rattle.msg_rows.specs.Buckets.{bucket_of}
use Rattle.msg_rows.proofs.LinkLemmas.{linked-pop}
use Rattle.msg_rows.proofs.indexed_rows.IndexedRows.pop.Goals as goal

pub invariant_of-self-2 : goal.invariant_of-self-2
invariant_of-self-2 c =
    let rows = c.self.inside.rows.items in
    let rest = c.pop.new.self.items in
    let older = c.self.inside.older.items in
    let left = c.pop-older.new.self.items in
    let newest = c.self.inside.newest.items in
    let m : Selector × ImpRef = (c.in-Some.sel, c.in-Some.field-0-1) in
    let split : rows ≡ rest ++ m ∷ [] = c.pop.ensures.items ∙ ap (λ o. rest ++ option_to_list o) c.in-Some.is in
    let parted : older ≡ left ++ c.unwrap.result ∷ [] = c.pop-older.ensures.items ∙ ap (λ o. left ++ option_to_list o) c.unwrap.ensures in
    let wide : c.len.result ≡ length newest = c.len.ensures ∙ c.self.inside.newest.ok.0 in
    let named = c.bucket-bucket.ensures.value ∙ ap (λ n. bucket_of n (selector_number c.in-Some.sel)) wide in
    let there : c.bucket-bucket.result < length newest = omega (arith, c.bucket-bucket.ensures.inside, wide) in
    record {
      some = omega (arith, length-set newest c.bucket-bucket.result c.unwrap.result, c.self.invariant.some);
      wide = omega (arith, length-set newest c.bucket-bucket.result c.unwrap.result, ap length split, length-append rest (m ∷ []), c.self.invariant.wide);
      each = omega (arith, ap length split, length-append rest (m ∷ []), ap length parted, length-append left (c.unwrap.result ∷ []), c.self.invariant.each);
      linked = linked-pop rows rest m older left newest c.bucket-bucket.result c.unwrap.result split parted named there c.self.invariant.each c.self.invariant.linked;
    }
