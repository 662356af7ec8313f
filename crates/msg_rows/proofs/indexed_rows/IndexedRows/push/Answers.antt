use Rattle.std.proofs.Common.{◌≡◌, ◌<◌, ◌+◌, ◌++◌, ◌∷◌, [], length, length-append, ap, sym, ◌∙◌, arith}
use Rattle.std.proofs.lemmas.List.{length-set}
use Rattle.msg_names.specs.declared.value.ImpRef.{ImpRef}
use Rattle.msg_names.specs.declared.value.Selector.{Selector}
use Rattle.msg_names.specs.Number.{selector_number}
use Rattle.msg_rows.specs.Buckets.{bucket_of}
use Rattle.msg_rows.proofs.LinkLemmas.{linked-push}
use Rattle.msg_rows.proofs.indexed_rows.IndexedRows.push.Goals as goal

pub invariant_of-self : goal.invariant_of-self
invariant_of-self c =
    let rows = c.self.inside.rows.items in
    let newest = c.self.inside.newest.items in
    let m : Selector × ImpRef = (c.args.sel, c.args.imp) in
    let linked = rw c.unwrap.ensures at c.push-older.ensures.items in
    let pushed = rw c.unwrap-2.ensures at c.push-pushed.ensures.items in
    let wide : c.len.result ≡ length newest = c.len.ensures ∙ c.self.inside.newest.ok.0 in
    let named = c.bucket-bucket.ensures.value ∙ ap (λ n. bucket_of n (selector_number c.args.sel)) wide in
    let there : c.bucket-bucket.result < length newest = omega (arith, c.bucket-bucket.ensures.inside, wide) in
    let more : length (rows ++ m ∷ []) ≡ length rows + 1 = length-append rows (m ∷ []) in
    let count : c.len-2.result ≡ length rows + 1 = c.len-2.ensures ∙ c.push-pushed.new.self.ok.0 ∙ ap length pushed ∙ more in
    record {
      some = omega (arith, length-set newest c.bucket-bucket.result c.len-2.result, c.self.invariant.some);
      wide = let room = rw (← c.self.view_is) at c.requires in omega (arith, length-set newest c.bucket-bucket.result c.len-2.result, ap length pushed, more, room);
      each = ap length linked ∙ length-append c.self.inside.older.items (c.index.result.now ∷ []) ∙ ap (λ n. n + 1) c.self.invariant.each ∙ sym more ∙ sym (ap length pushed);
      linked = rw (pushed, linked, more, count) (linked-push rows m c.self.inside.older.items newest c.bucket-bucket.result c.index.result.now named there c.index.ensures c.self.invariant.each c.self.invariant.linked);
    }
