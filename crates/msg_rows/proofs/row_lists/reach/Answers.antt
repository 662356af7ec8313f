use Rattle.std.proofs.Common.{◌≡◌, ◌≤◌, ◌+◌, ◌-◌, ◌++◌, [], ◌∷◌, List, length, length-append, replicate, append_assoc, ap, sym, subst, ◌∙◌, arith}
use Rattle.std.proofs.lemmas.List.{map-append, replicate-append-replicate}
use Rattle.msg_rows.specs.RowList.{KeepRoom, RowList, rooms_of, rows_of}
use Rattle.msg_rows.proofs.RoomLemmas.{grown-on, keep-pushed}
use Rattle.msg_rows.proofs.row_lists.reach.Goals as goal

-- one more without rows
one_more : (xs ys : List RowList) (r : RowList) (zs : List RowList) → r.rows ≡ [] → zs ≡ ys ++ r ∷ [] → length xs ≤ length ys → rows_of ys ≡ rows_of xs ++ replicate (length ys - length xs) [] → rows_of zs ≡ rows_of xs ++ replicate (length zs - length xs) []
one_more xs ys r zs none is more e =
    let count : length ys - length xs + 1 ≡ length zs - length xs = omega (arith, ap length is, length-append ys (r ∷ []), more) in
    ap rows_of is ∙ map-append (λ (l : RowList). l.rows) ys (r ∷ []) ∙ ap (λ rs. rs ++ r.rows ∷ []) e ∙ ap (λ l. (rows_of xs ++ replicate (length ys - length xs) []) ++ l ∷ []) none
    ∙ append_assoc (rows_of xs) (replicate (length ys - length xs) []) ([] ∷ []) ∙ ap (λ rs. rows_of xs ++ rs) (replicate-append-replicate (length ys - length xs) 1 [] ∙ ap (λ n. replicate n []) count)

pub loop-alloc-preserved : goal.loop-alloc-preserved
loop-alloc-preserved c =
    let was = c.loop-alloc.lists.items in
    let is = rw c.unwrap.ensures at c.push-pushed.ensures.items in
    let count : length c.push-pushed.new.self.items ≡ length was + 1 = omega (arith, ap length is, length-append was (c.new.result ∷ [])) in
    record {
      rows = one_more c.args.lists.now.items was c.new.result c.push-pushed.new.self.items c.new.ensures is c.loop-alloc.invariant.more c.loop-alloc.invariant.rows;
      keeps = grown-on (rooms_of c.args.lists.now.items) (rooms_of was) (rooms_of c.push-pushed.new.self.items) c.loop-alloc.invariant.keeps (subst (KeepRoom was) (sym is) (keep-pushed was c.new.result));
      more = omega (arith, count, c.loop-alloc.invariant.more);
      room = omega (arith, c.loop-alloc.invariant.room, c.push-pushed.ensures.capacity);
      few = λ n at first. omega (arith, count, at, c.loop-alloc-test.true, c.loop-alloc.lists.ok.0, c.len.ensures);
    }
