-- `address_of` reads the first field of a `Shared`, as the private `address` of `atomic_table` does.
use Rattle.atomic_table.proofs.Names.{InBlock, use0, fact_i, Ura, Logic, Share, subst, ◌≡◌, ℕ, ◌+◌, List, [], ◌∷◌, sym, refl, ap, arith, a_type, dcons, dnil, named, Val, vptr, inst_fn, SProp, emp, Lft, Fml, ftrue, fsep, flft, sem, ‵, raw, ◌⊛◌, given, at_ret, ◌$◌, ◌∵◌, !, qed, by, move, keep, drop, split, join, fsplit, fjoin, learn, use1, rewrite, feq_i, stop, load, addr, of_opd, first, blocks, exec, returns, enter, alloc_all, pass_all, free_all, look_at, get, through, sets, sets_last, is, env, sub, whole, look_in, tables, yes, RattleType, owns, types_at, plain, Ptr, block_ptr, ptr_val, nothing, param, bounded, Stays, stay_dropped, walk_of, Goes-dropped, fact, fact_use, Is, shows, cell_at, peeks, block_of, count_of, at_block, Coded, guard_i, RefOf, shr_vals, shr_Tells, unhide, hidden_shr, looks, shuts, lent_out, Tuple}
use types.Part.{Part}
use types.Kit.{Item}
use mir.Syntax.{Ty, Body, seq, assign, place, rv_opd, copy, return}
use Rattle.atomic_table.proofs.Walks.{proved, leaves}
use Rattle.std.specs.contracts.marker.PhantomData as marker
use Rattle.atomic_table.specs.Seated.{TableId, Placed, age, common}
use Rattle.atomic_table.specs.contracts.shared.Shared as table
use Rattle.atomic_table.proofs.Fields.{hand_of, HandData, hand_told, hand_opens}
use Rattle.atomic_table.proofs.Moves.{placed}
use Rattle.msg_address.specs.contracts.address_of.{ended, clauses}
use Rattle.msg_address.specs.contracts.address_of.Key.{name as #self}
use Rattle.msg_address.proofs.address_of.Statement.{statement}
use Rattle.msg_address.proofs.address_of.Code as code

-- what is left after the `unsafe` block: its value goes to the result
abbrev after_block : Body
after_block = seq (assign (place 0 []) (rv_opd (copy (place 4 [])))) return

-- the first field lies at the address of the struct
at_start : {M : Type 1} {𝓤 : Ura M} {𝓛 : Logic 𝓤} {K : Type 0} {i : Item 𝓤} {q : Share} {τ : Ty} {b o : ℕ} {v : Val} {back : Val → Item 𝓤} → Part K 𝓛 i q τ b (o + 0) v back → Part K 𝓛 i q τ b o v back
at_start {M} {𝓤} {𝓛} {K} {i} {q} {τ} {b} {o} {v} {back} p = let here : o + 0 ≡ o = omega arith in subst (λ (k : ℕ). Part K 𝓛 i q τ b k v back) here p

pub address_of_spec : {M : Type 1} → statement M
unfolding Rattle.atomic_table.specs.Seated.seal
address_of_spec 𝓤 𝓛 𝓜 𝓡 wired T U Q P _ _ _ _ g d _ =
    let H = 𝓛.H in let 𝓣 = tables 𝓤 H 𝓜 𝓡 𝓡.env in let R : RattleType = param 0 T in let W : RattleType = param 1 U in let X : RattleType = param 2 Q in let Y : RattleType = param 3 P in let En = ended T U Q P g d in
    let inst = bounded (a_type ∷ a_type ∷ a_type ∷ a_type ∷ []) (T, (U, (Q, (P, tt)))) (dcons d dnil) in let fn = inst_fn inst code.function in
    let Row : RattleType = table.the_row R W X Y g in let D : RattleType = HandData R W X Y g in let self = RefOf (0 ∷ []) tt (plain (λ _. Row)) (λ _. tt) in
    let hs : Stays En.signature.params En.kept = (stay_dropped self yes, tt) in let c = clauses T U Q P g d 𝓛 𝓜.mem 𝓡.returns in
    proved 𝓛 En hs c 𝓜 𝓡 (Goes-dropped 𝓛 5 self yes (λ κs x f. refl), tt) (#self inst) fn (code.unfolded 𝓤 H 𝓜 𝓡 wired (T, (U, (Q, (P, tt)))) d)
    (λ κs. (shr_vals, tt)) (λ κs. (shr_Tells (named 0) κs.0 Row, tt)) (λ κs qs bounds a gh are.
    let b : ℕ = a.0.ref_ptr.0 in let o : ℕ = a.0.ref_ptr.1 in let κ : Lft = κs.0 in let t : Row.Denot = a.0.now in let w : Ptr = t.words in let p : Ptr = t.slots in let z : TableId = t.table_id in let α : Lft = age z in
    let us : List Val = hand_of w p ∷ [] in let cv : Coded U.Denot = W.coded in let C : Fml = common R cv.code (g.holds t.key) w p z in
    let y : (walk_of 𝓛 En hs c).Ghost = ((κs, qs, bounds, a, (vptr a.0.ref_ptr.0 a.0.ref_ptr.1 ∷ [], tt)), gh) in let Post : Val → SProp 𝓤 = (walk_of 𝓛 En hs c).post y in
    let others : Fml = fsep (flft κs.1.0 qs.1.0) (fsep (flft κs.1.1.0 qs.1.1.0) (fsep (flft κs.1.1.1.0 qs.1.1.1.0) (fsep (flft κs.1.1.1.1.0 qs.1.1.1.1.0) ftrue))) in
    qed 𝓛 (((‵ (flft κs.0 qs.0) ⊛ ‵ others) ⊛ ‵ (owns (types_at En.signature.params κs) a y.0.4)) ∷ raw (fact 𝓤 _) ∷ raw (fact 𝓤 _) ∷ raw (fact 𝓤 _) ∷ raw (fact 𝓤 _) ∷ raw (emp 𝓤) ∷ []) ∵
    keep ! (0 ∷ []) $ split ! $ split ! $ move ! (2 ∷ []) $ fsplit ! $ fsplit ! $ keep ! (1 ∷ 3 ∷ 4 ∷ []) $ nothing ! $ drop ! $
    enter ! 𝓣.C 𝓣.Λ fn (vptr b o ∷ []) Post $ alloc_all ! (λ l. pass_all ! refl ((tt, tt), tt) $ let Ev = env fn.locals l in
    use1 𝓛 (‵ (hidden_shr D κ (w, (p, (tt, tt))) b o) ⊛ ‵ (base.Fml.fhide (table.the_lent R W X Y g t (block_ptr b o) κ))) (lent_out 𝓛 (table.struct R W X Y g) (table.the_codes T.Denot U.Denot Q.Denot P.Denot R.coded W.coded X.coded Y.coded (marker.the_row (Tuple (Y ∷ W ∷ X ∷ []))).coded) (table.the_heap R W X Y g) (table.the_lent R W X Y g) κ t b o) $
    split ! $ move ! (1 ∷ []) $ unhide ! $ fsplit ! $ move ! (1 ∷ []) $
    use1 𝓛 (given (Placed R w p z) (‵ C)) (fact_use 𝓤 _ (placed 𝓛 R cv (g.holds t.key) w p z) (guard_i 𝓤 (Placed R w p z) (sem 𝓛 C))) $ learn ! (λ at. move ! (2 ∷ 3 ∷ []) $
    looks ! tt D (hand_opens R W X Y g 𝓛) (w, (p, (tt, tt))) b o (λ q' vs. move ! (1 ∷ []) $ peeks ! D (Is D) (shows 𝓛 D) (w, (p, (tt, tt))) vs (λ is-so. let ev : vs ≡ us = hand_told R W X Y g w p vs is-so in
    rewrite ! 1 (λ (ws : List Val). ‵ (cell_at q' D.mir ws b o)) ev refl $
    sets ! (addr ! (through ! refl (stop !))) refl (tt, tt) $ sets ! (of_opd ! (get ! refl)) refl (tt, tt) $ first ! $ blocks ! $
    sets_last ! (is ! (of_opd ! (load ! (through ! refl (stop !)) (look_in ! 1 (at_start (sub ! 0 refl (whole !)))))) (ap ptr_val (at_block w at.0))) refl (tt, tt) $
    exec ! 𝓣.C 𝓣.Λ Ev after_block (at_ret Ev Post) $
    rewrite ! 1 (λ (ws : List Val). ‵ (cell_at q' D.mir ws b o)) (sym ev) refl $ move ! (1 ∷ 0 ∷ 2 ∷ []) $ shuts ! tt D q' (w, (p, (tt, tt))) vs b o $
    sets ! (of_opd ! (get ! refl)) refl (tt, tt) $ let v : Val = vptr (block_of w) (count_of w) in let r : Ptr = block_ptr (block_of w) (count_of w) in let Said : Type 0 = (r ≡ w) × InBlock r in
    nothing ! $ nothing ! $ fjoin ! $ move ! (1 ∷ 5 ∷ []) $ join ! $ use0 𝓛 (raw (fact 𝓤 Said)) (fact_i 𝓤 Said (emp 𝓤) (sym (at_block w at.0), tt)) $ feq_i ! (List Val) (v ∷ []) (v ∷ []) refl $
    returns ! (look_at ! 0 refl) $ free_all ! refl $ keep ! (2 ∷ 3 ∷ 0 ∷ 1 ∷ []) $ by ! (leaves 𝓛 En hs c y v r (tt, tt) (tt, tt)))))))
