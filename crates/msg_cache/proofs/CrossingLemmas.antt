-- That a keeper and a prober may go to another thread, and an arena be seen by several. Said once:
-- what holds one of them is shown by it, and not through all its fields anew.
use denote.RattleType.{RattleType}
use denote.Param.Send.{IsSend, IsSync, Frees, sendable, part_keyless}
use denote.Struct.Struct.{Struct}
use denote.Struct.Owning.{shape}
use Rattle.std.proofs.Crossing.{crosses}
use Rattle.std.specs.declared.alloc.Allocator as alloc
use Rattle.atomic_table.proofs.Rights.{right_send}
use Rattle.atomic_table.proofs.Sent.{seat_keyless, badge_keyless, shares_keyless}
use Rattle.atomic_table.specs.declared.shared.TableRule.{Ghosts}
use Rattle.atomic_table.specs.contracts.badge.Badge as Badge
use Rattle.atomic_table.specs.contracts.send_lease.SendLease as Right
use Rattle.atomic_table.specs.contracts.shared.Seat as Seat
use Rattle.atomic_table.specs.contracts.shared.Shared as Shared
use Rattle.msg_cache.specs.contracts.arena.Arena as Arena
use Rattle.msg_cache.specs.contracts.bit_set.BitSet as BitSet
use Rattle.msg_cache.specs.contracts.keeper.Keeper as Keeper
use Rattle.msg_cache.specs.contracts.layered_set.LayeredSet as LayeredSet
use Rattle.msg_cache.specs.contracts.prober.Prober as Prober
use Rattle.msg_cache.specs.contracts.standings.Standings as Standings

Seat-send : (S V : RattleType) → IsSend S → IsSend (Seat.the_row S V)
Seat-send S V s = record { owned = λ d vs. ((λ vss. (tt, ((λ uss. (tt, tt)), tt))), seat_keyless S s V.coded.code d.table_id d.id d.me); leaving = λ k f vs. tt }

Badge-send : (V : RattleType) → IsSend (Badge.the_row V)
Badge-send V = record { owned = λ d vs. ((λ vss. (tt, ((λ uss. (tt, tt)), tt))), badge_keyless V.coded.code d.table_id d.id d.views); leaving = λ k f vs. tt }

Shared-sync : (S V K P : RattleType) (g : Ghosts P.Denot S.Denot V.Denot K.Denot) → IsSend S → IsSync (Shared.the_row S V K P g)
Shared-sync S V K P g s =
    let fields : IsSync (Struct (shape (Shared.the_type S V K P g))) = search sendable depth 20 in
    record { shared = λ d b o ν. (fields.shared (d.words, (d.slots, (tt, tt))) b o ν, shares_keyless S s V.coded.code d.table_id (g.holds d.key) d.words d.slots ν) }

Right-sync : (T A : RattleType) (g : alloc.Ghosts A.Denot) → IsSend A → Frees g g.dealloc_token → IsSync (Right.the_row T A g)
Right-sync T A g s f = record { shared = λ d b o ν q. part_keyless (Right.the_row T A g) (right_send T A g f) q d b o }

BitSet-send : IsSend BitSet.the_row
BitSet-send = search (sendable, crosses) depth 20

LayeredSet-send : IsSend LayeredSet.the_row
LayeredSet-send = let b : IsSend BitSet.the_field.row = BitSet-send in search (sendable, crosses) depth 20

Standings-send : IsSend Standings.the_row
Standings-send = let l : IsSend LayeredSet.the_field.row = LayeredSet-send in search (sendable, crosses) depth 20

pub Keeper-send : IsSend Keeper.the_field.row
Keeper-send = let s : IsSend Standings.the_field.row = Standings-send in search (sendable, crosses, Seat-send) depth 26

pub Prober-send : IsSend Prober.the_row
Prober-send = search (sendable, crosses, Badge-send) depth 20

pub Arena-sync : IsSync Arena.the_row
Arena-sync = search (sendable, crosses, Shared-sync, Right-sync) depth 20
