use Rattle.std.proofs.Common.{◌<◌, length, ◌∙◌, arith}
use Rattle.msg_tables.specs.Methods.{MethodsOf}
use Rattle.msg_image.proofs.PartLemmas.{count_seen, lists_enough, methods_seen}
use Rattle.msg_image.proofs.image.Image.methods.Goals as goal

pub list-requires : goal.list-requires
list-requires c =
    let count = count_seen c.self.inside c.args.self.now c.self.view_is c.self.invariant in
    let inside : c.args.class.class < length c.args.self.now.classes = omega (arith, count, c.len.ensures, c.if-class-len.false) in
    lists_enough c.self.inside c.args.self.now c.self.view_is c.self.invariant c.args.class.class inside

pub returns-clause-methods : goal.returns-clause-methods
returns-clause-methods c =
    let count = count_seen c.self.inside c.args.self.now c.self.view_is c.self.invariant in
    let inside : c.args.class.class < length c.args.self.now.classes = omega (arith, count, c.len.ensures, c.if-class-len.false) in
    let l : MethodsOf = record { class = c.list.result.0; methods = c.list.result.1.now } in
    c.as_slice.ensures ∙ (methods_seen c.self.inside c.args.self.now c.self.view_is c.self.invariant c.args.class l inside c.list.ensures).0

pub returns-clause-listed : goal.returns-clause-listed
returns-clause-listed c =
    let count = count_seen c.self.inside c.args.self.now c.self.view_is c.self.invariant in
    let inside : c.args.class.class < length c.args.self.now.classes = omega (arith, count, c.len.ensures, c.if-class-len.false) in
    let l : MethodsOf = record { class = c.list.result.0; methods = c.list.result.1.now } in
    rw c.as_slice.ensures (methods_seen c.self.inside c.args.self.now c.self.view_is c.self.invariant c.args.class l inside c.list.ensures).1
