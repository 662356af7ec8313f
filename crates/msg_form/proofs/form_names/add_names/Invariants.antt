use Rattle.std.proofs.Common.{◌≡◌, ◌||◌, map, drop}
use Rattle.std.specs.Prelude.{fold}
use Rattle.msg_names.specs.Numbering.{with_name}
use Rattle.msg_form.specs.Text.{repeats}
use Rattle.msg_form.proofs.form_names.add_names.Given as goal

abbrev pub invariant-loop-part : goal.invariant-loop-part
invariant-loop-part g l = record {
  twice : (l.twice || repeats l.names (map g.T.Named.named (drop l.part-index l.parts))) ≡ repeats l.initial.names (map g.T.Named.named l.parts);
  names : fold with_name l.names (map g.T.Named.named (drop l.part-index l.parts)) ≡ fold with_name l.initial.names (map g.T.Named.named l.parts);
}
