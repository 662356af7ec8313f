-- What the program's JSON values spell as expressions.
use Rattle.std.specs.Prelude.{List, Option, map}
use Rattle.msg_json.specs.View.{view}
use Rattle.msg_json.specs.declared.tree.Tree.{Tree}
use Rattle.msg_form.specs.Expression.{Expression}
use Rattle.msg_form.specs.ExprShape.{expression_of}

abbrev pub readings : List Tree → List (Option Expression)
readings vs = map expression_of (map view vs)
