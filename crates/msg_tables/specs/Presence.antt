-- Classes that are present at a log.
use Rattle.std.specs.Prelude.{◌≡◌, List, [], ◌∷◌, ◌++◌, None}
use Rattle.msg_names.specs.declared.value.ClassRef.{ClassRef}
use Rattle.msg_tables.specs.Log.{Log, superclass, chain_at}

-- the chain of a class reference ends at one that has nothing above it: a root class
pub record EndsAtRoot (h : Log) (c : ClassRef) : Type 0 where
  pub front : List ClassRef
  pub last : ClassRef
  pub is : chain_at h c ≡ front ++ last ∷ []
  pub root : superclass h last ≡ None
