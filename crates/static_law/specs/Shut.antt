-- Which methods a table shuts once methods are static.
use Rattle.std.specs.Prelude.{◌≡◌, true, false, Bool}
use Rattle.dalvik_defs.specs.Outer.{Outer}
use Rattle.dalvik_defs.specs.declared.names.MethodKey.{MethodKey}
use Rattle.pass_defs.specs.Loose.{new_key}

-- A method that was shut and stays as it was, or the new name of one that was shut and is made static.
pub data WasShut (o : Outer) (loose : MethodKey → Bool) (k : MethodKey) : Type 0 where
  Stayed : o.shut k ≡ true → loose k ≡ false → WasShut o loose k
  Moved : (j : MethodKey) → loose j ≡ true → o.shut j ≡ true → k ≡ new_key j → WasShut o loose k
