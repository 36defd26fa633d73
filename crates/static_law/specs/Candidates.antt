-- What a method that is made static is by number, but for the calls that find it and what overrides it.
use Rattle.std.specs.Prelude.{◌≡◌, ℕ, true, false, ◌∷◌, Some, codes, is_some, nat_eq, slice_get}
use Rattle.std.specs.List.{list_any}
use Rattle.program_model.specs.MemberRules.{has_flag, is_static}
use Rattle.program_model.specs.declared.pass.Outside.{Outside}
use Rattle.program_model.specs.declared.pools.MethodName.{MethodName}
use Rattle.program_model.specs.declared.pools.Proto.{Proto}
use Rattle.program_model.specs.declared.program.Program.{Program}
use Rattle.class_defs.specs.Members.{string_is}
use Rattle.class_defs.specs.Starts.{is_trivial}
use Rattle.static_law.specs.Edited.{IsOwn}

-- A method of the program with code and a receiver, which is no constructor and isn't kept, of a class that is no interface and is
-- trivially initialised; and no method number has its name and its new proto.
pub record IsCandidate (p : Program) (o : Outside) (n : ℕ) : Type 0 where
  pub own : IsOwn p n
  pub entry : MethodName
  pub is_entry : slice_get p.methods n ≡ Some entry
  pub coded : is_some own.method.body ≡ true
  pub receiver : is_static own.method.flags ≡ false
  pub plain : string_is p entry.name (codes "<init>") ≡ false
  pub free : list_any (nat_eq n) o.methods ≡ false
  pub in_class : has_flag own.class.flags 512 ≡ false
  pub trivial : is_trivial p own.class_place ≡ true
  pub new : (r : ℕ) (other : MethodName) (x y : Proto) → slice_get p.methods r ≡ Some other → other.name ≡ entry.name → slice_get p.protos other.proto ≡ Some x → slice_get p.protos entry.proto ≡ Some y
      → x.result ≡ y.result → x.parameters ≡ own.class.name ∷ y.parameters → ⊥
