-- What is known of the methods that are made static.
use Rattle.std.proofs.Common.{◌≡◌, ℕ, zero, suc, true, false, List, [], ◌∷◌, Option, Some, None, refl}
use Rattle.std.specs.Prelude.{slice_get}
use Rattle.std.specs.Option.{option_map}
use Rattle.program_model.specs.MemberRules.{is_static}
use Rattle.program_model.specs.Texts.{has_method}
use Rattle.program_model.specs.declared.pools.MethodName.{MethodName}
use Rattle.program_model.specs.declared.pools.Proto.{Proto}
use Rattle.program_model.specs.declared.program.Class.{Class}
use Rattle.program_model.specs.declared.program.Method.{Method}
use Rattle.program_model.specs.declared.program.Program.{Program}
use Rattle.staticise.specs.Loosened.{given_at, name_with, names_with, target_of}
use Rattle.static_kept.proofs.Extended.{Extends}

-- A method number of the program gets a new proto, which stands in the tables: that of its method with its class in front of the
-- parameters. No other method number has its name and that proto, and its method has a receiver.
pub record IsNew (p q : Program) (n v : ℕ) : Type 0 where
  pub entry : MethodName
  pub is_entry : slice_get p.methods n ≡ Some entry
  pub proto : Proto
  pub is_proto : slice_get p.protos entry.proto ≡ Some proto
  pub new : Proto
  pub is_new : slice_get q.protos v ≡ Some new
  pub result : new.result ≡ proto.result
  pub parameters : new.parameters ≡ entry.class ∷ proto.parameters
  pub free : (r : ℕ) (other : MethodName) → slice_get p.methods r ≡ Some other → other.name ≡ entry.name → other.proto ≡ v → ⊥
  pub receives : (c i : ℕ) (k : Class) (m : Method) → slice_get p.classes c ≡ Some k → slice_get k.methods i ≡ Some m → m.name ≡ n → is_static m.flags ≡ false

pub record IsPlan (p q : Program) (given : List (Option ℕ)) : Type 0 where
  pub extends : Extends p q
  pub names : (n : ℕ) → slice_get q.methods n ≡ option_map (λ (x : MethodName). name_with x (given_at given n)) (slice_get p.methods n)
  pub new : (n v : ℕ) → given_at given n ≡ Some v → IsNew p q n v
  pub inside : (n t : ℕ) → target_of p given n ≡ Some t → has_method q t ≡ true

-- ---- method numbers with their new protos

same_names : (o : Option MethodName) → o ≡ option_map (λ (x : MethodName). name_with x None) o
same_names None = refl
same_names (Some x) = refl

pub names_at : (given : List (Option ℕ)) (names : List MethodName) (n : ℕ) → slice_get (names_with given names) n ≡ option_map (λ (x : MethodName). name_with x (given_at given n)) (slice_get names n)
names_at [] names n = same_names (slice_get names n)
names_at (o ∷ os) [] n = refl
names_at (o ∷ os) (x ∷ xs) zero = refl
names_at (o ∷ os) (x ∷ xs) (suc n) = names_at os xs n

pub name_same : (x : MethodName) (o : Option ℕ) → (name_with x o).name ≡ x.name
name_same x None = refl
name_same x (Some v) = refl

pub class_same : (x : MethodName) (o : Option ℕ) → (name_with x o).class ≡ x.class
class_same x None = refl
class_same x (Some v) = refl
